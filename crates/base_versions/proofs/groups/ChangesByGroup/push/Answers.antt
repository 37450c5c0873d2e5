use Rattle.std.proofs.Common.{◌≡◌, [], ◌∷◌, ◌++◌, false, is_err, Result, Ok, Err, OnOk, refl, sym, ap, ◌∙◌, subst}
use Rattle.std.proofs.lemmas.Bool.{false≢true}
use Rattle.base_versions.specs.declared.changes.Change.{Change}
use Rattle.base_versions.specs.Named.{named}
use Rattle.base_versions.specs.Groups.{ByGroup, AreGrouped}
use Rattle.base_versions.proofs.GroupedLemmas.{grouped-push, grouped-let_go}
use Rattle.base_versions.proofs.groups.ChangesByGroup.push.Goals as goal

-- what holds at `Ok`, where it is no error
when_ok : {X E P : Type 0} (r : Result X E) → is_err r ≡ false → OnOk r P → P
when_ok (Ok x) e p = p
when_ok (Err y) e p = absurd (false≢true (sym e))

pub returns-then-not-self : goal.returns-then-not-self
returns-then-not-self c = λ changes h.
    grouped-let_go c.args.self.now (changes ++ record { position = c.args.position; key = c.args.key.now } ∷ []) (sym (ap (λ (g : ByGroup). g.kept) c.self.view_is) ∙ c.if-not-self.true)

pub returns-then-is_err : goal.returns-then-is_err
returns-then-is_err c = λ changes h.
    grouped-let_go (record { kept = false; queues = named c.clear.new.self.entries }) (changes ++ record { position = c.args.position; key = c.args.key.now } ∷ []) refl

pub returns-else-is_err : goal.returns-else-is_err
returns-else-is_err c = λ changes h.
    let change : Change = record { position = c.args.position; key = c.args.key.now } in
    let old : ByGroup = record { kept = c.self.inside.kept; queues = named c.self.inside.queues.entries } in
    let new : ByGroup = record { kept = c.self.inside.kept; queues = named c.add_change.new.queues.entries } in
    let adds = when_ok c.add_change.result (sym c.is_err.ensures.value ∙ c.if-is_err.false) c.add_change.ensures.adds in
    grouped-push changes change old new refl adds (subst (λ (g : ByGroup). AreGrouped g changes) (sym c.self.view_is) h)

pub invariant_of-self-else-is_err : goal.invariant_of-self-else-is_err
invariant_of-self-else-is_err c = when_ok c.add_change.result (sym c.is_err.ensures.value ∙ c.if-is_err.false) c.add_change.ensures.some c.self.invariant
