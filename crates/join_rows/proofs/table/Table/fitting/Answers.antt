use Rattle.std.proofs.Common.{◌≡◌, ◌≤◌, length, map, is_some, true, Option, None, Some, sym, ap, ◌∙◌, subst}
use Rattle.std.specs.Option.{IsSomeAnd}
use Rattle.std.proofs.lemmas.Result.{IfOk-weaker}
use Rattle.semantics.specs.Texts.{Text, Table, Range, within, pairs_where, pairs_within}
use Rattle.semantics.specs.Patterns.{Pattern, Slots, bind}
use Rattle.join_rows.specs.Placed.{pairs_of}
use Rattle.join_rows.proofs.FittingLemmas.{each_inside, where-none, where-within}
use Rattle.join_rows.proofs.table.Table.fitting.Goals as goal

-- what is found holds each key of at most 512 bytes that fits
HoldsAll : Pattern → Slots → Option Range → Type 0
HoldsAll pattern slots found = (key : Text) → length key ≤ 512 → is_some (bind pattern key slots) ≡ true → IsSomeAnd found (λ r. within r key ≡ true)

pub returns-in-None-clause-keys : goal.returns-in-None-clause-keys
unfolding HoldsAll
returns-in-None-clause-keys c =
    let fits = λ (key : Text). is_some (bind c.args.pattern.now key c.args.slots.now) in
    let holds = subst (HoldsAll c.args.pattern.now c.args.slots.now) c.in-None.is c.in_ok-prefix_range.ensures.holds in
    c.new.ensures.items
    ∙ ap (λ (table : Table). map (λ pair. pair.0) table) (sym (where-none fits (pairs_of c.self.inside.pairs.entries) (each_inside fits None c.self.inside.pairs.entries c.self.invariant.own holds)) ∙ ap (pairs_where fits) c.self.view_is)

pub returns-in-Some-clause-keys : goal.returns-in-Some-clause-keys
unfolding HoldsAll
returns-in-Some-clause-keys c =
    let fits = λ (key : Text). is_some (bind c.args.pattern.now key c.args.slots.now) in
    let holds = subst (HoldsAll c.args.pattern.now c.args.slots.now) c.in-Some.is c.in_ok-prefix_range.ensures.holds in
    IfOk-weaker c.fitting_within.result _ _ (λ keys e. e ∙ ap (λ (table : Table). map (λ pair. pair.0) table)
    (ap (λ (table : Table). pairs_where fits (pairs_within c.in-Some.range table)) (sym c.self.view_is)
    ∙ where-within fits c.in-Some.range (pairs_of c.self.inside.pairs.entries) (each_inside fits (Some c.in-Some.range) c.self.inside.pairs.entries c.self.invariant.own holds) ∙ ap (pairs_where fits) c.self.view_is)) c.fitting_within.ensures
