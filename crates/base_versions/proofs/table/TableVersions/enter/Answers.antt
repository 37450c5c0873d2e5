use Rattle.std.proofs.Common.{◌≡◌, List, [], ◌∷◌, ◌++◌, OnErr, sym, ap, ◌∙◌, subst, arith}
use Rattle.std.proofs.lemmas.Grind.{common_steps}
use Rattle.semantics.specs.Texts.{Text}
use Rattle.base_versions.specs.declared.changes.Change.{Change}
use Rattle.base_versions.specs.Versions.{KeepsVersions}
use Rattle.base_versions.specs.Groups.{AreGrouped}
use Rattle.base_versions.specs.Kept.{TableKept}
use Rattle.base_versions.proofs.table.TableVersions.enter.Goals as goal

pub invariant_of-self : goal.invariant_of-self
invariant_of-self c = (
  c.self.invariant.0,
  subst (λ (cs : List Change). AreGrouped c.self.inside.groups cs) (sym c.in_err-push_back.ensures.items) c.self.invariant.1,
  c.self.invariant.2,
)

pub returns-then-is_err-clause-no_version : goal.returns-then-is_err-clause-no_version
returns-then-is_err-clause-no_version c =
    subst (λ (t : TableKept). OnErr c.add_version-added.result (KeepsVersions t.tracks c.add_version-added.new.tracks.entries)) c.self.view_is c.add_version-added.ensures.err

pub invariant_of-self-then-is_err : goal.invariant_of-self-then-is_err
invariant_of-self-then-is_err c =
    let same : c.pop_back.new.self.items ≡ c.self.inside.changes.items = grind (arith, common_steps) in (
      c.add_version-added.ensures.keys c.self.invariant.0,
      subst (λ (cs : List Change). AreGrouped c.self.inside.groups cs) (sym same) c.self.invariant.1,
      c.add_version-added.ensures.some c.self.invariant.2,
    )

pub invariant_of-self-2 : goal.invariant_of-self-2
invariant_of-self-2 c =
    let old = c.self.inside.changes.items in
    let more : c.push_back.new.self.items ≡ old ++ record { position = c.args.position; key = c.args.key.now } ∷ [] =
    c.in_ok-push_back.ensures.items ∙ ap (λ (k : Text). old ++ record { position = c.args.position; key = k } ∷ []) c.in_ok-copy.ensures in (
      c.add_version-added.ensures.keys c.self.invariant.0,
      subst (λ (cs : List Change). AreGrouped c.push.new.self cs) (sym more) (c.push.ensures old c.self.invariant.1),
      c.add_version-added.ensures.some c.self.invariant.2,
    )
