use Rattle.std.proofs.Common.{List, sym, subst}
use Rattle.base_versions.specs.declared.changes.Change.{Change}
use Rattle.base_versions.specs.Versions.{Tracks, EachHasVersion}
use Rattle.base_versions.specs.Groups.{AreGrouped}
use Rattle.base_versions.proofs.MapLemmas.{AreKeys}
use Rattle.base_versions.proofs.table.TableVersions.new.Goals as goal

pub invariant_of-result : goal.invariant_of-result
invariant_of-result c = (
  subst (λ (ts : Tracks). AreKeys ts) (sym c.new.ensures.empty) tt,
  subst (λ (cs : List Change). AreGrouped c.new-3.result cs) (sym c.new-2.ensures.items) c.new-3.ensures,
  subst (λ (ts : Tracks). EachHasVersion ts) (sym c.new.ensures.empty) (λ name. tt),
)
