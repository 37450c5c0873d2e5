use Rattle.std.proofs.Common.{sym, ap, ◌∙◌, subst}
use Rattle.std.proofs.lemmas.Option.{none-some}
use Rattle.scan_core.specs.Progress.{progress_at}
use Rattle.scan_core.specs.Worlds.{NoneLent}
use Rattle.scan_core.proofs.WorldLemmas.{none_lent_first}
use Rattle.scan_core.proofs.world.World.new.Goals as goal

pub invariant_of-result : goal.invariant_of-result
invariant_of-result c = (
  λ number g is. absurd (none-some g (sym (ap (progress_at number) c.new-2.ensures) ∙ is)),
  subst NoneLent (sym c.in_ok-core.ensures.slots) (none_lent_first c.args.cells),
)
