use Rattle.std.proofs.Common.{◌≡◌, IfOk, slice_get, Some, sym, ap, ◌∙◌, subst, arith}
use Rattle.std.specs.Option.{option_copied}
use Rattle.std.proofs.lemmas.Result.{IfOk-weaker}
use Rattle.cell_slots.specs.declared.slot.Slot.TheVariants.{Held}
use Rattle.cell_slots.specs.Slots.{IsRightFor}
use Rattle.scan_core.specs.Worlds.{CoreWorld, IsRankTo}
use Rattle.scan_core.proofs.StepLemmas.{world_of}
use Rattle.scan_core.proofs.WorldLemmas.{rank_to_from}
use Rattle.scan_core.proofs.world.World.rank_to.Goals as goal

pub returns : goal.returns
returns c =
    let held : slice_get c.self.inside.core.cells.slots c.args.cell ≡ Some (Held c.in-Some-Held.at c.in-Some-Held.state) = sym c.slot.ensures ∙ ap option_copied c.in-Some-Held.is ∙ ap Some c.in-Some-Held.field-0-is in
    let right : IsRightFor c.self.inside.core.history c.in-Some-Held.at c.in-Some-Held.state = c.look.ensures.right.held c.args.cell (Held c.in-Some-Held.at c.in-Some-Held.state) held in
    subst (λ (v : CoreWorld). IfOk c.rank_at.result (IsRankTo v c.args.cell c.args.to)) c.self.view_is
    (IfOk-weaker c.rank_at.result _ _ (λ found is.
    rank_to_from (record { world = world_of c.self.inside.core.history c.self.inside.scans; cells = c.self.inside.core.cells }) c.args.cell c.args.to c.in-Some-Held.at c.in-Some-Held.state found held right
    (c.is_past.ensures.no c.if-is_past.false) (omega arith) is) c.rank_at.ensures)
