use Rattle.std.proofs.Common.{◌≡◌, slice_get, Some, inl, refl, sym, ap, ◌∙◌, subst}
use Rattle.std.specs.Option.{option_copied}
use Rattle.core_events.specs.Events as plain
use Rattle.cell_slots.specs.declared.slot.Slot.TheVariants.{Held}
use Rattle.cell_slots.specs.Slots.{Holdings}
use Rattle.scan_core.specs.Going.{AreGoing}
use Rattle.scan_core.specs.Worlds.{CoreWorld, CellSteps, NoneLent}
use Rattle.scan_core.proofs.WorldLemmas.{none_lent_freed}
use Rattle.scan_core.proofs.world.World.evict.Goals as goal

pub invariant_of-self : goal.invariant_of-self
invariant_of-self c = (
  subst (λ h. AreGoing h c.self.inside.scans) (sym c.evict.ensures.history) c.self.invariant.0,
  subst NoneLent (sym (ap (λ (x : Holdings). x.slots) c.evict.ensures.cells)) (none_lent_freed c.self.inside.core.cells.slots c.args.cell c.self.invariant.1),
)

pub returns-clause-cells : goal.returns-clause-cells
returns-clause-cells c =
    let held : slice_get c.self.inside.core.cells.slots c.args.cell ≡ Some (Held c.in-Some-Held.field-0-0 c.in-Some-Held.field-0-1) = sym c.slot.ensures ∙ ap option_copied c.in-Some-Held.is ∙ ap Some c.in-Some-Held.field-0-is in
    let after : CoreWorld = record { world = c.args.self.now.world; cells = c.evict.new.self.cells } in
    subst (λ (v : CoreWorld). CellSteps (plain.evict c.args.cell) v after plain.evicted) c.self.view_is
    (inl (refl, record { at = c.in-Some-Held.field-0-0; state = c.in-Some-Held.field-0-1; held = held }, ap (λ (x : Holdings). x.slots) c.evict.ensures.cells))
