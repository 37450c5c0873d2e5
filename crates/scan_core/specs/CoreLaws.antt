-- Laws on what calls of the lowest reader leave and cost.
use Rattle.std.specs.Prelude.{◌≡◌, ℕ}
use Rattle.std.proofs.Common.{sym, ap, subst, arith}
use Rattle.semantics.specs.Texts.{Range}
use Rattle.cell_slots.specs.Slots.{Frame}
use Rattle.cell_slots.specs.FrameLaws.{frame_refl}
use Rattle.cell_slots.specs.Spending.{Spends}
use Rattle.scan_core.specs.Rights.{Contents}
use Rattle.scan_core.specs.Reading.{SpendsBase}

-- what does not change is framed
pub bottom_frame : (a b : Contents) → b ≡ a → Frame 0 a.cells b.cells
bottom_frame a b same = subst (λ (c : Contents). Frame 0 a.cells c.cells) (sym same) (frame_refl 0 a.cells)

-- at rank 0 no output is reached
pub bottom_spends : (a b : Contents) (p : ℕ) (range : Range) (rank added : ℕ) → SpendsBase a b p range rank added → Spends a.history a.cells b.cells p range rank added
bottom_spends a b p range rank added so = record {
  none = λ reaches. omega (arith, so.cost);
  still = λ reaches. ap (λ (c : Contents). c.cells) so.still;
  used = λ r s only not_empty ready. absurd (omega (arith, so.bottom, only.is_below));
  stays = λ r s only not_empty id kept is. absurd (omega (arith, so.bottom, only.is_below));
  behind = λ r s only not_empty id q kept ranked is. absurd (omega (arith, so.bottom, only.is_below));
  pending = λ r s only not_empty id kept ranked is. absurd (omega (arith, so.bottom, only.is_below));
  kept = λ r s only not_empty may. absurd (omega (arith, so.bottom, only.is_below));
}
