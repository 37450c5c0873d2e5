-- Laws on how readers leave cells.
use Rattle.std.specs.Prelude.{ℕ, ◌≤◌, min, refl}
use Rattle.std.proofs.Common.{◌∙◌, arith}
use Rattle.cell_slots.specs.Slots.{Holdings, Frame}

-- cells that do not change
pub frame_refl : (top : ℕ) (cells : Holdings) → Frame top cells cells
frame_refl top cells = record { same_count = refl; left = λ id slot is left. is; places = λ id place is. is; lent = λ id at range is. is; unused = λ is. refl; same_setting = refl }

-- a change and then another
pub frame_trans : (top : ℕ) (a b c : Holdings) → Frame top a b → Frame top b c → Frame top a c
frame_trans top a b c first next = record {
  same_count = next.same_count ∙ first.same_count;
  left = λ id slot is left. next.left id slot (first.left id slot is left) left;
  places = λ id place is. next.places id place (first.places id place is);
  lent = λ id at range is. first.lent id at range (next.lent id at range is);
  unused = λ is. next.unused is ∙ first.unused is;
  same_setting = next.same_setting ∙ first.same_setting;
}

-- the lesser of 8 and a number is at most 8
pub min_small : (n : ℕ) → min 8 n ≤ 8
min_small n = omega arith
