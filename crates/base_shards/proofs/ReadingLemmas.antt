-- Passes that read on.
use Rattle.std.proofs.Common.{◌≡◌, ℕ, ◌≤◌, length, refl, ◌∙◌, subst, arith}
use Rattle.growing_history.proofs.PrefixLemmas.{prefix_refl, prefix_trans, prefix_length}
use Rattle.write_history.specs.Marks.{before, IsLow}
use Rattle.write_history.specs.Passes.{PassView, GoesOn, own}
use Rattle.write_history.specs.declared.known.Mark.{Mark}
use Rattle.write_history.proofs.Marking.{before_near}
use Rattle.base_shards.specs.Reading.{ReachesBack, ReadsOn}
use Rattle.base_shards.specs.Laws.{ReadingGoesOn}

-- a pass reads on where it goes on and has written nothing
pub reads_on : (old new : PassView) → GoesOn old new → own new ≡ own old → ReadsOn old new
reads_on old new goes none = record {
  same_history = goes.same_history;
  same_number = goes.same_number;
  same_writers = goes.same_writers;
  begins = goes.begins;
  own = none;
  recorded = λ _. goes.recorded;
  same_mark = goes.same_mark;
  higher = goes.higher;
  low = λ _. goes.low;
}

-- a pass that stays has read on
pub reads_on-refl : (pass : PassView) → ReadsOn pass pass
reads_on-refl pass = record {
  same_history = refl;
  same_number = refl;
  same_writers = refl;
  begins = prefix_refl pass.view;
  own = refl;
  recorded = λ known. known;
  same_mark = refl;
  higher = omega arith;
  low = λ low. low;
}

-- a pass that reads on, and reads on again, has read on
pub reads_on-trans : ReadingGoesOn
reads_on-trans first next last one other = record {
  same_history = other.same_history ∙ one.same_history;
  same_number = other.same_number ∙ one.same_number;
  same_writers = other.same_writers ∙ one.same_writers;
  begins = prefix_trans first.view next.view last.view one.begins other.begins;
  own = other.own ∙ one.own;
  recorded = λ known. other.recorded (one.recorded known);
  same_mark = other.same_mark ∙ one.same_mark;
  higher = omega (arith, one.higher, other.higher);
  low = λ low. other.low (one.low low);
}

-- who reaches back to a position does so still
pub reaches_still : (old new : PassView) (p : ℕ) → ReadsOn old new → ReachesBack old p → ReachesBack new p
reaches_still old new p on reaches = record { pin = reaches.pin; pinned = on.same_mark ∙ reaches.pinned; near = reaches.near }

-- what is kept from a start on that is not above the floor is kept from each position on that the pass reaches back to
pub reaches_start : (old new : PassView) (p start : ℕ) → GoesOn old new → ReachesBack old p → start ≤ new.floor → start ≤ p
reaches_start old new p start goes reaches under =
    let low : new.floor ≤ before reaches.pin = subst (λ (mark : Mark). IsLow mark new.floor) (goes.same_mark ∙ reaches.pinned) goes.low in
    let far = before_near reaches.pin p reaches.near in
    omega (arith, low, far, under)

-- how many entries a pass has seen that reads on
pub sees_still : (old new : PassView) (p : ℕ) → ReadsOn old new → p ≤ length old.view → p ≤ length new.view
sees_still old new p on seen = omega (arith, seen, prefix_length old.view new.view on.begins)
