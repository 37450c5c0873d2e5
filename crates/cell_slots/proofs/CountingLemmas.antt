-- What bringing a kept range to a position counts.
use Rattle.std.proofs.Common.{◌≡◌, ℕ, ◌+◌, ◌<◌, ◌≤◌, length, take, None, subst, inl, inr, arith}
use Rattle.semantics.specs.Histories.{History, IsPrefix}
use Rattle.semantics.specs.States.{below}
use Rattle.growing_history.proofs.PrefixLemmas.{take_prefix}
use Rattle.range_evaluation.specs.Trees.{reading_steps}
use Rattle.kept_ranges.specs.Sound.{KeptRange}
use Rattle.range_state.specs.Ready.{HasSameSubject, StandsAt}
use Rattle.range_state.specs.Work.{CountsAdvance, fill_needs}
use Rattle.cell_slots.specs.Serving.{CountsFill, CountsForward, CountsReach}

-- ---- filled

-- what filling counts, where steps are counted from another number on
pub fill_counted : (h : History) (p : ℕ) (s : KeptRange) (before after from upto : ℕ) → ((steps : ℕ) → before + steps ≤ after → from + steps ≤ upto) → CountsFill h p s before after → CountsFill h p s from upto
fill_counted h p s before after from upto shift counts = shift (reading_steps (fill_needs s.join s.range (below (take p h) s.rank)) (below (take p h) s.rank)) counts

-- kept ranges of one subject read the same where they are filled, over a list and a longer one
pub fill_over : (h more : History) (p : ℕ) (old new : KeptRange) (before after : ℕ) → HasSameSubject old new → p ≤ length h → IsPrefix h more → CountsFill more p new before after → CountsFill h p old before after
fill_over h more p old new before after same within prefix counts =
    let first = take_prefix p h more within prefix in
    subst (λ (n : ℕ). before + n ≤ after)
    (λ i. reading_steps (fill_needs (same.join i) (same.range i) (below (first i) (same.rank i))) (below (first i) (same.rank i))) counts

-- ---- brought forward

-- an advance counts what it asks, or what filling reads
pub advance_counts : (h : History) (p : ℕ) (old new : KeptRange) (before after : ℕ) → CountsAdvance p (below (take p h) old.rank) old new before after → CountsForward h p old before after
advance_counts h p old new before after (inl asked) = inl asked
advance_counts h p old new before after (inr read) = inr read.1

-- so where steps are counted from another number on
pub forward_counted : (h : History) (p : ℕ) (s : KeptRange) (before after from upto : ℕ) → ((steps : ℕ) → before + steps ≤ after → from + steps ≤ upto) → CountsForward h p s before after → CountsForward h p s from upto
forward_counted h p s before after from upto shift (inl asked) = inl (shift (length s.kept.needs) asked)
forward_counted h p s before after from upto shift (inr read) = inr (fill_counted h p s before after from upto shift read)

less_by : (a b n : ℕ) → a + n ≤ b → a ≤ b
less_by a b n up = omega (arith, up)

-- what was counted before is counted still
pub forward_order : (h : History) (p : ℕ) (s : KeptRange) (before after : ℕ) → CountsForward h p s before after → before ≤ after
forward_order h p s before after (inl asked) = less_by before after (length s.kept.needs) asked
forward_order h p s before after (inr read) = less_by before after (reading_steps (fill_needs s.join s.range (below (take p h) s.rank)) (below (take p h) s.rank)) read

-- ---- brought to a position from wherever it stands

-- by what is filled, and what is advanced
pub reach_counts : (h : History) (p : ℕ) (old new : KeptRange) (before after : ℕ) → (old.position ≡ None → CountsFill h p old before after)
    → ((q : ℕ) → StandsAt q old → q < p → CountsAdvance p (below (take p h) old.rank) old new before after) → CountsReach h p old before after
reach_counts h p old new before after filled advanced = record {
  filled = filled;
  forward = λ q stands less. advance_counts h p old new before after (advanced q stands less);
}

-- what was filled, wherever it stood
pub reach_filled : (h : History) (p : ℕ) (s : KeptRange) (before after : ℕ) → CountsFill h p s before after → CountsReach h p s before after
reach_filled h p s before after counts = record { filled = λ none. counts; forward = λ q stands less. inr counts }

-- where steps are counted from another number on
pub reach_counted : (h : History) (p : ℕ) (s : KeptRange) (before after from upto : ℕ) → ((steps : ℕ) → before + steps ≤ after → from + steps ≤ upto) → CountsReach h p s before after → CountsReach h p s from upto
reach_counted h p s before after from upto shift counts = record {
  filled = λ none. fill_counted h p s before after from upto shift (counts.filled none);
  forward = λ q stands less. forward_counted h p s before after from upto shift (counts.forward q stands less);
}
