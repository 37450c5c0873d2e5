-- What is said of a kept range over a list that has grown, said of the list as it was.
use Rattle.std.proofs.Common.{◌≡◌, ℕ, ◌+◌, ◌≤◌, List, [], ◌∷◌, length, take, Contains, refl, sym, ap, ◌∙◌, subst, inl, inr, ⊎_elim}
use Rattle.std.specs.List.{AllByRecursion, Any, sum_by}
use Rattle.semantics.specs.Texts.{Range, Text}
use Rattle.semantics.specs.Patterns.{Slots}
use Rattle.semantics.specs.Histories.{History, IsPrefix, joins_of}
use Rattle.semantics.specs.States.{below}
use Rattle.growing_history.proofs.PrefixLemmas.{take_prefix}
use Rattle.range_evaluation.specs.Trees.{Need, tree}
use Rattle.range_evaluation.proofs.PathLemmas.{is_any}
use Rattle.join_rows.specs.Kept.{AddsEach}
use Rattle.join_eval.specs.Walks.{AreBare}
use Rattle.kept_ranges.specs.Notes.{key, slots, Mark, note_limit}
use Rattle.kept_ranges.specs.Sound.{KeptRange}
use Rattle.kept_ranges.proofs.PathLemmas.{has_of_any}
use Rattle.range_state.specs.Asking.{AreBareThroughout, changed_count}
use Rattle.range_state.proofs.LongerLemmas.{bare_longer, changed_longer}
use Rattle.range_state.specs.Work.{advance_steps, AreBareUnder, AreTouchedSlots, IsFilledBy, IsMarkOf, IsTouched, IsTouchedBy, meeting, mend_steps, needs_under_each, TouchesLittle}
use Rattle.cell_slots.specs.Serving.{CountsForward, CountsReach, WasMended, WasAdvanced}
use Rattle.cell_slots.proofs.CountingLemmas.{fill_over}

-- ---- what is bare over the longer list

-- ranges that are bare from q to p are so over the longer list
pub bare_all : (h more : History) (q p : ℕ) (needs : List Need) → IsPrefix h more → p ≤ length h → AreBareThroughout h q p needs → AreBareThroughout more q p needs
bare_all h more q p [] prefix within all = tt
bare_all h more q p (need ∷ needs) prefix within all = (bare_longer h more q p need.range prefix within all.0, bare_all h more q p needs prefix within all.1)

-- ---- what is touched

-- what is touched over the longer list is touched over the list
key_before : (h more : History) (q p : ℕ) (s : KeptRange) (changed : Text) (need : Need) → IsPrefix h more → p ≤ length h → q ≤ p → IsTouchedBy more q p s changed need → IsTouchedBy h q p s changed need
key_before h more q p s changed need prefix within order is = (is.0, subst (λ (texts : List Text). Contains texts changed) (changed_longer h more q p need.range prefix within order) is.1)

touched_before : (h more : History) (q p : ℕ) (s : KeptRange) (changed : Text) → IsPrefix h more → p ≤ length h → q ≤ p → IsTouched more q p s changed → IsTouched h q p s changed
touched_before h more q p s changed prefix within order some =
    let w = has_of_any (IsTouchedBy more q p s changed) s.kept.needs some in
    is_any (IsTouchedBy h q p s changed) s.kept.needs w.0 w.1 (key_before h more q p s changed w.0 prefix within order w.2)

any_before : (h more : History) (q p : ℕ) (s : KeptRange) (texts : List Text) → IsPrefix h more → p ≤ length h → q ≤ p → Any (IsTouched more q p s) texts → Any (IsTouched h q p s) texts
any_before h more q p s texts prefix within order some =
    let w = has_of_any (IsTouched more q p s) texts some in
    is_any (IsTouched h q p s) texts w.0 w.1 (touched_before h more q p s w.0 prefix within order w.2)

slots_before : (h more : History) (q p : ℕ) (s : KeptRange) (given : Slots) → IsPrefix h more → p ≤ length h → q ≤ p → AreTouchedSlots more q p s given → AreTouchedSlots h q p s given
slots_before h more q p s given prefix within order is = record {
  need = is.need;
  has_need = is.has_need;
  key = is.key;
  touched = key_before h more q p s is.key is.need prefix within order is.touched;
  made = is.made;
}

filled_before : (h more : History) (q p : ℕ) (s : KeptRange) (output : Text) → IsPrefix h more → p ≤ length h → q ≤ p → IsFilledBy more q p s output → IsFilledBy h q p s output
filled_before h more q p s output prefix within order is = record {
  need = is.need;
  has_need = is.has_need;
  of_value = is.of_value;
  key = is.key;
  changed = subst (λ (texts : List Text). Contains texts is.key) (changed_longer h more q p is.need.range prefix within order) is.changed;
  fills = is.fills;
}

mark_before : (h more : History) (q p : ℕ) (s : KeptRange) (mark : Mark) → IsPrefix h more → p ≤ length h → q ≤ p → IsMarkOf more q p s mark → IsMarkOf h q p s mark
mark_before h more q p s (key output) prefix within order is = filled_before h more q p s output prefix within order is
mark_before h more q p s (slots given) prefix within order is = slots_before h more q p s given prefix within order is

-- as many keys changed over the list
counts_same : (h more : History) (q p : ℕ) (needs : List Need) → IsPrefix h more → p ≤ length h → q ≤ p → sum_by (changed_count q p more) needs ≡ sum_by (changed_count q p h) needs
counts_same h more q p needs prefix within order = λ i. sum_by (λ (need : Need). length (changed_longer h more q p need.range prefix within order i)) needs

-- an advance that touches little over the longer list does so over the list
pub little_before : (h more : History) (q p : ℕ) (s t : KeptRange) → IsPrefix h more → p ≤ length h → q ≤ p → TouchesLittle more q p s t → TouchesLittle h q p s t
little_before h more q p s t prefix within order little =
    let counts = counts_same h more q p s.kept.needs prefix within order in
    record {
      pending = λ given has. ⊎_elim
          (λ (old : Contains s.kept.pending given). inl old)
          (λ (made : AreTouchedSlots more q p s given). inr (slots_before h more q p s given prefix within order made))
          (little.pending given has);
      touched = little.touched;
      once = little.once;
      needs = λ need has untouched. little.needs need has (λ some. untouched (any_before h more q p s need.by prefix within order some));
      left = little.left;
      added = little.added;
      notes = little.notes;
      marks = λ note has. let made = little.marks note has in (made.0, mark_before h more q p s note.mark prefix within order made.1);
      few = subst (λ n. length little.added ≤ n) counts little.few;
      start = λ room. little.start (subst (λ n. length s.notes.list + n ≤ note_limit) (sym counts) room);
    }

-- ---- what it costs

-- the most steps of an advance are the same, by whatever name what is kept goes
pub steps_before : (h more : History) (q p : ℕ) (s t : KeptRange) → IsPrefix h more → p ≤ length h → q ≤ p → t ≡ s → advance_steps more q p t.kept.needs ≡ advance_steps h q p s.kept.needs
steps_before h more q p s t prefix within order same =
    ap (λ (k : KeptRange). advance_steps more q p k.kept.needs) same
    ∙ (λ i. sum_by (λ (need : Need). 1 + length (changed_longer h more q p need.range prefix within order i)) s.kept.needs)

-- what is counted where a kept range is brought forward over the longer list is counted over the list
forward_here : (h more : History) (p : ℕ) (s : KeptRange) (before after : ℕ) → IsPrefix h more → p ≤ length h → CountsForward more p s before after → CountsForward h p s before after
forward_here h more p s before after prefix within (inl asked) = inl asked
forward_here h more p s before after prefix within (inr read) = inr (fill_over h more p s s before after (record { join = refl; rank = refl; range = refl }) within prefix read)

-- so it is by whatever name what is kept goes
pub forward_before : (h more : History) (p : ℕ) (s t : KeptRange) (before after : ℕ) → IsPrefix h more → p ≤ length h → t ≡ s → CountsForward more p t before after → CountsForward h p s before after
forward_before h more p s t before after prefix within same counts =
    forward_here h more p s before after prefix within (subst (λ (k : KeptRange). CountsForward more p k before after) same counts)

-- and where it is brought to a position from wherever it stands
pub reach_before : (h more : History) (p : ℕ) (s t : KeptRange) (before after : ℕ) → IsPrefix h more → p ≤ length h → t ≡ s → CountsReach more p t before after → CountsReach h p s before after
reach_before h more p s t before after prefix within same counts =
    let here : CountsReach more p s before after = subst (λ (k : KeptRange). CountsReach more p k before after) same counts in
    record {
      filled = λ none. fill_over h more p s s before after (record { join = refl; rank = refl; range = refl }) within prefix (here.filled none);
      forward = λ q stands less. forward_here h more p s before after prefix within (here.forward q stands less);
    }

-- ---- mended and advanced

-- what was mended over the longer list was so over the list
pub mended_before : (h more : History) (p : ℕ) (part : Range) (old new : KeptRange) (before after : ℕ) → IsPrefix h more → p ≤ length h → WasMended more p part old new before after → WasMended h p part old new before after
mended_before h more p part old new before after prefix within was =
    let grown : take p more ≡ take p h = take_prefix p h more within prefix in
    record {
      mends = record {
        same = was.mends.same;
        at = was.mends.at;
        left = was.mends.left;
        needs = subst (λ (es : History). AddsEach (needs_under_each old.join old.range (below es old.rank) (meeting old part)) old.kept.needs new.kept.needs) grown was.mends.needs;
        notes = was.mends.notes;
      };
      least = subst (λ (es : History). before + mend_steps old (below es old.rank) part ≤ after) grown was.least;
      cost = λ bare.
          let there : AreBareUnder old more p part =
          subst (λ (es : History). AllByRecursion (λ (given : Slots). AreBare (joins_of es) (tree old.join given old.range (below es old.rank))) (meeting old part)) (sym grown) bare in
          subst (λ (es : History). after ≤ before + mend_steps old (below es old.rank) part) grown (was.cost there);
    }

-- and what was advanced
pub advanced_before : (h more : History) (q p : ℕ) (part : Range) (old new : KeptRange) (before after : ℕ) → IsPrefix h more → p ≤ length h → q ≤ p → WasAdvanced more q p part old new before after → WasAdvanced h q p part old new before after
advanced_before h more q p part old new before after prefix within order was = record {
  mid = was.mid;
  same = was.same;
  at = was.at;
  little = little_before h more q p old was.mid prefix within order was.little;
  between = was.between;
  least = forward_here h more p old before was.between prefix within was.least;
  cost = subst (λ n. was.between ≤ before + n) (steps_before h more q p old old prefix within order refl) was.cost;
  alone = was.alone;
  mended = λ meets. mended_before h more p part was.mid new was.between after prefix within (was.mended meets);
}
