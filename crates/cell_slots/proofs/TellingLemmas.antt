-- What a kept range says of what changed.
use Rattle.std.proofs.Common.{◌≡◌, ℕ, ◌≤◌, arith, Option, IfSome, List, [], ◌∷◌, filter, flat_map, fold, length, take, true, Contains, Some, None, refl, sym, ap, ◌∙◌, subst}
use Rattle.std.specs.List.{AllByRecursion}
use Rattle.std.specs.List.Sorted.{IsStrictlySortedBy}
use Rattle.std.proofs.lemmas.Bool.{true≢false}
use Rattle.semantics.specs.Texts.{Text, text_cmp, Table, value_at, with_pair, Range, within}
use Rattle.semantics.specs.Joins.{Join}
use Rattle.semantics.specs.Histories.{History, IsPrefix}
use Rattle.semantics.specs.Outputs.{out}
use Rattle.semantics.specs.States.{below}
use Rattle.semantics.proofs.MemberLemmas.{has_filter}
use Rattle.semantics.proofs.TableLemmas.{IsAscending, ascending-with_pair}
use Rattle.growing_history.specs.Changes.{in_order}
use Rattle.growing_history.specs.Entered.{HasEntered}
use Rattle.growing_history.proofs.ChangeLemmas.{sorted_keys, has_from_in_order}
use Rattle.growing_history.proofs.ElementLemmas.{all_from_has}
use Rattle.growing_history.proofs.PrefixLemmas.{take_prefix}
use Rattle.join_eval.specs.declared.reading.Changed.{Changed}
use Rattle.join_eval.specs.declared.reading.Changed.TheVariants.{Keys, All}
use Rattle.kept_ranges.specs.Sound.{KeptRange, IsSound}
use Rattle.kept_ranges.specs.Notes.{Note}
use Rattle.range_state.specs.NotesSince.{keys_since, key_after}
use Rattle.range_state.specs.Ready.{HasSameSubject, StandsAt}
use Rattle.range_state.specs.Since.{AnswersSince, ListsAllSince, is_unknown_since}
use Rattle.cell_slots.specs.Serving.{StandsFrom}
use Rattle.cell_slots.specs.Telling.{ListsOutputChanges, TellsOutput}

-- texts that are put into a table leave its keys ascending
ascending-put : (table : Table) (ts : List Text) → IsAscending table → IsAscending (fold (λ t text. with_pair text [] t) table ts)
ascending-put table [] h = h
ascending-put table (t ∷ ts) h = ascending-put (with_pair t [] table) ts (ascending-with_pair t [] table h)

-- texts in order ascend
pub in_order_ascends : (ts : List Text) → IsStrictlySortedBy text_cmp (in_order ts)
in_order_ascends ts = sorted_keys (fold (λ table t. with_pair t [] table) [] ts) (ascending-put [] ts refl)

-- the keys of a piece that were noted lie in it
pub since_inside : (u : ℕ) (piece : Range) (notes : List Note) → AllByRecursion (λ key. within piece key ≡ true) (keys_since u piece notes)
since_inside u piece notes =
    all_from_has (λ key. within piece key ≡ true) (keys_since u piece notes)
    (λ key h. (has_filter (within piece) (flat_map (key_after u) notes) key (has_from_in_order (filter (within piece) (flat_map (key_after u) notes)) key h)).0)

-- what a kept range of one subject says at a later position, it says of the output up to an earlier one
told_by : (old new : KeptRange) (h more : History) (u p at : ℕ) (piece : Range) (answer : Changed) → HasSameSubject old new → u ≤ p → p ≤ length h → p ≤ at → IsPrefix h more →
    AnswersSince u piece new answer → ListsAllSince new more u at piece answer → TellsOutput old h u p piece answer
told_by old new h more u p at piece (Keys keys) same before less later prefix answers lists = record {
  ascend = subst (IsStrictlySortedBy text_cmp) (sym answers.1) (in_order_ascends (filter (within piece) (flat_map (key_after u) new.notes.list)));
  inside = subst (AllByRecursion (λ key. within piece key ≡ true)) (sym answers.1) (since_inside u piece new.notes.list);
  complete = λ x key from upto own asked unlisted.
      let step : (y : ℕ) → y ≤ p → value_at key (out new.join (below (take y more) new.rank)) ≡ value_at key (out old.join (below (take y h) old.rank)) =
      λ y less_y i. value_at key (out (same.join i) (below (take_prefix y h more (omega arith) prefix i) (same.rank i))) in
      sym (step x upto)
      ∙ lists x key from (omega arith) (ap (λ r. within r key) same.range ∙ own) asked unlisted
      ∙ step u before;
}
told_by old new h more u p at piece All same before less later prefix answers lists = tt

-- so wherever it stands, as long as that is not below
pub told_from : (position : Option ℕ) (old new : KeptRange) (h more : History) (u p : ℕ) (piece : Range) (answer : Changed) → new.position ≡ position → HasSameSubject old new → u ≤ p → p ≤ length h → IsPrefix h more →
    HasEntered more → StandsFrom p new → IsSound new more → AnswersSince u piece new answer →
    ((l : History) (at : ℕ) → HasEntered l → StandsAt at new → IsSound new l → ListsAllSince new l u at piece answer) → TellsOutput old h u p piece answer
told_from None old new h more u p piece (Keys keys) is same before less prefix entered from sound answers lists =
    absurd (true≢false (sym (ap (is_unknown_since u piece new) is) ∙ answers.0))
told_from None old new h more u p piece All is same before less prefix entered from sound answers lists = tt
told_from (Some at) old new h more u p piece answer is same before less prefix entered from sound answers lists =
    told_by old new h more u p at piece answer same before less (subst (λ o. IfSome o (λ q. p ≤ q)) is from) prefix answers (lists more at entered is sound)
