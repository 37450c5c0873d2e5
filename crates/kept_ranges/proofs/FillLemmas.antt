-- What is filled is right.
use Rattle.std.proofs.Common.{◌≡◌, ℕ, ◌≤◌, ◌&&◌, Bool, true, false, cond, not, nat_le, List, [], ◌∷◌, length, map, slice_get, Any, Contains, Option, Some, None, is_some, option_map, IfSome, IsSomeAnd, MatchOption, refl, sym, ap, ◌∙◌, subst}
use Rattle.std.specs.List.{AllByRecursion}
use Rattle.std.specs.Option.{option_flatten}
use Rattle.std.proofs.lemmas.Bool.{and_parts, and_from, not-true, not_from_false, cond-true}
use Rattle.std.proofs.lemmas.Option.{cond_some, slice_get-map}
use Rattle.std.proofs.lemmas.List.Elements.{recursion_from_All}
use Rattle.semantics.specs.Texts.{Text, bar, has_bar, Table, is_range, Range, value_at, within, pairs_within}
use Rattle.semantics.specs.Patterns.{literal, slot, Pattern, Slots, text_at, segments, TakeAll, Fits, IsPartOf}
use Rattle.semantics.specs.PatternLaws.{AreSegmentTexts}
use Rattle.semantics.specs.Joins.{Source, Join, is_join}
use Rattle.semantics.specs.Outputs.{out}
use Rattle.semantics.proofs.PieceLemmas.{Lacks, pieces_lack}
use Rattle.semantics.proofs.PatternLemmas.{fits_more, segments_of_pattern}
use Rattle.semantics.proofs.MemberLemmas.{Has, has_filter}
use Rattle.semantics.proofs.TableLemmas.{IsAscending, value_from_has}
use Rattle.semantics.proofs.MergedLemmas.{ascending-pairs_within, value_at-pairs_within}
use Rattle.semantics.proofs.GatherLemmas.{ascending-out}
use Rattle.semantics.proofs.OutputLemmas.{output_of_join, out_keys_fit_short}
use Rattle.key_ranges.specs.Containing.{range_slots, containing}
use Rattle.key_ranges.proofs.RangeSlotLemmas.{range_slots_are_shared}
use Rattle.growing_history.proofs.ElementLemmas.{all_from_has, has_of_all}
use Rattle.range_evaluation.specs.Trees.{Need, placed_sources, tree}
use Rattle.range_evaluation.specs.TreeLaws.{AreOutputSlots}
use Rattle.range_evaluation.specs.PathLaws.{IsPath, HoldsNext, CameByPath, HasHeldPath}
use Rattle.range_evaluation.proofs.PathLemmas.{needs_hold_next, needs_came_by_paths, needs_hold_their_paths}
use Rattle.range_evaluation.proofs.AskedLemmas.{shared_are_output_slots}
use Rattle.kept_ranges.specs.Kept.{Kept, IsRowKey, AreRows, CameBy}
use Rattle.kept_ranges.specs.FillLaws.{IsSource, FilledIsRight}

-- ---- slots without the texts that no segment may be

-- whether a text may stand for a segment
abbrev may_stand : Text → Bool
may_stand t = nat_le 1 (length t) && not (has_bar t)

-- the text, where it may stand for a segment
abbrev standing : Option Text → Option Text
standing None = None
standing (Some t) = cond (may_stand t) (Some t) None

-- the slots without the other texts
abbrev cleaned : Slots → Slots
cleaned given = map standing given

text_at-cleaned : (place : ℕ) (given : Slots) → text_at place (cleaned given) ≡ standing (text_at place given)
text_at-cleaned place given = ap option_flatten (slice_get-map standing given place) ∙ flattened (slice_get given place)
  where
    flattened : (o : Option (Option Text)) → option_flatten (option_map standing o) ≡ standing (option_flatten o)
    flattened None = refl
    flattened (Some o) = refl

-- a text that may stand is kept
cleaned_keeps : (place : ℕ) (t : Text) (given : Slots) → nat_le 1 (length t) ≡ true → has_bar t ≡ false → text_at place given ≡ Some t → text_at place (cleaned given) ≡ Some t
cleaned_keeps place t given long lacks at =
    text_at-cleaned place given ∙ ap standing at ∙ cond-true (may_stand t) (Some t) None (and_from (nat_le 1 (length t)) (not (has_bar t)) long (not_from_false (has_bar t) lacks))

-- the segments of a key may stand, so that what takes them takes them still
cleaned_takes : (p : Pattern) (ts : List Text) (given : Slots) → AllByRecursion (Lacks bar) ts → TakeAll p ts given → TakeAll p ts (cleaned given)
cleaned_takes [] [] given lacks h = tt
cleaned_takes [] (t ∷ ts) given lacks h = absurd h
cleaned_takes (s ∷ ss) [] given lacks h = absurd h
cleaned_takes (literal l ∷ ss) (t ∷ ts) given lacks h = (h.0, cleaned_takes ss ts given lacks.1 h.1)
cleaned_takes (slot place width ∷ ss) (t ∷ ts) given lacks h =
    ((h.0.0, cleaned_keeps place t given (and_parts _ _ h.0.0).0 lacks.0 h.0.1), cleaned_takes ss ts given lacks.1 h.1)

-- a path stays one
cleaned_path : (ps : List (ℕ × Source)) (table : Table) (path : List Text) (given : Slots) → IsPath ps table path given → IsPath ps table path (cleaned given)
cleaned_path ps table [] given h = tt
cleaned_path [] table (key ∷ keys) given h = absurd h
cleaned_path (p ∷ ps) table (key ∷ keys) given h =
    (h.0, cleaned_takes p.1.pattern (segments key) given (recursion_from_All (Lacks bar) (segments key) (pieces_lack bar key)) h.1, cleaned_path ps table keys given h.2)

-- slots that lose nothing so have only segment texts
cleaned_texts : (given : Slots) → IsPartOf given (cleaned given) → AreSegmentTexts given
cleaned_texts given part place t at =
    let kept : cond (may_stand t) (Some t) None ≡ Some t = sym (ap standing at) ∙ sym (text_at-cleaned place given) ∙ part place t at in
    let parts = and_parts (nat_le 1 (length t)) (not (has_bar t)) (cond_some (may_stand t) t t kept).0 in
    (parts.0, not-true (has_bar t) parts.1)

-- ---- the needs of a tree

-- a need that came by a path has only segment texts, where the given slots have: they are the least, and without other texts its keys are a path still
need_texts : (j : Join) (slots : Slots) (range : Range) (table : Table) (need : Need) → AreSegmentTexts slots → CameByPath j slots range table need → AreSegmentTexts need.slots
need_texts j slots range table need are came =
    cleaned_texts need.slots (came.least (cleaned need.slots) (cleaned_path (placed_sources j) table need.by need.slots came.path)
    (λ place t at. let own = are place t at in cleaned_keeps place t need.slots own.0 own.1 (came.part place t at)))

-- the source of a need is the next
next_by : (output : Pattern) (range : Range) (o : Option (ℕ × Source)) (need : Need) → IsSomeAnd o (λ p. (p.0 ≡ need.source) × (containing p.1.pattern need.slots output range ≡ Some need.range)) → IsSomeAnd o (λ p. p.0 ≡ need.source)
next_by output range None need h = h
next_by output range (Some p) need h = h.0

-- each need of a tree came by a path
pub tree_came : (j : Join) (slots : Slots) (range : Range) (table : Table) (need : Need) → is_join j ≡ true → IsSource table → length slots ≡ 16 → AreSegmentTexts slots → Has (tree j slots range table) need → CameBy j table (tree j slots range table) need
tree_came j slots range table need ok source long are h =
    let needs = tree j slots range table in
    let came = has_of_all (CameByPath j slots range table) needs need (recursion_from_All (CameByPath j slots range table) needs (needs_came_by_paths j slots range table ok long source.ascending)) h in
    let held = has_of_all (HasHeldPath j slots range table) needs need (recursion_from_All (HasHeldPath j slots range table) needs (needs_hold_their_paths j slots range table ok long source.ascending)) h in
    record {
      places = came.places;
      texts = need_texts j slots range table need are came;
      path = came.path;
      next = next_by j.output range (slice_get (placed_sources j) (length need.by)) need came.next;
      held = held;
    }

-- what some element has, one of a list with all elements has
pub any_more : {A : Type 0} (P : A → Type 0) (xs ys : List A) → ((x : A) → Contains xs x → Contains ys x) → Any P xs → Any P ys
any_more P xs ys more h = let c = more h.1 (h.0, h.2, h.3) in (c.0, h.1, c.1, c.2, h.4)

-- a need came by a path of more needs too
pub came_more : (j : Join) (table : Table) (needs others : List Need) (need : Need) → ((n : Need) → Contains needs n → Contains others n) → CameBy j table needs need → CameBy j table others need
came_more j table needs others need more came = record {
  places = came.places;
  texts = came.texts;
  path = came.path;
  next = came.next;
  held = λ i source s key at by. any_more _ needs others more (came.held i source s key at by);
}

-- ---- what is filled

-- a row is a pair of the output in the range
filled_key : (j : Join) (range : Range) (table : Table) (pair : Text × Text) → is_join j ≡ true → Has (pairs_within range (out j table)) pair → IsRowKey j range pair.0
filled_key j range table pair ok h =
    let w = has_filter (λ q. within range q.0) (out j table) pair h in
    let made = out_keys_fit_short j table pair.0 ok (ap is_some (value_from_has pair.0 pair.1 (out j table) (ascending-out j table) w.1)) in
    record { inside = w.0; fits = made.0; short = made.1 }

filled_rows : (j : Join) (range : Range) (table : Table) (kept : Kept) → is_join j ≡ true → kept.rows ≡ pairs_within range (out j table) → AreRows j range table kept
filled_rows j range table kept ok rows = record {
  ascending = subst IsAscending (sym rows) (ascending-pairs_within range (out j table) (ascending-out j table));
  keys = subst (AllByRecursion (λ pair. IsRowKey j range pair.0)) (sym rows) (all_from_has (λ pair. IsRowKey j range pair.0) (pairs_within range (out j table)) (λ pair h. filled_key j range table pair ok h));
  exact = λ key inside clear. ap (value_at key) rows ∙ value_at-pairs_within range key (out j table) ∙ cond-true (within range key) _ _ inside;
}

-- the needs that are filled, by the range's slots
abbrev AreFilled : Join → Range → Table → List Need → Option Slots → Type 0
AreFilled j range table needs o = MatchOption o (needs ≡ []) (λ slots. needs ≡ tree j slots range table)

-- a key that goes on from a path of an output key, which has the range's slots as a part, is held
followed_by : (j : Join) (range : Range) (out : Text) (table : Table) (needs : List Need) (o : Option Slots) (path : List Text) (more wider : Slots) (source : ℕ) (s : Source) (next : Text) → is_join j ≡ true → is_range range.low range.high ≡ true → within range out ≡ true → Fits j.output out more → IsSource table
    → AreFilled j range table needs o → IfSome o (AreOutputSlots j) → IsSomeAnd o (λ shared. IsPartOf shared more) → IsPath (placed_sources j) table path more
    → slice_get (placed_sources j) (length path) ≡ Some (source, s) → IsPartOf more wider → Fits s.pattern next wider → length next ≤ 512 → Any (HoldsNext source path more next) needs
followed_by j range out table needs None path more wider source s next ok good inside fits below filled are part is at wide fit short = absurd part
followed_by j range out table needs (Some shared) path more wider source s next ok good inside fits below filled are part is at wide fit short =
    subst (Any (HoldsNext source path more next)) (sym filled) (needs_hold_next j shared more wider range table path source s next out ok good below.keys are.places part is at wide fit short inside (fits_more j.output out more wider wide fits))

came_by : (j : Join) (range : Range) (table : Table) (needs : List Need) (o : Option Slots) → is_join j ≡ true → IsSource table → AreFilled j range table needs o → IfSome o (AreOutputSlots j) → AllByRecursion (CameBy j table needs) needs
came_by j range table needs None ok below filled are = subst (λ ns. AllByRecursion (CameBy j table ns) ns) (sym filled) tt
came_by j range table needs (Some shared) ok below filled are =
    subst (λ ns. AllByRecursion (CameBy j table ns) ns) (sym filled)
    (all_from_has (CameBy j table (tree j shared range table)) (tree j shared range table) (λ need h. tree_came j shared range table need ok below are.places are.texts h))

-- what is filled is right
pub filled_is_right : FilledIsRight
filled_is_right j range table kept ok is below filled =
    let are = shared_are_output_slots j range ok in
    let segments = segments_of_pattern j.output (output_of_join j ok) in
    record {
      rows = filled_rows j range table kept ok filled.rows;
      followed = λ key path more wider source s next inside clear fit on at wide follows short.
          followed_by j range key table kept.needs (range_slots j.output range) path more wider source s next ok is inside fit below filled.needs are (range_slots_are_shared j.output range key more segments is inside fit) on at wide follows short;
      came = came_by j range table kept.needs (range_slots j.output range) ok below filled.needs are;
      pending = subst (AllByRecursion (AreOutputSlots j)) (sym filled.pending) tt;
    }
