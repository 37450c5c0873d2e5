-- What a kept range says where nothing pending meets a range.
use Rattle.std.proofs.Common.{◌≡◌, ℕ, ◌<◌, ◌≤◌, ◌||◌, ◌&&◌, List, [], ◌∷◌, filter, flat_map, length, take, Bool, true, false, cond, nat_lt, is_some, Option, None, IfSome, refl, sym, ap, ◌∙◌, subst, inl, ⊎_elim, arith, ltb-false}
use Rattle.std.specs.List.{AllByRecursion, list_any}
use Rattle.std.proofs.lemmas.Bool.{cases_lt, false≢true, false_from_ne_true}
use Rattle.semantics.specs.Texts.{Text, Table, Range, same, value_at, within, pairs_within}
use Rattle.semantics.specs.Patterns.{Pattern, Slots, is_pattern, bind}
use Rattle.semantics.specs.Joins.{Join, is_join}
use Rattle.semantics.specs.Histories.{History}
use Rattle.semantics.specs.Outputs.{out}
use Rattle.semantics.specs.States.{below}
use Rattle.semantics.proofs.MemberLemmas.{Has, contains_from_has, any_from_has, has_from_any, has_append_left, has_append_right, has_filtered}
use Rattle.semantics.proofs.OutputLemmas.{output_of_join, out_keys_fit_short}
use Rattle.semantics.proofs.PieceLemmas.{equal_by_same}
use Rattle.growing_history.specs.Entered.{HasEntered}
use Rattle.growing_history.proofs.ElementLemmas.{has_of_all}
use Rattle.growing_history.proofs.ChangeLemmas.{has_in_order}
use Rattle.lazy_log.specs.Pending.{meets_output}
use Rattle.lazy_log.proofs.PendingLemmas.{covered_is_met}
use Rattle.range_evaluation.specs.TreeLaws.{AreOutputSlots}
use Rattle.range_evaluation.proofs.AskedLemmas.{absent_by}
use Rattle.kept_ranges.specs.Kept.{is_covered}
use Rattle.kept_ranges.specs.Notes.{Mark, key, slots, Note, marks, is_noted}
use Rattle.kept_ranges.specs.ReadLaws.{IsClear}
use Rattle.kept_ranges.specs.Sound.{KeptRange, IsSoundAt, IsSound}
use Rattle.kept_ranges.proofs.ReadLemmas.{rows_are_output}
use Rattle.kept_ranges.proofs.SoundLemmas.{or_false_left, or_false_right}
use Rattle.range_state.specs.NotesSince.{key_of, key_after, keys_since, slots_meet, meets_after, slots_since}
use Rattle.range_state.specs.Held.{HasPlaces}
use Rattle.range_state.specs.Ready.{pending_meets, StandsAt}
use Rattle.range_state.specs.Since.{is_unknown_since, IsSameBut}
use Rattle.range_state.proofs.FillLemmas.{standing_join}

-- slots that do not meet a range cover none of its keys
unmet_uncovered : (output : Pattern) (range : Range) (noted : List Slots) (k : Text) → is_pattern output ≡ true → AllByRecursion (λ s. length s ≡ 16) noted → list_any (meets_output output range) noted ≡ false
    → within range k ≡ true → length k ≤ 512 → is_covered output noted k ≡ false
unmet_uncovered output range noted k ok long unmet inside small = by_test (is_covered output noted k) refl
  where
    by_test : (b : Bool) → is_covered output noted k ≡ b → b ≡ false
    by_test false e = refl
    by_test true e =
        let w = has_from_any (λ s. is_some (bind output k s)) noted e in
        let places : length w.0 ≡ 16 = has_of_all (λ s. length s ≡ 16) noted w.0 long w.1 in
        let met : meets_output output range w.0 ≡ true = covered_is_met output w.0 range k ok places small inside w.2 in
        absurd (false≢true (sym unmet ∙ any_from_has (meets_output output range) noted w.0 w.1 met))

all_places : (j : Join) (noted : List Slots) → AllByRecursion (AreOutputSlots j) noted → AllByRecursion (λ s. length s ≡ 16) noted
all_places j [] all = tt
all_places j (s ∷ ss) all = (all.0.places, all_places j ss all.1)

-- where nothing pending meets a part, no key of it is covered
pub clear_of_part : (s : KeptRange) (h : History) (q : ℕ) (part : Range) → is_join s.join ≡ true → IsSoundAt s h q → pending_meets s part ≡ false → IsClear s.join.output s.range part s.kept
clear_of_part s h q part ok sound unmet k inside_range inside_part small =
    unmet_uncovered s.join.output part s.kept.pending k (output_of_join s.join ok) (all_places s.join s.kept.pending sound.right.pending) unmet inside_part small

-- the rows in a part are the output where the kept range stands
pub rows_at : (s : KeptRange) (h : History) (q : ℕ) (part : Range) → is_join s.join ≡ true → IsSoundAt s h q → pending_meets s part ≡ false
    → pairs_within part s.kept.rows ≡ pairs_within part (pairs_within s.range (out s.join (below (take q h) s.rank)))
rows_at s h q part ok sound unmet = rows_are_output s.join s.range part (below (take q h) s.rank) s.kept ok sound.right (clear_of_part s h q part ok sound unmet)

-- a kept range that is right where it stands
pub sound_where : (s : KeptRange) (h : History) (q : ℕ) → StandsAt q s → IsSound s h → IsSoundAt s h q
sound_where s h q stands sound = subst (λ o. IfSome o (IsSoundAt s h)) stands sound

-- the join of a kept range that is right where it stands is one
pub sound_join : (s : KeptRange) (h : History) (q : ℕ) → HasEntered h → IsSoundAt s h q → is_join s.join ≡ true
sound_join s h q entered sound = standing_join h q s.rank s.join entered sound.stands

-- ---- what was noted

-- where a note of a part is neither of a key nor of slots that meet it, it covers no key of the part
one_quiet : (output : Pattern) (part : Range) (k : Text) (b : Bool) (m : Mark) → is_pattern output ≡ true → within part k ≡ true → length k ≤ 512 → HasPlaces m
    → cond b (slots_meet output part m) false ≡ false → (Has (cond b (key_of m) []) k → ⊥) → (b && marks output k m) ≡ false
one_quiet output part k false m ok inside small places unmet absent = refl
one_quiet output part k true (key other) ok inside small places unmet absent = false_from_ne_true (same other k) (λ e. absent (inl (equal_by_same other k e)))
one_quiet output part k true (slots s) ok inside small places unmet absent =
    false_from_ne_true (is_some (bind output k s)) (λ e. false≢true (sym unmet ∙ covered_is_met output s part k ok places small inside e))

-- so for all notes
all_quiet : (output : Pattern) (part : Range) (u : ℕ) (k : Text) (notes : List Note) → is_pattern output ≡ true → within part k ≡ true → length k ≤ 512 → AllByRecursion (λ note. HasPlaces note.mark) notes
    → slots_since output u part notes ≡ false → (Has (flat_map (key_after u) notes) k → ⊥) → is_noted output u notes k ≡ false
all_quiet output part u k [] ok inside small places unmet absent = refl
all_quiet output part u k (note ∷ notes) ok inside small places unmet absent =
    or_false (nat_lt u note.position && marks output k note.mark) (is_noted output u notes k)
    (one_quiet output part k (nat_lt u note.position) note.mark ok inside small places.0 (or_false_left _ _ unmet) (λ h. absent (has_append_left (key_after u note) (flat_map (key_after u) notes) k h)))
    (all_quiet output part u k notes ok inside small places.1 (or_false_right (meets_after output u part note) _ unmet) (λ h. absent (has_append_right (key_after u note) (flat_map (key_after u) notes) k h)))
  where
    or_false : (a b : Bool) → a ≡ false → b ≡ false → (a || b) ≡ false
    or_false a b e f = ap (λ x. x || b) e ∙ f

-- a key that is too long has no output
no_output : (j : Join) (table : Table) (k : Text) → is_join j ≡ true → 512 < length k → value_at k (out j table) ≡ None
no_output j table k ok long = absent_by (value_at k (out j table)) (λ h. let short = (out_keys_fit_short j table k ok h).1 in omega arith)

-- where it is known what changed in a part since a position, the output is the same since then at each key that is not listed
pub same_but_listed : (s : KeptRange) (h : History) (u q : ℕ) (part : Range) → HasEntered h → AllByRecursion (λ note. HasPlaces note.mark) s.notes.list → StandsAt q s → IsSound s h
    → is_unknown_since u part s s.position ≡ false → IsSameBut s h u q part (keys_since u part s.notes.list)
same_but_listed s h u q part entered places stands sound known x k first last inside_range inside_part absent =
    let at = sound_where s h q stands sound in
    let ok = sound_join s h q entered at in
    let parts : (nat_lt u s.notes.start || pending_meets s part || slots_since s.join.output u part s.notes.list) ≡ false = subst (λ (o : Option ℕ). is_unknown_since u part s o ≡ false) stands known in
    let starts_or = or_false_left (nat_lt u s.notes.start || pending_meets s part) (slots_since s.join.output u part s.notes.list) parts in
    let unmet = or_false_right (nat_lt u s.notes.start || pending_meets s part) (slots_since s.join.output u part s.notes.list) parts in
    let starts : s.notes.start ≤ u = ltb-false u s.notes.start (or_false_left (nat_lt u s.notes.start) (pending_meets s part) starts_or) in
    let clear : pending_meets s part ≡ false = or_false_right (nat_lt u s.notes.start) (pending_meets s part) starts_or in
    ⊎_elim
    (λ (long : 512 < length k). no_output s.join (below (take x h) s.rank) k ok long ∙ sym (no_output s.join (below (take u h) s.rank) k ok long))
    (λ (small : length k ≤ 512).
    at.noted u x k starts first last inside_range
    (clear_of_part s h q part ok at clear k inside_range inside_part small)
    (all_quiet s.join.output part u k s.notes.list (output_of_join s.join ok) inside_part small places unmet
    (λ has. absent (contains_from_has (keys_since u part s.notes.list) k (has_in_order (filter (within part) (flat_map (key_after u) s.notes.list)) k (has_filtered (within part) (flat_map (key_after u) s.notes.list) k inside_part has))))))
    (cases_lt 512 (length k))
