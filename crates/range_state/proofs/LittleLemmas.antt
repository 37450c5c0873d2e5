-- What an advance over bare ranges leaves as it was.
use Rattle.std.proofs.Common.{◌≡◌, ℕ, ◌+◌, ◌≤◌, suc, Bool, true, false, cond, List, [], ◌∷◌, ◌++◌, length, map, filter, Contains, Option, Some, None, IfSome, refl, sym, ap, ◌∙◌, subst, inl, inr, ⊎_elim, arith, length-append}
use Rattle.std.specs.List.{Any, list_any, sum_by}
use Rattle.std.specs.Option.{IsSomeAnd}
use Rattle.std.proofs.lemmas.Bool.{false≢true, not-true}
use Rattle.std.proofs.lemmas.List.Sums.{sum_by-cons}
use Rattle.semantics.specs.Texts.{Text, same, within}
use Rattle.semantics.specs.Patterns.{Slots, bind}
use Rattle.semantics.specs.Joins.{is_check, Source}
use Rattle.semantics.specs.Histories.{History}
use Rattle.semantics.proofs.PieceLemmas.{equal_by_same}
use Rattle.semantics.proofs.MemberLemmas.{Has, has_from_contains, contains_from_has, has_filter, has_filtered, has_map, has_from_any}
use Rattle.growing_history.specs.Changes.{changed_keys}
use Rattle.growing_history.proofs.ElementLemmas.{all_from_has, has_of_all}
use Rattle.key_ranges.specs.Containing.{only}
use Rattle.range_evaluation.specs.Trees.{Need}
use Rattle.range_evaluation.proofs.PathLemmas.{is_any}
use Rattle.kept_ranges.specs.Notes.{note_limit}
use Rattle.kept_ranges.specs.Rules.{source_of, reported_in, Touch, is_touched, is_left, Application, applications}
use Rattle.kept_ranges.specs.Sound.{KeptRange}
use Rattle.kept_ranges.proofs.TouchLemmas.{touched, not_by}
use Rattle.range_state.specs.Asking.{ListsWritten, AreListed, changed_count}
use Rattle.range_state.specs.Laws.{is_check_source, is_value_source, check_needs, value_needs, changed_in, FewTouches, FewApplications}
use Rattle.range_state.proofs.CountLemmas.{sum_taken}
use Rattle.range_state.specs.Advanced.{touch_notes, key_notes, slots_touched, touched_by, applied_by, IsAdvancedTo}
use Rattle.range_state.specs.Held.{range_kept, view_of, FitsJoin}
use Rattle.range_state.specs.Ready.{StandsAt}
use Rattle.range_state.specs.Work.{IsTouchedBy, IsTouched, AreTouchedSlots, TouchesLittle}
use Rattle.range_state.specs.declared.holding.Holding.{Holding}
use Rattle.range_state.specs.declared.subject.Subject.{Subject}
use Rattle.range_state.proofs.AdvanceLemmas.{all_pass}
use Rattle.range_state.proofs.CostLemmas.{same_place}
use Rattle.range_state.proofs.MarkLemmas.{notes_are_marks}
use Rattle.range_state.proofs.NotingLemmas.{noted_none, noted_start}

-- ---- touched keys

-- a reported key of a check need's range was put or removed
touched_through : (s : Subject) (held : Holding) (h : History) (p : ℕ) (reported : List Text) (need : Need) (source : Source) (key : Text) → AreListed held.position p h held.rows.needs reported → Has held.rows.needs need → source_of s.join need ≡ Some source → is_check source.operator ≡ true
    → within need.range key ≡ true → Has reported key → IsTouchedBy h held.position p (range_kept s held) key need
touched_through s held h p reported need source key listed has of_source check inside reports =
    let here : reported_in reported need ≡ changed_keys held.position p need.range h = has_of_all (ListsWritten held.position p h reported) held.rows.needs need listed has in
    let checks : IsSomeAnd (source_of s.join need) (λ source. is_check source.operator ≡ true) = subst (λ (o : Option Source). IsSomeAnd o (λ source. is_check source.operator ≡ true)) (sym of_source) check in
    let changed : Contains (changed_keys held.position p need.range h) key =
    contains_from_has (changed_keys held.position p need.range h) key (subst (λ (ks : List Text). Has ks key) here (has_filtered (within need.range) reported key inside reports)) in
    (checks, changed)

-- slots of a touch are made of a touched key
touched_slots : (s : Subject) (held : Holding) (h : History) (p : ℕ) (reported : List Text) (slots : Slots) → AreListed held.position p h held.rows.needs reported → Contains (map (λ t. t.slots) (touched_by s reported held)) slots → AreTouchedSlots h held.position p (range_kept s held) slots
touched_slots s held h p reported slots listed has =
    let w = has_map (λ (t : Touch). t.slots) (touched_by s reported held) slots (has_from_contains (map (λ t. t.slots) (touched_by s reported held)) slots has) in
    let is = touched s.join reported held.rows.needs w.0 w.1 in
    let by_key : IsTouchedBy h held.position p (range_kept s held) w.0.key is.need = touched_through s held h p reported is.need is.source_is w.0.key listed is.has is.of_source is.is_check is.inside is.reports in
    let both : only s.join.output is.bound ≡ slots = sym is.slots_are ∙ w.2 in
    let binds : IsSomeAnd (bind is.source_is.pattern w.0.key is.need.slots) (λ bound. only s.join.output bound ≡ slots) = subst (λ (o : Option Slots). IsSomeAnd o (λ bound. only s.join.output bound ≡ slots)) (sym is.binds) both in
    record {
      need = is.need;
      has_need = contains_from_has held.rows.needs is.need is.has;
      key = w.0.key;
      touched = by_key;
      made = subst (λ (o : Option Source). IsSomeAnd o (λ source. IsSomeAnd (bind source.pattern w.0.key is.need.slots) (λ bound. only s.join.output bound ≡ slots))) (sym is.of_source) binds;
    }

-- a need that came by no touched key is left
needs_stay : (s : Subject) (held : Holding) (h : History) (p : ℕ) (reported : List Text) (need : Need) → AreListed held.position p h held.rows.needs reported → Has held.rows.needs need → (Any (IsTouched h held.position p (range_kept s held)) need.by → ⊥)
    → Has (filter (is_left (touched_by s reported held)) held.rows.needs) need
needs_stay s held h p reported need listed has untouched = has_filtered (is_left (touched_by s reported held)) held.rows.needs need (not_by (list_any (is_touched (touched_by s reported held)) need.by) (λ some.
    let a = has_from_any (is_touched (touched_by s reported held)) need.by some in
    let t = has_from_any (λ (touch : Touch). same touch.key a.0) (touched_by s reported held) a.2 in
    let is = touched s.join reported held.rows.needs t.0 t.1 in
    let key_is : t.0.key ≡ a.0 = equal_by_same t.0.key a.0 t.2 in
    let by_key : IsTouchedBy h held.position p (range_kept s held) t.0.key is.need = touched_through s held h p reported is.need is.source_is t.0.key listed is.has is.of_source is.is_check is.inside is.reports in
    let here : IsTouchedBy h held.position p (range_kept s held) a.0 is.need = subst (λ (k : Text). IsTouchedBy h held.position p (range_kept s held) k is.need) key_is by_key in
    untouched (is_any (IsTouched h held.position p (range_kept s held)) need.by a.0 a.1 (is_any (IsTouchedBy h held.position p (range_kept s held) a.0) held.rows.needs is.need is.has here)))) has

-- ---- how many notes are made

-- one element more, or not, of a list that is filtered
taken_more : {A : Type 0} (f : A → ℕ) (test : A → Bool) (x : A) (xs : List A) (b : Bool) → sum_by f (filter test (cond b (x ∷ xs) xs)) ≤ cond (test x) (f x) 0 + sum_by f (filter test xs)
taken_more f test x xs true = let e = sum_taken f test x xs in omega arith
taken_more f test x xs false = omega arith

-- one of two tests takes a number
one_of_two : (u v : Bool) (n : ℕ) → (u ≡ true → v ≡ true → ⊥) → cond u n 0 + cond v n 0 ≤ n
one_of_two true true n apart = absurd (apart refl refl)
one_of_two true false n apart = omega arith
one_of_two false true n apart = omega arith
one_of_two false false n apart = omega arith

-- the sums of two parts that share no element are no more than the whole
sum_of_two : {A : Type 0} (f : A → ℕ) (a b test : A → Bool) → ((x : A) → a x ≡ true → b x ≡ true → ⊥) → (xs : List A) → sum_by f (filter a xs) + sum_by f (filter b (filter test xs)) ≤ sum_by f xs
sum_of_two f a b test apart [] = omega arith
sum_of_two f a b test apart (x ∷ xs) =
    let first = sum_taken f a x xs in
    let second : sum_by f (filter b (filter test (x ∷ xs))) ≤ cond (b x) (f x) 0 + sum_by f (filter b (filter test xs)) = taken_more f b x (filter test xs) (test x) in
    let both = one_of_two (a x) (b x) (f x) (apart x) in
    let rest = sum_of_two f a b test apart xs in
    let whole = sum_by-cons f x xs in
    joined _ _ _ _ _ _ _ _ _ first second both rest whole
  where
    joined : (l r n u v m w t all : ℕ) → l ≡ u + m → r ≤ v + w → u + v ≤ n → m + w ≤ t → all ≡ n + t → l + r ≤ all
    joined l r n u v m w t all a b c d e = omega arith

-- a source is no check and no value source at once
kinds_apart : (o : Option Source) → is_check_source o ≡ true → is_value_source o ≡ true → ⊥
kinds_apart None a b = false≢true a
kinds_apart (Some source) a b = false≢true (sym (not-true (is_check source.operator) b) ∙ a)

touch_count : (p : ℕ) (ts : List Touch) → length (touch_notes p ts) ≡ length ts
touch_count p [] = refl
touch_count p (t ∷ ts) = ap suc (touch_count p ts)

key_count : (p : ℕ) (applying : List Application) → length (key_notes p applying) ≡ length applying
key_count p [] = refl
key_count p (a ∷ others) = ap suc (key_count p others)

-- there are no more notes than changed keys in the ranges of the needs
notes_count : FewTouches → FewApplications → (s : Subject) (held made : Holding) (h : History) (p : ℕ) (reported : List Text) → AreListed held.position p h held.rows.needs reported → IsAdvancedTo s p reported held made
    → length (touch_notes p (touched_by s reported held) ++ key_notes p (applied_by s reported made)) ≤ sum_by (changed_count held.position p h) held.rows.needs
notes_count few_touches few_applications s held made h p reported listed advanced =
    let q = held.position in
    let needs = held.rows.needs in
    let test = is_left (touched_by s reported held) in
    let left : List Need = filter test needs in
    let applying : List Application = applications s.join s.range made.pending.noted reported left in
    let are : applied_by s reported made ≡ applying = ap (applications s.join s.range made.pending.noted reported) advanced.needs in
    let listed_left : AreListed q p h left reported = all_from_has (ListsWritten q p h reported) left (λ n has. has_of_all (ListsWritten q p h reported) needs n listed (has_filter test needs n has).1) in
    counted _ _ _ _ _ _ _ _ (length-append (touch_notes p (touched_by s reported held)) (key_notes p (applied_by s reported made)))
    (touch_count p (touched_by s reported held)) (key_count p (applied_by s reported made) ∙ ap length are) (few_touches s.join h q p reported needs listed)
    (few_applications s.join s.range made.pending.noted h q p reported left listed_left)
    (sum_of_two (changed_count q p h) (λ n. is_check_source (source_of s.join n)) (λ n. is_value_source (source_of s.join n)) test (λ n. kinds_apart (source_of s.join n)) needs)
  where
    counted : (all t k a b c d whole : ℕ) → all ≡ t + k → t ≡ a → k ≡ b → a ≤ c → b ≤ d → c + d ≤ whole → all ≤ whole
    counted all t k a b c d whole e f g u v w = omega arith

-- ---- what is left

-- an advance over bare ranges touches little
little_here : FewTouches → FewApplications → (s : Subject) (held made : Holding) (h : History) (p : ℕ) (reported : List Text) → AreListed held.position p h held.rows.needs reported → IsAdvancedTo s p reported held made
    → TouchesLittle h held.position p (range_kept s held) (range_kept s made)
little_here few_touches few_applications s held made h p reported listed advanced =
    let added = touch_notes p (touched_by s reported held) ++ key_notes p (applied_by s reported made) in
    let count = notes_count few_touches few_applications s held made h p reported listed advanced in
    record {
      pending = λ slots has. ⊎_elim (λ (old : Contains held.pending.noted slots). inl old) (λ (new : Contains (map (λ t. t.slots) (touched_by s reported held)) slots). inr (touched_slots s held h p reported slots listed new)) ((advanced.pending slots).0 has);
      touched = slots_touched (touched_by s reported held);
      once = advanced.once;
      needs = λ need has untouched. subst (λ (ns : List Need). Contains ns need) (sym advanced.needs)
          (contains_from_has (filter (is_left (touched_by s reported held)) held.rows.needs) need (needs_stay s held h p reported need listed (has_from_contains held.rows.needs need has) untouched));
      left = (is_left (touched_by s reported held), advanced.needs);
      added = added;
      notes = advanced.notes;
      marks = λ note has. notes_are_marks s held made h p reported (λ given of_touch. touched_slots s held h p reported given listed of_touch) listed advanced note has;
      few = count;
      start = λ room. ap (λ n. n.start) advanced.notes ∙ noted_start held.notes added (fits _ _ _ _ room count);
    }
  where
    fits : (a b c limit : ℕ) → a + c ≤ limit → b ≤ c → a + b ≤ limit
    fits a b c limit r l = omega arith

-- so said of what is kept
pub little_held : FewTouches → FewApplications → (s : Subject) (held same made after : Holding) (v : KeptRange) (h : History) (q p : ℕ) (needs : List Need) (reported told : List Text) → range_kept s held ≡ v → same ≡ held → StandsAt q v → needs ≡ held.rows.needs → told ≡ reported
    → AreListed held.position p h needs reported → IsAdvancedTo s p told same made → after ≡ made → TouchesLittle h q p v (range_kept s after)
little_held few_touches few_applications s held same made after v h q p needs reported told view is stands are is_told listed advanced after_is =
    let place : held.position ≡ q = same_place s held v q view stands in
    let own : TouchesLittle h held.position p (range_kept s held) (range_kept s made) =
    little_here few_touches few_applications s held made h p told (subst (λ (w : List Need × List Text). AreListed held.position p h w.0 w.1) (λ i. (are i, sym is_told i)) listed) (subst (λ (w : Holding). IsAdvancedTo s p told w made) is advanced) in
    let there : TouchesLittle h q p v (range_kept s made) = subst (λ (w : ℕ × KeptRange). TouchesLittle h w.0 p w.1 (range_kept s made)) (λ i. (place i, view i)) own in
    subst (λ (a : Holding). TouchesLittle h q p v (range_kept s a)) (sym after_is) there

-- what is held has no more notes than are kept at most
few_held : (s : Subject) (o : Option Holding) → IfSome o (FitsJoin s.join) → length (view_of s o).notes.list ≤ note_limit
few_held s None fits = omega arith
few_held s (Some held) fits = fits.few

-- nor has what is kept
pub few_kept : (s : Subject) (o : Option Holding) (v : KeptRange) → view_of s o ≡ v → IfSome o (FitsJoin s.join) → length v.notes.list ≤ note_limit
few_kept s o v view fits = subst (λ (w : KeptRange). length w.notes.list ≤ note_limit) view (few_held s o fits)

-- where nothing is done, nothing is touched
pub little_same : (h : History) (q p : ℕ) (v : KeptRange) → length v.notes.list ≤ note_limit → TouchesLittle h q p v v
little_same h q p v fits = record {
  pending = λ slots has. inl has;
  touched = [];
  once = refl;
  needs = λ need has untouched. has;
  left = (λ _. true, all_pass v.kept.needs);
  added = [];
  notes = sym (noted_none v.notes fits);
  marks = λ note has. absurd (has_from_contains [] note has);
  few = omega arith;
  start = λ room. refl;
}
