-- Pending slots that are mended, one after another.
use Rattle.std.proofs.Common.{◌≡◌, ◌↔◌, ◌⊎◌, ◌&&◌, ℕ, zero, suc, ◌+◌, ◌-◌, ◌≤◌, List, [], ◌∷◌, ◌++◌, length, filter, not, take, drop, Contains, Bool, true, false, Option, Some, None, is_some, refl, sym, ap, ◌∙◌, subst, inl, inr, ⊎_elim, arith, length-append}
use Rattle.std.specs.List.{AllByRecursion, list_any}
use Rattle.std.proofs.lemmas.Bool.{false≢true, and_parts, and_from}
use Rattle.std.proofs.lemmas.Option.{same_Some}
use Rattle.semantics.specs.Texts.{Text, Table, Range, is_range, same, pairs_where}
use Rattle.semantics.specs.Patterns.{Slots, bind}
use Rattle.semantics.specs.Joins.{copy, is_aggregate, Join, value_operator}
use Rattle.semantics.specs.Histories.{History, IsPrefix, joins_of}
use Rattle.semantics.specs.Outputs.{out}
use Rattle.semantics.specs.States.{below, merged}
use Rattle.semantics.proofs.MemberLemmas.{Has, has_from_contains, contains_from_has, has_filter, has_filtered, has_from_any, has_append_left, has_append_right, has_append_cases}
use Rattle.semantics.proofs.PieceLemmas.{equal_by_same, same_itself}
use Rattle.growing_history.specs.Entered.{HasEntered}
use Rattle.growing_history.proofs.ElementLemmas.{all_from_has, has_of_all}
use Rattle.growing_history.proofs.EnteredLemmas.{has_entered_taken, keeps_rules}
use Rattle.range_evaluation.specs.Trees.{Need, is_asked, reading_steps, tree}
use Rattle.range_evaluation.specs.TreeLaws.{AreOutputSlots}
use Rattle.join_rows.specs.Kept.{KeptRows, AddsOnce, AddsEach}
use Rattle.join_rows.proofs.NeedLemmas.{once_old}
use Rattle.kept_ranges.specs.Kept.{Kept}
use Rattle.kept_ranges.specs.Rules.{IsMended}
use Rattle.growing_history.proofs.PrefixLemmas.{take_prefix}
use Rattle.join_eval.specs.Bounds.{Exceeds}
use Rattle.join_eval.specs.Walks.{AreBare}
use Rattle.kept_ranges.specs.Notes.{Mark, key, slots, Note, Notes, note_limit, last_dropped, noted}
use Rattle.kept_ranges.specs.Sound.{KeptRange, IsSoundAt}
use Rattle.kept_ranges.specs.SoundLaws.{CanStand, MakesNotes, IsMendMark}
use Rattle.kept_ranges.proofs.SoundLemmas.{sound_at_longer, mended_is_sound, covered_by_more}
use Rattle.lazy_log.specs.Pending.{meets_output}
use Rattle.range_state.specs.Held.{range_kept}
use Rattle.range_state.specs.Mended.{AreAllBare, AreBareFor, steps_for, steps_under, with_pending}
use Rattle.range_state.specs.Ready.{StandsAt}
use Rattle.range_state.specs.Work.{AreBareUnder, MendsTooMany, meeting, mend_notes, mend_steps, needs_under_each}
use Rattle.range_state.specs.declared.holding.Holding.{Holding}
use Rattle.range_state.specs.declared.subject.Subject.{Subject}
use Rattle.range_state.proofs.FillLemmas.{copies_by}
use Rattle.range_state.proofs.NotingLemmas.{noted_none}

-- ---- other pending slots

-- what is right stays right where more slots are pending
pub repending : (s : KeptRange) (h : History) (q : ℕ) (pending : List Slots) → ((other : Slots) → Contains s.kept.pending other → Contains pending other) → AllByRecursion (AreOutputSlots s.join) pending
    → (is_aggregate (value_operator s.join) ≡ true → pending ≡ []) → IsSoundAt s h q → IsSoundAt (with_pending pending s) h q
repending s h q pending more own none sound = record {
  place = sound.place;
  stands = sound.stands;
  right = record {
    rows = record {
      ascending = sound.right.rows.ascending;
      keys = sound.right.rows.keys;
      exact = λ k inside uncovered. sound.right.rows.exact k inside (covered_by_more s.join.output s.kept.pending pending k more uncovered);
    };
    followed = λ k path given wider source src next inside uncovered. sound.right.followed k path given wider source src next inside (covered_by_more s.join.output s.kept.pending pending k more uncovered);
    came = sound.right.came;
    pending = own;
  };
  listed = λ aggregates. record { pending = none aggregates; listed = (sound.listed aggregates).listed };
  in_order = sound.in_order;
  noted = λ u x k starts order last inside uncovered quiet. sound.noted u x k starts order last inside (covered_by_more s.join.output s.kept.pending pending k more uncovered) quiet;
}

-- a join of which slots are pending is a copy join
pub pending_copies : (s : KeptRange) (h : History) (q : ℕ) (given : Slots) (rest : List Slots) → HasEntered h → s.kept.pending ≡ given ∷ rest → IsSoundAt s h q → value_operator s.join ≡ copy
pending_copies s h q given rest entered is sound = by_kind (is_aggregate (value_operator s.join)) refl
  where
    by_kind : (b : Bool) → is_aggregate (value_operator s.join) ≡ b → value_operator s.join ≡ copy
    by_kind false e = copies_by s.join (keeps_rules (take q h) s.join s.rank (has_entered_taken q h entered) sound.stands) e
    by_kind true e = let none : given ∷ rest ≡ [] = sym is ∙ (sound.listed e).pending in cc

-- ---- telling slots apart

same_text : Option Text → Option Text → Bool
same_text None None = true
same_text None (Some u) = false
same_text (Some t) None = false
same_text (Some t) (Some u) = same t u

same_slots : Slots → Slots → Bool
same_slots [] [] = true
same_slots [] (u ∷ us) = false
same_slots (t ∷ ts) [] = false
same_slots (t ∷ ts) (u ∷ us) = same_text t u && same_slots ts us

text_equal : (t u : Option Text) → same_text t u ≡ true → t ≡ u
unfolding same_text
text_equal None None e = refl
text_equal None (Some u) e = absurd (false≢true e)
text_equal (Some t) None e = absurd (false≢true e)
text_equal (Some t) (Some u) e = ap Some (equal_by_same t u e)

slots_equal : (a b : Slots) → same_slots a b ≡ true → a ≡ b
unfolding same_slots
slots_equal [] [] e = refl
slots_equal [] (u ∷ us) e = absurd (false≢true e)
slots_equal (t ∷ ts) [] e = absurd (false≢true e)
slots_equal (t ∷ ts) (u ∷ us) e = let parts = and_parts (same_text t u) (same_slots ts us) e in (λ i. text_equal t u parts.0 i ∷ slots_equal ts us parts.1 i)

text_itself : (t : Option Text) → same_text t t ≡ true
unfolding same_text
text_itself None = refl
text_itself (Some t) = same_itself t

slots_itself : (a : Slots) → same_slots a a ≡ true
unfolding same_slots
slots_itself [] = refl
slots_itself (t ∷ ts) = and_from _ _ (text_itself t) (slots_itself ts)

-- ---- needs

once_from : (a n : Need) (old mid : List Need) → AddsOnce a old mid → Has mid n → Has old n ⊎ (a ≡ n)
once_from a n old mid (inl there) h = inl (subst (λ ns. Has ns n) there.1 h)
once_from a n old mid (inr new) h = ⊎_elim (λ b. inl b) (λ c. inr (only a n c)) (has_append_cases old (a ∷ []) n (subst (λ ns. Has ns n) new.1 h))
  where
    only : (b m : Need) → Has (b ∷ []) m → b ≡ m
    only b m (inl e) = e
    only b m (inr h) = absurd h

once_new : (a : Need) (old mid : List Need) → AddsOnce a old mid → Has mid a
once_new a old mid (inl there) = subst (λ ns. Has ns a) (sym there.1) (has_from_contains old a there.0)
once_new a old mid (inr new) = subst (λ ns. Has ns a) (sym new.1) (has_append_right old (a ∷ []) a (inl refl))

added_from : (added old new : List Need) (n : Need) → AddsEach added old new → Has new n → Has old n ⊎ Has added n
added_from [] old new n e h = inl (subst (λ ns. Has ns n) e h)
added_from (a ∷ added) old new n w h =
    ⊎_elim (λ mid. ⊎_elim (λ b. inl b) (λ e. inr (inl e)) (once_from a n old w.0 w.1.0 mid)) (λ r. inr (inr r)) (added_from added w.0 new n w.1.1 h)

added_old : (added old new : List Need) (n : Need) → AddsEach added old new → Has old n → Has new n
added_old [] old new n e h = subst (λ ns. Has ns n) (sym e) h
added_old (a ∷ added) old new n w h = added_old added w.0 new n w.1.1 (once_old a n old w.0 w.1.0 h)

added_new : (added old new : List Need) (n : Need) → AddsEach added old new → Has added n → Has new n
added_new [] old new n e h = absurd h
added_new (a ∷ added) old new n w (inl e) = added_old added w.0 new n w.1.1 (subst (Has w.0) e (once_new a old w.0 w.1.0))
added_new (a ∷ added) old new n w (inr h) = added_new added w.0 new n w.1.1 h

-- needs that are added each once are those of both lists
pub adds_each : (added old new : List Need) → AddsEach added old new → (n : Need) → Contains new n ↔ (Contains old n ⊎ Contains added n)
adds_each added old new adds n = (
  λ c. ⊎_elim (λ a. inl (contains_from_has old n a)) (λ b. inr (contains_from_has added n b)) (added_from added old new n adds (has_from_contains new n c)),
  λ w. contains_from_has new n (⊎_elim (λ a. added_old added old new n adds (has_from_contains old n a)) (λ b. added_new added old new n adds (has_from_contains added n b)) w),
)

-- needs that are added each once, and others after them, are added each once together
adds_append : (xs ys old mid new : List Need) → AddsEach xs old mid → AddsEach ys mid new → AddsEach (xs ++ ys) old new
adds_append [] ys old mid new first next = subst (λ (from : List Need). AddsEach ys from new) first next
adds_append (x ∷ xs) ys old mid new first next = (first.0, (first.1.0, adds_append xs ys first.0 mid new first.1.1 next))

once_long : (a : Need) (old mid : List Need) → AddsOnce a old mid → length mid ≤ length old + 1
once_long a old mid (inl there) = let same : length mid ≡ length old = ap length there.1 in omega (arith, same)
once_long a old mid (inr new) = let long : length mid ≡ length old + 1 = ap length new.1 ∙ length-append old (a ∷ []) in omega (arith, long)

-- no more needs are added than there are
pub adds_long : (added old new : List Need) → AddsEach added old new → length new ≤ length old + length added
adds_long [] old new adds = let same : length new ≡ length old = ap length adds in omega (arith, same)
adds_long (a ∷ added) old new adds =
    let one : length adds.0 ≤ length old + 1 = once_long a old adds.0 adds.1.0 in
    let more : length new ≤ length adds.0 + length added = adds_long added adds.0 new adds.1.1 in
    omega (arith, one, more)

-- ---- one step

-- the slots that are not the given ones
others : Slots → List Slots → List Slots
others given pending = filter (λ other. not (same_slots given other)) pending

others_parts : (given : Slots) (pending : List Slots) (other : Slots) → Contains (others given pending) other ↔ (Contains pending other × (other ≡ given → ⊥))
unfolding others
others_parts given pending other = (to, from)
  where
    apart : (b : Bool) → not b ≡ true → b ≡ true → ⊥
    apart true n e = false≢true n
    apart false n e = false≢true e

    passes : (b : Bool) → (b ≡ true → ⊥) → not b ≡ true
    passes true h = absurd (h refl)
    passes false h = refl

    to : Contains (filter (λ o. not (same_slots given o)) pending) other → Contains pending other × (other ≡ given → ⊥)
    to c =
        let w = has_filter (λ (o : Slots). not (same_slots given o)) pending other (has_from_contains _ other c) in
        (contains_from_has pending other w.1, λ e. apart (same_slots given other) w.0 (ap (same_slots given) e ∙ slots_itself given))

    from : Contains pending other × (other ≡ given → ⊥) → Contains (filter (λ o. not (same_slots given o)) pending) other
    from w = contains_from_has _ other (has_filtered (λ (o : Slots). not (same_slots given o)) pending other (passes (same_slots given other) (λ e. w.1 (sym (slots_equal given other e)))) (has_from_contains pending other w.0))

-- a note of slots
abbrev pub slots_note : ℕ → Slots → Note
slots_note q given = record { position = q; mark = slots given }

makes_note : (q : ℕ) (given : Slots) → MakesNotes q (IsMendMark given) (slots_note q given ∷ [])
makes_note q given = record {
  made = (refl, tt);
  marks = λ mark. (λ c. only mark (has_from_contains (slots given ∷ []) mark c), λ is. contains_from_has (slots given ∷ []) mark (there mark is));
}
  where
    only : (mark : Mark) → Has (slots given ∷ []) mark → IsMendMark given mark
    only (key k) (inl e) = cc
    only (key k) (inr h) = absurd h
    only (slots s) (inl e) = cc
    only (slots s) (inr h) = absurd h

    there : (mark : Mark) → IsMendMark given mark → Has (slots given ∷ []) mark
    there (key k) is = absurd is
    there (slots s) is = inl (ap slots (sym is))

-- what is right with slots pending is right with the rest pending once they are mended and noted
pub mend_step : (s : KeptRange) (h more : History) (q : ℕ) (given : Slots) (rest : List Slots) (found : KeptRows) → HasEntered h → is_range s.range.low s.range.high ≡ true → IsPrefix h more → s.kept.pending ≡ given ∷ rest → IsSoundAt s h q
    → found.pairs ≡ merged (pairs_where (λ k. not (is_some (bind s.join.output k given))) s.kept.rows) (pairs_where (is_asked s.join.output given s.range) (out s.join (below (take q h) s.rank)))
    → AddsEach (tree s.join given s.range (below (take q h) s.rank)) s.kept.needs found.needs
    → IsSoundAt (record s { kept = record { rows = found.pairs; needs = found.needs; pending = rest }; notes = noted s.notes (slots_note q given ∷ []) }) more q
mend_step s h more q given rest found entered bounds prefix is sound rows needs =
    let table = below (take q h) s.rank in
    let can : CanStand s h q = record { is_range = bounds; entered = entered; place = sound.place; stands = sound.stands } in
    let copies = pending_copies s h q given rest entered is sound in
    let first : Has s.kept.pending given = subst (λ ps. Has ps given) (sym is) (inl refl) in
    let left = others given s.kept.pending in
    let after : Kept = record { rows = found.pairs; needs = found.needs; pending = left } in
    let mends : IsMended s.join s.range table given s.kept after = record { rows = rows; needs = adds_each (tree s.join given s.range table) s.kept.needs found.needs needs; pending = others_parts given s.kept.pending } in
    let added = slots_note q given ∷ [] in
    let mended : IsSoundAt (record s { kept = after; notes = noted s.notes added }) h q = mended_is_sound s after given added h q can copies sound (contains_from_has s.kept.pending given first) mends (makes_note q given) in
    let t = record s { kept = after; notes = noted s.notes added } in
    let all : AllByRecursion (AreOutputSlots s.join) (given ∷ rest) = subst (AllByRecursion (AreOutputSlots s.join)) is sound.right.pending in
    let again : IsSoundAt (with_pending rest t) h q = repending t h q rest (λ other c. keeps other ((others_parts given s.kept.pending other).0 c)) all.1 (λ aggregates. absurd (false≢true (ap is_aggregate (sym copies) ∙ aggregates))) mended in
    sound_at_longer (with_pending rest t) h more q prefix again
  where
    keeps : (other : Slots) → Contains s.kept.pending other × (other ≡ given → ⊥) → Contains rest other
    keeps other w = drop_first (subst (λ ps. Has ps other) is (has_from_contains s.kept.pending other w.0))
      where
        drop_first : Has (given ∷ rest) other → Contains rest other
        drop_first (inl e) = absurd (w.1 (sym e))
        drop_first (inr h) = contains_from_has rest other h

-- ---- what is noted

all_dropped : {A : Type 0} (P : A → Type 0) (n : ℕ) (xs : List A) → AllByRecursion P xs → AllByRecursion P (drop n xs)
all_dropped P zero xs all = all
all_dropped P (suc n) [] all = all
all_dropped P (suc n) (x ∷ xs) all = all_dropped P n xs all.1

all_joined : {A : Type 0} (P : A → Type 0) (xs ys : List A) → AllByRecursion P xs → AllByRecursion P ys → AllByRecursion P (xs ++ ys)
all_joined P [] ys all more = more
all_joined P (x ∷ xs) ys all more = (all.0, all_joined P xs ys all.1 more)

-- what all notes have, and one more has, all have afterwards
pub noted_all : (P : Note → Type 0) (notes : Notes) (added : List Note) → AllByRecursion P notes.list → AllByRecursion P added → AllByRecursion P (noted notes added).list
noted_all P notes added all more = all_dropped P (length (notes.list ++ added) - note_limit) (notes.list ++ added) (all_joined P notes.list added all more)

-- where there is room for one note more, none is pushed out
pub noted_room : (notes : Notes) (note : Note) → length notes.list + 1 ≤ note_limit → ((noted notes (note ∷ [])).start ≡ notes.start) × (length (noted notes (note ∷ [])).list ≡ length notes.list + 1)
noted_room notes note room =
    let all : List Note = notes.list ++ note ∷ [] in
    let long : length all ≡ length notes.list + 1 = length-append notes.list (note ∷ []) in
    let none : length all - note_limit ≡ 0 = omega arith in
    (ap (λ n. last_dropped notes.start n all) none, ap (λ n. length (drop n all)) none ∙ long)

-- ---- what is read over a longer history

pub bare_longer : (s : Subject) (h more : History) (q : ℕ) (given : Slots) → IsPrefix h more → q ≤ length h → AreBareFor s h q given → AreBareFor s more q given
bare_longer s h more q given prefix within bare =
    subst (λ (es : History). AreBare (joins_of es) (tree s.join given s.range (below es s.rank))) (sym (take_prefix q h more within prefix)) bare

pub steps_longer : (s : Subject) (h more : History) (q : ℕ) (given : Slots) → IsPrefix h more → q ≤ length h → steps_for s more q given ≡ steps_for s h q given
steps_longer s h more q given prefix within = ap (λ (es : History). reading_steps (tree s.join given s.range (below es s.rank)) (below es s.rank)) (take_prefix q h more within prefix)

-- ---- pending slots in two parts

parted_has : (test : Slots → Bool) (all : List Slots) (other : Slots) → Has all other → Has (filter test all ++ filter (λ o. not (test o)) all) other
parted_has test all other h = by_test (test other) refl
  where
    by_test : (b : Bool) → test other ≡ b → Has (filter test all ++ filter (λ o. not (test o)) all) other
    by_test true e = has_append_left (filter test all) (filter (λ o. not (test o)) all) other (has_filtered test all other e h)
    by_test false e = has_append_right (filter test all) (filter (λ o. not (test o)) all) other (has_filtered (λ o. not (test o)) all other (ap not e) h)

-- what is right stays right where those of the pending slots that meet a test come first
pub parted_sound : (s : KeptRange) (h : History) (q : ℕ) (test : Slots → Bool) (taken left : List Slots) → taken ≡ filter test s.kept.pending → left ≡ filter (λ o. not (test o)) s.kept.pending → IsSoundAt s h q
    → IsSoundAt (with_pending (taken ++ left) s) h q
parted_sound s h q test taken left is_taken is_left sound =
    let all = s.kept.pending in
    let parts = filter test all ++ filter (λ o. not (test o)) all in
    let is : parts ≡ taken ++ left = (λ i. sym is_taken i ++ sym is_left i) in
    let back : (other : Slots) → Has parts other → Has all other = λ other g. ⊎_elim (λ a. (has_filter test all other a).1) (λ b. (has_filter (λ o. not (test o)) all other b).1) (has_append_cases (filter test all) (filter (λ o. not (test o)) all) other g) in
    subst (λ (ps : List Slots). IsSoundAt (with_pending ps s) h q) is
    (repending s h q parts (λ other c. contains_from_has parts other (parted_has test all other (has_from_contains all other c)))
    (all_from_has (AreOutputSlots s.join) parts (λ other g. has_of_all (AreOutputSlots s.join) all other sound.right.pending (back other g)))
    (λ aggregates. ap (λ (ps : List Slots). filter test ps ++ filter (λ o. not (test o)) ps) (sound.listed aggregates).pending) sound)

-- none of those that are left meets the test
pub none_left : (test : Slots → Bool) (all : List Slots) → list_any test (filter (λ o. not (test o)) all) ≡ false
none_left test all = by_test (list_any test (filter (λ o. not (test o)) all)) refl
  where
    by_test : (b : Bool) → list_any test (filter (λ o. not (test o)) all) ≡ b → b ≡ false
    by_test false e = refl
    by_test true e =
        let w = has_from_any test (filter (λ o. not (test o)) all) e in
        absurd (false≢true (sym (ap not w.2) ∙ (has_filter (λ o. not (test o)) all w.0 w.1).0))

-- what mending a range takes where it stands, in the words of what is held
pub mending_takes : (s : Subject) (held : Holding) (h : History) (range : Range) (taken : List Slots) (old new : ℕ) → taken ≡ filter (meets_output s.join.output range) held.pending.noted
    → (AreAllBare s h held.position taken → new ≤ old + steps_under s h held.position taken)
    → (q : ℕ) → StandsAt q (range_kept s held) → AreBareUnder (range_kept s held) h q range → new ≤ old + mend_steps (range_kept s held) (below (take q h) s.rank) range
mending_takes s held h range taken old new is cost q stands bare =
    let e : held.position ≡ q = same_Some held.position q stands in
    let P : ℕ → Type 0 = λ p. AreBareUnder (range_kept s held) h p range → new ≤ old + mend_steps (range_kept s held) (below (take p h) s.rank) range in
    let here : P held.position = λ b.
    subst (λ (ts : List Slots). new ≤ old + steps_under s h held.position ts) is (cost (subst (λ (ts : List Slots). AreAllBare s h held.position ts) (sym is) b)) in
    subst P e here bare

-- and what it takes at least
pub mending_counts : (s : Subject) (held : Holding) (h : History) (range : Range) (taken : List Slots) (old new : ℕ) → taken ≡ filter (meets_output s.join.output range) held.pending.noted
    → old + steps_under s h held.position taken ≤ new
    → (q : ℕ) → StandsAt q (range_kept s held) → old + mend_steps (range_kept s held) (below (take q h) s.rank) range ≤ new
mending_counts s held h range taken old new is least q stands =
    let e : held.position ≡ q = same_Some held.position q stands in
    let P : ℕ → Type 0 = λ p. old + mend_steps (range_kept s held) (below (take p h) s.rank) range ≤ new in
    let here : P held.position = subst (λ (ts : List Slots). old + steps_under s h held.position ts ≤ new) is least in
    subst P e here

-- which needs it adds
pub mending_adds : (s : Subject) (held : Holding) (h : History) (range : Range) (taken : List Slots) (new : List Need) → taken ≡ filter (meets_output s.join.output range) held.pending.noted
    → AddsEach (needs_under_each s.join s.range (below (take held.position h) s.rank) taken) held.rows.needs new
    → (q : ℕ) → StandsAt q (range_kept s held) → AddsEach (needs_under_each s.join s.range (below (take q h) s.rank) (meeting (range_kept s held) range)) held.rows.needs new
mending_adds s held h range taken new is adds q stands =
    let e : held.position ≡ q = same_Some held.position q stands in
    subst (λ (w : ℕ × List Slots). AddsEach (needs_under_each s.join s.range (below (take w.0 h) s.rank) w.1) held.rows.needs new) (λ i. (e i, is i)) adds

-- and which notes it makes
pub mending_notes : (s : Subject) (held : Holding) (range : Range) (taken : List Slots) (new : Notes) → taken ≡ filter (meets_output s.join.output range) held.pending.noted
    → new ≡ noted held.notes (mend_notes held.position taken)
    → (q : ℕ) → StandsAt q (range_kept s held) → new ≡ noted held.notes (mend_notes q (meeting (range_kept s held) range))
mending_notes s held range taken new is made q stands =
    let e : held.position ≡ q = same_Some held.position q stands in
    made ∙ (λ i. noted held.notes (mend_notes (e i) (is i)))

-- and that it would have too many needs
pub mending_exceeds : (most : Option ℕ) (s : Subject) (held : Holding) (h : History) (range : Range) (taken : List Slots) → taken ≡ filter (meets_output s.join.output range) held.pending.noted
    → Exceeds most (length held.rows.needs + length (needs_under_each s.join s.range (below (take held.position h) s.rank) taken))
    → (q : ℕ) → StandsAt q (range_kept s held) → MendsTooMany most (below (take q h) s.rank) range (range_kept s held)
mending_exceeds most s held h range taken is many q stands =
    let e : held.position ≡ q = same_Some held.position q stands in
    subst (λ (w : ℕ × List Slots). Exceeds most (length held.rows.needs + length (needs_under_each s.join s.range (below (take w.0 h) s.rank) w.1))) (λ i. (e i, is i)) many

-- ---- slot by slot

-- whatever needs are added under the slots that are left make those that are added under all
abbrev pub AddsLeft : Join → Range → Table → List Slots → List Slots → List Need → List Need → Type 0
AddsLeft j range table taken rest old now =
    (new : List Need) → AddsEach (needs_under_each j range table rest) now new → AddsEach (needs_under_each j range table taken) old new

-- one of the slots that are left is mended
pub needs_next : (j : Join) (range : Range) (table here : Table) (given : Slots) (taken all rest : List Slots) (old now next : List Need) → here ≡ table → all ≡ given ∷ rest → AddsEach (tree j given range here) now next
    → AddsLeft j range table taken all old now → AddsLeft j range table taken rest old next
needs_next j range table here given taken all rest old now next at first adds so_far new later =
    let left : AddsLeft j range table taken (given ∷ rest) old now = subst (λ (ss : List Slots). AddsLeft j range table taken ss old now) first so_far in
    let one : AddsEach (tree j given range table) now next = subst (λ (t : Table). AddsEach (tree j given range t) now next) at adds in
    left new (adds_append (tree j given range table) (needs_under_each j range table rest) now next new one later)

-- once none is left, the needs under all are added
pub needs_end : (j : Join) (range : Range) (table : Table) (taken rest : List Slots) (old new : List Need) → length rest ≡ 0 → AddsLeft j range table taken rest old new → AddsEach (needs_under_each j range table taken) old new
needs_end j range table taken [] old new none all = all new refl
needs_end j range table taken (x ∷ xs) old new none all = absurd (omega arith)

-- nothing more is read
pub steps_end : (s : Subject) (h : History) (q : ℕ) (rest : List Slots) → length rest ≡ 0 → steps_under s h q rest ≡ 0
steps_end s h q [] none = refl
steps_end s h q (x ∷ xs) none = absurd (omega arith)

-- and the notes of all are made
pub notes_end : (now old : Notes) (q : ℕ) (rest taken : List Slots) → length rest ≡ 0 → length now.list ≤ note_limit → noted now (mend_notes q rest) ≡ noted old (mend_notes q taken) → now ≡ noted old (mend_notes q taken)
notes_end now old q [] taken none few all = sym (noted_none now few) ∙ all
notes_end now old q (x ∷ xs) taken none few all = absurd (omega arith)
