-- Notes that are added in parts, and what is noted on the way through a list.
use Rattle.std.proofs.Common.{◌≡◌, ◌↔◌, ℕ, zero, suc, ◌+◌, ◌-◌, ◌<◌, ◌≤◌, ◌⊎◌, List, [], ◌∷◌, ◌++◌, length, map, take, drop, get_or, Contains, refl, sym, ap, ◌∙◌, subst, inl, inr, ⊎_elim, arith, length-append, append_assoc}
use Rattle.std.proofs.lemmas.List.{append-nil, map-append, length-drop, take_more, take_all}
use Rattle.semantics.specs.Texts.{Text}
use Rattle.semantics.specs.Patterns.{Slots}
use Rattle.semantics.proofs.MemberLemmas.{Has, has_from_contains, contains_from_has, has_append_left, has_append_right, has_append_cases}
use Rattle.lazy_log.specs.Pending.{NotesOnce}
use Rattle.kept_ranges.specs.Notes.{key, slots, Note, Notes, note_limit, last_dropped, noted}
use Rattle.kept_ranges.specs.Rules.{Touch, Application, AddsTouched}
use Rattle.range_state.specs.Valued.{ValuedApplication, all_unvalued}
use Rattle.range_state.specs.Advanced.{touch_notes, key_notes, slots_touched}
use Rattle.range_state.specs.Work.{NotesEach}

-- ---- first notes that are left out

-- where there are no notes, the position stays
last_of_none : (start d : ℕ) → last_dropped start d [] ≡ start
last_of_none start zero = refl
last_of_none start (suc d) = refl

-- the last of the first notes, found in two steps
last_more : (start d e f : ℕ) (zs : List Note) → f ≡ d + e → last_dropped (last_dropped start d zs) e (drop d zs) ≡ last_dropped start f zs
last_more start zero e f zs is = let same : e ≡ f = omega arith in ap (λ n. last_dropped start n zs) same
last_more start (suc d) e zero zs is = absurd (omega arith)
last_more start (suc d) e (suc f) [] is = last_of_none start e
last_more start (suc d) e (suc f) (z ∷ zs) is = last_more z.position d e f zs (omega arith)

-- first notes left out in two steps
drop_more : (d e f : ℕ) (zs : List Note) → f ≡ d + e → drop e (drop d zs) ≡ drop f zs
drop_more zero e f zs is = let same : e ≡ f = omega arith in ap (λ n. drop n zs) same
drop_more (suc d) e zero zs is = absurd (omega arith)
drop_more (suc d) zero (suc f) [] is = refl
drop_more (suc d) (suc e) (suc f) [] is = refl
drop_more (suc d) e (suc f) (z ∷ zs) is = drop_more d e f zs (omega arith)

-- notes that follow change nothing in the first ones
last_before : (start d : ℕ) (xs more : List Note) → d ≤ length xs → last_dropped start d xs ≡ last_dropped start d (xs ++ more)
last_before start zero xs more le = refl
last_before start (suc d) [] more le = absurd (omega arith)
last_before start (suc d) (x ∷ xs) more le = last_before x.position d xs more (omega arith)

drop_before : (d : ℕ) (xs more : List Note) → d ≤ length xs → drop d xs ++ more ≡ drop d (xs ++ more)
drop_before zero xs more le = refl
drop_before (suc d) [] more le = absurd (omega arith)
drop_before (suc d) (x ∷ xs) more le = drop_before d xs more (omega arith)

-- ---- notes that are added

-- to add notes in two parts is to add them all
pub noted_parts : (n : Notes) (a b : List Note) → noted (noted n a) b ≡ noted n (a ++ b)
noted_parts n a b =
    let xs = n.list ++ a in
    let d = length xs - note_limit in
    let kept = drop d xs in
    let e = length (kept ++ b) - note_limit in
    let f = length (n.list ++ (a ++ b)) - note_limit in
    let fits : d ≤ length xs = omega arith in
    let whole : xs ++ b ≡ n.list ++ (a ++ b) = append_assoc n.list a b in
    let left : length kept ≡ length xs - d = length-drop d xs in
    let first : length (kept ++ b) ≡ length kept + length b = length-append kept b in
    let second : length (xs ++ b) ≡ length xs + length b = length-append xs b in
    let third : length (n.list ++ (a ++ b)) ≡ length (xs ++ b) = ap length (sym whole) in
    let sum : f ≡ d + e = omega arith in
    let rest : kept ++ b ≡ drop d (xs ++ b) = drop_before d xs b fits in
    let start : last_dropped (last_dropped n.start d xs) e (kept ++ b) ≡ last_dropped n.start f (n.list ++ (a ++ b)) =
    ap (λ s. last_dropped s e (kept ++ b)) (last_before n.start d xs b fits)
    ∙ ap (last_dropped (last_dropped n.start d (xs ++ b)) e) rest
    ∙ last_more n.start d e f (xs ++ b) sum
    ∙ ap (last_dropped n.start f) whole in
    let list : drop e (kept ++ b) ≡ drop f (n.list ++ (a ++ b)) = ap (drop e) rest ∙ drop_more d e f (xs ++ b) sum ∙ ap (drop f) whole in
    λ i. record { start = start i; list = list i }

-- to add none changes nothing
pub noted_none : (n : Notes) → length n.list ≤ note_limit → noted n [] ≡ n
noted_none n few =
    let whole : n.list ++ [] ≡ n.list = append-nil n.list in
    let same : length (n.list ++ []) ≡ length n.list = ap length whole in
    let none : length (n.list ++ []) - note_limit ≡ 0 = omega arith in
    let start : last_dropped n.start (length (n.list ++ []) - note_limit) (n.list ++ []) ≡ n.start = ap (λ d. last_dropped n.start d (n.list ++ [])) none in
    let list : drop (length (n.list ++ []) - note_limit) (n.list ++ []) ≡ n.list = ap (λ d. drop d (n.list ++ [])) none ∙ whole in
    λ i. record { start = start i; list = list i }

-- there are no more notes than are kept at most
pub noted_few : (n : Notes) (added : List Note) → length (noted n added).list ≤ note_limit
noted_few n added =
    let left : length (drop (length (n.list ++ added) - note_limit) (n.list ++ added)) ≡ length (n.list ++ added) - (length (n.list ++ added) - note_limit) = length-drop (length (n.list ++ added) - note_limit) (n.list ++ added) in
    omega arith

-- where there is room for all, the start stays
pub noted_start : (n : Notes) (added : List Note) → length n.list + length added ≤ note_limit → (noted n added).start ≡ n.start
noted_start n added room =
    let all : length (n.list ++ added) ≡ length n.list + length added = length-append n.list added in
    let none : length (n.list ++ added) - note_limit ≡ 0 = omega arith in
    ap (λ d. last_dropped n.start d (n.list ++ added)) none

-- one note more of a list
pub noted_one : {A : Type 0} (f : A → Note) (old now next : Notes) (xs : List A) (i : ℕ) (x : A) → i < length xs → x ≡ get_or xs i x → now ≡ noted old (map f (take i xs)) → next ≡ noted now (f x ∷ [])
    → next ≡ noted old (map f (take (i + 1) xs))
noted_one f old now next xs i x less is so_far one =
    one
    ∙ ap (λ n. noted n (f x ∷ [])) so_far
    ∙ noted_parts old (map f (take i xs)) (f x ∷ [])
    ∙ ap (noted old) (sym (map-append f (take i xs) (x ∷ [])) ∙ ap (map f) (ap (λ y. take i xs ++ y ∷ []) is ∙ sym (take_more xs i x less)))

-- the notes of applications are those of their output keys, whatever they carry
pub notes_unvalued : (p : ℕ) (applying : List ValuedApplication) → key_notes p (all_unvalued applying) ≡ map (λ (a : ValuedApplication). record { position = p; mark = key a.output }) applying
notes_unvalued p [] = refl
notes_unvalued p (a ∷ rest) = ap (λ notes. record { position = p; mark = key a.output } ∷ notes) (notes_unvalued p rest)

-- one note of those that are left
pub noted_next : (now next : Notes) (note : Note) (rest : List Note) → next ≡ noted now (note ∷ []) → noted next rest ≡ noted now (note ∷ rest)
noted_next now next note rest one = ap (λ n. noted n rest) one ∙ noted_parts now (note ∷ []) rest

-- ---- slots that are pending

-- what is pending, with the slots of the touches that are left, is what was pending before with those of all
abbrev pub AddsRest : List Touch → List Touch → List Slots → List Slots → Type 0
AddsRest touched rest old now = (s : Slots) → (Contains now s ⊎ Contains (slots_touched rest) s) ↔ (Contains old s ⊎ Contains (slots_touched touched) s)

-- one of the touches that are left is noted
pub adds_next : (touched rest : List Touch) (t : Touch) (old now next : List Slots) → AddsRest touched (t ∷ rest) old now → NotesOnce t.slots now next → AddsRest touched rest old next
adds_next touched rest t old now next so_far once s = (λ h. (so_far s).0 (forth once h), λ h. back once ((so_far s).1 h))
  where
    here : t.slots ≡ s → Contains (slots_touched (t ∷ rest)) s
    here e = contains_from_has (slots_touched (t ∷ rest)) s (inl e)

    later : Contains (slots_touched rest) s → Contains (slots_touched (t ∷ rest)) s
    later h = contains_from_has (slots_touched (t ∷ rest)) s (inr (has_from_contains (slots_touched rest) s h))

    forth : NotesOnce t.slots now next → Contains next s ⊎ Contains (slots_touched rest) s → Contains now s ⊎ Contains (slots_touched (t ∷ rest)) s
    forth once (inr h) = inr (later h)
    forth (inl there) (inl h) = inl (subst (λ ss. Contains ss s) there.1 h)
    forth (inr apart) (inl h) = ⊎_elim
        (λ (old : Has now s). inl (contains_from_has now s old))
        (λ (new : Has (t.slots ∷ []) s). inr (by_new new))
        (has_append_cases now (t.slots ∷ []) s (has_from_contains (now ++ t.slots ∷ []) s (subst (λ ss. Contains ss s) apart.1 h)))
      where
        by_new : Has (t.slots ∷ []) s → Contains (slots_touched (t ∷ rest)) s
        by_new (inl e) = here e
        by_new (inr h) = absurd h

    stays : NotesOnce t.slots now next → Contains now s → Contains next s
    stays (inl there) h = subst (λ ss. Contains ss s) (sym there.1) h
    stays (inr apart) h = subst (λ ss. Contains ss s) (sym apart.1) (contains_from_has (now ++ t.slots ∷ []) s (has_append_left now (t.slots ∷ []) s (has_from_contains now s h)))

    comes : NotesOnce t.slots now next → t.slots ≡ s → Contains next s
    comes (inl there) e = subst (λ ss. Contains ss s) (sym there.1) (subst (Contains now) e there.0)
    comes (inr apart) e = subst (λ ss. Contains ss s) (sym apart.1) (contains_from_has (now ++ t.slots ∷ []) s (has_append_right now (t.slots ∷ []) s (inl e)))

    of_rest : NotesOnce t.slots now next → Has (slots_touched (t ∷ rest)) s → Contains next s ⊎ Contains (slots_touched rest) s
    of_rest once (inl e) = inl (comes once e)
    of_rest once (inr h) = inr (contains_from_has (slots_touched rest) s h)

    back : NotesOnce t.slots now next → Contains now s ⊎ Contains (slots_touched (t ∷ rest)) s → Contains next s ⊎ Contains (slots_touched rest) s
    back once (inl h) = inl (stays once h)
    back once (inr h) = of_rest once (has_from_contains (slots_touched (t ∷ rest)) s h)

-- once none is left, the touched slots are pending
pub adds_all : (touched rest : List Touch) (old new : List Slots) → length rest ≡ 0 → AddsRest touched rest old new → AddsTouched touched old new
adds_all touched [] old new none all s = (λ h. (all s).0 (inl h), λ h. ⊎_elim (λ (there : Contains new s). there) (λ (left : Contains (slots_touched []) s). absurd (has_from_contains (slots_touched []) s left)) ((all s).1 h))
adds_all touched (t ∷ rest) old new none all s = absurd (omega arith)

-- whatever is noted for the touches that are left makes what is noted for all
abbrev pub NotesRest : List Touch → List Touch → List Slots → List Slots → Type 0
NotesRest touched rest old now = (new : List Slots) → NotesEach (slots_touched rest) now new → NotesEach (slots_touched touched) old new

-- one of the touches that are left is noted once
pub once_next : (touched left rest : List Touch) (t : Touch) (old now next : List Slots) → left ≡ t ∷ rest → NotesOnce t.slots now next → NotesRest touched left old now → NotesRest touched rest old next
once_next touched left rest t old now next steps once so_far new later =
    let all : NotesRest touched (t ∷ rest) old now = subst (λ (ts : List Touch). NotesRest touched ts old now) steps so_far in
    all new (next, (once, later))

-- once none is left, each is noted once
pub once_all : (touched rest : List Touch) (old new : List Slots) → length rest ≡ 0 → NotesRest touched rest old new → NotesEach (slots_touched touched) old new
once_all touched [] old new none all = all new refl
once_all touched (t ∷ rest) old new none all = absurd (omega arith)

-- ---- keys of touches

-- one key more of the touches that are left
pub keys_next : (keys next all : List Text) (given : Text) (t : Touch) (left rest : List Touch) → next ≡ keys ++ given ∷ [] → given ≡ t.key → left ≡ t ∷ rest → keys ++ map (λ touch. touch.key) left ≡ all → next ++ map (λ touch. touch.key) rest ≡ all
keys_next keys next all given t left rest one is steps so_far =
    ap (λ ks. ks ++ map (λ touch. touch.key) rest) (one ∙ ap (λ k. keys ++ k ∷ []) is)
    ∙ append_assoc keys (t.key ∷ []) (map (λ touch. touch.key) rest)
    ∙ ap (λ ts. keys ++ map (λ touch. touch.key) ts) (sym steps)
    ∙ so_far
