-- One note more in a ring that has room for it, or as much as there may be.
use Rattle.std.proofs.Common.{◌≡◌, ◌⊎◌, ℕ, ◌+◌, ◌-◌, ◌<◌, ◌≤◌, List, [], ◌∷◌, ◌++◌, length, drop, slice_get, Bool, true, false, cond, nat_lt, None, option_map, unwrap_or, refl, sym, ap, ◌∙◌, ⊎_elim, arith, length-append, ltb-true, ltb-false}
use Rattle.circular_buffer.specs.Buffer.{keep_last}
use Rattle.kept_ranges.specs.Notes.{Note, Notes, note_limit, last_dropped, noted}

abbrev pub notes_of : ℕ → List Note → Notes
notes_of start list = record { start = start; list = list }

-- the position of a note that is pushed out of a full ring, or the given one
abbrev pushed_out : Bool → List Note → ℕ → ℕ
pushed_out room all start = unwrap_or (option_map (λ n. n.position) (cond room None (slice_get all 0))) start

pub added_one : (notes : Notes) (capacity : ℕ) (note : Note) → length notes.list ≤ capacity → capacity ≤ note_limit → (length notes.list < capacity) ⊎ (capacity ≡ note_limit)
    → notes_of (pushed_out (nat_lt (length notes.list) capacity) (notes.list ++ note ∷ []) notes.start) (keep_last capacity (notes.list ++ note ∷ [])) ≡ noted notes (note ∷ [])
added_one notes capacity note within limit room = by_test (nat_lt (length notes.list) capacity) refl
  where
    all : List Note
    all = notes.list ++ note ∷ []

    first_out : (start : ℕ) (ns : List Note) → 0 < length ns → pushed_out false (ns ++ note ∷ []) start ≡ last_dropped start 1 (ns ++ note ∷ [])
    first_out start [] some = absurd (omega arith)
    first_out start (n ∷ ns) some = refl

    both : (start other : ℕ) (ns others : List Note) → start ≡ other → ns ≡ others → notes_of start ns ≡ notes_of other others
    both start other ns others e f = λ i. notes_of (e i) (f i)

    by_test : (b : Bool) → nat_lt (length notes.list) capacity ≡ b → notes_of (pushed_out (nat_lt (length notes.list) capacity) all notes.start) (keep_last capacity all) ≡ noted notes (note ∷ [])
    by_test true e =
        let less : length notes.list < capacity = ltb-true (length notes.list) capacity e in
        let l : length all ≡ length notes.list + 1 = length-append notes.list (note ∷ []) in
        let none : length all - note_limit ≡ 0 = omega arith in
        let out : length all - capacity ≡ 0 = omega arith in
        both _ _ _ _ (ap (λ b. pushed_out b all notes.start) e ∙ sym (ap (λ d. last_dropped notes.start d all) none)) (ap (λ d. drop d all) (out ∙ sym none))
    by_test false e =
        let past : capacity ≤ length notes.list = ltb-false (length notes.list) capacity e in
        let is : capacity ≡ note_limit = ⊎_elim (λ less. absurd (omega arith)) (λ is. is) room in
        let l : length all ≡ length notes.list + 1 = length-append notes.list (note ∷ []) in
        let one : length all - note_limit ≡ 1 = omega arith in
        both _ _ _ _ (ap (λ b. pushed_out b all notes.start) e ∙ first_out notes.start notes.list (omega arith) ∙ sym (ap (λ d. last_dropped notes.start d all) one)) (ap (λ c. drop (length all - c) all) is)
