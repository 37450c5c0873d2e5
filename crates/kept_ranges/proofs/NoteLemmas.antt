-- Notes in the order in which they were made, and what is kept of them.
use Rattle.std.proofs.Common.{◌≡◌, ℕ, zero, suc, ◌-◌, ◌≤◌, ◌&&◌, ◌||◌, List, [], ◌∷◌, ◌++◌, length, drop, false, nat_lt, refl, sym, ap, ◌∙◌, arith}
use Rattle.std.specs.List.{AllByRecursion}
use Rattle.std.proofs.lemmas.Bool.{le-ltb}
use Rattle.semantics.specs.Texts.{Text}
use Rattle.semantics.specs.Patterns.{Pattern}
use Rattle.kept_ranges.specs.Notes.{Note, marks, is_noted, note_limit, AreInOrder, last_dropped}
use Rattle.kept_ranges.specs.SoundLaws.{NotedInOrder, NotedKeepsLater}

-- ---- the order

-- notes that are made at a later position may follow
order-append : (first q p : ℕ) (notes added : List Note) → q ≤ p → AreInOrder first q notes → AllByRecursion (λ note. note.position ≡ p) added → AreInOrder first p (notes ++ added)
order-append first q p (note ∷ notes) added le h made = (h.0, order-append note.position q p notes added le h.1 made)
order-append first q p [] added le h made = of_added first p added (let l : first ≤ q = h in omega arith) made
  where
    of_added : (first p : ℕ) (added : List Note) → first ≤ p → AllByRecursion (λ note. note.position ≡ p) added → AreInOrder first p added
    of_added first p [] le made = le
    of_added first p (note ∷ added) le made = (let e : note.position ≡ p = made.0 in omega arith, of_added note.position p added (let e : note.position ≡ p = made.0 in omega arith) made.1)

-- the first notes left out, the order goes on from the last of them, which was not made before the first position
order-drop : (first last dropped : ℕ) (notes : List Note) → AreInOrder first last notes → (first ≤ last_dropped first dropped notes) × AreInOrder (last_dropped first dropped notes) last (drop dropped notes)
order-drop first last zero notes h = (omega arith, h)
order-drop first last (suc dropped) [] h = (omega arith, h)
order-drop first last (suc dropped) (note ∷ notes) h =
    let rest = order-drop note.position last dropped notes h.1 in
    (let l : first ≤ note.position = h.0 in let m : note.position ≤ last_dropped note.position dropped notes = rest.0 in omega arith, rest.1)

pub noted_in_order : NotedInOrder
noted_in_order q p notes added le h made = order-drop notes.start p (length (notes.list ++ added) - note_limit) (notes.list ++ added) (order-append notes.start q p notes.list added le h made)

-- ---- what is kept

not_after : (u position : ℕ) → position ≤ u → nat_lt u position ≡ false
not_after u position le = le-ltb u position le

-- none of the first notes that are left out was made after a position at which the notes start, or a later one
later-drop : (output : Pattern) (k : Text) (u first last dropped : ℕ) (notes : List Note) → AreInOrder first last notes → last_dropped first dropped notes ≤ u → is_noted output u (drop dropped notes) k ≡ is_noted output u notes k
later-drop output k u first last zero notes h le = refl
later-drop output k u first last (suc dropped) [] h le = refl
later-drop output k u first last (suc dropped) (note ∷ notes) h le =
    let before : note.position ≤ last_dropped note.position dropped notes = (order-drop note.position last dropped notes h.1).0 in
    later-drop output k u note.position last dropped notes h.1 le
    ∙ ap (λ b. b && marks output k note.mark || is_noted output u notes k) (sym (not_after u note.position (omega arith)))

pub noted_keeps_later : NotedKeepsLater
noted_keeps_later q p u notes added output k le h made starts =
    later-drop output k u notes.start p (length (notes.list ++ added) - note_limit) (notes.list ++ added) (order-append notes.start q p notes.list added le h made) starts
