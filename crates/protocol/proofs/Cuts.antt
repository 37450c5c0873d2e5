-- How a text is cut at its bytes 10: piece by piece, and line by line.
use Rattle.std.proofs.Common.{◌≡◌, ℕ, ◌<◌, ◌≤◌, ◌==◌, List, [], ◌∷◌, ◌++◌, length, Bool, true, false, refl, sym, ap, ap₂, ◌∙◌, arith, append_assoc, append-nil, inl, inr, ◌⊎◌}
use Rattle.std.specs.Prelude.{nat_lt, if◌then◌else◌}
use Rattle.std.proofs.lemmas.Bool.{eq-eqb, lt-ltb, le-ltb, or_parts}
use Rattle.std.specs.List.{list_any}
use Rattle.semantics.specs.Texts.{Text}
use Rattle.semantics.specs.Patterns.{pieces}
use Rattle.protocol.specs.Lines.{line_limit, Cut, no_lines, long_mark, onto_lines, last_line, cut_pieces, lines_of}
use Rattle.protocol.proofs.OneLine.{has_feed}

-- ---- pieces

-- a first piece, and those after it
abbrev HasFirst : ℕ → Text → Type 0
HasFirst c t = (first : Text) × (others : List Text) × (pieces c t ≡ first ∷ others)

-- the byte ends a piece
cut_here : (c b : ℕ) (bs : Text) → (b == c) ≡ true → pieces c (b ∷ bs) ≡ [] ∷ pieces c bs
cut_here c b bs e = rw e

-- another byte goes to the first piece
cut_later : (c b : ℕ) (bs first : Text) (others : List Text) → (b == c) ≡ false → pieces c bs ≡ first ∷ others → pieces c (b ∷ bs) ≡ (b ∷ first) ∷ others
cut_later c b bs first others e found = rw (e, found)

-- the first piece, where it is known whether the byte ends it
first_by : (c b : ℕ) (bs : Text) (cut : Bool) → (b == c) ≡ cut → HasFirst c bs → HasFirst c (b ∷ bs)
first_by c b bs true e found = ([], pieces c bs, cut_here c b bs e)
first_by c b bs false e found = (b ∷ found.0, found.1, cut_later c b bs found.0 found.1 e found.2)

-- a text has a first piece
pub first_piece : (c : ℕ) (t : Text) → HasFirst c t
first_piece c [] = ([], [], refl)
first_piece c (b ∷ bs) = first_by c b bs (b == c) refl (first_piece c bs)

-- the pieces of both parts, where it is known whether the first byte cuts
split_by : (c b : ℕ) (bs rest : Text) (cut : Bool) → (b == c) ≡ cut → HasFirst c bs → pieces c (bs ++ c ∷ rest) ≡ pieces c bs ++ pieces c rest →
    pieces c (b ∷ (bs ++ c ∷ rest)) ≡ pieces c (b ∷ bs) ++ pieces c rest
split_by c b bs rest true e found split = cut_here c b (bs ++ c ∷ rest) e ∙ ap (λ all. [] ∷ all) split ∙ ap (λ all. all ++ pieces c rest) (sym (cut_here c b bs e))
split_by c b bs rest false e found split =
    cut_later c b (bs ++ c ∷ rest) found.0 (found.1 ++ pieces c rest) e (split ∙ ap (λ all. all ++ pieces c rest) found.2)
    ∙ ap (λ all. all ++ pieces c rest) (sym (cut_later c b bs found.0 found.1 e found.2))

-- a text in two parts with the byte between them has the pieces of both
pub pieces-split : (c : ℕ) (front rest : Text) → pieces c (front ++ c ∷ rest) ≡ pieces c front ++ pieces c rest
pieces-split c [] rest = cut_here c c rest (eq-eqb c c refl)
pieces-split c (b ∷ bs) rest = split_by c b bs rest (b == c) refl (first_piece c bs) (pieces-split c bs rest)

-- a text without the byte is one piece
pub pieces-whole : (c : ℕ) (t : Text) → list_any (λ b. b == c) t ≡ false → pieces c t ≡ t ∷ []
pieces-whole c [] none = refl
pieces-whole c (b ∷ bs) none =
    let parts = or_parts (b == c) _ none in
    cut_later c b bs bs [] parts.0 (pieces-whole c bs parts.1)

-- what stands before the first byte is the first piece
pub pieces-first : (c : ℕ) (front rest : Text) → list_any (λ b. b == c) front ≡ false → pieces c (front ++ c ∷ rest) ≡ front ∷ pieces c rest
pieces-first c front rest none = pieces-split c front rest ∙ ap (λ all. all ++ pieces c rest) (pieces-whole c front none)

-- ---- cuts

-- the lines of a second part after those of the first, unless a line of the first is too long
abbrev pub then_cut : Cut → Cut → Cut
then_cut first second = if first.long then first else record { lines = first.lines ++ second.lines; long = second.long }

-- a piece before others is a whole line
cut_pieces-cons : (ended : Bool) (t : Text) (ts us : List Text) (u : Text) →
    cut_pieces ended (t ∷ (ts ++ u ∷ us)) ≡ (if nat_lt line_limit (length t) then long_mark else onto_lines t (cut_pieces ended (ts ++ u ∷ us)))
cut_pieces-cons ended t [] us u = refl
cut_pieces-cons ended t (s ∷ ts) us u = refl

-- a line before the first part stands before both
onto_lines-then_cut : (line : Text) (lines : List Text) (long : Bool) (second : Cut) →
    onto_lines line (then_cut (record { lines = lines; long = long }) second) ≡ then_cut (onto_lines line (record { lines = lines; long = long })) second
onto_lines-then_cut line lines true second = refl
onto_lines-then_cut line lines false second = refl

-- the same, where it is known whether the line is too long
either_cut : (too_long : Bool) (line : Text) (first second : Cut) →
    (if too_long then long_mark else onto_lines line (then_cut first second)) ≡ then_cut (if too_long then long_mark else onto_lines line first) second
either_cut true line first second = refl
either_cut false line first second = onto_lines-then_cut line first.lines first.long second

-- pieces in two parts, where the first part's pieces are whole lines
pub cut_pieces-append : (ended : Bool) (ts : List Text) (u : Text) (us : List Text) →
    cut_pieces ended (ts ++ u ∷ us) ≡ then_cut (cut_pieces false (ts ++ [] ∷ [])) (cut_pieces ended (u ∷ us))
cut_pieces-append ended [] u us = refl
cut_pieces-append ended (t ∷ ts) u us =
    cut_pieces-cons ended t ts us u
    ∙ ap (λ cut. if nat_lt line_limit (length t) then long_mark else onto_lines t cut) (cut_pieces-append ended ts u us)
    ∙ either_cut (nat_lt line_limit (length t)) t (cut_pieces false (ts ++ [] ∷ [])) (cut_pieces ended (u ∷ us))
    ∙ ap (λ cut. then_cut cut (cut_pieces ended (u ∷ us))) (sym (cut_pieces-cons false t ts [] []))

-- a text that ends with the byte 10, and what follows it
pub lines_of-append : (front rest : Text) (ended : Bool) → lines_of (front ++ 10 ∷ rest) ended ≡ then_cut (lines_of (front ++ 10 ∷ []) false) (lines_of rest ended)
unfolding lines_of
lines_of-append front rest ended =
    let found = first_piece 10 rest in
    ap (cut_pieces ended) (pieces-split 10 front rest ∙ ap (λ all. pieces 10 front ++ all) found.2)
    ∙ cut_pieces-append ended (pieces 10 front) found.0 found.1
    ∙ ap (λ cut. then_cut cut (cut_pieces ended (found.0 ∷ found.1))) (ap (cut_pieces false) (sym (pieces-split 10 front [])))
    ∙ ap (λ all. then_cut (cut_pieces false (pieces 10 (front ++ 10 ∷ []))) (cut_pieces ended all)) (sym found.2)

-- where a text ends with the byte 10, its end changes no line
pub lines_of-feed_last : (front : Text) (ended : Bool) → lines_of (front ++ 10 ∷ []) ended ≡ lines_of (front ++ 10 ∷ []) false
unfolding lines_of
lines_of-feed_last front true = lines_of-append front [] true ∙ sym (lines_of-append front [] false)
lines_of-feed_last front false = refl

-- a first line that is not too long
pub lines_of-line : (line rest : Text) (ended : Bool) → has_feed line ≡ false → length line ≤ line_limit → lines_of (line ++ 10 ∷ rest) ended ≡ onto_lines line (lines_of rest ended)
unfolding lines_of
lines_of-line line rest ended none short =
    let found = first_piece 10 rest in
    ap (cut_pieces ended) (pieces-first 10 line rest none ∙ ap (λ all. line ∷ all) found.2)
    ∙ ap (λ too_long. if too_long then long_mark else onto_lines line (cut_pieces ended (found.0 ∷ found.1))) (le-ltb line_limit (length line) short)
    ∙ ap (λ all. onto_lines line (cut_pieces ended all)) (sym found.2)

-- a first line that is too long
pub lines_of-long_line : (line rest : Text) (ended : Bool) → has_feed line ≡ false → line_limit < length line → lines_of (line ++ 10 ∷ rest) ended ≡ long_mark
unfolding lines_of
lines_of-long_line line rest ended none long =
    let found = first_piece 10 rest in
    ap (cut_pieces ended) (pieces-first 10 line rest none ∙ ap (λ all. line ∷ all) found.2)
    ∙ ap (λ too_long. if too_long then long_mark else onto_lines line (cut_pieces ended (found.0 ∷ found.1))) (lt-ltb line_limit (length line) long)

-- what follows the last byte 10, where it is not too long
pub lines_of-rest : (rest : Text) (ended : Bool) → has_feed rest ≡ false → length rest ≤ line_limit → lines_of rest ended ≡ last_line ended rest
unfolding lines_of
lines_of-rest rest ended none short =
    ap (cut_pieces ended) (pieces-whole 10 rest none) ∙ ap (λ too_long. if too_long then long_mark else last_line ended rest) (le-ltb line_limit (length rest) short)

-- what follows the last byte 10, where it is too long
pub lines_of-long_rest : (rest : Text) (ended : Bool) → has_feed rest ≡ false → line_limit < length rest → lines_of rest ended ≡ long_mark
unfolding lines_of
lines_of-long_rest rest ended none long =
    ap (cut_pieces ended) (pieces-whole 10 rest none) ∙ ap (λ too_long. if too_long then long_mark else last_line ended rest) (lt-ltb line_limit (length rest) long)

-- ---- whole lines, and what follows them

-- a text is empty or ends with the byte 10
abbrev pub IsWhole : Text → Type 0
IsWhole t = (t ≡ []) ⊎ ((front : Text) × (t ≡ front ++ 10 ∷ []))

-- a line makes a whole text of any
pub IsWhole-line : (t line : Text) → IsWhole (t ++ (line ++ 10 ∷ []))
IsWhole-line t line = inr (t ++ line, sym (append_assoc t line (10 ∷ [])))

-- the empty text, or whole lines, and what follows them
pub lines_of-whole : (whole rest : Text) (ended : Bool) → IsWhole whole → lines_of (whole ++ rest) ended ≡ then_cut (lines_of whole false) (lines_of rest ended)
unfolding lines_of
lines_of-whole whole rest ended (inl none) =
    ap (λ t. lines_of (t ++ rest) ended) none ∙ ap (λ t. then_cut (lines_of t false) (lines_of rest ended)) (sym none)
lines_of-whole whole rest ended (inr found) =
    ap (λ t. lines_of (t ++ rest) ended) found.1 ∙ ap (λ t. lines_of t ended) (append_assoc found.0 (10 ∷ []) rest) ∙ lines_of-append found.0 rest ended
    ∙ ap (λ t. then_cut (lines_of t false) (lines_of rest ended)) (sym found.1)

-- no line follows the last byte 10 where nothing does
last_line-empty : (ended : Bool) → last_line ended [] ≡ no_lines
last_line-empty true = refl
last_line-empty false = refl

-- lines so far, and a next one that is not too long
pub lines_of-next : (whole line : Text) (ended : Bool) (lines : List Text) → IsWhole whole → lines_of whole false ≡ record { lines = lines; long = false } →
    has_feed line ≡ false → length line ≤ line_limit → lines_of (whole ++ (line ++ 10 ∷ [])) ended ≡ record { lines = lines ++ line ∷ []; long = false }
lines_of-next whole line ended lines is so_far none short =
    lines_of-whole whole (line ++ 10 ∷ []) ended is
    ∙ ap₂ then_cut so_far (lines_of-line line [] ended none short ∙ ap (onto_lines line) (lines_of-rest [] ended refl (omega arith) ∙ last_line-empty ended))

-- lines so far, and a next one that is too long
pub lines_of-next_long : (whole line rest : Text) (ended : Bool) (lines : List Text) → IsWhole whole → lines_of whole false ≡ record { lines = lines; long = false } →
    has_feed line ≡ false → line_limit < length line → lines_of (whole ++ (line ++ 10 ∷ rest)) ended ≡ record { lines = lines; long = true }
lines_of-next_long whole line rest ended lines is so_far none long =
    lines_of-whole whole (line ++ 10 ∷ rest) ended is ∙ ap₂ then_cut so_far (lines_of-long_line line rest ended none long)
    ∙ ap (λ all. record { lines = all; long = true }) (append-nil lines)

-- lines so far, and what follows the last byte 10
pub lines_of-tail : (whole rest : Text) (ended : Bool) (lines : List Text) → IsWhole whole → lines_of whole false ≡ record { lines = lines; long = false } →
    has_feed rest ≡ false → length rest ≤ line_limit → lines_of (whole ++ rest) ended ≡ record { lines = lines ++ (last_line ended rest).lines; long = (last_line ended rest).long }
lines_of-tail whole rest ended lines is so_far none short = lines_of-whole whole rest ended is ∙ ap₂ then_cut so_far (lines_of-rest rest ended none short)

-- lines so far, and what follows the last byte 10 and is too long
pub lines_of-long_tail : (whole rest : Text) (ended : Bool) (lines : List Text) → IsWhole whole → lines_of whole false ≡ record { lines = lines; long = false } →
    has_feed rest ≡ false → line_limit < length rest → lines_of (whole ++ rest) ended ≡ record { lines = lines; long = true }
lines_of-long_tail whole rest ended lines is so_far none long =
    lines_of-whole whole rest ended is ∙ ap₂ then_cut so_far (lines_of-long_rest rest ended none long) ∙ ap (λ all. record { lines = all; long = true }) (append-nil lines)

-- the lines so far are the first of all lines
pub lines-begin : (whole rest : Text) (ended : Bool) (lines : List Text) → IsWhole whole → lines_of whole false ≡ record { lines = lines; long = false } →
    (lines_of (whole ++ rest) ended).lines ≡ lines ++ (lines_of rest ended).lines
lines-begin whole rest ended lines is so_far = ap (λ (cut : Cut). cut.lines) (lines_of-whole whole rest ended is ∙ ap (λ cut. then_cut cut (lines_of rest ended)) so_far)
