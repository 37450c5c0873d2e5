-- Texts that are cut into pieces, and joined again.
use Rattle.std.proofs.Common.{Decides, ◌≡◌, ℕ, Bool, true, false, ◌==◌, List, [], ◌∷◌, ◌++◌, refl, sym, ap, ◌∙◌, subst, All, eqb-true, eq-eqb}
use Rattle.std.specs.List.{list_any, join_with_byte, AllByRecursion}
use Rattle.std.specs.Cmp.Lexicographic.{bytes_decides}
use Rattle.std.proofs.lemmas.Bool.{or_parts, false≢true}
use Rattle.std.proofs.lemmas.List.Elements.{All-from_recursion, recursion_from_All}
use Rattle.semantics.specs.Texts.{Text, same}
use Rattle.semantics.specs.Patterns.{pieces}

-- ---- equal texts

-- texts that pass the test are one text
pub equal_by_same : (t u : Text) → same t u ≡ true → t ≡ u
equal_by_same t u h = (bytes_decides t u).0 h

-- one text passes the test
pub same_by_equal : (t u : Text) → t ≡ u → same t u ≡ true
same_by_equal t u e = (bytes_decides t u).1 e

-- a text is the same as itself
pub same_itself : (t : Text) → same t t ≡ true
same_itself t = same_by_equal t t refl

-- texts that fail the test are two texts
pub unequal_by_same : (t u : Text) → same t u ≡ false → t ≡ u → ⊥
unequal_by_same t u h e = absurd (false≢true (sym h ∙ same_by_equal t u e))

-- the test decides whether texts are one text
pub same_decides : (t u : Text) → Decides (same t u) (t ≡ u)
same_decides t u = bytes_decides t u

-- ---- pieces

-- a text has no byte c
abbrev pub Lacks : ℕ → Text → Type 0
Lacks c t = list_any (λ b. b == c) t ≡ false

-- a first piece, and those after it
abbrev pub HasParts : ℕ → Text → Type 0
HasParts c t = (u : Text) × (us : List Text) × (pieces c t ≡ u ∷ us)

-- the byte c ends a piece
pieces-cut : (c b : ℕ) (bs : Text) → (b == c) ≡ true → pieces c (b ∷ bs) ≡ [] ∷ pieces c bs
pieces-cut c b bs e = rw e

-- another byte goes to the first piece
pieces_onto : (c b : ℕ) (bs u : Text) (us : List Text) → (b == c) ≡ false → pieces c bs ≡ u ∷ us → pieces c (b ∷ bs) ≡ (b ∷ u) ∷ us
pieces_onto c b bs u us e p = rw (e, p)

-- one byte more leaves a first piece
parts_by : (c b : ℕ) (bs : Text) (x : Bool) → (b == c) ≡ x → HasParts c bs → HasParts c (b ∷ bs)
parts_by c b bs true e h = ([], pieces c bs, pieces-cut c b bs e)
parts_by c b bs false e h = (b ∷ h.0, h.1, pieces_onto c b bs h.0 h.1 e h.2)

-- every text has a first piece
pub parts_of : (c : ℕ) (t : Text) → HasParts c t
parts_of c [] = ([], [], refl)
parts_of c (b ∷ bs) = parts_by c b bs (b == c) refl (parts_of c bs)

-- an empty first piece, joined, puts the byte c before the others
join_cut : (c : ℕ) (u : Text) (us : List Text) → join_with_byte c ([] ∷ u ∷ us) ≡ c ∷ join_with_byte c (u ∷ us)
join_cut c u us = refl

-- a byte more on the first piece is a byte more on the join
join_onto : (c b : ℕ) (u : Text) (us : List Text) → join_with_byte c ((b ∷ u) ∷ us) ≡ b ∷ join_with_byte c (u ∷ us)
join_onto c b u [] = refl
join_onto c b u (v ∷ vs) = refl

-- one byte more on a text and on its pieces
join_by : (c b : ℕ) (bs : Text) (x : Bool) → (b == c) ≡ x → HasParts c bs → join_with_byte c (pieces c bs) ≡ bs → join_with_byte c (pieces c (b ∷ bs)) ≡ b ∷ bs
join_by c b bs true e h ih =
    let at_b : b ≡ c = eqb-true b c e in
    let whole : join_with_byte c (h.0 ∷ h.1) ≡ bs = ap (join_with_byte c) (sym h.2) ∙ ih in
    rw (pieces-cut c b bs e, h.2) (ap (λ r. c ∷ r) whole ∙ ap (λ x. x ∷ bs) (sym at_b))
join_by c b bs false e h ih =
    let whole : join_with_byte c (h.0 ∷ h.1) ≡ bs = ap (join_with_byte c) (sym h.2) ∙ ih in
    ap (join_with_byte c) (pieces_onto c b bs h.0 h.1 e h.2) ∙ join_onto c b h.0 h.1 ∙ ap (λ r. b ∷ r) whole

-- the pieces of a text, joined, are the text
pub join-pieces : (c : ℕ) (t : Text) → join_with_byte c (pieces c t) ≡ t
join-pieces c [] = refl
join-pieces c (b ∷ bs) = join_by c b bs (b == c) refl (parts_of c bs) (join-pieces c bs)

-- a text without c is one piece
pub pieces_lacking : (c : ℕ) (t : Text) → Lacks c t → pieces c t ≡ t ∷ []
pieces_lacking c [] h = refl
pieces_lacking c (b ∷ bs) h =
    let parts = or_parts (b == c) (list_any (λ b. b == c) bs) h in
    pieces_onto c b bs bs [] parts.0 (pieces_lacking c bs parts.1)

-- a text without c before the byte c is the first piece
pub pieces-append : (c : ℕ) (t rest : Text) → Lacks c t → pieces c (t ++ c ∷ rest) ≡ t ∷ pieces c rest
pieces-append c [] rest h = pieces-cut c c rest (eq-eqb c c refl)
pieces-append c (b ∷ bs) rest h =
    let parts = or_parts (b == c) (list_any (λ b. b == c) bs) h in
    pieces_onto c b (bs ++ c ∷ rest) bs (pieces c rest) parts.0 (pieces-append c bs rest parts.1)

-- the same by recursion on the pieces
pieces_join_by : (c : ℕ) (t : Text) (ts : List Text) → AllByRecursion (Lacks c) (t ∷ ts) → pieces c (join_with_byte c (t ∷ ts)) ≡ t ∷ ts
pieces_join_by c t [] h = pieces_lacking c t h.0
pieces_join_by c t (u ∷ us) h =
    pieces-append c t (join_with_byte c (u ∷ us)) h.0 ∙ ap (λ r. t ∷ r) (pieces_join_by c u us h.1)

-- texts without c, one at least, are the pieces of their join
pub pieces-join : (c : ℕ) (t : Text) (ts : List Text) → All (Lacks c) (t ∷ ts) → pieces c (join_with_byte c (t ∷ ts)) ≡ t ∷ ts
pieces-join c t ts h = pieces_join_by c t ts (recursion_from_All (Lacks c) (t ∷ ts) h)

-- one byte more leaves pieces without c
lack_by : (c b : ℕ) (bs : Text) (x : Bool) → (b == c) ≡ x → HasParts c bs → AllByRecursion (Lacks c) (pieces c bs) → AllByRecursion (Lacks c) (pieces c (b ∷ bs))
lack_by c b bs true e h ih = subst (AllByRecursion (Lacks c)) (sym (pieces-cut c b bs e)) (refl, ih)
lack_by c b bs false e h ih =
    let old = subst (AllByRecursion (Lacks c)) h.2 ih in
    subst (AllByRecursion (Lacks c)) (sym (pieces_onto c b bs h.0 h.1 e h.2)) (rw e old.0, old.1)

-- the same by recursion on the text
lack : (c : ℕ) (t : Text) → AllByRecursion (Lacks c) (pieces c t)
lack c [] = (refl, tt)
lack c (b ∷ bs) = lack_by c b bs (b == c) refl (parts_of c bs) (lack c bs)

-- no piece has the byte that cuts
pub pieces_lack : (c : ℕ) (t : Text) → All (Lacks c) (pieces c t)
pieces_lack c t = All-from_recursion (Lacks c) (pieces c t) (lack c t)
