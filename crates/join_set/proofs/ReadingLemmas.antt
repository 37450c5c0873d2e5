-- The edges of a reading, reader by reader.
use Rattle.std.proofs.Common.{◌≡◌, ℕ, ◌+◌, ◌<◌, ◌≤◌, List, [], ◌∷◌, ◌++◌, length, take, get_or, Bool, true, false, if◌then◌else◌, filter_map, flat_map, Some, None, refl, sym, ap, ◌∙◌, arith, append_assoc, append-nil, length-take}
use Rattle.std.specs.List.{enumerate_from}
use Rattle.std.proofs.lemmas.List.{take_more, take_all}
use Rattle.std.proofs.lemmas.Grind.{flat_map-append}
use Rattle.std.proofs.lemmas.List.Elements.{filter_map-append}
use Rattle.semantics.specs.Joins.{Join, reads_output}
use Rattle.semantics.specs.Histories.{DeclaredJoin}
use Rattle.semantics.specs.States.{reading}
use Rattle.semantics.specs.Verdicts.{joined}
use Rattle.join_set.specs.Readings.{edge_between, edges_from}

-- one element more has the next number
enumerate_from-push : {X : Type 0} (n : ℕ) (xs : List X) (y : X) → enumerate_from n (xs ++ y ∷ []) ≡ enumerate_from n xs ++ (n + length xs, y) ∷ []
enumerate_from-push n [] y = ap (λ k. (k, y) ∷ []) (omega arith)
enumerate_from-push n (x ∷ xs) y =
    ap (λ rest. (n, x) ∷ rest) (enumerate_from-push (n + 1) xs y ∙ ap (λ k. enumerate_from (n + 1) xs ++ (k, y) ∷ []) (omega arith))

-- the edge to a join, where it is read
abbrev pub edge_to : ℕ → Join → ℕ → Join → List (ℕ × ℕ)
edge_to number reader other read = if reads_output reader read then (number, other) ∷ [] else []

-- the edge to a single join
edges_from-single : (number other : ℕ) (reader : Join) (s : DeclaredJoin) → filter_map (edge_between (number, reader)) ((other, s) ∷ []) ≡ edge_to number reader other s.join
edges_from-single number other reader s = single (reads_output reader s.join) (number, other)
  where
    single : (b : Bool) (e : ℕ × ℕ) → filter_map (λ (o : Bool). if o then Some e else None) (b ∷ []) ≡ (if b then e ∷ [] else [])
    single true e = refl
    single false e = refl

-- the edges to a set with one join more
pub edges_from-push : (number : ℕ) (reader : Join) (joins : List DeclaredJoin) (s : DeclaredJoin) →
    edges_from number reader (joins ++ s ∷ []) ≡ edges_from number reader joins ++ edge_to number reader (length joins) s.join
edges_from-push number reader joins s =
    ap (λ es. filter_map (edge_between (number, reader)) es) (enumerate_from-push 0 joins s ∙ ap (λ k. enumerate_from 0 joins ++ (k, s) ∷ []) (omega arith))
    ∙ filter_map-append (edge_between (number, reader)) (enumerate_from 0 joins) ((length joins, s) ∷ [])
    ∙ ap (λ es. edges_from number reader joins ++ es) (edges_from-single number (length joins) reader s)

-- the same at the step of a loop
pub edges_from-more : (number : ℕ) (reader : Join) (joins : List DeclaredJoin) (i : ℕ) (d : DeclaredJoin) → i < length joins →
    edges_from number reader (take (i + 1) joins) ≡ edges_from number reader (take i joins) ++ edge_to number reader i (get_or joins i d).join
edges_from-more number reader joins i d h =
    let short : length (take i joins) ≡ i = omega (arith, length-take i joins) in
    ap (λ js. edges_from number reader js) (take_more joins i d h)
    ∙ edges_from-push number reader (take i joins) (get_or joins i d)
    ∙ ap (λ k. edges_from number reader (take i joins) ++ edge_to number reader k (get_or joins i d).join) short

-- the edges of the first readers
abbrev pub edges_of_first : List DeclaredJoin → List DeclaredJoin → List (ℕ × ℕ)
edges_of_first readers joins = flat_map (λ a. edges_from a.0 a.1.join joins) (enumerate_from 0 readers)

-- one reader more
pub edges_of_first-push : (readers joins : List DeclaredJoin) (s : DeclaredJoin) →
    edges_of_first (readers ++ s ∷ []) joins ≡ edges_of_first readers joins ++ edges_from (length readers) s.join joins
edges_of_first-push readers joins s =
    ap (λ es. flat_map (λ a. edges_from a.0 a.1.join joins) es) (enumerate_from-push 0 readers s ∙ ap (λ k. enumerate_from 0 readers ++ (k, s) ∷ []) (omega arith))
    ∙ flat_map-append (λ a. edges_from a.0 a.1.join joins) (enumerate_from 0 readers) ((length readers, s) ∷ [])
    ∙ ap (λ es. edges_of_first readers joins ++ es) (append-nil (edges_from (length readers) s.join joins))

-- the same at the step of a loop
pub edges_of_first-more : (readers joins : List DeclaredJoin) (i : ℕ) (d : DeclaredJoin) → i < length readers →
    edges_of_first (take (i + 1) readers) joins ≡ edges_of_first (take i readers) joins ++ edges_from i (get_or readers i d).join joins
edges_of_first-more readers joins i d h =
    let short : length (take i readers) ≡ i = omega (arith, length-take i readers) in
    ap (λ rs. edges_of_first rs joins) (take_more readers i d h)
    ∙ edges_of_first-push (take i readers) joins (get_or readers i d)
    ∙ ap (λ k. edges_of_first (take i readers) joins ++ edges_from k (get_or readers i d).join joins) short

-- all readers make the reading
pub edges_of_all : (joins : List DeclaredJoin) (at : ℕ) (j : Join) →
    edges_of_first joins (joined joins at j) ++ edges_from (length joins) j (joined joins at j) ≡ reading (joined joins at j)
unfolding reading
edges_of_all joins at j = sym (edges_of_first-push joins (joined joins at j) (record { position = at; join = j }))

-- ---- steps of the loops

-- the edge, where there is one
abbrev pub edge_if : Bool → ℕ → ℕ → List (ℕ × ℕ)
edge_if b number other = if b then (number, other) ∷ [] else []

-- one join more is held against the reader
pub edges_step : (number : ℕ) (reader : Join) (joins : List DeclaredJoin) (i : ℕ) (x : DeclaredJoin) (b : Bool) (before edges : List (ℕ × ℕ)) →
    i < length joins → x ≡ get_or joins i x → reads_output reader x.join ≡ b → edges ≡ before ++ edges_from number reader (take i joins) →
    edges ++ edge_if b number i ≡ before ++ edges_from number reader (take (i + 1) joins)
edges_step number reader joins i x b before edges h at e inv =
    let same : edge_if b number i ≡ edge_to number reader i (get_or joins i x).join = ap (λ t. edge_if t number i) (sym e) ∙ ap (λ (y : DeclaredJoin). edge_to number reader i y.join) at in
    ap (λ es. es ++ edge_if b number i) inv
    ∙ append_assoc before (edges_from number reader (take i joins)) (edge_if b number i)
    ∙ ap (λ es. before ++ es) (ap (λ es. edges_from number reader (take i joins) ++ es) same ∙ sym (edges_from-more number reader joins i x h))

-- the new join is held against the reader last
pub edges_last : (number : ℕ) (reader : Join) (joins : List DeclaredJoin) (i at : ℕ) (j : Join) (b : Bool) (before edges : List (ℕ × ℕ)) →
    length joins ≤ i → reads_output reader j ≡ b → edges ≡ before ++ edges_from number reader (take i joins) →
    edges ++ edge_if b number (length joins) ≡ before ++ edges_from number reader (joined joins at j)
edges_last number reader joins i at j b before edges h e inv =
    let last : DeclaredJoin = record { position = at; join = j } in
    ap (λ es. es ++ edge_if b number (length joins)) (inv ∙ ap (λ js. before ++ edges_from number reader js) (take_all i joins h))
    ∙ append_assoc before (edges_from number reader joins) (edge_if b number (length joins))
    ∙ ap (λ es. before ++ es) (ap (λ t. edges_from number reader joins ++ edge_if t number (length joins)) (sym e) ∙ sym (edges_from-push number reader joins last))

-- one reader more
pub readers_step : (joins all : List DeclaredJoin) (i : ℕ) (x : DeclaredJoin) (edges : List (ℕ × ℕ)) → i < length joins → x ≡ get_or joins i x → edges ≡ edges_of_first (take i joins) all →
    edges ++ edges_from i x.join all ≡ edges_of_first (take (i + 1) joins) all
readers_step joins all i x edges h at inv =
    ap (λ es. es ++ edges_from i x.join all) inv
    ∙ ap (λ (y : DeclaredJoin). edges_of_first (take i joins) all ++ edges_from i y.join all) at
    ∙ sym (edges_of_first-more joins all i x h)

-- the new join is the last reader
pub readers_last : (joins : List DeclaredJoin) (i at : ℕ) (j : Join) (edges : List (ℕ × ℕ)) → length joins ≤ i → edges ≡ edges_of_first (take i joins) (joined joins at j) →
    edges ++ edges_from (length joins) j (joined joins at j) ≡ reading (joined joins at j)
readers_last joins i at j edges h inv =
    ap (λ es. es ++ edges_from (length joins) j (joined joins at j)) (inv ∙ ap (λ js. edges_of_first js (joined joins at j)) (take_all i joins h))
    ∙ edges_of_all joins at j
