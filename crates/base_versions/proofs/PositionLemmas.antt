-- Lists in order of position, and where they are cut.
use Rattle.std.proofs.Common.{◌≡◌, ℕ, zero, suc, ◌+◌, ◌-◌, ◌<◌, ◌≤◌, List, [], ◌∷◌, ◌++◌, length, length-append, append_assoc, subst, take, drop, filter, nat_le, get_or, Bool, true, false, cond, not, refl, sym, ap, ◌∙◌, arith}
use Rattle.std.proofs.Math.Seq.{take-nil}
use Rattle.std.proofs.lemmas.Bool.{le-leb, leb-true}
use Rattle.std.proofs.lemmas.Bool.Decides.{nat_tests}
use Rattle.std.proofs.lemmas.List.{append-nil, take-append-le, drop-append-le, take-append-drop}
use Rattle.std.proofs.lemmas.List.Elements.{filter-append}
use Rattle.std.specs.List.{AllByRecursion}
use Rattle.std.specs.List.Sorted.{IsPartitionPoint, IsPartitionedBy}
use Rattle.semantics.specs.Histories.{Write, Entry, History}
use Rattle.base_versions.specs.Positions.{AscendBy, IsKeptSince, lies_between, made_from}

-- from a lesser number on
pub ascend_from_less : {X : Type 0} (position : X → ℕ) (low less : ℕ) (xs : List X) → less ≤ low → AscendBy position low xs → AscendBy position less xs
ascend_from_less position low less [] h a = tt
ascend_from_less position low less (x ∷ xs) h a = (omega (arith, a.0), a.1)

-- each position is from that number on
low-ascend : {X : Type 0} (position : X → ℕ) (low : ℕ) (xs : List X) (j : ℕ) (d : X) → AscendBy position low xs → j < length xs → low ≤ position (get_or xs j d)
low-ascend position low [] j d a h = absurd (omega arith)
low-ascend position low (x ∷ xs) zero d a h = a.0
low-ascend position low (x ∷ xs) (suc j) d a h = omega (arith, a.0, low-ascend position (position x + 1) xs j d a.1 (omega arith))

-- those up to a position stand first
pub partitioned-ascend : {X : Type 0} (position : X → ℕ) (low p : ℕ) (xs : List X) → AscendBy position low xs → IsPartitionedBy (λ x. nat_le (position x) p) xs
partitioned-ascend position low p [] a i j d h g e = absurd (omega arith)
partitioned-ascend position low p (x ∷ xs) a zero zero d h g e = e
partitioned-ascend position low p (x ∷ xs) a zero (suc j) d h g e =
    le-leb (position x) p (omega (arith, leb-true _ _ e, low-ascend position (position x + 1) xs j d a.1 (omega arith)))
partitioned-ascend position low p (x ∷ xs) a (suc i) zero d h g e = absurd (omega arith)
partitioned-ascend position low p (x ∷ xs) a (suc i) (suc j) d h g e = partitioned-ascend position (position x + 1) p xs a.1 i j d (omega arith) (omega arith) e

-- what is left after some first ones ascends too
pub ascend-drop : {X : Type 0} (position : X → ℕ) (low : ℕ) (n : ℕ) (xs : List X) → AscendBy position low xs → AscendBy position low (drop n xs)
ascend-drop position low zero xs a = a
ascend-drop position low (suc n) [] a = tt
ascend-drop position low (suc n) (x ∷ xs) a =
    ascend_from_less position (position x + 1) low (drop n xs) (omega (arith, a.0)) (ascend-drop position (position x + 1) n xs a.1)

-- ---- where a list is cut

-- a list is cut at n: those before pass, and those from there on do not
abbrev pub IsCut : {X : Type 0} → (X → Bool) → List X → ℕ → Type 0
IsCut {X} test xs n = IsPartitionPoint (λ (x : X). test x ≡ true) (λ (x : X). test x ≡ false) xs n

-- without the first element, which fails
pub cut_none : {X : Type 0} (test : X → Bool) (x : X) (xs : List X) → IsCut test (x ∷ xs) zero → (test x ≡ false) × IsCut test xs zero
cut_none test x xs c = (c.1 0 x (omega arith) (omega arith), ((λ k d h g. absurd (omega arith)), (λ k d h g. c.1 (suc k) d (omega arith) (omega arith))))

-- without the first element, which passes
pub cut_some : {X : Type 0} (test : X → Bool) (x : X) (xs : List X) (n : ℕ) → IsCut test (x ∷ xs) (suc n) → (test x ≡ true) × IsCut test xs n
cut_some test x xs n c = (c.0 0 x (omega arith) (omega arith), ((λ k d h g. c.0 (suc k) d (omega arith) (omega arith)), (λ k d h g. c.1 (suc k) d (omega arith) (omega arith))))

kept_some : {X : Type 0} (b : Bool) (x : X) (xs ys : List X) → b ≡ true → xs ≡ ys → cond b (x ∷ xs) xs ≡ x ∷ ys
kept_some b x xs ys h e = ap (λ t. cond t (x ∷ xs) xs) h ∙ ap (λ t. x ∷ t) e

kept_none : {X : Type 0} (b : Bool) (x : X) (xs ys : List X) → b ≡ false → xs ≡ ys → cond b (x ∷ xs) xs ≡ ys
kept_none b x xs ys h e = ap (λ t. cond t (x ∷ xs) xs) h ∙ e

-- those before the cut are those that pass
pub taken-cut : {X : Type 0} (test : X → Bool) (xs : List X) (n : ℕ) → IsCut test xs n → take n xs ≡ filter test xs
taken-cut test [] n c = take-nil n
taken-cut test (x ∷ xs) zero c = let w = cut_none test x xs c in sym (kept_none (test x) x (filter test xs) [] w.0 (sym (taken-cut test xs zero w.1)))
taken-cut test (x ∷ xs) (suc n) c = let w = cut_some test x xs n c in sym (kept_some (test x) x (filter test xs) (take n xs) w.0 (sym (taken-cut test xs n w.1)))

-- those from the cut on are those that fail
pub dropped-cut : {X : Type 0} (test : X → Bool) (xs : List X) (n : ℕ) → IsCut test xs n → drop n xs ≡ filter (λ x. not (test x)) xs
dropped-cut test [] zero c = refl
dropped-cut test [] (suc n) c = refl
dropped-cut test (x ∷ xs) zero c = let w = cut_none test x xs c in sym (kept_some (not (test x)) x (filter (λ y. not (test y)) xs) xs (ap not w.0) (sym (dropped-cut test xs zero w.1)))
dropped-cut test (x ∷ xs) (suc n) c = let w = cut_some test x xs n c in sym (kept_none (not (test x)) x (filter (λ y. not (test y)) xs) (drop n xs) (ap not w.0) (sym (dropped-cut test xs n w.1)))

-- without some first elements it is cut so many places earlier
pub cut_drop : {X : Type 0} (test : X → Bool) (xs : List X) (n m : ℕ) → IsCut test xs m → IsCut test (drop n xs) (m - n)
cut_drop test xs zero m c = subst (IsCut test xs) (omega arith) c
cut_drop test [] (suc n) m c = ((λ k d h g. c.0 k d h (omega arith)), (λ k d h g. absurd (omega arith)))
cut_drop test (x ∷ xs) (suc n) zero c = subst (IsCut test (drop n xs)) (omega arith) (cut_drop test xs n zero (cut_none test x xs c).1)
cut_drop test (x ∷ xs) (suc n) (suc m) c = subst (IsCut test (drop n xs)) (omega arith) (cut_drop test xs n m (cut_some test x xs m c).1)

-- ---- what the writes of entries make

-- what a write makes has its position: before later ones it ascends
abbrev pub MakesInOrder : {X : Type 0} → (X → ℕ) → (ℕ → Write → List X) → Type 0
MakesInOrder {X} position make = (n : ℕ) (write : Write) (xs : List X) → AscendBy position (n + 1) xs → AscendBy position n (make n write ++ xs)

-- one element of a position, or none, before later ones
pub ascend_onto : {X : Type 0} (position : X → ℕ) (b : Bool) (x : X) (xs : List X) (n : ℕ) → position x ≡ n → AscendBy position (n + 1) xs → AscendBy position n (cond b (x ∷ []) [] ++ xs)
ascend_onto position true x xs n e a = (omega arith, subst (λ m. AscendBy position (m + 1) xs) (sym e) a)
ascend_onto position false x xs n e a = ascend_from_less position (n + 1) n xs (omega arith) a

-- what entries make ascends
pub ascend-made_from : {X : Type 0} (position : X → ℕ) (make : ℕ → Write → List X) → MakesInOrder position make → (n : ℕ) (h : History) → AscendBy position n (made_from make n h)
ascend-made_from position make ordered n [] = tt
ascend-made_from position make ordered n (e ∷ es) = ordered n e.write (made_from make (n + 1) es) (ascend-made_from position make ordered (n + 1) es)

-- what one entry more makes comes last
pub made_from-push : {X : Type 0} (make : ℕ → Write → List X) (n : ℕ) (h : History) (e : Entry) → made_from make n (h ++ e ∷ []) ≡ made_from make n h ++ make (n + length h) e.write
made_from-push make n [] e = append-nil (make n e.write) ∙ ap (λ m. make m e.write) (omega arith)
made_from-push make n (first ∷ h) e =
    ap (λ xs. make n first.write ++ xs) (made_from-push make (n + 1) h e)
    ∙ ap (λ m. make n first.write ++ (made_from make (n + 1) h ++ make m e.write)) (omega arith)
    ∙ sym (append_assoc (make n first.write) (made_from make (n + 1) h) (make (n + length (first ∷ h)) e.write))

-- ---- what is kept since a start

-- all of a list
pub kept_since_all : {X : Type 0} (position : X → ℕ) (start : ℕ) (kept all : List X) → kept ≡ all → IsKeptSince position start kept all
kept_since_all position start kept all e = record { count = 0; within = omega arith; rest = e; early = tt }

-- the same, with more at both ends
pub kept_since-append : {X : Type 0} (position : X → ℕ) (start : ℕ) (kept all more : List X) → IsKeptSince position start kept all → IsKeptSince position start (kept ++ more) (all ++ more)
kept_since-append position start kept all more s =
    record {
      count = s.count;
      within = let few = s.within in omega (arith, length-append all more);
      rest = ap (λ xs. xs ++ more) s.rest ∙ sym (drop-append-le s.count all more s.within);
      early = subst (AllByRecursion (λ x. position x ≤ start)) (sym (take-append-le s.count all more s.within)) s.early;
    }

-- what is kept ascends as all do
pub ascend-kept_since : {X : Type 0} (position : X → ℕ) (start low : ℕ) (kept all : List X) → IsKeptSince position start kept all → AscendBy position low all → AscendBy position low kept
ascend-kept_since position start low kept all s a = subst (AscendBy position low) (sym s.rest) (ascend-drop position low s.count all a)

none_after : {X : Type 0} (position : X → ℕ) (start q p : ℕ) (xs : List X) → start ≤ q → AllByRecursion (λ x. position x ≤ start) xs → filter (λ x. lies_between q p (position x)) xs ≡ []
none_after position start q p [] h a = refl
none_after position start q p (x ∷ xs) h a =
    let early : position x ≤ start = a.0 in
    let test : lies_between q p (position x) ≡ false = grind (arith, nat_tests) in
    ap (λ b. cond b (x ∷ filter (λ y. lies_between q p (position y)) xs) (filter (λ y. lies_between q p (position y)) xs)) test ∙ none_after position start q p xs h a.1

-- between positions from the start on stands what stands there of all
pub between-kept_since : {X : Type 0} (position : X → ℕ) (start q p : ℕ) (kept all : List X) → start ≤ q → IsKeptSince position start kept all →
    filter (λ x. lies_between q p (position x)) kept ≡ filter (λ x. lies_between q p (position x)) all
between-kept_since {X} position start q p kept all h s =
    let test : X → Bool = λ x. lies_between q p (position x) in
    ap (filter test) s.rest
    ∙ ap (λ xs. xs ++ filter test (drop s.count all)) (sym (none_after position start q p (take s.count all) h s.early))
    ∙ sym (filter-append test (take s.count all) (drop s.count all)) ∙ ap (filter test) (take-append-drop s.count all)
