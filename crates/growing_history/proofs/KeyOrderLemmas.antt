-- That the order of what is given does not matter: what two neighbours may change places in without a change.
use Rattle.std.proofs.Common.{◌≡◌, ◌≢◌, ℕ, zero, suc, ◌<◌, ℤ, ◌+ℤ◌, inl, inr, Bool, true, false, cond, List, [], ◌∷◌, ◌++◌, length, get_or, set, map, filter, filter_map, fold, decimal, Option, Some, None, refl, sym, ap, ◌∙◌, arith, length-append, IsPermutation}
use Rattle.std.specs.List.{swap, cons_option}
use Rattle.std.specs.Fmt.{signed_decimal}
use Rattle.std.specs.Int.{int_min, int_max}
use Rattle.std.proofs.Math.IntN.{+ℤ_comm, +ℤ_assoc}
use Rattle.std.proofs.lemmas.Bool.{cases_Bool, false≢true}
use Rattle.std.proofs.lemmas.Int.{ints, clamps}
use Rattle.std.proofs.lemmas.List.Sorted.{IsPermutation-keeps}
use Rattle.semantics.specs.Texts.{Text, same, Table}
use Rattle.semantics.specs.Joins.{Operator, check, copy, count, sum, min, max, is_copy, Join, value_operator}
use Rattle.semantics.specs.Outputs.{canonical_integer, contributions, listed, result_of, gathered, out}
use Rattle.semantics.proofs.TableLemmas.{same_tables}
use Rattle.semantics.proofs.GatherLemmas.{value_at-gathered, ascending-gathered}
use Rattle.semantics.proofs.CopyLemmas.{out_ignores_order}
use Rattle.growing_history.specs.OutputLaws.{ResultIgnoresOrder, OutIgnoresAnyOrder}

-- ---- neighbours

-- two neighbours may change places
abbrev Exchanges : {X R : Type 0} → (List X → R) → Type 0
Exchanges {X} F = (front : List X) (x y : X) (back : List X) → F (front ++ x ∷ y ∷ back) ≡ F (front ++ y ∷ x ∷ back)

-- they may behind one more element
behind : {X R : Type 0} (F : List X → R) (z : X) → Exchanges F → Exchanges (λ l. F (z ∷ l))
behind F z e front x y back = e (z ∷ front) x y back

-- the first element may change places with another
first_with : {X R : Type 0} (F : List X → R) → Exchanges F → (xs : List X) (x d : X) (k : ℕ) → k < length xs → F (get_or xs k d ∷ set xs k x) ≡ F (x ∷ xs)
first_with F e [] x d k h = absurd (omega arith)
first_with F e (y ∷ ys) x d zero h = e [] y x ys
first_with F e (y ∷ ys) x d (suc k) h =
    e [] (get_or ys k d) y (set ys k x) ∙ first_with (λ l. F (y ∷ l)) (behind F y e) ys x d k (omega arith) ∙ e [] y x ys

-- any two elements may
any_two : {X R : Type 0} (F : List X → R) → Exchanges F → (xs : List X) (i k : ℕ) (d : X) → i < length xs → k < length xs → F (set (set xs i (get_or xs k d)) k (get_or xs i d)) ≡ F xs
any_two F e [] i k d p q = absurd (omega arith)
any_two F e (x ∷ xs) zero zero d p q = refl
any_two F e (x ∷ xs) zero (suc k) d p q = first_with F e xs x d k (omega arith)
any_two F e (x ∷ xs) (suc i) zero d p q = first_with F e xs x d i (omega arith)
any_two F e (x ∷ xs) (suc i) (suc k) d p q = any_two (λ l. F (x ∷ l)) (behind F x e) xs i k d (omega arith) (omega arith)

-- any two elements may change places, in the word `swap`
swapped : {X R : Type 0} (F : List X → R) → Exchanges F → (xs : List X) (i k : ℕ) → i < length xs → k < length xs → F (swap xs i k) ≡ F xs
swapped F e [] i k p q = refl
swapped F e (x ∷ xs) i k p q = any_two F e (x ∷ xs) i k x p q

-- where two neighbours may change places, the order does not matter
pub same_in_order : {X R : Type 0} (F : List X → R) → Exchanges F → (xs ys : List X) → IsPermutation xs ys → F xs ≡ F ys
same_in_order F e xs ys p = sym (IsPermutation-keeps xs (λ l. F l ≡ F xs) refl (λ l i k a b h. swapped F e l i k a b ∙ h) ys p)

-- ---- lists that are made

-- neighbours of which one or none is kept
kept_two : {X R : Type 0} (test : X → Bool) (F : List X → R) (x y : X) (zs : List X) (a b : Bool) → Exchanges F → test x ≡ a → test y ≡ b
    → F (cond a (x ∷ cond b (y ∷ zs) zs) (cond b (y ∷ zs) zs)) ≡ F (cond b (y ∷ cond a (x ∷ zs) zs) (cond a (x ∷ zs) zs))
kept_two test F x y zs true true e p q = e [] x y zs
kept_two test F x y zs true false e p q = refl
kept_two test F x y zs false true e p q = refl
kept_two test F x y zs false false e p q = refl

-- through a filter
through_filter : {X R : Type 0} (test : X → Bool) (F : List X → R) → Exchanges F → Exchanges (λ l. F (filter test l))
through_filter test F e [] x y back = kept_two test F x y (filter test back) (test x) (test y) e refl refl
through_filter {X} {R} test F e (z ∷ front) x y back = by (test z) (through_filter test (λ l. F (z ∷ l)) (behind F z e) front x y back) (through_filter test F e front x y back)
  where
    by : (b : Bool) → F (z ∷ filter test (front ++ x ∷ y ∷ back)) ≡ F (z ∷ filter test (front ++ y ∷ x ∷ back)) → F (filter test (front ++ x ∷ y ∷ back)) ≡ F (filter test (front ++ y ∷ x ∷ back))
        → F (cond b (z ∷ filter test (front ++ x ∷ y ∷ back)) (filter test (front ++ x ∷ y ∷ back))) ≡ F (cond b (z ∷ filter test (front ++ y ∷ x ∷ back)) (filter test (front ++ y ∷ x ∷ back)))
    by true kept left = kept
    by false kept left = left

-- through a map
through_map : {X Y R : Type 0} (f : X → Y) (F : List Y → R) → Exchanges F → Exchanges (λ l. F (map f l))
through_map f F e [] x y back = e [] (f x) (f y) (map f back)
through_map f F e (z ∷ front) x y back = through_map f (λ l. F (f z ∷ l)) (behind F (f z) e) front x y back

-- neighbours that give something, or of which one or none does
given_two : {Y R : Type 0} (F : List Y → R) (o p : Option Y) (zs : List Y) → Exchanges F → F (cons_option o (cons_option p zs)) ≡ F (cons_option p (cons_option o zs))
given_two F None p zs e = refl
given_two F (Some x) None zs e = refl
given_two F (Some x) (Some y) zs e = e [] x y zs

-- through a partial function
through_partial : {X Y R : Type 0} (h : X → Option Y) (F : List Y → R) → Exchanges F → Exchanges (λ l. F (filter_map h l))
through_partial h F e [] x y back = given_two F (h x) (h y) (filter_map h back) e
through_partial {X} {Y} {R} h F e (z ∷ front) x y back = by (h z) (λ w. through_partial h (λ l. F (w ∷ l)) (behind F w e) front x y back) (through_partial h F e front x y back)
  where
    by : (o : Option Y) → ((w : Y) → F (w ∷ filter_map h (front ++ x ∷ y ∷ back)) ≡ F (w ∷ filter_map h (front ++ y ∷ x ∷ back))) → F (filter_map h (front ++ x ∷ y ∷ back)) ≡ F (filter_map h (front ++ y ∷ x ∷ back))
        → F (cons_option o (filter_map h (front ++ x ∷ y ∷ back))) ≡ F (cons_option o (filter_map h (front ++ y ∷ x ∷ back)))
    by None given left = left
    by (Some w) given left = given w

-- ---- the operators

-- the numbers put together by an operation, where there is one
abbrev combined : (ℤ → ℤ → ℤ) → List ℤ → Option Text
combined together [] = None
combined together (n ∷ ns) = Some (signed_decimal (fold together n ns))

-- how many there are, where there is one
abbrev counted : List Text → Option Text
counted [] = None
counted (v ∷ vs) = Some (decimal (length (v ∷ vs)))

-- an operation by which two operands may change places
record Commutes (together : ℤ → ℤ → ℤ) : Type 0 where
  pub both : (a b : ℤ) → together a b ≡ together b a
  pub after : (n a b : ℤ) → together (together n a) b ≡ together (together n b) a

-- the operands of a fold may
fold_exchanges : (together : ℤ → ℤ → ℤ) → Commutes together → (n : ℤ) → Exchanges (fold together n)
fold_exchanges together c n [] x y back = ap (λ m. fold together m back) (c.after n x y)
fold_exchanges together c n (z ∷ front) x y back = fold_exchanges together c (together n z) front x y back

-- so may the numbers that are put together
combined_exchanges : (together : ℤ → ℤ → ℤ) → Commutes together → Exchanges (combined together)
combined_exchanges together c [] x y back = ap (λ m. Some (signed_decimal (fold together m back))) (c.both x y)
combined_exchanges together c (z ∷ front) x y back = ap (λ m. Some (signed_decimal m)) (fold_exchanges together c z front x y back)

-- lists of one length count the same
counted_by_length : (xs ys : List Text) → length xs ≡ length ys → counted xs ≡ counted ys
counted_by_length [] [] e = refl
counted_by_length [] (y ∷ ys) e = absurd (omega arith)
counted_by_length (x ∷ xs) [] e = absurd (omega arith)
counted_by_length (x ∷ xs) (y ∷ ys) e = ap (λ n. Some (decimal n)) e

-- the values that are counted may change places
counted_exchanges : Exchanges counted
counted_exchanges front x y back =
    counted_by_length (front ++ x ∷ y ∷ back) (front ++ y ∷ x ∷ back) (length-append front (x ∷ y ∷ back) ∙ sym (length-append front (y ∷ x ∷ back)))

-- the lesser of two numbers
abbrev lesser : ℤ → ℤ → ℤ
lesser a b = int_min a b

-- the greater of two numbers
abbrev greater : ℤ → ℤ → ℤ
greater a b = int_max b a

-- the operands of a sum may change places
sum_commutes : Commutes (λ a b. a +ℤ b)
sum_commutes = record { both = +ℤ_comm; after = λ n a b. +ℤ_assoc n a b ∙ ap (λ m. n +ℤ m) (+ℤ_comm a b) ∙ sym (+ℤ_assoc n b a) }

-- so may those of the lesser of two
lesser_commutes : Commutes lesser
lesser_commutes = record { both = λ a b. omega (arith, ints, clamps); after = λ n a b. omega (arith, ints, clamps) }

-- so may those of the greater of two
greater_commutes : Commutes greater
greater_commutes = record { both = λ a b. omega (arith, ints, clamps); after = λ n a b. omega (arith, ints, clamps) }

-- the values may change places in the result of each operator but `copy`
result_exchanges : (operator : Operator) → operator ≢ copy → Exchanges (result_of operator)
result_exchanges check other front x y back = refl
result_exchanges copy other front x y back = absurd (other refl)
result_exchanges count other front x y back = counted_exchanges front x y back
result_exchanges sum other front x y back = through_partial canonical_integer (combined (λ a b. a +ℤ b)) (combined_exchanges (λ a b. a +ℤ b) sum_commutes) front x y back
result_exchanges min other front x y back = through_partial canonical_integer (combined lesser) (combined_exchanges lesser lesser_commutes) front x y back
result_exchanges max other front x y back = through_partial canonical_integer (combined greater) (combined_exchanges greater greater_commutes) front x y back

-- the result at a key is the same in any order
result-order : (operator : Operator) (given other : List (Text × Text)) → operator ≢ copy → IsPermutation given other → (key : Text) → result_of operator (listed key given) ≡ result_of operator (listed key other)
result-order operator given other apart p key =
    let values : Exchanges (λ (l : List (Text × Text)). result_of operator (map (λ c. c.1) l)) = through_map (λ (c : Text × Text). c.1) (result_of operator) (result_exchanges operator apart) in
    same_in_order (λ l. result_of operator (listed key l)) (through_filter (λ (c : Text × Text). same c.0 key) (λ l. result_of operator (map (λ c. c.1) l)) values) given other p

-- what an operator other than `copy` makes does not depend on the order
pub result_ignores_order_lem : ResultIgnoresOrder
result_ignores_order_lem operator given other apart p =
    same_tables (gathered operator given) (gathered operator other) (ascending-gathered operator given) (ascending-gathered operator other)
    (λ key. value_at-gathered operator given key ∙ result-order operator given other apart p key ∙ sym (value_at-gathered operator other key))

-- ---- all operators

-- what a join makes is gathered by its operator
out-gathered : (j : Join) (table : Table) → out j table ≡ gathered (value_operator j) (contributions j table)
unfolding out
out-gathered j table = refl

-- an operator that passes the test is `copy`
copy_by : (operator : Operator) → is_copy operator ≡ true → operator ≡ copy
copy_by check h = absurd (false≢true h)
copy_by copy h = refl
copy_by count h = absurd (false≢true h)
copy_by sum h = absurd (false≢true h)
copy_by min h = absurd (false≢true h)
copy_by max h = absurd (false≢true h)

-- what a join makes does not depend on the order of its matches
pub out_ignores_any_order_lem : OutIgnoresAnyOrder
out_ignores_any_order_lem j table given ok rules sorted p = elim (cases_Bool (is_copy (value_operator j))) [
  | inl e ↦ (let copies = copy_by (value_operator j) e in
      ap (λ operator. gathered operator given) copies
      ∙ out_ignores_order j table given (record { is_join = ok; copies = copies; slots = rules.slots; sources = rules.sources }) sorted p)
  | inr e ↦ sym (result_ignores_order_lem (value_operator j) (contributions j table) given (λ same. false≢true (sym e ∙ ap is_copy same)) p) ∙ sym (out-gathered j table)
]
