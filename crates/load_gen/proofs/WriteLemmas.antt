-- Base pairs and lengths by the owners of keys: whoever writes a key, only the order of its own writes matters.
use Rattle.std.proofs.Common.{◌≡◌, ℕ, zero, suc, ◌+◌, ◌<◌, ◌==◌, Bool, true, false, cond, not, List, [], ◌∷◌, length, map, filter, fold, Option, Some, None, refl, sym, ap, ◌∙◌, arith, eq-eqb}
use Rattle.std.specs.Prelude.{nat_lt}
use Rattle.std.specs.List.{AllByRecursion}
use Rattle.std.proofs.lemmas.Bool.{cond-true, cond-false, false≢true}
use Rattle.std.proofs.lemmas.Bool.Decides.{nat_tests}
use Rattle.semantics.specs.Texts.{Text, Table, same, value_at}
use Rattle.semantics.specs.Histories.{Write, put, remove, declare, drop_join, Entry, History, base_after, base_of}
use Rattle.semantics.proofs.PieceLemmas.{equal_by_same}
use Rattle.semantics.proofs.TableLemmas.{value_at-with_pair, same_tables}
use Rattle.semantics.proofs.MergedLemmas.{value_at-without_key}
use Rattle.semantics.proofs.BaseLemmas.{ascending-base_of}

-- the writes of entries, in order
abbrev pub writes_in : History → List Write
writes_in h = map (λ e. e.write) h

-- ---- the base pair at a key

-- whether a write changes the key
abbrev writes_key : Text → Write → Bool
writes_key q (put key value) = same q key
writes_key q (remove key) = same q key
writes_key q (declare join) = false
writes_key q (drop_join at) = false

-- what stands at the key after a write
abbrev value_after : Text → Option Text → Write → Option Text
value_after q stood (put key value) = cond (same q key) (Some value) stood
value_after q stood (remove key) = cond (not (same q key)) stood None
value_after q stood (declare join) = stood
value_after q stood (drop_join at) = stood

value_at-base_after : (q : Text) (w : Write) (table : Table) → value_at q (base_after w table) ≡ value_after q (value_at q table) w
value_at-base_after q (put key value) table = value_at-with_pair q key value table
value_at-base_after q (remove key) table = value_at-without_key q key table
value_at-base_after q (declare join) table = refl
value_at-base_after q (drop_join at) table = refl

value_at-base_from : (q : Text) (h : History) (table : Table) →
    value_at q (fold (λ (t : Table) (e : Entry). base_after e.write t) table h) ≡ fold (value_after q) (value_at q table) (writes_in h)
value_at-base_from q [] table = refl
value_at-base_from q (e ∷ h) table =
    value_at-base_from q h (base_after e.write table) ∙ ap (λ (stood : Option Text). fold (value_after q) stood (writes_in h)) (value_at-base_after q e.write table)

-- the writes of other keys change nothing there
unchanged : (q : Text) (w : Write) (stood : Option Text) → writes_key q w ≡ false → value_after q stood w ≡ stood
unchanged q (put key value) stood other = cond-false _ _ _ other
unchanged q (remove key) stood other = ap (λ (b : Bool). cond (not b) stood None) other
unchanged q (declare join) stood other = refl
unchanged q (drop_join at) stood other = refl

fold-of_key : (q : Text) (ws : List Write) (stood : Option Text) → fold (value_after q) stood ws ≡ fold (value_after q) stood (filter (writes_key q) ws)
fold-of_key q [] stood = refl
fold-of_key q (w ∷ ws) stood =
    elim (writes_key q w) as (λ b. writes_key q w ≡ b →
    fold (value_after q) (value_after q stood w) ws ≡ fold (value_after q) stood (cond b (w ∷ filter (writes_key q) ws) (filter (writes_key q) ws))) [
      | true ↦ λ e. fold-of_key q ws (value_after q stood w)
      | false ↦ λ e. ap (λ (x : Option Text). fold (value_after q) x ws) (unchanged q w stood e) ∙ fold-of_key q ws stood
    ] refl

-- ---- owners

-- whether a write changes a key whose owner has the number
abbrev pub owned_by : (Text → ℕ) → ℕ → Write → Bool
owned_by owner n (put key value) = owner key == n
owned_by owner n (remove key) = owner key == n
owned_by owner n (declare join) = false
owned_by owner n (drop_join at) = false

-- whether a write changes a key whose owner has a number below this one
abbrev pub owned_below : (Text → ℕ) → ℕ → Write → Bool
owned_below owner n (put key value) = nat_lt (owner key) n
owned_below owner n (remove key) = nat_lt (owner key) n
owned_below owner n (declare join) = false
owned_below owner n (drop_join at) = false

-- what changes a key is its owner's
owned_key : (owner : Text → ℕ) (q : Text) (w : Write) → writes_key q w ≡ true → owned_by owner (owner q) w ≡ true
owned_key owner q (put key value) is = eq-eqb (owner key) (owner q) (ap owner (sym (equal_by_same q key is)))
owned_key owner q (remove key) is = eq-eqb (owner key) (owner q) (ap owner (sym (equal_by_same q key is)))
owned_key owner q (declare join) is = absurd (false≢true is)
owned_key owner q (drop_join at) is = absurd (false≢true is)

-- what passes a test is among what passes a wider one
filter-wider : {A : Type 0} (narrow wide : A → Bool) → ((x : A) → narrow x ≡ true → wide x ≡ true) → (xs : List A) → filter narrow xs ≡ filter narrow (filter wide xs)
filter-wider narrow wide wider [] = refl
filter-wider narrow wide wider (x ∷ xs) =
    elim (narrow x) as (λ b. narrow x ≡ b → cond b (x ∷ filter narrow xs) (filter narrow xs) ≡ filter narrow (cond (wide x) (x ∷ filter wide xs) (filter wide xs))) [
      | true ↦ λ e.
          ap (λ ys. x ∷ ys) (filter-wider narrow wide wider xs) ∙ sym (cond-true (narrow x) _ _ e)
          ∙ ap (λ (b : Bool). filter narrow (cond b (x ∷ filter wide xs) (filter wide xs))) (sym (wider x e))
      | false ↦ λ e.
          filter-wider narrow wide wider xs
          ∙ (elim (wide x) as (λ b. filter narrow (filter wide xs) ≡ filter narrow (cond b (x ∷ filter wide xs) (filter wide xs))) [
            | true ↦ sym (cond-false (narrow x) _ _ e)
            | false ↦ refl
          ])
    ] refl

-- the writes of a key, among those of its owner
of_owner : (owner : Text → ℕ) (q : Text) (ws : List Write) → filter (writes_key q) ws ≡ filter (writes_key q) (filter (owned_by owner (owner q)) ws)
of_owner owner q ws = filter-wider (writes_key q) (owned_by owner (owner q)) (owned_key owner q) ws

-- histories in which each owner writes the same leave the same base pairs
pub same_base : (owner : Text → ℕ) (g h : History) →
    ((q : Text) → filter (owned_by owner (owner q)) (writes_in g) ≡ filter (owned_by owner (owner q)) (writes_in h)) → base_of g ≡ base_of h
same_base owner g h each =
    same_tables (base_of g) (base_of h) (ascending-base_of g) (ascending-base_of h) (λ q.
    value_at-base_from q g [] ∙ fold-of_key q (writes_in g) None
    ∙ ap (fold (value_after q) None) (of_owner owner q (writes_in g) ∙ ap (filter (writes_key q)) (each q) ∙ sym (of_owner owner q (writes_in h)))
    ∙ sym (fold-of_key q (writes_in h) None) ∙ sym (value_at-base_from q h []))

-- ---- lengths

-- one element more passes or does not
length-cond : {A : Type 0} (b : Bool) (x : A) (xs : List A) → length (cond b (x ∷ xs) xs) ≡ cond b 1 0 + length xs
length-cond true x xs = omega arith
length-cond false x xs = omega arith

-- a number below the next is below this one, or is this one
next_test : (m n : ℕ) → cond (nat_lt m (suc n)) 1 0 ≡ cond (nat_lt m n) 1 0 + cond (m == n) 1 0
next_test m n = grind (arith, nat_tests)

next_owner : (owner : Text → ℕ) (n : ℕ) (w : Write) → cond (owned_below owner (suc n) w) 1 0 ≡ cond (owned_below owner n w) 1 0 + cond (owned_by owner n w) 1 0
next_owner owner n (put key value) = next_test (owner key) n
next_owner owner n (remove key) = next_test (owner key) n
next_owner owner n (declare join) = refl
next_owner owner n (drop_join at) = refl

counted_next : (owner : Text → ℕ) (n : ℕ) (ws : List Write) →
    length (filter (owned_below owner (suc n)) ws) ≡ length (filter (owned_below owner n) ws) + length (filter (owned_by owner n) ws)
counted_next owner n [] = refl
counted_next owner n (w ∷ ws) =
    let more = length-cond (owned_below owner (suc n) w) w (filter (owned_below owner (suc n)) ws) in
    let low = length-cond (owned_below owner n w) w (filter (owned_below owner n) ws) in
    let here = length-cond (owned_by owner n w) w (filter (owned_by owner n) ws) in
    let one = next_owner owner n w in
    let rest = counted_next owner n ws in
    omega arith

none_below : (owner : Text → ℕ) (w : Write) → owned_below owner 0 w ≡ false
none_below owner (put key value) = grind (arith, nat_tests)
none_below owner (remove key) = grind (arith, nat_tests)
none_below owner (declare join) = refl
none_below owner (drop_join at) = refl

counted_none : (owner : Text → ℕ) (ws : List Write) → length (filter (owned_below owner 0) ws) ≡ 0
counted_none owner [] = refl
counted_none owner (w ∷ ws) = ap length (cond-false (owned_below owner 0 w) (w ∷ filter (owned_below owner 0) ws) (filter (owned_below owner 0) ws) (none_below owner w)) ∙ counted_none owner ws

counted_same : (owner : Text → ℕ) (n : ℕ) (vs ws : List Write) → ((i : ℕ) → i < n → filter (owned_by owner i) vs ≡ filter (owned_by owner i) ws) →
    length (filter (owned_below owner n) vs) ≡ length (filter (owned_below owner n) ws)
counted_same owner zero vs ws each = counted_none owner vs ∙ sym (counted_none owner ws)
counted_same owner (suc n) vs ws each =
    let low = counted_same owner n vs ws (λ i less. each i (omega arith)) in
    let here = ap length (each n (omega arith)) in
    let first = counted_next owner n vs in
    let second = counted_next owner n ws in
    omega arith

filter-all : {A : Type 0} (test : A → Bool) (xs : List A) → AllByRecursion (λ x. test x ≡ true) xs → filter test xs ≡ xs
filter-all test [] all = refl
filter-all test (x ∷ xs) all = cond-true (test x) (x ∷ filter test xs) (filter test xs) all.0 ∙ ap (λ ys. x ∷ ys) (filter-all test xs all.1)

-- lists in which each owner of so many writes the same, and nobody else writes, are as long
pub same_length : (owner : Text → ℕ) (n : ℕ) (vs ws : List Write) → AllByRecursion (λ w. owned_below owner n w ≡ true) vs → AllByRecursion (λ w. owned_below owner n w ≡ true) ws →
    ((i : ℕ) → i < n → filter (owned_by owner i) vs ≡ filter (owned_by owner i) ws) → length vs ≡ length ws
same_length owner n vs ws first second each =
    ap length (sym (filter-all (owned_below owner n) vs first)) ∙ counted_same owner n vs ws each ∙ ap length (filter-all (owned_below owner n) ws second)
