-- What was read at a key or in a range, as an answer.
use Rattle.std.proofs.Common.{◌≡◌, ◌∙◌, ℕ, List, [], ◌∷◌, length, Bool, true, false, cond, Some, None, refl, sym, ap, ap₂, arith}
use Rattle.semantics.specs.Texts.{Text, Range, Table, same, within, value_at, pairs_where, pairs_within}
use Rattle.semantics.specs.Histories.{History}
use Rattle.semantics.specs.States.{state}
use Rattle.semantics.specs.Answers.{get, scan, found, absent, pairs, answer}
use Rattle.semantics.proofs.PieceLemmas.{same_by_equal}
use Rattle.semantics.proofs.TableLemmas.{value_at_here}
use Rattle.semantics.proofs.MergedLemmas.{value_at-pairs_within}
use Rattle.key_ranges.specs.Ranges.{just}
use Rattle.key_ranges.proofs.PrefixLemmas.{within-just}
use Rattle.key_ranges.specs.AnswerLaws.{FirstOfJustIsFound, NoneOfJustIsAbsent}

-- a list of no length is empty
pub none_by_length : {A : Type 0} (xs : List A) → length xs ≡ 0 → xs ≡ []
none_by_length [] none = refl
none_by_length (x ∷ xs) none = absurd (omega arith)

-- of the pairs that pass a test the first does
first_by : (test : Text → Bool) (e pair : Text × Text) (later rest : Table) (b : Bool) → test e.0 ≡ b → (later ≡ pair ∷ rest → test pair.0 ≡ true) →
    cond b (e ∷ later) later ≡ pair ∷ rest → test pair.0 ≡ true
first_by test e pair later rest true passes more is = let first : e ≡ pair = cc in ap (λ p. test p.0) (sym first) ∙ passes
first_by test e pair later rest false fails more is = more is

first_passes : (test : Text → Bool) (table : Table) (pair : Text × Text) (rest : Table) → pairs_where test table ≡ pair ∷ rest → test pair.0 ≡ true
first_passes test [] pair rest is = absurd (cc)
first_passes test (e ∷ table) pair rest is = first_by test e pair (pairs_where test table) rest (test e.0) refl (first_passes test table pair rest) is

-- the value at a key is that in the range of just the key
value_in_just : (key : Text) (table : Table) → value_at key (pairs_within (just key) table) ≡ value_at key table
value_in_just key table =
    value_at-pairs_within (just key) key table ∙ ap (λ b. cond b (value_at key table) None) (within-just key key ∙ same_by_equal key key refl)

-- a pair in the range of just the key is what stands at the key
pub found_answers : (key : Text) (range : Range) (h : History) (position : ℕ) (table : Table) (pair : Text × Text) (rest : Table) →
    range ≡ just key → position ≡ length h → table ≡ pairs_within range (state h) → table ≡ pair ∷ rest → found position pair.1 ≡ answer (get key) h
unfolding answer
found_answers key range h position table pair rest only at is items =
    let there : pairs_within (just key) (state h) ≡ pair ∷ rest = ap (λ r. pairs_within r (state h)) (sym only) ∙ sym is ∙ items in
    let here : same key pair.0 ≡ true = sym (within-just key pair.0) ∙ first_passes (within (just key)) (state h) pair rest there in
    let value : value_at key (state h) ≡ Some pair.1 = sym (value_in_just key (state h)) ∙ ap (value_at key) there ∙ value_at_here key pair rest here in
    rw value (ap (λ n. found n pair.1) at)

-- with no pair in it nothing stands there
pub absent_answers : (key : Text) (range : Range) (h : History) (position : ℕ) (table : Table) →
    range ≡ just key → position ≡ length h → table ≡ pairs_within range (state h) → table ≡ [] → absent position ≡ answer (get key) h
unfolding answer
absent_answers key range h position table only at is items =
    let there : pairs_within (just key) (state h) ≡ [] = ap (λ r. pairs_within r (state h)) (sym only) ∙ sym is ∙ items in
    let value : value_at key (state h) ≡ None = sym (value_in_just key (state h)) ∙ ap (value_at key) there in
    rw value (ap absent at)

-- the pairs in a range
pub pairs_answer : (range : Range) (h : History) (position : ℕ) (table : Table) → position ≡ length h → table ≡ pairs_within range (state h) → pairs position table ≡ answer (scan range) h
unfolding answer
pairs_answer range h position table at is = ap₂ pairs at is

-- ---- the laws

pub first_of_just_is_found : FirstOfJustIsFound
first_of_just_is_found h key pair rest is = sym (found_answers key (just key) h (length h) (pair ∷ rest) pair rest refl refl (sym is) refl)

pub none_of_just_is_absent : NoneOfJustIsAbsent
none_of_just_is_absent h key is = sym (absent_answers key (just key) h (length h) [] refl refl (sym is) refl)
