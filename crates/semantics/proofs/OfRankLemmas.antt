-- The joins of a rank among the joins that stand, and which join a key's output belongs to.
use Rattle.std.proofs.Common.{◌≡◌, ℕ, zero, suc, ◌<◌, ◌==◌, List, [], ◌∷◌, ◌++◌, length, map, filter, zip, Bool, true, false, cond, ◌&&◌, ◌||◌, slice_get, slice_index, Contains, Some, refl, sym, ap, subst, ◌∙◌, ⊎_elim, arith, eqb-true, eq-eqb, true≢false}
use Rattle.std.specs.Cmp.{nat_eq_equiv}
use Rattle.std.specs.Cmp.Lexicographic.{nat_list_eq_equiv}
use Rattle.std.specs.List.{AllByRecursion, list_any}
use Rattle.std.proofs.lemmas.Bool.{cond-true, cond-false, cases_order, false_from_ne_true}
use Rattle.std.proofs.lemmas.List.Elements.{All-from_recursion, All-contains, Contains-append_right}
use Rattle.std.proofs.lemmas.List.Folds.{list_any_at}
use Rattle.std.proofs.lemmas.List.FromFn.{length-map-range_with_len}
use Rattle.std.proofs.lemmas.Option.{none-some, same_Some, slice_get_within, slice_get-get_or, get_or_from_slice_get}
use Rattle.semantics.specs.Texts.{Text}
use Rattle.semantics.specs.Patterns.{Segment, literal, slot, Pattern, fits, segments_meet, overlaps}
use Rattle.semantics.specs.Histories.{DeclaredJoin}
use Rattle.semantics.specs.Graphs.{rank}
use Rattle.semantics.specs.States.{reading, ranks_of, of_rank, AreApart}
use Rattle.semantics.proofs.PatternLemmas.{fits_overlap}

-- ---- lists

-- what holds of each element holds of the one at a place
pub all_at : {X : Type 0} (P : X → Type 0) (xs : List X) (i : ℕ) (x : X) → AllByRecursion P xs → slice_get xs i ≡ Some x → P x
all_at P [] i x all at = absurd (none-some x at)
all_at P (y ∷ xs) zero x all at = subst P (same_Some y x at) all.0
all_at P (y ∷ xs) (suc i) x all at = all_at P xs i x all.1 at

-- a test that no element passes fails at each place
pub list_any_false_at : {X : Type 0} (p : X → Bool) (xs : List X) (i : ℕ) (x : X) → list_any p xs ≡ false → slice_get xs i ≡ Some x → p x ≡ false
list_any_false_at p xs i x none at =
    false_from_ne_true (p x) (λ e. true≢false (sym (list_any_at p xs i x (slice_get_within xs i x at) (ap p (get_or_from_slice_get xs i x x at) ∙ e)) ∙ none))

-- a test that passes at a place is one that an element passes
pub list_any_true_at : {X : Type 0} (p : X → Bool) (xs : List X) (i : ℕ) (x : X) → slice_get xs i ≡ Some x → p x ≡ true → list_any p xs ≡ true
list_any_true_at p xs i x at e = list_any_at p xs i x (slice_get_within xs i x at) (ap p (get_or_from_slice_get xs i x x at) ∙ e)

-- ---- the joins beside a number

-- the joins beside the number r
abbrev pub picked : ℕ → List ℕ → List DeclaredJoin → List DeclaredJoin
picked r ranks joins = map (λ p. p.1) (filter (λ p. p.0 == r) (zip ranks joins))

-- what holds of each join beside r holds of each that is picked
pub all_picked : (P : DeclaredJoin → Type 0) (r : ℕ) (ranks : List ℕ) (joins : List DeclaredJoin) →
    ((i : ℕ) (s : DeclaredJoin) → slice_get ranks i ≡ Some r → slice_get joins i ≡ Some s → P s) → AllByRecursion P (picked r ranks joins)
all_picked P r [] joins each = tt
all_picked P r (n ∷ ranks) [] each = tt
all_picked P r (n ∷ ranks) (s ∷ joins) each =
    let rest = all_picked P r ranks joins (λ i t. each (suc i) t) in
    elim (n == r) as (λ b. n == r ≡ b → AllByRecursion P (map (λ p. p.1) (cond b ((n, s) ∷ filter (λ p. p.0 == r) (zip ranks joins)) (filter (λ p. p.0 == r) (zip ranks joins))))) [
      | true ↦ λ e. (each 0 s (ap Some (eqb-true n r e)) refl, rest)
      | false ↦ λ e. rest
    ] refl

-- the joins that are picked around one of them, each of which is beside r at another place
pub record Around (P : DeclaredJoin → Type 0) (r : ℕ) (ranks : List ℕ) (joins : List DeclaredJoin) (s : DeclaredJoin) : Type 0 where
  pub before : List DeclaredJoin
  pub after : List DeclaredJoin
  pub split : picked r ranks joins ≡ before ++ s ∷ after
  pub earlier : AllByRecursion P before
  pub later : AllByRecursion P after

-- a join beside r is picked, and what holds of the joins beside r at other places holds of all others that are
pub picked_around : (P : DeclaredJoin → Type 0) (r : ℕ) (ranks : List ℕ) (joins : List DeclaredJoin) (i : ℕ) (s : DeclaredJoin) →
    slice_get ranks i ≡ Some r → slice_get joins i ≡ Some s →
    ((k : ℕ) (t : DeclaredJoin) → (k ≡ i → ⊥) → slice_get ranks k ≡ Some r → slice_get joins k ≡ Some t → P t) → Around P r ranks joins s
picked_around P r [] joins i s beside at others = absurd (none-some r beside)
picked_around P r (n ∷ ranks) [] i s beside at others = absurd (none-some s at)
picked_around P r (n ∷ ranks) (x ∷ joins) zero s beside at others = record {
  before = [];
  after = picked r ranks joins;
  split =
      ap (map (λ (p : ℕ × DeclaredJoin). p.1)) (cond-true (n == r) ((n, x) ∷ filter (λ p. p.0 == r) (zip ranks joins)) (filter (λ p. p.0 == r) (zip ranks joins)) (eq-eqb n r (same_Some n r beside)))
      ∙ ap (λ y. y ∷ picked r ranks joins) (same_Some x s at);
  earlier = tt;
  later = all_picked P r ranks joins (λ k t. others (suc k) t (λ e. absurd (omega arith)));
}
picked_around P r (n ∷ ranks) (x ∷ joins) (suc i) s beside at others =
    let rest = picked_around P r ranks joins i s beside at (λ k t apart. others (suc k) t (λ e. apart (omega arith))) in
    elim (n == r) as (λ b. n == r ≡ b → Around P r (n ∷ ranks) (x ∷ joins) s) [
      | true ↦ λ e. record {
        before = x ∷ rest.before;
        after = rest.after;
        split =
            ap (map (λ (p : ℕ × DeclaredJoin). p.1)) (cond-true (n == r) ((n, x) ∷ filter (λ p. p.0 == r) (zip ranks joins)) (filter (λ p. p.0 == r) (zip ranks joins)) e)
            ∙ ap (λ ys. x ∷ ys) rest.split;
        earlier = (others 0 x (λ z. absurd (omega arith)) (ap Some (eqb-true n r e)) refl, rest.earlier);
        later = rest.later;
      }
      | false ↦ λ e. record {
        before = rest.before;
        after = rest.after;
        split =
            ap (map (λ (p : ℕ × DeclaredJoin). p.1)) (cond-false (n == r) ((n, x) ∷ filter (λ p. p.0 == r) (zip ranks joins)) (filter (λ p. p.0 == r) (zip ranks joins)) e)
            ∙ rest.split;
        earlier = rest.earlier;
        later = rest.later;
      }
    ] refl

-- ---- the joins of a rank

-- each join that stands has a rank
pub length-ranks_of : (joins : List DeclaredJoin) → length (ranks_of joins) ≡ length joins
length-ranks_of joins = length-map-range_with_len (rank (length joins) (reading joins)) 0 (length joins)

-- the rank of a join that stands, as an element
pub rank_at : (joins : List DeclaredJoin) (i : ℕ) (s : DeclaredJoin) → slice_get joins i ≡ Some s → slice_get (ranks_of joins) i ≡ Some (slice_index (ranks_of joins) i)
rank_at joins i s at = slice_get-get_or (ranks_of joins) i 0 (let b = slice_get_within joins i s at in omega (arith, length-ranks_of joins))

-- each join of a rank stands, and has that rank
pub record HasRank (r : ℕ) (joins : List DeclaredJoin) (s : DeclaredJoin) : Type 0 where
  pub place : ℕ
  pub stands : slice_get joins place ≡ Some s
  pub ranked : slice_index (ranks_of joins) place ≡ r

-- the joins of a rank stand, and have that rank
pub of_rank-members : (r : ℕ) (joins : List DeclaredJoin) (s : DeclaredJoin) → Contains (of_rank r joins) s → HasRank r joins s
of_rank-members r joins s has =
    All-contains (HasRank r joins) (of_rank r joins) s
    (All-from_recursion (HasRank r joins) (of_rank r joins)
    (all_picked (HasRank r joins) r (ranks_of joins) joins
    (λ i t beside at. record { place = i; stands = at; ranked = get_or_from_slice_get (ranks_of joins) i r 0 beside }))) has

-- each join that stands is among those of its rank
pub of_rank_has : (joins : List DeclaredJoin) (i : ℕ) (s : DeclaredJoin) → slice_get joins i ≡ Some s → Contains (of_rank (slice_index (ranks_of joins) i) joins) s
of_rank_has joins i s at =
    let r = slice_index (ranks_of joins) i in
    let around = picked_around (λ t. Unit {0}) r (ranks_of joins) joins i s (rank_at joins i s at) at (λ k t apart beside there. tt) in
    subst (λ ss. Contains ss s) (sym around.split) (Contains-append_right around.before (s ∷ around.after) s (0, omega arith, refl))

-- ---- overlaps

or_swap : (x y : Bool) → (x || y) ≡ (y || x)
or_swap true true = refl
or_swap true false = refl
or_swap false true = refl
or_swap false false = refl

-- whether two segments meet does not depend on which is first
segments_meet_symmetric : (s t : Segment) → segments_meet s t ≡ segments_meet t s
segments_meet_symmetric (literal l) (literal m) = nat_list_eq_equiv.symm l m
segments_meet_symmetric (literal l) (slot place width) = refl
segments_meet_symmetric (slot place width) (literal l) = refl
segments_meet_symmetric (slot place width) (slot other asked) =
    λ i. or_swap (width == 0) (asked == 0) i || nat_eq_equiv.symm width asked i

-- whether two patterns overlap does not depend on which is first
pub overlaps_symmetric : (p q : Pattern) → overlaps p q ≡ overlaps q p
overlaps_symmetric [] [] = refl
overlaps_symmetric [] (t ∷ q) = refl
overlaps_symmetric (s ∷ p) [] = refl
overlaps_symmetric (s ∷ p) (t ∷ q) = λ i. segments_meet_symmetric s t i && overlaps_symmetric p q i

-- ---- outputs that are apart

-- an output does not overlap a later one
pub apart_at : (joins : List DeclaredJoin) (i k : ℕ) (s t : DeclaredJoin) → AreApart joins → i < k → slice_get joins i ≡ Some s → slice_get joins k ≡ Some t →
    overlaps s.join.output t.join.output ≡ false
apart_at [] i k s t apart less at there = absurd (none-some s at)
apart_at (x ∷ joins) i zero s t apart less at there = absurd (omega arith)
apart_at (x ∷ joins) zero (suc k) s t apart less at there =
    subst (λ y. overlaps y.join.output t.join.output ≡ false) (same_Some x s at)
    (all_at (λ other. overlaps x.join.output other.join.output ≡ false) joins k t apart.0 there)
apart_at (x ∷ joins) (suc i) (suc k) s t apart less at there = apart_at joins i k s t apart.1 (omega arith) at there

-- where outputs are apart, a key fits the output of one join alone
pub one_output : (joins : List DeclaredJoin) (i k : ℕ) (s t : DeclaredJoin) (key : Text) → AreApart joins →
    slice_get joins i ≡ Some s → slice_get joins k ≡ Some t → fits s.join.output key ≡ true → fits t.join.output key ≡ true → i ≡ k
one_output joins i k s t key apart at there fit fits' =
    let meet = fits_overlap s.join.output t.join.output key fit fits' in
    ⊎_elim (λ e. e)
    (λ o. ⊎_elim
    (λ l. absurd (true≢false (sym meet ∙ apart_at joins i k s t apart l at there)))
    (λ l. absurd (true≢false (sym meet ∙ overlaps_symmetric s.join.output t.join.output ∙ apart_at joins k i t s apart l there at))) o)
    (cases_order i k)
