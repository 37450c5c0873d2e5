-- One fork after another of a map.
use Rattle.std.proofs.Common.{◌≡◌, ℕ, Bool, true, false, cond, not, ◌&&◌, ◌||◌, ◌⊎◌, inl, inr, List, [], ◌∷◌, length, Option, Some, None, is_some, Result, Ok, Err, refl, sym, ap, ◌∙◌, subst}
use Rattle.std.specs.Ordering.{nat_cmp}
use Rattle.std.specs.BTreeMap.{is_at}
use Rattle.std.specs.BTreeSet.{BTreeSet, contains}
use Rattle.std.specs.Result.{OnOk, OnErr}
use Rattle.std.proofs.lemmas.Bool.{and_parts, or_left, or_right, or_cases, false≢true}
use Rattle.semantics.specs.Texts.{Text, Range}
use Rattle.updater_index.specs.declared.fork.Fork.{Fork}
use Rattle.updater_index.specs.declared.side.Span.{Span}
use Rattle.updater_index.specs.Forks.{fork_of, fork_cmp}
use Rattle.updater_index.specs.Spans.{has_low, is_same}
use Rattle.updater_index.specs.Sides.{Sides, side_at, is_among, is_registered, AreForks, AddsRange, RemovesRange, KeepsRanges}
use Rattle.updater_index.proofs.ForkLemmas.{tied_forks, fork_ties_itself, same_fork}

-- the new map has this at the fork, and at every other fork what it had
abbrev pub IsSet : Fork → Option (List Span) → Sides → Sides → Type 0
IsSet key o old new = (q : Fork) → side_at q new ≡ cond (is_at (fork_cmp key) q) o (side_at q old)

-- what is at a fork, where it is set, and else
by_set : (key : Fork) (o : Option (List Span)) (old new : Sides) → IsSet key o old new → (fork : Fork) (r : Range) (q : ℕ) (t : Bool) → is_at (fork_cmp key) fork ≡ t →
    is_among (side_at fork new) r q ≡ cond t (is_among o r q) (is_among (side_at fork old) r q)
by_set key o old new set fork r q true e = ap (λ s. is_among s r q) (set fork ∙ ap (λ b. cond b o (side_at fork old)) e)
by_set key o old new set fork r q false e = ap (λ s. is_among s r q) (set fork ∙ ap (λ b. cond b o (side_at fork old)) e)

at_key : (key : Fork) (old : Sides) (fork : Fork) (r : Range) (q : ℕ) → is_at (fork_cmp key) fork ≡ true → is_among (side_at key old) r q ≡ is_among (side_at fork old) r q
at_key key old fork r q e = ap (λ f. is_among (side_at f old) r q) (tied_forks key fork e)

some_at : (key : Fork) (old : Sides) (fork : Fork) → is_at (fork_cmp key) fork ≡ true → is_some (side_at key old) ≡ is_some (side_at fork old)
some_at key old fork e = ap (λ f. is_some (side_at f old)) (tied_forks key fork e)

-- a test of a fork as it is, with what follows from either answer
by_test : (key fork : Fork) (P : Bool → Type 0) → (is_at (fork_cmp key) fork ≡ true → P true) → (is_at (fork_cmp key) fork ≡ false → P false) → P (is_at (fork_cmp key) fork)
by_test key fork P if_true if_false = (elim (is_at (fork_cmp key) fork) as (λ t. is_at (fork_cmp key) fork ≡ t → P t) [ true ↦ if_true | false ↦ if_false ]) refl

-- ---- a range more

pub adds-from_set : (b : Range) (id : ℕ) (o : Option (List Span)) (old new : Sides) → ((r : Range) (q : ℕ) → is_among o r q ≡ (is_same b id r q || is_among (side_at (fork_of b) old) r q)) →
    IsSet (fork_of b) o old new → AddsRange b id old new
adds-from_set b id o old new h set = record {
  among = λ fork r q. by_test (fork_of b) fork (λ t. is_at (fork_cmp (fork_of b)) fork ≡ t → is_among (side_at fork new) r q ≡ ((t && is_same b id r q) || is_among (side_at fork old) r q))
      (λ e f. by_set (fork_of b) o old new set fork r q true e ∙ h r q ∙ ap (λ a. is_same b id r q || a) (at_key (fork_of b) old fork r q e))
      (λ e f. by_set (fork_of b) o old new set fork r q false e) refl;
  present = λ fork p. by_test (fork_of b) fork (λ t. (t || is_some (side_at fork old)) ≡ true) (λ e. refl)
      (λ e. ap is_some (sym (set fork ∙ ap (λ x. cond x o (side_at fork old)) e)) ∙ p);
}

-- ---- the same ranges

pub keeps-from_set : (key : Fork) (o : Option (List Span)) (old new : Sides) → ((r : Range) (q : ℕ) → is_among o r q ≡ is_among (side_at key old) r q) → is_some (side_at key old) ≡ true →
    IsSet key o old new → KeepsRanges old new
keeps-from_set key o old new h there set = record {
  among = λ fork r q. by_test key fork (λ t. is_at (fork_cmp key) fork ≡ t → is_among (side_at fork new) r q ≡ is_among (side_at fork old) r q)
      (λ e f. by_set key o old new set fork r q true e ∙ h r q ∙ at_key key old fork r q e)
      (λ e f. by_set key o old new set fork r q false e) refl;
  present = λ fork p. by_test key fork (λ t. is_some (side_at fork old) ≡ true)
      (λ e. sym (some_at key old fork e) ∙ there)
      (λ e. ap is_some (sym (set fork ∙ ap (λ x. cond x o (side_at fork old)) e)) ∙ p);
}

pub keeps-itself : (old : Sides) → KeepsRanges old old
keeps-itself old = record { among = λ fork r q. refl; present = λ fork p. p }

-- ---- a range less

none_left : (t : Bool) (a : Bool) (o : Option (List Span)) (s : Option (List Span)) → is_some (cond t o s) ≡ true → (t ≡ true → is_some s ≡ true) → is_some s ≡ true
none_left true a o s h f = f refl
none_left false a o s h f = h

pub removes-from_set : (b : Range) (id : ℕ) (o : Option (List Span)) (old new : Sides) → ((r : Range) (q : ℕ) → is_among o r q ≡ (not (is_same b id r q) && is_among (side_at (fork_of b) old) r q)) →
    is_some (side_at (fork_of b) old) ≡ true → IsSet (fork_of b) o old new → RemovesRange b id old new
removes-from_set b id o old new h there set = record {
  among = λ fork r q. by_test (fork_of b) fork (λ t. is_at (fork_cmp (fork_of b)) fork ≡ t → is_among (side_at fork new) r q ≡ (not (t && is_same b id r q) && is_among (side_at fork old) r q))
      (λ e f. by_set (fork_of b) o old new set fork r q true e ∙ h r q ∙ ap (λ a. not (is_same b id r q) && a) (at_key (fork_of b) old fork r q e))
      (λ e f. by_set (fork_of b) o old new set fork r q false e) refl;
  present = λ fork p. by_test (fork_of b) fork (λ t. is_some (side_at fork old) ≡ true)
      (λ e. sym (some_at (fork_of b) old fork e) ∙ there)
      (λ e. ap is_some (sym (set fork ∙ ap (λ x. cond x o (side_at fork old)) e)) ∙ p);
}

false_by : (t : Bool) → false ≡ (t && false)
false_by true = refl
false_by false = refl

pub removes-nothing : (b : Range) (id : ℕ) (old new : Sides) → side_at (fork_of b) old ≡ None → new ≡ old → RemovesRange b id old new
removes-nothing b id old new none is = subst (λ m. RemovesRange b id old m) (sym is) (record {
  among = λ fork r q. by_test (fork_of b) fork (λ t. is_at (fork_cmp (fork_of b)) fork ≡ t → is_among (side_at fork old) r q ≡ (not (t && is_same b id r q) && is_among (side_at fork old) r q))
      (λ e f. let no : is_among (side_at fork old) r q ≡ false = sym (at_key (fork_of b) old fork r q e) ∙ ap (λ s. is_among s r q) none in
      no ∙ false_by (not (is_same b id r q)) ∙ ap (λ a. not (is_same b id r q) && a) (sym no))
      (λ e f. refl) refl;
  present = λ fork p. p;
})

-- what is set twice is set to the last
pub set_twice : (key : Fork) (o p : Option (List Span)) (old now new : Sides) → IsSet key o old now → IsSet key p now new → IsSet key p old new
set_twice key o p old now new first second = λ q.
    second q ∙ by_test key q (λ t. cond t p (side_at q now) ≡ cond t p (side_at q old)) (λ e. refl) (λ e. first q ∙ ap (λ b. cond b o (side_at q old)) e)

-- ---- forks with their lengths

pub forks_more : (b : Range) (id : ℕ) (lengths more : BTreeSet ℕ) (old new : Sides) → contains nat_cmp more (length (fork_of b).beginning) ≡ true →
    ((n : ℕ) → contains nat_cmp lengths n ≡ true → contains nat_cmp more n ≡ true) → AreForks lengths old → AddsRange b id old new → AreForks more new
forks_more b id lengths more old new own grows f a = record {
  known = λ fork p. elim (or_cases (is_at (fork_cmp (fork_of b)) fork) (is_some (side_at fork old)) (a.present fork p)) [
    | inl here ↦ subst (λ g. contains nat_cmp more (length g.beginning) ≡ true) (tied_forks (fork_of b) fork here) own
    | inr there ↦ grows (length fork.beginning) (f.known fork there)
  ];
  placed = λ fork r q h. elim (or_cases (is_at (fork_cmp (fork_of b)) fork && is_same b id r q) (is_among (side_at fork old) r q) (sym (a.among fork r q) ∙ h)) [
    | inl here ↦
        let parts = and_parts (is_at (fork_cmp (fork_of b)) fork) (is_same b id r q) here in
        ap (λ g. is_at (fork_cmp g) (fork_of r)) (sym (tied_forks (fork_of b) fork parts.0)) ∙ ap (λ g. is_at (fork_cmp g) (fork_of r)) (same_fork b id r q parts.1) ∙ fork_ties_itself (fork_of r)
    | inr there ↦ f.placed fork r q there
  ];
}

pub forks_kept : (lengths more : BTreeSet ℕ) (old new : Sides) → ((n : ℕ) → contains nat_cmp lengths n ≡ true → contains nat_cmp more n ≡ true) → AreForks lengths old → KeepsRanges old new → AreForks more new
forks_kept lengths more old new grows f k = record {
  known = λ fork p. grows (length fork.beginning) (f.known fork (k.present fork p));
  placed = λ fork r q h. f.placed fork r q (sym (k.among fork r q) ∙ h);
}

pub forks_less : (b : Range) (id : ℕ) (lengths : BTreeSet ℕ) (old new : Sides) → AreForks lengths old → RemovesRange b id old new → AreForks lengths new
forks_less b id lengths old new f m = record {
  known = λ fork p. f.known fork (m.present fork p);
  placed = λ fork r q h. f.placed fork r q ((and_parts (not (is_at (fork_cmp (fork_of b)) fork && is_same b id r q)) (is_among (side_at fork old) r q) (sym (m.among fork r q) ∙ h)).1);
}

-- what follows from either answer of a call
pub by_result : {T E P Q : Type 0} (R : Type 0) (r : Result T E) → OnOk r P → OnErr r Q → (P → R) → (Q → R) → R
by_result R (Ok x) p q f g = f p
by_result R (Err e) p q f g = g q

grown : (n m : ℕ) (t b : Bool) → b ≡ true → cond t true b ≡ true
grown n m true b h = refl
grown n m false b h = h

-- a length more
pub lengths_grow : (lengths more : BTreeSet ℕ) (m : ℕ) → ((q : ℕ) → contains nat_cmp more q ≡ cond (is_at (nat_cmp m) q) true (contains nat_cmp lengths q)) → (n : ℕ) → contains nat_cmp lengths n ≡ true → contains nat_cmp more n ≡ true
lengths_grow lengths more m h n c = h n ∙ grown n m (is_at (nat_cmp m) n) (contains nat_cmp lengths n) c

-- ---- whether a range is registered

same_here : (b : Range) (id : ℕ) (r : Range) (q : ℕ) → (is_at (fork_cmp (fork_of b)) (fork_of r) && is_same b id r q) ≡ is_same b id r q
same_here b id r q = (elim (is_same b id r q) as (λ t. is_same b id r q ≡ t → (is_at (fork_cmp (fork_of b)) (fork_of r) && t) ≡ t) [
  | true ↦ λ e. ap (λ t. t && true) (ap (λ f. is_at (fork_cmp f) (fork_of r)) (same_fork b id r q e) ∙ fork_ties_itself (fork_of r))
  | false ↦ λ e. sym (false_by (is_at (fork_cmp (fork_of b)) (fork_of r)))
]) refl

pub registered-adds : (b : Range) (id : ℕ) (old new : Sides) → AddsRange b id old new → (r : Range) (q : ℕ) → is_registered new r q ≡ (is_same b id r q || is_registered old r q)
registered-adds b id old new a r q = a.among (fork_of r) r q ∙ ap (λ t. t || is_registered old r q) (same_here b id r q)

pub registered-removes : (b : Range) (id : ℕ) (old new : Sides) → RemovesRange b id old new → (r : Range) (q : ℕ) → is_registered new r q ≡ (not (is_same b id r q) && is_registered old r q)
registered-removes b id old new m r q = m.among (fork_of r) r q ∙ ap (λ t. not t && is_registered old r q) (same_here b id r q)

pub registered-keeps : (old new : Sides) → KeepsRanges old new → (r : Range) (q : ℕ) → is_registered new r q ≡ is_registered old r q
registered-keeps old new k r q = k.among (fork_of r) r q

-- ---- what is left at a fork

pub left_by : (b : Range) (low high : Text) (id : ℕ) (ss left : List Span) (s : Option (List Span)) → low ≡ b.low → high ≡ b.high → Some ss ≡ s →
    ((r : Range) (q : ℕ) → has_low left r q ≡ (not (is_same (record { low = low; high = high }) id r q) && has_low ss r q)) → (r : Range) (q : ℕ) → has_low left r q ≡ (not (is_same b id r q) && is_among s r q)
left_by b low high id ss left s e f g h r q = h r q ∙ (λ i. not (is_same (record { low = e i; high = f i }) id r q) && is_among (g i) r q)
