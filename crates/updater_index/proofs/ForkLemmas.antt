-- Where the bounds of ranges part, and which keys lie in them.
use Rattle.std.proofs.Common.{◌≡◌, ℕ, zero, suc, ◌+◌, ◌<◌, ◌≤◌, Bool, true, false, cond, not, ◌&&◌, ◌||◌, ◌==◌, List, [], ◌∷◌, ◌++◌, length, take, Option, Some, None, refl, sym, ap, ◌∙◌, subst, Ordering, Less, Equal, Greater, is_eq, is_lt, arith}
use Rattle.std.specs.Cmp.{ranks, nat_cmp_total, unsigned_tied, tied_itself}
use Rattle.std.specs.Ordering.{nat_cmp, MatchOrdering, ordering_then, is_le}
use Rattle.std.specs.BTreeMap.{is_at}
use Rattle.std.specs.BTreeMap.Range.{range_contains}
use Rattle.std.specs.declared.ops.Bound.TheVariants.{Included, Excluded}
use Rattle.std.proofs.lemmas.Bool.{and_parts, and_from, eqb-true, eq-eqb, false≢true}
use Rattle.semantics.specs.Texts.{Text, same, text_cmp, Range, within}
use Rattle.semantics.proofs.PieceLemmas.{equal_by_same, same_itself}
use Rattle.semantics.proofs.TableLemmas.{same_is_tie, tie_itself}
use Rattle.updater_index.specs.declared.fork.Fork.{Fork}
use Rattle.updater_index.specs.Shared.{shared_len, next_at}
use Rattle.updater_index.specs.Forks.{fork_of, fork_cmp}
use Rattle.updater_index.specs.Registered.{same_range}
use Rattle.updater_index.specs.Spans.{is_same}

-- ---- first bytes in order

-- the first byte of a text below another is at most the other's
head_below : (k h : ℕ) (o : Ordering) → is_lt (ordering_then (nat_cmp k h) o) ≡ true → k ≤ h
head_below k h o = (elim (nat_cmp k h) as (λ w. MatchOrdering w (k < h) (k ≡ h) (h < k) → is_lt (ordering_then w o) ≡ true → k ≤ h) [
  | Less ↦ λ m e. omega arith
  | Equal ↦ λ m e. omega arith
  | Greater ↦ λ m e. absurd (false≢true e)
]) (ranks k h)

head_up_to : (k h : ℕ) (o : Ordering) → is_le (ordering_then (nat_cmp k h) o) ≡ true → k ≤ h
head_up_to k h o = (elim (nat_cmp k h) as (λ w. MatchOrdering w (k < h) (k ≡ h) (h < k) → is_le (ordering_then w o) ≡ true → k ≤ h) [
  | Less ↦ λ m e. omega arith
  | Equal ↦ λ m e. omega arith
  | Greater ↦ λ m e. absurd (false≢true e)
]) (ranks k h)

-- what follows an equal first byte decides
rest_by : (k h : ℕ) (o : Ordering) → k ≡ h → ordering_then (nat_cmp k h) o ≡ o
rest_by k h o e = ap (λ q. ordering_then (nat_cmp k q) o) (sym e) ∙ ap (λ w. ordering_then w o) (tied_itself nat_cmp_total k)

-- ---- a key between two bounds

-- a key between two bounds begins as both do, and goes on with at most the byte of the last
pub record GoesOn (n : ℕ) (key high : Text) : Type 0 where
  pub long : n ≤ length key
  pub begins : take n key ≡ take n high
  pub next : next_at n key ≤ next_at n high

at_first : (k : ℕ) (ks : Text) (h : ℕ) (hs : Text) → k ≤ h → GoesOn 0 (k ∷ ks) (h ∷ hs)
at_first k ks h hs e = record { long = omega arith; begins = refl; next = omega arith }

none_first : (h : ℕ) (hs : Text) → GoesOn 0 [] (h ∷ hs)
none_first h hs = record { long = omega arith; begins = refl; next = omega arith }

one_more : (n k : ℕ) (ks : Text) (h : ℕ) (hs : Text) → k ≡ h → GoesOn n ks hs → GoesOn (suc n) (k ∷ ks) (h ∷ hs)
one_more n k ks h hs e g = record { long = omega (arith, g.long); begins = (λ i. e i ∷ g.begins i); next = g.next }

goes_by : (b c k : ℕ) (bs cs ks : Text) (t : Bool) → (b == c) ≡ t → is_le (text_cmp (b ∷ bs) (k ∷ ks)) ≡ true → is_lt (text_cmp (k ∷ ks) (c ∷ cs)) ≡ true →
    (is_le (text_cmp bs ks) ≡ true → is_lt (text_cmp ks cs) ≡ true → GoesOn (shared_len bs cs) ks cs) → GoesOn (cond t (shared_len bs cs + 1) 0) (k ∷ ks) (c ∷ cs)
goes_by b c k bs cs ks true e up down more =
    let equal : b ≡ c = eqb-true b c e in
    let above : b ≤ k = head_up_to b k (text_cmp bs ks) up in
    let below : k ≤ c = head_below k c (text_cmp ks cs) down in
    let last : k ≡ c = omega arith in
    let first : b ≡ k = omega arith in
    subst (λ n. GoesOn n (k ∷ ks) (c ∷ cs)) (let s : suc (shared_len bs cs) ≡ shared_len bs cs + 1 = omega arith in s)
    (one_more (shared_len bs cs) k ks c cs last (more (ap is_le (sym (rest_by b k (text_cmp bs ks) first)) ∙ up) (ap is_lt (sym (rest_by k c (text_cmp ks cs) last)) ∙ down)))
goes_by b c k bs cs ks false e up down more = at_first k ks c cs (head_below k c (text_cmp ks cs) down)

pub goes_on : (low high key : Text) → is_le (text_cmp low key) ≡ true → is_lt (text_cmp key high) ≡ true → GoesOn (shared_len low high) key high
goes_on [] [] [] up down = absurd (false≢true down)
goes_on [] [] (k ∷ ks) up down = absurd (false≢true down)
goes_on [] (c ∷ cs) [] up down = none_first c cs
goes_on [] (c ∷ cs) (k ∷ ks) up down = at_first k ks c cs (head_below k c (text_cmp ks cs) down)
goes_on (b ∷ bs) [] [] up down = absurd (false≢true down)
goes_on (b ∷ bs) [] (k ∷ ks) up down = absurd (false≢true down)
goes_on (b ∷ bs) (c ∷ cs) [] up down = absurd (false≢true up)
goes_on (b ∷ bs) (c ∷ cs) (k ∷ ks) up down = goes_by b c k bs cs ks (b == c) refl up down (goes_on bs cs ks)

-- ---- forks that tie

tie_both : (o p : Ordering) → is_eq (ordering_then o p) ≡ (is_eq o && is_eq p)
tie_both Less p = refl
tie_both Equal p = refl
tie_both Greater p = refl

-- forks tie exactly where their parts are the same
fork_tie : (f g : Fork) → is_at (fork_cmp f) g ≡ (same f.beginning g.beginning && (f.next == g.next))
fork_tie f g =
    tie_both (text_cmp f.beginning g.beginning) (nat_cmp f.next g.next)
    ∙ ap (λ b. b && is_eq (nat_cmp f.next g.next)) (sym (same_is_tie f.beginning g.beginning))
    ∙ ap (λ b. same f.beginning g.beginning && b) (unsigned_tied f.next g.next)

-- forks that tie are equal
pub tied_forks : (f g : Fork) → is_at (fork_cmp f) g ≡ true → f ≡ g
tied_forks f g e =
    let parts = and_parts (same f.beginning g.beginning) (f.next == g.next) (sym (fork_tie f g) ∙ e) in
    let beginning = equal_by_same f.beginning g.beginning parts.0 in
    let next = eqb-true f.next g.next parts.1 in
    (λ i. record { beginning = beginning i; next = next i })

pub fork_ties_itself : (f : Fork) → is_at (fork_cmp f) f ≡ true
fork_ties_itself f = fork_tie f f ∙ and_from (same f.beginning f.beginning) (f.next == f.next) (same_itself f.beginning) (eq-eqb f.next f.next refl)

-- the same ranges part at the same place
pub same_fork : (b : Range) (id : ℕ) (r : Range) (q : ℕ) → is_same b id r q ≡ true → fork_of b ≡ fork_of r
same_fork b id r q e =
    let parts = and_parts (same_range b r) (id == q) e in
    let ends = and_parts (same b.low r.low) (same b.high r.high) parts.0 in
    let low = equal_by_same b.low r.low ends.0 in
    let high = equal_by_same b.high r.high ends.1 in
    (λ i. fork_of (record { low = low i; high = high i }))
