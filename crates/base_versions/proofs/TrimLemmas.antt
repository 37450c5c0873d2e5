-- Versions without some first ones that nobody asks for who asks from a position on.
use Rattle.std.proofs.Common.{◌≡◌, ℕ, zero, suc, ◌+◌, ◌-◌, ◌<◌, ◌≤◌, List, [], ◌∷◌, ◌++◌, length, take, fold, drop, get_or, nat_le, true, false, cond, Option, Some, None, refl, sym, ap, ◌∙◌, subst, ◌⊎◌, ⊎_elim, inl, inr, arith}
use Rattle.std.specs.List.{AllByRecursion}
use lib.Seq.{drop-drop, take-add}
use Rattle.std.proofs.lemmas.List.{length-drop, length-append, take-append-le, drop-append-le}
use Rattle.std.proofs.lemmas.Bool.{le-leb}
use Rattle.semantics.specs.Texts.{Text}
use Rattle.semantics.proofs.Members.{AllByRecursion-append}
use Rattle.base_versions.specs.declared.versions.Version.{Version}
use Rattle.base_versions.specs.Positions.{IsKeptSince, KeepsTo}
use Rattle.base_versions.specs.Versions.{value_in, AscendFrom, SayFrom, TrimsTo, IsTrimmed}
use Rattle.base_versions.proofs.PositionLemmas.{ascend-kept_since}
use Rattle.base_versions.proofs.VersionLemmas.{taken, say_from_all}

-- ---- lists of positions

module _ {X : Type 0} (position : X → ℕ) where
  -- what is at most a position is at most a later one
  later : (start to : ℕ) (xs : List X) → start ≤ to → AllByRecursion (λ x. position x ≤ start) xs → AllByRecursion (λ x. position x ≤ to) xs
  later start to [] less all = tt
  later start to (x ∷ xs) less all = (let a = all.0 in omega arith, later start to xs less all.1)

  -- of some first elements, fewer
  fewer : (n m : ℕ) (to : ℕ) (xs : List X) → n ≤ m → AllByRecursion (λ x. position x ≤ to) (take m xs) → AllByRecursion (λ x. position x ≤ to) (take n xs)
  fewer zero m to xs less all = tt
  fewer (suc n) zero to xs less all = absurd (omega arith)
  fewer (suc n) (suc m) to [] less all = tt
  fewer (suc n) (suc m) to (x ∷ xs) less all = (all.0, fewer n m to xs (omega arith) all.1)

  -- some first ones more are left out, none of which is after the new start
  pub kept_since-dropped : (start to n : ℕ) (kept all : List X) → start ≤ to → n ≤ length kept → AllByRecursion (λ x. position x ≤ to) (take n kept) → IsKeptSince position start kept all → IsKeptSince position to (drop n kept) all
  kept_since-dropped start to n kept all less short early s =
      let size = ap length s.rest ∙ length-drop s.count all in
      record {
        count = s.count + n;
        within = let w = s.within in omega arith;
        rest = ap (drop n) s.rest ∙ drop-drop n s.count all;
        early = subst (AllByRecursion (λ x. position x ≤ to)) (sym (take-add s.count n all))
            (AllByRecursion-append (λ x. position x ≤ to) (take s.count all) (take n (drop s.count all)) (later start to (take s.count all) less s.early)
            (subst (λ xs. AllByRecursion (λ x. position x ≤ to) (take n xs)) s.rest early));
      }

  -- the same list
  pub keeps-same : (to : ℕ) (xs : List X) → KeepsTo position to xs xs
  keeps-same to xs start all less s = kept_since-dropped start to 0 xs all less (omega arith) tt s

  -- a list without its first element, which is not after the position
  pub keeps-rest : (to : ℕ) (xs : List X) (x : X) → 0 < length xs → x ≡ get_or xs 0 x → position x ≤ to → KeepsTo position to xs (drop 1 xs)
  keeps-rest to [] x some is early = absurd (omega arith)
  keeps-rest to (y ∷ ys) x some is early = λ start all less s.
      kept_since-dropped start to 1 (y ∷ ys) all less (omega arith) (subst (λ (z : X). position z ≤ to) is early, tt) s

-- ---- what the versions say

-- a version up to p hides what came before it
hides : (p : ℕ) (v : Version) (vs : List Version) (a b : Option Text) → v.position ≤ p → fold (taken p) a (v ∷ vs) ≡ fold (taken p) b (v ∷ vs)
hides p v vs a b less =
    let is : nat_le v.position p ≡ true = le-leb v.position p less in
    ap (λ t. fold (taken p) (cond t v.value a) vs) is ∙ sym (ap (λ t. fold (taken p) (cond t v.value b) vs) is)

-- so do the versions without some first ones, where the next is up to p too
said_without : (p n : ℕ) (vs : List Version) (a : Option Text) → n < length vs → AllByRecursion (λ v. v.position ≤ p) (take (suc n) vs) → fold (taken p) a (drop n vs) ≡ fold (taken p) a vs
said_without p n [] a short all = absurd (omega arith)
said_without p zero (v ∷ vs) a short all = refl
said_without p (suc n) (v ∷ []) a short all = absurd (omega arith)
said_without p (suc n) (v ∷ w ∷ vs) a short all =
    said_without p n (w ∷ vs) a (omega arith) all.1 ∙ hides p w vs a (cond (nat_le v.position p) v.value a) all.1.0

-- without its first versions, where the next one is at most at the new start, a key says the same from there on
pub trims-dropped : (to n : ℕ) (old : List Version) → n < length old → AllByRecursion (λ v. v.position ≤ to) (take (n + 1) old) → TrimsTo to old (drop n old)
trims-dropped to n old short early start all less s =
    let next : n + 1 ≡ suc n = omega arith in
    let here : AllByRecursion (λ v. v.position ≤ to) (take (suc n) old) = subst (λ m. AllByRecursion (λ v. v.position ≤ to) (take m old)) next early in
    record {
      since = kept_since-dropped (λ v. v.position) start to n old all less (omega arith) (fewer (λ v. v.position) n (suc n) to old (omega arith) here) s.since;
      values = λ p high.
          said_without p n old None short (later (λ v. v.position) to p (take (suc n) old) high here) ∙ s.values p (omega arith);
    }

-- where the last version is none, and not after the new start, nothing is left to say
pub trims-gone : (to : ℕ) (v : Version) → v.value ≡ None → v.position ≤ to → TrimsTo to (v ∷ []) []
trims-gone to v none less start all low s = record {
  since = kept_since-dropped (λ v. v.position) start to 1 (v ∷ []) all low (omega arith) (less, tt) s.since;
  values = λ p high.
      let is : nat_le v.position p ≡ true = le-leb v.position p (omega arith) in
      sym (ap (λ t. cond t v.value None) is ∙ none) ∙ s.values p (omega arith);
}

-- what stays says the same from a later position on
pub trims-same : (to : ℕ) (old : List Version) → TrimsTo to old old
trims-same to old start all less s = record {
  since = kept_since-dropped (λ v. v.position) start to 0 old all less (omega arith) tt s.since;
  values = λ p high. s.values p (omega arith);
}

-- one after another
pub trims-both : (to : ℕ) (old mid new : List Version) → TrimsTo to old mid → TrimsTo to mid new → TrimsTo to old new
trims-both to old mid new first next start all less s = next to all (omega arith) (first start all less s)

-- what is left ascends too
pub trims-ascend : (to : ℕ) (old new : List Version) → TrimsTo to old new → AscendFrom 0 old → AscendFrom 0 new
trims-ascend to old new trims ascend = ascend-kept_since (λ (v : Version). v.position) to 0 new old (trims 0 old (omega arith) (say_from_all 0 old old refl)).since ascend

all_of_append : (n to : ℕ) (old more : List Version) → n ≤ length old → AllByRecursion (λ v. v.position ≤ to) (take n old) → AllByRecursion (λ v. v.position ≤ to) (take n (old ++ more))
all_of_append n to old more less all = subst (AllByRecursion (λ v. v.position ≤ to)) (sym (take-append-le n old more less)) all

-- what is left out of older versions is left out of all
pub trims-with : (to : ℕ) (old new more : List Version) → IsTrimmed to old new → TrimsTo to (old ++ more) (new ++ more)
trims-with to old new more t = ⊎_elim
    (λ (none : t.count ≡ 0).
    let same : new ≡ old = t.is ∙ ap (λ n. drop n old) none in
    subst (λ vs. TrimsTo to (old ++ more) (vs ++ more)) (sym same) (trims-same to (old ++ more)))
    (λ (some : (t.count < length old) × AllByRecursion (λ v. v.position ≤ to) (take (t.count + 1) old)).
    let less = some.0 in
    let size = length-append old more in
    let same : drop t.count (old ++ more) ≡ new ++ more = drop-append-le t.count old more (omega arith) ∙ ap (λ vs. vs ++ more) (sym t.is) in
    subst (TrimsTo to (old ++ more)) same
    (trims-dropped to t.count (old ++ more) (omega arith) (all_of_append (t.count + 1) to old more (omega arith) some.1)))
    t.rest

-- the same without any behind them
pub trims-older : (to : ℕ) (old new : List Version) → IsTrimmed to old new → TrimsTo to old new
trims-older to old new t = ⊎_elim
    (λ (none : t.count ≡ 0).
    let same : new ≡ old = t.is ∙ ap (λ n. drop n old) none in
    subst (TrimsTo to old) (sym same) (trims-same to old))
    (λ (some : (t.count < length old) × AllByRecursion (λ v. v.position ≤ to) (take (t.count + 1) old)).
    subst (TrimsTo to old) (sym t.is) (trims-dropped to t.count old some.0 some.1))
    t.rest

-- nothing is left, and all is
drop-all : (vs : List Version) → drop (length vs) vs ≡ []
drop-all [] = refl
drop-all (v ∷ vs) = drop-all vs

take-all : (n : ℕ) (vs : List Version) → length vs ≤ n → take n vs ≡ vs
take-all zero [] less = refl
take-all zero (v ∷ vs) less = absurd (omega arith)
take-all (suc n) [] less = refl
take-all (suc n) (v ∷ vs) less = ap (λ ws. v ∷ ws) (take-all n vs (omega arith))

-- all versions but the newest are left out, where that is not after the position
pub trims-newest : (to : ℕ) (old : List Version) (newest : Version) → AllByRecursion (λ v. v.position ≤ to) (old ++ newest ∷ []) → TrimsTo to (old ++ newest ∷ []) (newest ∷ [])
trims-newest to old newest all =
    let whole : List Version = old ++ newest ∷ [] in
    let size = length-append old (newest ∷ []) in
    let left : drop (length old) whole ≡ newest ∷ [] = drop-append-le (length old) old (newest ∷ []) (omega arith) ∙ ap (λ vs. vs ++ newest ∷ []) (drop-all old) in
    subst (TrimsTo to whole) left (trims-dropped to (length old) whole (omega arith) (subst (AllByRecursion (λ v. v.position ≤ to)) (sym (take-all (length old + 1) whole (omega arith))) all))

-- versions that ascend up to one that is not after a position are none of them after it
pub early-newest : (low to : ℕ) (old : List Version) (newest : Version) → AscendFrom low (old ++ newest ∷ []) → newest.position ≤ to → AllByRecursion (λ v. v.position ≤ to) (old ++ newest ∷ [])
early-newest low to [] newest ascend less = (less, tt)
early-newest low to (v ∷ vs) newest ascend less =
    let others = early-newest (v.position + 1) to vs newest ascend.1 less in
    (before_rest vs others ascend.1, others)
  where
    before_rest : (ws : List Version) → AllByRecursion (λ w. w.position ≤ to) (ws ++ newest ∷ []) → AscendFrom (v.position + 1) (ws ++ newest ∷ []) → v.position ≤ to
    before_rest [] all asc = let a = all.0 in let b = asc.0 in omega arith
    before_rest (w ∷ ws) all asc = let a = all.0 in let b = asc.0 in omega arith

-- where the newest version is a removal, and not after the position, nothing is left to say
pub trims-spent : (to : ℕ) (old : List Version) (newest : Version) → AscendFrom 0 (old ++ newest ∷ []) → newest.position ≤ to → newest.value ≡ None → TrimsTo to (old ++ newest ∷ []) []
trims-spent to old newest ascend less none =
    trims-both to (old ++ newest ∷ []) (newest ∷ []) [] (trims-newest to old newest (early-newest 0 to old newest ascend less)) (trims-gone to newest none less)

-- where the second version is not after the position, the first one is left out
pub trimmed-first : (to : ℕ) (vs : List Version) (v : Version) → 1 < length vs → v ≡ get_or vs 1 v → v.position ≤ to → AscendFrom 0 vs → IsTrimmed to vs (drop 1 vs)
trimmed-first to [] v some is less ascend = absurd (omega arith)
trimmed-first to (a ∷ []) v some is less ascend = absurd (omega arith)
trimmed-first to (a ∷ b ∷ vs) v some is less ascend =
    let later : a.position + 1 ≤ b.position = ascend.1.0 in
    let early : b.position ≤ to = subst (λ (w : Version). w.position ≤ to) is less in
    record { count = 1; is = refl; rest = inr (some, (omega arith, (early, tt))) }

-- none is left out
pub trimmed-none : (to : ℕ) (vs : List Version) → IsTrimmed to vs vs
trimmed-none to vs = record { count = 0; is = refl; rest = inl refl }
