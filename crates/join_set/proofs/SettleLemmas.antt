-- Stays that have not ended up to a floor: what they tell from the floor on is what all stays tell.
use Rattle.std.proofs.Common.{◌≡◌, ℕ, ◌+◌, ◌<◌, ◌≤◌, ◌&&◌, ◌==◌, List, [], ◌∷◌, ◌++◌, length, map, filter, take, max, Bool, true, false, cond, nat_lt, nat_le, if◌then◌else◌, Option, Some, None, is_none, refl, sym, ap, ◌∙◌, subst, arith, le-leb, leb-true, leb-false, ltb-false, length-take}
use Rattle.std.proofs.lemmas.Bool.{and_right, lt-leb, lt-ltb, le-ltb, false≢true}
use Rattle.std.proofs.lemmas.List.Elements.{filter-append}
use Rattle.semantics.specs.Texts.{Text}
use Rattle.semantics.specs.Histories.{Write, put, remove, declare, drop_join, History, changed_at}
use Rattle.semantics.specs.Stays.{Stay, declared, stays_after, stays_of, is_after, stands_at, joins_at}
use Rattle.semantics.specs.Verdicts.{AllEntered}
use Rattle.semantics.proofs.StayLemmas.{IsWithinStay, IsUpTo, AreUpTo, stays_up_to}
use Rattle.growing_history.proofs.EnteredLemmas.{entered_taken}
use Rattle.growing_history.specs.Changes.{has_table}
use Rattle.join_set.specs.Timelines.{up_to, end_up_to, change_up_to, changed_up_to, drop_up_to, dropped_up_to, kept_stays}
use Rattle.join_set.proofs.TimelineLemmas.{ending, early, changed_taken, stays_tell_changes}

-- whether a stay is kept
abbrev keeps : ℕ → Stay → Bool
keeps floor s = is_after floor s.until

-- ---- filters

-- what passes two tests passes the one that asks for more
filter_twice : (p q : Stay → Bool) (stays : List Stay) → ((s : Stay) → p s ≡ false → q s ≡ false) → filter q (filter p stays) ≡ filter q stays
filter_twice p q [] less = refl
filter_twice p q (s ∷ stays) less = by (p s) refl (filter_twice p q stays less)
  where
    by : (b : Bool) → p s ≡ b → filter q (filter p stays) ≡ filter q stays → filter q (cond b (s ∷ filter p stays) (filter p stays)) ≡ cond (q s) (s ∷ filter q stays) (filter q stays)
    by true is rest = ap (λ others. cond (q s) (s ∷ others) others) rest
    by false is rest = rest ∙ sym (ap (λ b. cond b (s ∷ filter q stays) (filter q stays)) (less s is))

-- a change of each stay that leaves a test as it was comes before or after it
filter_changed : (test : Stay → Bool) (f : Stay → Stay) (stays : List Stay) → ((s : Stay) → test (f s) ≡ test s) → filter test (map f stays) ≡ map f (filter test stays)
filter_changed test f [] same = refl
filter_changed test f (s ∷ stays) same =
    ap (λ b. cond b (f s ∷ filter test (map f stays)) (filter test (map f stays))) (same s)
    ∙ ap (λ rest. cond (test s) (f s ∷ rest) rest) (filter_changed test f stays same) ∙ pulled (test s)
  where
    pulled : (b : Bool) → cond b (f s ∷ map f (filter test stays)) (map f (filter test stays)) ≡ map f (cond b (s ∷ filter test stays) (filter test stays))
    pulled true = refl
    pulled false = refl

-- ---- what is not kept

-- a stay that ended up to a floor has not to be asked for behind it
gone_later : (floor p : ℕ) (o : Option ℕ) → floor ≤ p → is_after floor o ≡ false → is_after p o ≡ false
gone_later floor p None up gone = gone
gone_later floor p (Some d) up gone = le-ltb p d (omega (arith, ltb-false floor d gone))

-- its join does not stand there
gone_stands : (floor p : ℕ) (s : Stay) → floor ≤ p → is_after floor s.until ≡ false → stands_at p s ≡ false
gone_stands floor p s up gone = and_right (nat_le s.position p) (is_after p s.until) (gone_later floor p s.until up gone)

-- ---- the joins that stand

-- those that stand from the floor on are told by the kept stays
pub joins_kept : (floor p : ℕ) (stays : List Stay) → floor ≤ p → joins_at p (kept_stays floor stays) ≡ joins_at p stays
joins_kept floor p stays up = ap (map declared) (filter_twice (keeps floor) (stands_at p) stays (λ s gone. gone_stands floor p s up gone))

-- a higher floor keeps fewer
pub kept_kept : (floor above : ℕ) (stays : List Stay) → floor ≤ above → kept_stays above (kept_stays floor stays) ≡ kept_stays above stays
kept_kept floor above stays up = filter_twice (keeps floor) (keeps above) stays (λ s gone. gone_later floor above s.until up gone)

-- the end of a stay behind the floor leaves it kept
keep_by : (floor at position : ℕ) (s : Stay) (b : Bool) (o : Option ℕ) → floor < position →
    keeps floor (if b && is_none o then record { position = s.position; join = s.join; until = Some position } else record { position = s.position; join = s.join; until = o }) ≡ is_after floor o
keep_by floor at position s true None less = lt-ltb floor position less
keep_by floor at position s true (Some d) less = refl
keep_by floor at position s false o less = refl

-- a write that enters behind the floor does the same to the kept stays as to all
pub kept_after : (floor position : ℕ) (write : Write) (stays : List Stay) → floor < position → kept_stays floor (stays_after position write stays) ≡ stays_after position write (kept_stays floor stays)
kept_after floor position (put k v) stays less = refl
kept_after floor position (remove k) stays less = refl
kept_after floor position (declare j) stays less = filter-append (keeps floor) stays (record { position = position; join = j; until = None } ∷ [])
kept_after floor position (drop_join at) stays less = filter_changed (keeps floor) (ending at position) stays (λ s. keep_by floor at position s (s.position == at) s.until less)

-- ---- the last change

-- a position up to one is the same up to a later one
same_up_to : (floor p n : ℕ) → floor ≤ p → n ≤ floor → up_to floor n ≡ up_to p n
same_up_to floor p n up low = early floor n low ∙ sym (early p n (omega arith))

up_to_rises : (floor p n : ℕ) → floor ≤ p → up_to floor n ≤ up_to p n
up_to_rises floor p n up = by (nat_le n floor) refl
  where
    by : (b : Bool) → nat_le n floor ≡ b → (if b then n else 0) ≤ up_to p n
    by true is = let same = early p n (omega (arith, leb-true n floor is)) in omega (arith, same)
    by false is = omega arith

end_rises : (floor p : ℕ) (o : Option ℕ) → floor ≤ p → end_up_to floor o ≤ end_up_to p o
end_rises floor p None up = omega arith
end_rises floor p (Some d) up = up_to_rises floor p d up

change_rises : (floor p : ℕ) (s : Stay) → floor ≤ p → change_up_to floor s ≤ change_up_to p s
change_rises floor p s up = omega (arith, up_to_rises floor p s.position up, end_rises floor p s.until up)

-- a stay that ended up to the floor has all its changes there
change_gone : (m floor p begin : ℕ) (o : Option ℕ) → floor ≤ p → IsWithinStay m begin o → is_after floor o ≡ false →
    max (up_to floor begin) (end_up_to floor o) ≡ max (up_to p begin) (end_up_to p o)
change_gone m floor p begin None up w gone = absurd (false≢true (sym gone))
change_gone m floor p begin (Some d) up w gone =
    let ended = ltb-false floor d gone in
    let first = same_up_to floor p begin up (omega (arith, ended, w.0)) in
    let last = same_up_to floor p d up (omega (arith, ended)) in
    λ i. max (first i) (last i)

-- the last change up to a position is the last up to the floor, or one of the kept stays
pub changed_kept : (m floor p : ℕ) (stays : List Stay) → floor ≤ p → AreUpTo m stays → max (changed_up_to floor stays) (changed_up_to p (kept_stays floor stays)) ≡ changed_up_to p stays
changed_kept m floor p [] up are = refl
changed_kept m floor p (s ∷ stays) up are = by (keeps floor s) refl (changed_kept m floor p stays up are.1)
  where
    by : (b : Bool) → keeps floor s ≡ b → max (changed_up_to floor stays) (changed_up_to p (kept_stays floor stays)) ≡ changed_up_to p stays →
        max (max (change_up_to floor s) (changed_up_to floor stays)) (changed_up_to p (cond b (s ∷ kept_stays floor stays) (kept_stays floor stays))) ≡ max (change_up_to p s) (changed_up_to p stays)
    by true is rest = omega (arith, rest, change_rises floor p s up)
    by false is rest = omega (arith, rest, change_gone m floor p s.position s.until up are.0 is)

-- the stays tell the last change among the first entries
pub changed_at-taken : (p : ℕ) (h : History) → AllEntered h → p ≤ length h → changed_up_to p (stays_of h) ≡ changed_at (take p h)
changed_at-taken p h entered within =
    let long : length (take p h) ≡ p = omega (arith, length-take p h) in
    changed_taken p h ∙ sym (stays_tell_changes (take p h) (entered_taken p h entered) ∙ ap (λ n. changed_up_to n (stays_of (take p h))) long)

-- so do the kept ones, beside the last change up to the floor
pub changed_from_floor : (floor p : ℕ) (h : History) → AllEntered h → floor ≤ p → p ≤ length h →
    max (changed_at (take floor h)) (changed_up_to p (kept_stays floor (stays_of h))) ≡ changed_at (take p h)
changed_from_floor floor p h entered up within =
    ap (λ n. max n (changed_up_to p (kept_stays floor (stays_of h)))) (sym (changed_at-taken floor h entered (omega arith)))
    ∙ changed_kept (length h) floor p (stays_of h) up (stays_up_to h) ∙ changed_at-taken p h entered within

-- ---- the last drop of a table

-- a position that is not above a floor stays so where it is 0 in its place
pub not_above : (floor d : ℕ) (b : Bool) → d ≤ floor → (if b then d else 0) ≤ floor
not_above floor d true low = low
not_above floor d false low = omega arith

end_gone : (floor p : ℕ) (o : Option ℕ) → is_after floor o ≡ false → end_up_to p o ≤ floor
end_gone floor p None gone = omega arith
end_gone floor p (Some d) gone = not_above floor d (nat_le d p) (ltb-false floor d gone)

-- a stay that is not kept was dropped up to the floor
drop_gone : (floor p : ℕ) (table : Text) (s : Stay) → is_after floor s.until ≡ false → drop_up_to p table s ≤ floor
drop_gone floor p table s gone = by (has_table s.join.output table)
  where
    by : (b : Bool) → (if b then (end_up_to p s.until) else 0) ≤ floor
    by true = end_gone floor p s.until gone
    by false = omega arith

-- the last drop that the kept stays tell is the last, or both lie up to the floor
pub record TellDrops (floor kept all : ℕ) : Type 0 where
  pub low : kept ≤ all
  pub high : all ≤ max kept floor

pub dropped_kept : (floor p : ℕ) (table : Text) (stays : List Stay) → TellDrops floor (dropped_up_to p table (kept_stays floor stays)) (dropped_up_to p table stays)
dropped_kept floor p table [] = record { low = omega arith; high = omega arith }
dropped_kept floor p table (s ∷ stays) = by (keeps floor s) refl (dropped_kept floor p table stays)
  where
    by : (b : Bool) → keeps floor s ≡ b → TellDrops floor (dropped_up_to p table (kept_stays floor stays)) (dropped_up_to p table stays) →
        TellDrops floor (dropped_up_to p table (cond b (s ∷ kept_stays floor stays) (kept_stays floor stays))) (max (drop_up_to p table s) (dropped_up_to p table stays))
    by true is rest = record { low = omega (arith, rest.low); high = omega (arith, rest.high) }
    by false is rest = record { low = omega (arith, rest.low); high = omega (arith, rest.high, drop_gone floor p table s is) }

-- so from the floor on both answer the same
pub same_from_floor : (floor kept all q : ℕ) → floor ≤ q → TellDrops floor kept all → nat_le kept q ≡ nat_le all q
same_from_floor floor kept all q up tell = by (nat_le kept q) refl
  where
    by : (b : Bool) → nat_le kept q ≡ b → nat_le kept q ≡ nat_le all q
    by true is = is ∙ sym (le-leb all q (omega (arith, leb-true kept q is, tell.high)))
    by false is = is ∙ sym (lt-leb all q (omega (arith, leb-false kept q is, tell.low)))
