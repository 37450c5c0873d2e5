-- Joins by the positions of their declarations, and how they stand.
use Rattle.std.proofs.Common.{◌≡◌, ℕ, zero, suc, ◌+◌, ◌-◌, ◌≤◌, List, [], ◌∷◌, ◌++◌, Bool, true, false, cond, not, ◌==◌, length, take, drop, slice_get, Some, refl, sym, ap, ◌∙◌, subst, arith, append_assoc}
use Rattle.std.specs.List.{AllByRecursion}
use Rattle.std.proofs.lemmas.List.{take-append-drop}
use Rattle.std.proofs.lemmas.Option.{none-some, same_Some}
use Rattle.semantics.specs.Joins.{Join}
use Rattle.semantics.specs.Histories.{Write, put, remove, declare, drop_join, Entry, History, IsPrefix, DeclaredJoin, without, joins_after, joins_from, joins_of}
use Rattle.semantics.proofs.Members.{AllByRecursion-append}
use Rattle.growing_history.specs.Entered.{HasRank}
use Rattle.growing_history.proofs.ElementLemmas.{has_of_all}
use Rattle.growing_history.proofs.PrefixLemmas.{take_prefix}
use Rattle.layering.specs.Reached.{StandsWithRank}
use Rattle.layering.proofs.ReachLemmas.{stands_has_rank}
use Rattle.kept_ranges.proofs.PathLemmas.{has_from_at}
use Rattle.cell_slots.specs.Slots.{IsDeclared, StandsAs, IsRankAt}

-- ---- declarations

get-append : {A : Type 0} (xs ys : List A) (i : ℕ) (x : A) → slice_get xs i ≡ Some x → slice_get (xs ++ ys) i ≡ Some x
get-append [] ys i x is = absurd (none-some x is)
get-append (y ∷ xs) ys zero x is = is
get-append (y ∷ xs) ys (suc i) x is = get-append xs ys i x is

-- a join that was declared stays so in a longer history
pub declared_over_longer : (h more : History) (at : ℕ) (j : Join) → IsPrefix h more → IsDeclared h at j → IsDeclared more at j
declared_over_longer h more at j prefix d = record {
  counted = d.counted;
  entry = d.entry;
  stands = ap (λ l. slice_get l (at - 1)) prefix.1 ∙ get-append h prefix.0 (at - 1) d.entry d.stands;
  declares = d.declares;
}

declared_as : (w : Write) → (j k : Join) → w ≡ declare j → w ≡ declare k → j ≡ k
declared_as w j k is also = cc

-- at a position one join is declared
pub declared_once : (h : History) (at : ℕ) (j k : Join) → IsDeclared h at j → IsDeclared h at k → j ≡ k
declared_once h at j k d e =
    let same : d.entry ≡ e.entry = same_Some d.entry e.entry (sym d.stands ∙ e.stands) in
    declared_as d.entry.write j k d.declares (ap (λ (x : Entry). x.write) same ∙ e.declares)

-- ---- those that stand were declared

all_without : (P : DeclaredJoin → Type 0) (at : ℕ) (joins : List DeclaredJoin) → AllByRecursion P joins → AllByRecursion P (without at joins)
all_without P at [] all = tt
all_without P at (s ∷ joins) all = by (not (s.position == at)) (all_without P at joins all.1)
  where
    by : (b : Bool) → AllByRecursion P (without at joins) → AllByRecursion P (cond b (s ∷ without at joins) (without at joins))
    by true rest = (all.0, rest)
    by false rest = rest

after_write : (before es : History) (e : Entry) (joins : List DeclaredJoin) (w : Write) → e.write ≡ w → AllByRecursion (λ s. IsDeclared (before ++ e ∷ es) s.position s.join) joins →
    AllByRecursion (λ s. IsDeclared (before ++ e ∷ es) s.position s.join) (joins_after (length before + 1) w joins)
after_write before es e joins (put k v) is all = all
after_write before es e joins (remove k) is all = all
after_write before es e joins (declare j) is all =
    AllByRecursion-append (λ s. IsDeclared (before ++ e ∷ es) s.position s.join) joins (record { position = length before + 1; join = j } ∷ []) all
    (record { counted = omega arith; entry = e; stands = ap (slice_get (before ++ e ∷ es)) minus ∙ next_at before; declares = is }, tt)
  where
    minus : length before + 1 - 1 ≡ length before
    minus = omega arith

    next_at : (xs : History) → slice_get (xs ++ e ∷ es) (length xs) ≡ Some e
    next_at [] = refl
    next_at (x ∷ xs) = next_at xs
after_write before es e joins (drop_join at) is all = all_without (λ s. IsDeclared (before ++ e ∷ es) s.position s.join) at joins all

declared_from : (before es h : History) (joins : List DeclaredJoin) → h ≡ before ++ es → AllByRecursion (λ s. IsDeclared h s.position s.join) joins → AllByRecursion (λ s. IsDeclared h s.position s.join) (joins_from (length before + 1) joins es)
declared_from before [] h joins is all = all
declared_from before (e ∷ es) h joins is all =
    let step = after_write before es e joins e.write refl (subst (λ l. AllByRecursion (λ s. IsDeclared l s.position s.join) joins) is all) in
    let longer : length (before ++ e ∷ []) + 1 ≡ length before + 1 + 1 = ap (λ n. n + 1) (length_one before) in
    let rest = declared_from (before ++ e ∷ []) es h (joins_after (length before + 1) e.write joins) (is ∙ sym (append_assoc before (e ∷ []) es))
    (subst (λ l. AllByRecursion (λ s. IsDeclared l s.position s.join) (joins_after (length before + 1) e.write joins)) (sym is) step) in
    subst (λ n. AllByRecursion (λ s. IsDeclared h s.position s.join) (joins_from n (joins_after (length before + 1) e.write joins) es)) longer rest
  where
    length_one : (xs : History) → length (xs ++ e ∷ []) ≡ length xs + 1
    length_one [] = refl
    length_one (x ∷ xs) = let more = length_one xs in omega (arith, more)

-- each join that stands was declared at its position
joins_declared : (h : History) → AllByRecursion (λ s. IsDeclared h s.position s.join) (joins_of h)
joins_declared h = declared_from [] h h [] refl tt

-- a join that stands after the first p entries was declared at its position
pub standing_declared : (h : History) (p place : ℕ) (s : DeclaredJoin) → slice_get (joins_of (take p h)) place ≡ Some s → IsDeclared h s.position s.join
standing_declared h p place s is =
    declared_over_longer (take p h) h s.position s.join (drop p h, sym (take-append-drop p h))
    (has_of_all (λ t. IsDeclared (take p h) t.position t.join) (joins_of (take p h)) s (joins_declared (take p h)) (has_from_at (joins_of (take p h)) place s is))

-- ---- those that stand with a rank

-- a join that stands with a rank stands so by its position
pub stands_as : (h : History) (p rank : ℕ) (s : DeclaredJoin) → StandsWithRank (joins_of (take p h)) rank s → StandsAs h p s.position rank s.join
stands_as h p rank s stands = record { declared = standing_declared h p stands.place s stands.stands; stands = stands }

-- it has the rank
pub has_rank : (h : History) (p at rank : ℕ) (j : Join) → StandsAs h p at rank j → HasRank (joins_of (take p h)) j rank
has_rank h p at rank j stands = stands_has_rank (joins_of (take p h)) rank (record { position = at; join = j }) stands.stands

-- and so has the join that was declared at its position
pub rank_declared : (h : History) (p at rank : ℕ) (j k : Join) → StandsAs h p at rank j → IsDeclared h at k → HasRank (joins_of (take p h)) k rank
rank_declared h p at rank j k stands declared = subst (λ x. HasRank (joins_of (take p h)) x rank) (declared_once h at j k stands.declared declared) (has_rank h p at rank j stands)

-- the rank that is found of a join is the one with which it stands
pub stands_ranked : (h : History) (p at rank : ℕ) (j : Join) → IsDeclared h at j → IsRankAt h p at (Some rank) → StandsAs h p at rank j
stands_ranked h p at rank j declared found =
    let there = stands_as h p rank (record { position = at; join = found.0 }) found.1 in
    subst (StandsAs h p at rank) (declared_once h at found.0 j there.declared declared) there

-- ---- over longer histories

-- a join stands so in a longer history too
pub stands_over : (h more : History) (p at rank : ℕ) (j : Join) → p ≤ length h → IsPrefix h more → StandsAs h p at rank j → StandsAs more p at rank j
stands_over h more p at rank j less prefix stands = record {
  declared = declared_over_longer h more at j prefix stands.declared;
  stands = subst (λ l. StandsWithRank (joins_of l) rank (record { position = at; join = j })) (sym (take_prefix p h more less prefix)) stands.stands;
}
