-- Ranges that are listed, of one table and by their join with its rank.
use Rattle.std.proofs.Common.{◌≡◌, ◌≢◌, ℕ, ◌&&◌, ◌==◌, Bool, true, false, cond, not, List, [], ◌∷◌, ◌++◌, length, filter, Option, Some, None, ◌⊎◌, inl, inr, refl, sym, ap, ◌∙◌, subst, arith}
use Rattle.std.specs.List.{list_all}
use Rattle.std.specs.Option.{unwrap_or}
use Rattle.std.specs.Ordering.{nat_cmp}
use Rattle.std.specs.Cmp.{both_tied, unsigned_tied}
use Rattle.std.specs.BTreeMap.{is_at}
use Rattle.std.specs.Map.{lookup}
use Rattle.std.proofs.lemmas.Bool.{and_parts, and_from, eqb-true, eq-eqb, false≢true, false_from_ne_true}
use Rattle.std.proofs.lemmas.List.{length-append}
use Rattle.std.proofs.lemmas.Map.Entries.{lookup-filter-keys}
use Rattle.semantics.specs.Texts.{Range, Text, same, table_of}
use Rattle.semantics.proofs.MemberLemmas.{all_from_each, has_filter, passes_from_all}
use Rattle.semantics.proofs.PieceLemmas.{same_itself}
use Rattle.range_set.specs.declared.piece.Piece.{Piece}
use Rattle.range_set.specs.declared.piece.Piece.TheVariants.{Gap}
use Rattle.range_set.specs.Joined.{JoinTo}
use Rattle.range_set.specs.Held.{Held as Ranges, are_of_table, is_free, same_range, with_range, without_range}
use Rattle.range_set.specs.Pieces.{gaps_of, ranges_of}
use Rattle.range_set.proofs.HeldLemmas.{all_with_range}
use Rattle.cell_slots.specs.Places.{ListsInstead}
use Rattle.cell_slots.proofs.PlaceLemmas.{back_out}
use Rattle.shared_cells.specs.declared.followed.Followed.{Followed}
use Rattle.shared_cells.specs.declared.ranked_join.RankedJoin.{RankedJoin}
use Rattle.shared_cells.specs.Listings.{has_join, IsAdded, IsListed, IsLoneGap, IsUnlisted, Listed, ListsFollowed, StayListed, listed_at, ranked_cmp}

-- ---- the ranges of one join

-- without one of them the ranges are of the table
pub of_table-without_range : (r : Range) (held : Ranges ℕ) (name : Text) → are_of_table held name ≡ true → are_of_table (without_range r held) name ≡ true
of_table-without_range r held name all =
    all_from_each (λ (e : Range × ℕ). same (table_of e.0.low) name) (without_range r held) (λ e h.
    passes_from_all (λ (f : Range × ℕ). same (table_of f.0.low) name) held e all (has_filter (λ (f : Range × ℕ). not (same_range r f.0)) held e h).1)

-- with a range of the table more the ranges are of the table
pub of_table-with_range : (r : Range) (id : ℕ) (held : Ranges ℕ) (name : Text) → table_of r.low ≡ name → are_of_table held name ≡ true → are_of_table (with_range r id held) name ≡ true
of_table-with_range r id held name here all =
    all_with_range (λ (e : Range × ℕ). same (table_of e.0.low) name) r id held (subst (λ (t : Text). same (table_of r.low) t ≡ true) here (same_itself (table_of r.low))) all

-- a gap that is the only piece of a range is the range, which is not empty and meets none that is listed
pub lone_gap : (ranges : Ranges ℕ) (range gap : Range) (before : List (Piece ℕ)) → JoinTo range (ranges_of (before ++ Gap gap ∷ [])) → list_all (is_free ranges) (gaps_of (before ++ Gap gap ∷ [])) ≡ true →
    length (before ++ Gap gap ∷ []) ≡ 1 → IsLoneGap ranges range gap
lone_gap ranges range gap [] j free one = record {
  is = ap (λ (t : Text). record { low = t; high = gap.high }) j.0 ∙ ap (λ (t : Text). record { low = range.low; high = t }) j.2;
  not_empty = j.1;
  free = (and_parts (is_free ranges gap) true free).0;
}
lone_gap ranges range gap (p ∷ ps) j free one = absurd (omega (arith, one, length-append ps (Gap gap ∷ [])))

-- ---- joins with their ranks

-- two joins tie just where their positions and their ranks are the same
join_tie : (f g : RankedJoin) → is_at (ranked_cmp f) g ≡ ((f.at == g.at) && (f.rank == g.rank))
join_tie f g = sym (both_tied (f.at == g.at) (f.rank == g.rank) (nat_cmp f.at g.at) (nat_cmp f.rank g.rank) (sym (unsigned_tied f.at g.at)) (sym (unsigned_tied f.rank g.rank)))

-- joins that tie are the same
tied_joins : (f g : RankedJoin) → is_at (ranked_cmp f) g ≡ true → f ≡ g
tied_joins f g e =
    let parts = and_parts (f.at == g.at) (f.rank == g.rank) (sym (join_tie f g) ∙ e) in
    let at = eqb-true f.at g.at parts.0 in
    let rank = eqb-true f.rank g.rank parts.1 in
    (λ i. record { at = at i; rank = rank i })

-- a join ties itself
ties_itself : (f : RankedJoin) → is_at (ranked_cmp f) f ≡ true
ties_itself f = join_tie f f ∙ and_from (f.at == f.at) (f.rank == f.rank) (eq-eqb f.at f.at refl) (eq-eqb f.rank f.rank refl)

-- and no other
ties_no_other : (key other : RankedJoin) → other ≢ key → is_at (ranked_cmp key) other ≡ false
ties_no_other key other apart = false_from_ne_true (is_at (ranked_cmp key) other) (λ e. apart (sym (tied_joins key other e)))

alike_by : (f g : RankedJoin) (t : Bool) → is_at (ranked_cmp f) g ≡ t → (f ≡ g) ⊎ (f ≡ g → ⊥)
alike_by f g true e = inl (tied_joins f g e)
alike_by f g false e = inr (λ one. false≢true (sym e ∙ subst (λ (j : RankedJoin). is_at (ranked_cmp f) j ≡ true) one (ties_itself f)))

-- two joins are the same, or they are not
pub alike : (f g : RankedJoin) → (f ≡ g) ⊎ (f ≡ g → ⊥)
alike f g = alike_by f g (is_at (ranked_cmp f) g) refl

-- ---- the ranges of all joins

-- for a join these ranges are set, and for each other one those that were stay
abbrev pub IsSet : RankedJoin → Ranges ℕ → Listed → Listed → Type 0
IsSet key ranges old new = (q : RankedJoin) → lookup (is_at (ranked_cmp q)) new ≡ cond (is_at (ranked_cmp key) q) (Some ranges) (lookup (is_at (ranked_cmp q)) old)

set_here : (key : RankedJoin) (ranges : Ranges ℕ) (old new : Listed) → IsSet key ranges old new → listed_at new key ≡ ranges
set_here key ranges old new set = ap (λ o. unwrap_or o []) (set key ∙ ap (λ b. cond b (Some ranges) (lookup (is_at (ranked_cmp key)) old)) (ties_itself key))

set_other : (key : RankedJoin) (ranges : Ranges ℕ) (old new : Listed) → IsSet key ranges old new → (other : RankedJoin) → other ≢ key → listed_at new other ≡ listed_at old other
set_other key ranges old new set other apart = ap (λ o. unwrap_or o []) (set other ∙ ap (λ b. cond b (Some ranges) (lookup (is_at (ranked_cmp other)) old)) (ties_no_other key other apart))

-- so other ranges are listed for the join
pub lists_instead : (key : RankedJoin) (ranges : Ranges ℕ) (old new : Listed) → IsSet key ranges old new → ListsInstead key ranges (listed_at old) (listed_at new)
lists_instead key ranges old new set = record { here = set_here key ranges old new set; others = λ other apart. set_other key ranges old new set other apart }

-- so one more is listed, where the ranges have it more than those that were
pub lists_one : (key : RankedJoin) (range : Range) (id : ℕ) (before ranges : Ranges ℕ) (old new : Listed) → IsSet key ranges old new → before ≡ listed_at old key → IsAdded range id before ranges → IsListed key range id old new
lists_one key range id before ranges old new set were added = record {
  added = subst (λ (rs : Ranges ℕ). IsAdded range id (listed_at old key) rs) (sym (set_here key ranges old new set)) (subst (λ (rs : Ranges ℕ). IsAdded range id rs ranges) were added);
  others = λ other apart. set_other key ranges old new set other apart;
}

still_by : (key : RankedJoin) (ranges : Ranges ℕ) (old new : Listed) → IsSet key ranges old new → ranges ≡ listed_at old key → (q : RankedJoin) → (q ≡ key) ⊎ (q ≡ key → ⊥) → listed_at new q ≡ listed_at old q
still_by key ranges old new set were q (inl e) = subst (λ (j : RankedJoin). listed_at new j ≡ listed_at old j) (sym e) (set_here key ranges old new set ∙ were)
still_by key ranges old new set were q (inr apart) = set_other key ranges old new set q apart

-- so the same are listed, where these are those that were
pub lists_the_same : (key : RankedJoin) (ranges : Ranges ℕ) (old new : Listed) → IsSet key ranges old new → ranges ≡ listed_at old key → StayListed old new
lists_the_same key ranges old new set were q = still_by key ranges old new set were q (alike q key)

-- where none is listed for a join, none has to be taken off
pub unlists_none : (join : RankedJoin) (range : Range) (old new : Listed) → new ≡ old → listed_at old join ≡ [] → IsUnlisted join range old new
unlists_none join range old new still none = record {
  here = ap (λ (l : Listed). listed_at l join) still ∙ none ∙ ap (without_range range) (sym none);
  others = λ other apart. ap (λ (l : Listed). listed_at l other) still;
}

-- one more is listed in place of those that were
pub listed_instead : (join : RankedJoin) (range : Range) (id : ℕ) (old new : Listed) → IsListed join range id old new → ListsInstead join (with_range range id (listed_at old join)) (listed_at old) (listed_at new)
listed_instead join range id old new listed = record { here = listed.added.more; others = listed.others }

back_by : (join : RankedJoin) (range : Range) (id : ℕ) (old between new : Listed) → IsListed join range id old between → IsUnlisted join range between new → (q : RankedJoin) → (q ≡ join) ⊎ (q ≡ join → ⊥) → listed_at new q ≡ listed_at old q
back_by join range id old between new listed unlisted q (inl e) =
    subst (λ (j : RankedJoin). listed_at new j ≡ listed_at old j) (sym e)
    (unlisted.here ∙ ap (without_range range) listed.added.more ∙ back_out range id (listed_at old join) listed.added.not_empty listed.added.free)
back_by join range id old between new listed unlisted q (inr apart) = unlisted.others q apart ∙ listed.others q apart

-- a range that is listed and then taken off leaves those that were
pub listed_and_back : (join : RankedJoin) (range : Range) (id : ℕ) (old between new : Listed) → IsListed join range id old between → IsUnlisted join range between new → StayListed old new
listed_and_back join range id old between new listed unlisted q = back_by join range id old between new listed unlisted q (alike q join)

-- ---- joins that are followed

ranges_if : (t : Bool) (o : Option (Ranges ℕ)) → unwrap_or (cond t o None) [] ≡ cond t (unwrap_or o []) []
ranges_if true o = refl
ranges_if false o = refl

-- where those of other joins are left out, the ranges of these stay
pub lists_followed : (followed : Followed) (old new : Listed) → new ≡ filter (λ (e : RankedJoin × Ranges ℕ). has_join followed e.0) old → ListsFollowed followed old new
lists_followed followed old new left join =
    ap (λ (l : Listed). listed_at l join) left
    ∙ ap (λ o. unwrap_or o []) (lookup-filter-keys (is_at (ranked_cmp join)) (has_join followed) (has_join followed join) (λ k e. ap (has_join followed) (sym (tied_joins join k e))) old)
    ∙ ranges_if (has_join followed join) (lookup (is_at (ranked_cmp join)) old)
