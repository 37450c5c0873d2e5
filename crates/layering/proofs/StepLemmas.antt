-- The first pair of a merge.
use Rattle.std.proofs.Common.{◌≡◌, true, false, [], ◌∷◌, Option, Some, None, is_some, refl, sym, ap, ◌∙◌, subst, Ordering, Less, Equal, Greater, is_lt}
use Rattle.std.specs.Option.{option_or}
use Rattle.std.specs.Ordering.{ordering_reverse}
use Rattle.std.specs.FinMap.Entries.{is_sorted, below_all}
use Rattle.std.proofs.lemmas.Bool.{false≢true, and_parts, and_from}
use Rattle.semantics.specs.Texts.{Text, text_cmp, same, Table, value_at}
use Rattle.semantics.specs.States.{merged}
use Rattle.semantics.proofs.PieceLemmas.{equal_by_same, same_itself}
use Rattle.semantics.proofs.TableLemmas.{IsAscending, text_total, equal_by_tie, value_at_here, value_at_later, same_tables}
use Rattle.semantics.proofs.MergedLemmas.{ascending-tail, value_at-below_all, ascending-merged, value_at-merged}
use Rattle.key_ranges.specs.Ranges.{is_below}
use Rattle.key_ranges.proofs.OrderLemmas.{up_to_from_below, below_up_to}
use Rattle.layering.specs.MergeLaws.{begins_merged, MergedStepwise}

-- ---- keys above a text

-- each key of a table is above a text
abbrev IsAbove : Text → Table → Type 0
IsAbove key table = (q : Text) → is_some (value_at q table) ≡ true → is_below key q ≡ true

-- the text is below the first key and the later ones
above_from : (key : Text) (table : Table) → below_all text_cmp key table ≡ true → IsAbove key table
above_from key [] h q there = absurd (false≢true there)
above_from key (pair ∷ pairs) h q there =
    let parts = and_parts (is_lt (text_cmp key pair.0)) (below_all text_cmp key pairs) h in
    elim (same q pair.0) as (λ b. same q pair.0 ≡ b → is_below key q ≡ true) [
      | true ↦ λ e. subst (λ k. is_below key k ≡ true) (sym (equal_by_same q pair.0 e)) parts.0
      | false ↦ λ e. above_from key pairs parts.1 q (ap is_some (sym (value_at_later q pair pairs e)) ∙ there)
    ] refl

-- a key that another table has, behind its first pair or in front
there_later : (q : Text) (pair : Text × Text) (pairs : Table) → is_some (value_at q pairs) ≡ true → is_some (value_at q (pair ∷ pairs)) ≡ true
there_later q pair pairs there =
    elim (same q pair.0) as (λ b. same q pair.0 ≡ b → is_some (value_at q (pair ∷ pairs)) ≡ true) [
      | true ↦ λ e. ap is_some (value_at_here q pair pairs e)
      | false ↦ λ e. ap is_some (value_at_later q pair pairs e) ∙ there
    ] refl

-- the other way round
below_from : (key : Text) (table : Table) → IsAbove key table → below_all text_cmp key table ≡ true
below_from key [] h = refl
below_from key (pair ∷ pairs) h =
    and_from (is_lt (text_cmp key pair.0)) (below_all text_cmp key pairs)
    (h pair.0 (ap is_some (value_at_here pair.0 pair pairs (same_itself pair.0))))
    (below_from key pairs (λ q there. h q (there_later q pair pairs there)))

-- the later keys are above the first
above_tail : (pair : Text × Text) (pairs : Table) → IsAscending (pair ∷ pairs) → IsAbove pair.0 pairs
above_tail pair pairs h = above_from pair.0 pairs (and_parts (below_all text_cmp pair.0 pairs) (is_sorted text_cmp pairs) h).0

-- a text up to the first key is below the later ones, and one below it below all
above_all : (key : Text) (pair : Text × Text) (pairs : Table) → IsAscending (pair ∷ pairs) → is_below key pair.0 ≡ true → IsAbove key (pair ∷ pairs)
above_all key pair pairs h less q there =
    elim (same q pair.0) as (λ b. same q pair.0 ≡ b → is_below key q ≡ true) [
      | true ↦ λ e. subst (λ k. is_below key k ≡ true) (sym (equal_by_same q pair.0 e)) less
      | false ↦ λ e. below_up_to key pair.0 q less (up_to_from_below pair.0 q (above_tail pair pairs h q (ap is_some (sym (value_at_later q pair pairs e)) ∙ there)))
    ] refl

-- a key of a merge is one of the tables'
merge_above : (key : Text) (table other : Table) → IsAscending other → IsAbove key table → IsAbove key other → IsAbove key (merged table other)
merge_above key table other g first next q there = by (value_at q other) refl (ap is_some (sym (value_at-merged q table other g)) ∙ there)
  where
    by : (o : Option Text) → value_at q other ≡ o → is_some (option_or o (value_at q table)) ≡ true → is_below key q ≡ true
    by None e has = first q has
    by (Some v) e has = next q (ap is_some e)

-- a text below all keys is no key
none_above : (key : Text) (table : Table) → IsAbove key table → value_at key table ≡ None
none_above key table above = value_at-below_all key table (below_from key table above)

-- ---- a table by its first pair

-- a table that has a pair, and elsewhere what a table above it has, begins with the pair
begins_with : (pair : Text × Text) (rest target : Table) → IsAscending target → IsAscending rest → IsAbove pair.0 rest
    → ((q : Text) → same q pair.0 ≡ true → value_at q target ≡ Some pair.1) → ((q : Text) → same q pair.0 ≡ false → value_at q target ≡ value_at q rest) → target ≡ pair ∷ rest
begins_with pair rest target h g above here elsewhere =
    same_tables target (pair ∷ rest) h (and_from _ _ (below_from pair.0 rest above) g)
    (λ q. elim (same q pair.0) as (λ b. same q pair.0 ≡ b → value_at q target ≡ value_at q (pair ∷ rest)) [
      | true ↦ λ e. here q e ∙ sym (value_at_here q pair rest e)
      | false ↦ λ e. elsewhere q e ∙ sym (value_at_later q pair rest e)
    ] refl)

-- the order the other way round
less_back : (a b : Text) → text_cmp a b ≡ Greater → is_below b a ≡ true
less_back a b e = ap is_lt (text_total.antisymm b a ∙ ap ordering_reverse e)

-- ---- the three cases

-- the first pair of the first table comes, where its key is less
first_comes : (first next : Text × Text) (table other : Table) → IsAscending (first ∷ table) → IsAscending (next ∷ other) → text_cmp first.0 next.0 ≡ Less → merged (first ∷ table) (next ∷ other) ≡ first ∷ merged table (next ∷ other)
first_comes first next table other h g e =
    let less : is_below first.0 next.0 ≡ true = ap is_lt e in
    let above = above_all first.0 next other g less in
    let whole = value_at-merged first.0 (first ∷ table) (next ∷ other) g in
    begins_with first (merged table (next ∷ other)) (merged (first ∷ table) (next ∷ other))
    (ascending-merged (first ∷ table) (next ∷ other) h) (ascending-merged table (next ∷ other) (ascending-tail first table h))
    (merge_above first.0 table (next ∷ other) g (above_tail first table h) above)
    (λ q at. ap (λ k. value_at k (merged (first ∷ table) (next ∷ other))) (equal_by_same q first.0 at)
    ∙ whole ∙ ap (λ o. option_or o (value_at first.0 (first ∷ table))) (none_above first.0 (next ∷ other) above) ∙ value_at_here first.0 first table (same_itself first.0))
    (λ q at. value_at-merged q (first ∷ table) (next ∷ other) g ∙ ap (option_or (value_at q (next ∷ other))) (value_at_later q first table at) ∙ sym (value_at-merged q table (next ∷ other) g))

-- a value that is there is what comes
or_some : (o p : Option Text) (value : Text) → o ≡ Some value → option_or o p ≡ Some value
or_some o p value e = ap (λ x. option_or x p) e

-- the first pair of the second table comes, where its key is less
next_comes : (first next : Text × Text) (table other : Table) → IsAscending (first ∷ table) → IsAscending (next ∷ other) → is_below next.0 first.0 ≡ true → merged (first ∷ table) (next ∷ other) ≡ next ∷ merged (first ∷ table) other
next_comes first next table other h g less =
    begins_with next (merged (first ∷ table) other) (merged (first ∷ table) (next ∷ other))
    (ascending-merged (first ∷ table) (next ∷ other) h) (ascending-merged (first ∷ table) other h)
    (merge_above next.0 (first ∷ table) other (ascending-tail next other g) (above_all next.0 first table h less) (above_tail next other g))
    (λ q at. value_at-merged q (first ∷ table) (next ∷ other) g ∙ or_some (value_at q (next ∷ other)) (value_at q (first ∷ table)) next.1 (value_at_here q next other at))
    (λ q at. value_at-merged q (first ∷ table) (next ∷ other) g ∙ ap (λ o. option_or o (value_at q (first ∷ table))) (value_at_later q next other at)
    ∙ sym (value_at-merged q (first ∷ table) other (ascending-tail next other g)))

-- at one key the second table's pair comes alone
both_come : (first next : Text × Text) (table other : Table) → IsAscending (first ∷ table) → IsAscending (next ∷ other) → first.0 ≡ next.0 → merged (first ∷ table) (next ∷ other) ≡ next ∷ merged table other
both_come first next table other h g e =
    begins_with next (merged table other) (merged (first ∷ table) (next ∷ other))
    (ascending-merged (first ∷ table) (next ∷ other) h) (ascending-merged table other (ascending-tail first table h))
    (merge_above next.0 table other (ascending-tail next other g) (subst (λ k. IsAbove k table) e (above_tail first table h)) (above_tail next other g))
    (λ q at. value_at-merged q (first ∷ table) (next ∷ other) g ∙ or_some (value_at q (next ∷ other)) (value_at q (first ∷ table)) next.1 (value_at_here q next other at))
    (λ q at. value_at-merged q (first ∷ table) (next ∷ other) g
    ∙ (λ i. option_or (value_at_later q next other at i) (value_at_later q first table (ap (same q) e ∙ at) i))
    ∙ sym (value_at-merged q table other (ascending-tail next other g)))

-- the first pair of a merge
pub merged_stepwise : MergedStepwise
merged_stepwise first next table other h g = by (text_cmp first.0 next.0) refl
  where
    by : (o : Ordering) → text_cmp first.0 next.0 ≡ o → merged (first ∷ table) (next ∷ other) ≡ begins_merged o first table next other
    by Less e = first_comes first next table other h g e
    by Equal e = both_come first next table other h g (equal_by_tie first.0 next.0 e)
    by Greater e = next_comes first next table other h g (less_back first.0 next.0 e)
