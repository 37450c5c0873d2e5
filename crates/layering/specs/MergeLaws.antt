-- Laws on merging.
use Rattle.std.specs.Prelude.{◌≡◌, ◌+◌, List, [], ◌∷◌, length, IsPermutation}
use Rattle.std.specs.List.{AllByRecursion}
use Rattle.std.specs.declared.cmp.Ordering.{Ordering}
use Rattle.std.specs.declared.cmp.Ordering.TheVariants.{Less, Equal, Greater}
use Rattle.semantics.specs.Texts.{Text, text_cmp, Table, Range, pairs_within}
use Rattle.semantics.specs.States.{merged}
use Rattle.layering.specs.Merging.{Ascends, ShareNoKey, AllAgree, merged_all}

-- a merge into nothing is what is merged
abbrev pub MergedIntoNothing : Type 0
MergedIntoNothing = (table : Table) → Ascends table → merged [] table ≡ table

-- what is merged ascends
abbrev pub MergedAscends : Type 0
MergedAscends = (table other : Table) → Ascends table → Ascends (merged table other)

-- what is merged in a range is merged of what is in the range
abbrev pub MergedWithin : Type 0
MergedWithin = (range : Range) (table other : Table) → Ascends table → Ascends other →
    pairs_within range (merged table other) ≡ merged (pairs_within range table) (pairs_within range other)

-- tables with no key in common merge to the same either way
abbrev pub MergedEitherWay : Type 0
MergedEitherWay = (table other : Table) → Ascends table → Ascends other → ShareNoKey table other → merged table other ≡ merged other table

-- and to as many pairs as both have
abbrev pub MergedLength : Type 0
MergedLength = (table other : Table) → Ascends table → Ascends other → ShareNoKey table other → length (merged table other) ≡ length table + length other

-- tables of which each two agree merge to the same in any order, one after another
abbrev pub MergedInAnyOrder : Type 0
MergedInAnyOrder = (table : Table) (others more : List Table) → Ascends table → AllByRecursion Ascends others → AllAgree others → IsPermutation others more →
    merged_all table others ≡ merged_all table more

-- the first pair of a merge is the one with the lesser key, or at the same key that of the second table
abbrev pub begins_merged : Ordering → Text × Text → Table → Text × Text → Table → Table
begins_merged Less first table next other = first ∷ merged table (next ∷ other)
begins_merged Equal first table next other = next ∷ merged table other
begins_merged Greater first table next other = next ∷ merged (first ∷ table) other

-- so two tables are merged pair by pair
abbrev pub MergedStepwise : Type 0
MergedStepwise = (first next : Text × Text) (table other : Table) → Ascends (first ∷ table) → Ascends (next ∷ other) →
    merged (first ∷ table) (next ∷ other) ≡ begins_merged (text_cmp first.0 next.0) first table next other
