-- Laws on parts of a range.
use Rattle.std.specs.Prelude.{◌≡◌, ◌++◌, ℕ, List, flat_map, slice_get, true, Some}
use Rattle.std.specs.List.{AllByRecursion}
use Rattle.std.specs.Option.{IsSomeAnd}
use Rattle.std.specs.Ordering.{is_le}
use Rattle.semantics.specs.Texts.{Text, text_cmp, Table, Range, within, pairs_within}
use Rattle.layering.specs.Merging.{Ascends}
use Rattle.layering.specs.Parts.{JoinTo, IsWithin}

-- the pairs in two ranges that join, in order, are those in the whole
abbrev pub TwoMakeRange : Type 0
TwoMakeRange = (low middle high : Text) (table : Table) → Ascends table → is_le (text_cmp low middle) ≡ true → is_le (text_cmp middle high) ≡ true →
    pairs_within (record { low = low; high = middle }) table ++ pairs_within (record { low = middle; high = high }) table ≡ pairs_within (record { low = low; high = high }) table

-- the pairs in parts that join to a range, in order, are those in the range
abbrev pub PartsMakeRange : Type 0
PartsMakeRange = (range : Range) (parts : List Range) (table : Table) → Ascends table → JoinTo range parts →
    flat_map (λ part. pairs_within part table) parts ≡ pairs_within range table

-- each part lies within the range
abbrev pub PartsAreWithin : Type 0
PartsAreWithin = (range : Range) (parts : List Range) → JoinTo range parts → AllByRecursion (λ part. IsWithin part range) parts

-- the place of the one range that holds a key
pub record IsHeldOnce (parts : List Range) (key : Text) : Type 0 where
  pub place : ℕ
  pub holds : IsSomeAnd (slice_get parts place) (λ part. within part key ≡ true)
  pub once : (other : ℕ) (part : Range) → slice_get parts other ≡ Some part → within part key ≡ true → other ≡ place

-- each key of the range is held by exactly one part
abbrev pub KeysAreHeldOnce : Type 0
KeysAreHeldOnce = (range : Range) (parts : List Range) (key : Text) → JoinTo range parts → within range key ≡ true → IsHeldOnce parts key

-- a key of a range is one of each range in which it lies
abbrev pub WithinIsKept : Type 0
WithinIsKept = (part range : Range) (key : Text) → IsWithin part range → within part key ≡ true → within range key ≡ true

-- of the pairs in a range those in a part whose keys are keys of it are those in the part
abbrev pub PartOfRange : Type 0
PartOfRange = (part range : Range) (table : Table) → ((key : Text) → within part key ≡ true → within range key ≡ true) →
    pairs_within part (pairs_within range table) ≡ pairs_within part table
