-- What is kept for a range of a join's output, and when it is right for a table of the pairs below the join.
use Rattle.std.specs.Prelude.{◌≡◌, ℕ, ◌≤◌, List, length, take, slice_get, Any, Bool, true, false, Some, is_some, IsTrue}
use Rattle.std.specs.List.{list_any, AllByRecursion}
use Rattle.std.specs.Option.{IsSomeAnd}
use Rattle.std.specs.FinMap.Entries.{is_sorted}
use Rattle.semantics.specs.Texts.{Text, text_cmp, Table, Range, value_at, within}
use Rattle.semantics.specs.Patterns.{Pattern, Slots, Fits, IsPartOf, bind, fits}
use Rattle.semantics.specs.PatternLaws.{AreSegmentTexts}
use Rattle.semantics.specs.Joins.{Source, Join}
use Rattle.semantics.specs.Outputs.{out}
use Rattle.range_evaluation.specs.Trees.{Need, placed_sources}
use Rattle.range_evaluation.specs.TreeLaws.{AreOutputSlots}
use Rattle.range_evaluation.specs.PathLaws.{IsPath, HoldsNext}

-- rows of the output, the needs from which they come, and slots of the output that are pending: what the rows say of the keys under them may be wrong
pub record Kept : Type 0 where
  pub rows : Table
  pub needs : List Need
  pub pending : List Slots

-- whether a key fits the output under some of the slots
abbrev pub is_covered : Pattern → List Slots → Text → Bool
is_covered output pending key = list_any (λ slots. is_some (bind output key slots)) pending

-- a key that a row may have: it lies in the range, fits the output and has at most 512 bytes
pub record IsRowKey (j : Join) (range : Range) (key : Text) : Type 0 where
  pub inside : within range key ≡ true
  pub fits : fits j.output key ≡ true
  pub short : length key ≤ 512

-- the rows' keys ascend and are row keys; at each key of the range that is not covered there is what the join makes of the table
pub record AreRows (j : Join) (range : Range) (table : Table) (kept : Kept) : Type 0 where
  pub ascending : IsTrue (is_sorted text_cmp kept.rows)
  pub keys : AllByRecursion (λ pair. IsRowKey j range pair.0) kept.rows
  pub exact : (key : Text) → within range key ≡ true → is_covered j.output kept.pending key ≡ false → value_at key kept.rows ≡ value_at key (out j table)

-- take a key of the range that is not covered, and slots under which it fits the output and keys of the table are a path: whichever key, there or not, goes on from the path under wider slots, some need by that path holds it, under a part of the slots
abbrev pub AreFollowed : Join → Range → Table → Kept → Type 0
AreFollowed j range table kept = (key : Text) (path : List Text) (more wider : Slots) (source : ℕ) (s : Source) (next : Text) →
    within range key ≡ true → is_covered j.output kept.pending key ≡ false → Fits j.output key more → IsPath (placed_sources j) table path more →
    slice_get (placed_sources j) (length path) ≡ Some (source, s) → IsPartOf more wider → Fits s.pattern next wider → length next ≤ 512 →
    Any (HoldsNext source path more next) kept.needs

-- a need came by a path: its keys are one under its slots, its source is the next, and each of the keys is held by some need that came by the keys before it, under a part of its slots
pub record CameBy (j : Join) (table : Table) (needs : List Need) (need : Need) : Type 0 where
  pub places : length need.slots ≡ 16
  pub texts : AreSegmentTexts need.slots
  pub path : IsPath (placed_sources j) table need.by need.slots
  pub next : IsSomeAnd (slice_get (placed_sources j) (length need.by)) (λ p. p.0 ≡ need.source)
  pub held : (i source : ℕ) (s : Source) (key : Text) → slice_get (placed_sources j) i ≡ Some (source, s) → slice_get need.by i ≡ Some key →
      Any (HoldsNext source (take i need.by) need.slots key) needs

-- what is kept is right for a table
pub record IsRight (j : Join) (range : Range) (table : Table) (kept : Kept) : Type 0 where
  pub rows : AreRows j range table kept
  pub followed : AreFollowed j range table kept
  pub came : AllByRecursion (CameBy j table kept.needs) kept.needs
  pub pending : AllByRecursion (AreOutputSlots j) kept.pending
