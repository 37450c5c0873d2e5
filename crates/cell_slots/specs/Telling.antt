-- What is said of what changed in the output of a kept range.
use Rattle.std.specs.Prelude.{◌≡◌, ℕ, ◌≤◌, List, take, Contains, true}
use Rattle.std.specs.List.{AllByRecursion}
use Rattle.std.specs.List.Sorted.{IsStrictlySortedBy}
use Rattle.semantics.specs.Texts.{Text, text_cmp, Range, value_at, within}
use Rattle.semantics.specs.Histories.{History}
use Rattle.semantics.specs.Outputs.{out}
use Rattle.semantics.specs.States.{below}
use Rattle.join_eval.specs.declared.reading.Changed.{Changed}
use Rattle.join_eval.specs.declared.reading.Changed.TheVariants.{Keys, All}
use Rattle.kept_ranges.specs.Sound.{KeptRange}

-- keys of a piece, ascending, each once, among which is every key of the piece and of the kept range at which the output is not the same at all positions from q to p
pub record ListsOutputChanges (s : KeptRange) (h : History) (q p : ℕ) (piece : Range) (keys : List Text) : Type 0 where
  pub ascend : IsStrictlySortedBy text_cmp keys
  pub inside : AllByRecursion (λ key. within piece key ≡ true) keys
  pub complete : (x : ℕ) (key : Text) → q ≤ x → x ≤ p → within s.range key ≡ true → within piece key ≡ true → (Contains keys key → ⊥) →
      value_at key (out s.join (below (take x h) s.rank)) ≡ value_at key (out s.join (below (take q h) s.rank))

-- keys are listed so, or it is not known which
abbrev pub TellsOutput : KeptRange → History → ℕ → ℕ → Range → Changed → Type 0
TellsOutput s h q p piece (Keys keys) = ListsOutputChanges s h q p piece keys.items
TellsOutput s h q p piece All = Unit {0}
