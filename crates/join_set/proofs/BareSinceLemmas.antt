-- Ranges that are bare from a position on, as a set of joins remembers it.
use Rattle.std.proofs.Common.{◌≡◌, ◌↔◌, ℕ, ◌≤◌, length, take, true, sym, ap, ◌∙◌, arith, length-take}
use Rattle.std.proofs.lemmas.List.{take-take}
use Rattle.semantics.specs.Texts.{table_of, Range}
use Rattle.semantics.specs.Histories.{History}
use Rattle.semantics.specs.Stays.{stays_of}
use Rattle.growing_history.specs.Changes.{IsBareThroughout, bare_between}
use Rattle.growing_history.proofs.BareLemmas.{bare_between_is_throughout, bare_over}
use Rattle.join_set.specs.Sets.{Joins, AreJoins, bare_since}

-- a range is bare at all positions from q to p exactly where its table is bare from q on by the joins after the first p entries
pub bare_by_joins : (floor : ℕ) (joins : Joins) (h : History) (q p : ℕ) (range : Range) → floor ≤ q → q ≤ p → p ≤ length h → AreJoins floor joins (take p h) →
    (bare_since q (table_of range.low) joins ≡ true) ↔ IsBareThroughout h q p range
bare_by_joins floor joins h q p range above order within are =
    let long : length (take p h) ≡ p = omega (arith, length-take p h) in
    let whole : take p (take p h) ≡ take p h = take-take p p h (omega arith) in
    let kept : bare_since q (table_of range.low) joins ≡ bare_between q p (table_of range.low) (stays_of (take p h)) =
    are.bare q (table_of range.low) above ∙ ap (λ n. bare_between q n (table_of range.low) (stays_of (take p h))) long in
    let there = bare_between_is_throughout (take p h) q p range order in (
      λ bare. bare_over h (take p h) q p range whole (there.0 (sym kept ∙ bare)),
      λ bare. kept ∙ there.1 (bare_over (take p h) h q p range (sym whole) bare),
    )
