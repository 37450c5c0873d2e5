use Rattle.std.proofs.Common.{◌≡◌, ℕ, ◌||◌}
use Rattle.std.specs.List.{list_any}
use Rattle.std.specs.Ordering.{nat_cmp}
use Rattle.std.specs.BTreeSet.{contains}
use Rattle.updater_index.specs.Spans.{holds}
use Rattle.updater_index.proofs.side.find_among.Given as goal

abbrev pub invariant-loop-span : goal.invariant-loop-span
invariant-loop-span l = (id : ℕ) → (contains nat_cmp l.found id || list_any (holds l.by_low l.key id) l.span-iterator) ≡ (contains nat_cmp l.initial.found id || list_any (holds l.by_low l.key id) l.fn.spans)
