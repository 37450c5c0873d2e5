use Rattle.std.proofs.Common.{◌≡◌, true, sym, subst}
use Rattle.core_events.specs.Events.{is_bound}
use Rattle.core_events.proofs.BoundLemmas.{range_has_bounds}
use Rattle.core_events.proofs.bound.ScanBound.last_of.Goals as goal

pub invariant_of-result : goal.invariant_of-result
invariant_of-result c =
    subst (λ t. is_bound t ≡ true) (sym c.in_ok-place.ensures) (range_has_bounds c.args.range.now.low c.args.range.now.high c.lo-low.ensures.is_range).1
