use Rattle.std.proofs.Common.{sym, ◌∙◌}
use Rattle.key_space.proofs.BoundLemmas.{cut_bounds}
use Rattle.key_space.proofs.range.Range.cut.Goals as goal

pub invariant_of-result : goal.invariant_of-result
invariant_of-result c =
    cut_bounds
    (record { low = c.self.inside.low; high = c.self.inside.high })
    (record { low = c.other.inside.low; high = c.other.inside.high })
    c.args.self.now c.args.other.now
    c.in_ok-low.low c.in_ok-high.high
    c.self.view_is c.other.view_is c.self.invariant c.other.invariant
    (sym c.meets.ensures ∙ c.if-not-meets.false)
    c.in_ok-low.ensures c.in_ok-high.ensures
