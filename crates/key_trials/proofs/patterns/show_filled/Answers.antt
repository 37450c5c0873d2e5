use Rattle.std.proofs.Common.{sym}
use Rattle.key_pattern.proofs.PlaceLemmas.{can_fill-bind}
use Rattle.key_trials.proofs.patterns.show_filled.Goals as goal

pub fill-requires : goal.fill-requires
fill-requires c =
    can_fill-bind c.args.pattern.now c.args.key.now c.none.result c.in-Some.slots c.in-Some.ensures.is_pattern c.in-Some.ensures.slots (sym c.in-Some.ensures.binds)
