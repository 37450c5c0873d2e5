use Rattle.std.proofs.Common.{◌<◌, length, arith}
use Rattle.std.proofs.lemmas.Bool.{false≢true}
use Rattle.lazy_log.proofs.PendingLemmas.{noted_at}
use Rattle.lazy_log.proofs.log.are_noted.Goals as goal

pub returns : goal.returns
returns c = (
  (λ e. absurd (false≢true e)),
  (λ has.
      let at = noted_at c.args.noted.now c.args.slots.now has in
      let less : at.0 < length c.args.noted.now = at.2 in
      absurd (c.loop-one.invariant at.0 at.1 (omega arith) at.3)),
)
