use Rattle.std.proofs.Common.{length, ap, arith}
use Rattle.write_history.proofs.Numbering.{numbered_none}
use Rattle.write_history.proofs.log.Log.new.Goals as goal

pub invariant_of-result : goal.invariant_of-result
invariant_of-result c =
    let list = c.in_ok-entries.entries in
    let none = c.in_ok-entries.ensures.none in (
      omega (arith, c.new-3.ensures.same_length, c.in_ok-entries.ensures.lacks, ap length none),
      numbered_none list.lacks list.entries c.in_ok-numbers.numbers none c.in_ok-numbers.ensures,
      omega (arith, c.new-3.ensures.within, c.in_ok-entries.ensures.lacks),
    )
