use Rattle.std.proofs.Common.{IfSome, subst}
use Rattle.lazy_log.specs.Index.{IsIndexOf}
use Rattle.lazy_log.proofs.index.with_slots.Goals as goal

pub returns-then-are_own : goal.returns-then-are_own
returns-then-are_own c = λ noted of.
    c.in_ok-add.ensures c.args.output.now noted (subst (λ o. IfSome o (IsIndexOf c.args.output.now noted)) c.in-Some.is of) (c.are_own.ensures c.if-are_own.true)
