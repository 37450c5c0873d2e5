use Rattle.std.proofs.Common.{length, ap, ◌∙◌, subst}
use Rattle.protocol.specs.Own.{AreOwn}
use Rattle.plain_history.proofs.history.PlainHistory.len.Goals as goal

pub returns-clause-length : goal.returns-clause-length
returns-clause-length c = c.length.ensures.length ∙ c.self.invariant.stands.same_length ∙ ap length c.self.view_is

pub returns-clause-own : goal.returns-clause-own
returns-clause-own c = subst AreOwn c.self.view_is c.self.invariant.own
