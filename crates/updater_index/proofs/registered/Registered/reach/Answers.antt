use Rattle.std.proofs.Common.{◌+◌, ◌≤◌, length, max, ap, ◌∙◌, subst}
use Rattle.updater_index.specs.Registered.{Held, filled}
use Rattle.updater_index.proofs.FilledLemmas.{indexed-longer}
use Rattle.updater_index.proofs.registered.Registered.reach.Goals as goal

pub invariant_of-self : goal.invariant_of-self
invariant_of-self c = indexed-longer c.self.inside.by_id.items c.lengthen.new.by_id.items c.self.inside.forks c.lengthen.ensures.same c.self.invariant

pub returns-clause-same : goal.returns-clause-same
returns-clause-same c = λ ids h. c.lengthen.ensures.same ids h ∙ ap (filled ids) c.self.view_is

pub returns-clause-upto : goal.returns-clause-upto
returns-clause-upto c = subst (λ (held : Held). length c.lengthen.new.by_id.items ≤ max (length held) (c.args.id + 1)) c.self.view_is c.lengthen.ensures.upto
