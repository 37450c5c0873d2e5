use Rattle.std.proofs.Common.{◌≡◌, length, take, sym, ap, ◌∙◌, subst, arith}
use Rattle.semantics.specs.States.{state}
use Rattle.semantics.proofs.TableLemmas.{IsAscending}
use Rattle.semantics.proofs.StateLemmas.{ascending-state}
use Rattle.protocol.proofs.EarlierLemmas.{changes_told}
use Rattle.plain_history.proofs.AnswerLemmas.{changes_are}
use Rattle.plain_history.proofs.history.PlainHistory.compare.Goals as goal

pub beginning-requires : goal.beginning-requires
beginning-requires c = c.requires.not_ahead

pub compare-requires-clause-ascends : goal.compare-requires-clause-ascends
compare-requires-clause-ascends c =
    subst IsAscending (sym (c.in_ok-before.ensures ∙ ap state c.beginning.ensures.entries)) (ascending-state (take c.args.from c.args.self.now))

pub compare-requires-clause-other_ascends : goal.compare-requires-clause-other_ascends
compare-requires-clause-other_ascends c =
    subst IsAscending (sym (c.in_ok-after.ensures ∙ ap state c.beginning-2.ensures.entries)) (ascending-state (take c.len-position.result c.args.self.now))

pub returns : goal.returns
returns c =
    changes_told c.args.range.now c.args.from c.len-position.result c.args.self.now c.in_ok-changes.changes.items c.requires c.len-position.ensures.length
    (changes_are c.args.range.now c.args.self.now c.args.from c.len-position.result c.in_ok-before.before c.in_ok-after.after c.in_ok-changes.changes.items c.in_ok-changes.ensures
    (c.in_ok-before.ensures ∙ ap state c.beginning.ensures.entries) (c.in_ok-after.ensures ∙ ap state c.beginning-2.ensures.entries))
