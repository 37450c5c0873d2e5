use Rattle.std.proofs.Common.{◌≡◌, IfOk, MatchOption, subst}
use Rattle.std.proofs.lemmas.Result.{IfOk-weaker}
use Rattle.cell_slots.specs.Slots.{Takes}
use Rattle.scan_core.specs.Rights.{Contents, contents_of}
use Rattle.scan_core.proofs.LendingLemmas.{lends_from, right_lent}
use Rattle.scan_core.proofs.contents.CoreCells.lend.Goals as goal

pub invariant_of-self : goal.invariant_of-self
invariant_of-self c =
    right_lent c.lend.result c.self.inside.base c.args.id c.args.at c.args.rank c.args.p c.args.part.now c.self.inside.cells c.lend.new.self c.lend.ensures.lent c.lend.ensures.err c.self.invariant

pub returns-clause-taken : goal.returns-clause-taken
returns-clause-taken c =
    let after = (contents_of c.self.inside.base c.lend.new.self).cells in
    subst (λ (v : Contents). IfOk c.lend.result (λ found. MatchOption found (after ≡ v.cells) (Takes v.history 0 v.cells after c.args.id c.args.at c.args.rank c.args.p c.args.part.now))) c.self.view_is
    (IfOk-weaker c.lend.result _ _ (λ found lent. lends_from c.self.inside.base c.self.inside.cells c.lend.new.self c.args.id c.args.at c.args.rank c.args.p c.args.part.now found c.self.invariant c.lend.ensures.same_limit lent) c.lend.ensures.lent)
