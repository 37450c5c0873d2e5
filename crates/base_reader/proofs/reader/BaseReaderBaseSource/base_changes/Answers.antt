use Rattle.std.proofs.Common.{◌∙◌, subst, arith}
use Rattle.std.proofs.lemmas.Result.{IfOk-weaker}
use Rattle.semantics.specs.Histories.{History}
use Rattle.growing_history.specs.Entered.{HasEntered}
use Rattle.cell_slots.proofs.FrameLemmas.{moves_same}
use Rattle.base_reader.proofs.ReadingLemmas.{stands_for_all}
use Rattle.base_reader.proofs.reader.BaseReaderBaseSource.base_changes.Goals as goal

pub returns-clause-exact : goal.returns-clause-exact
returns-clause-exact g c =
    let stands = stands_for_all c.args.self.now c.as_slice.result.now c.catch_up.new.base (c.as_slice.ensures.value ∙ c.self.view_is) c.in_ok-catch_up.ensures.caught c.in_ok-catch_up.ensures.versions in
    IfOk-weaker c.changes.result _ _ (λ found exact. exact 0 c.args.self.now stands (omega arith)) c.changes.ensures.exact

pub returns-in_err-catch_up-clause-moves : goal.returns-in_err-catch_up-clause-moves
returns-in_err-catch_up-clause-moves g c = moves_same (λ (h : History). h) (λ h. 0) c.args.self.now c.self.inside.entries.items c.self.view_is

pub returns-clause-moves : goal.returns-clause-moves
returns-clause-moves g c = moves_same (λ (h : History). h) (λ h. 0) c.args.self.now c.self.inside.entries.items c.self.view_is

pub returns-in_err-catch_up-clause-entered : goal.returns-in_err-catch_up-clause-entered
returns-in_err-catch_up-clause-entered g c = subst HasEntered c.self.view_is c.self.invariant.entered

pub returns-clause-entered : goal.returns-clause-entered
returns-clause-entered g c = subst HasEntered c.self.view_is c.self.invariant.entered
