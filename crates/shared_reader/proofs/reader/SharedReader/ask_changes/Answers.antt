use Rattle.std.proofs.Common.{◌≡◌, IfOk, sym, ap, ◌∙◌, subst}
use Rattle.write_history.specs.Marks.{reach}
use Rattle.write_history.specs.Passes.{PassView}
use Rattle.base_versions.specs.Valued.{base_changes}
use Rattle.shared_reader.proofs.GivenLemmas.{reaches_back, still_readable}
use Rattle.shared_reader.proofs.LentLemmas.{lends_on, same_pass}
use Rattle.shared_reader.proofs.reader.SharedReader.ask_changes.Goals as goal

pub returns-clause-exact : goal.returns-clause-exact
returns-clause-exact g c = subst (λ (v : PassView). IfOk c.changes.result (λ found. found.items ≡ base_changes c.args.q c.args.p c.args.range.now v.view)) (same_pass _ _ c.self.view_is) c.changes.ensures.exact

pub invariant_of-self : goal.invariant_of-self
invariant_of-self g c =
    let on = c.changes.ensures.reads_on in (
      still_readable g.N.Naming.history c.self.inside.history.now c.self.inside.joins.now c.self.inside.p c.self.inside.pass.now c.changes.new.pass c.self.invariant.0 on,
      c.self.invariant.1 ∙ ap reach (sym on.same_mark),
      tt,
    )

pub returns-clause-reads_on : goal.returns-clause-reads_on
returns-clause-reads_on g c = lends_on _ _ c.changes.new.pass c.self.view_is c.changes.ensures.reads_on

pub changes-requires-clause-pinned : goal.changes-requires-clause-pinned
changes-requires-clause-pinned g c = reaches_back c.self.inside.pass.now c.args.self.now.pass c.self.invariant.0.pinned.pin c.args.q c.self.invariant.0.pinned.pinned (same_pass _ _ c.self.view_is) c.requires.above
