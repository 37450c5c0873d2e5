use Rattle.std.proofs.Common.{◌≡◌, ◌≤◌, IfSome, length, ap, ◌∙◌, sym, subst}
use Rattle.std.proofs.lemmas.Result.{IfOk-weaker}
use Rattle.write_history.specs.Marks.{reach}
use Rattle.write_history.specs.Passes.{PassView}
use Rattle.base_shards.proofs.ListLemmas.{base_changes_prefix}
use Rattle.shared_reader.proofs.GivenLemmas.{reaches_back, still_readable}
use Rattle.shared_reader.proofs.LentLemmas.{lends_on, same_pass}
use Rattle.shared_reader.proofs.reader.SharedReader.look_at_table.Goals as goal

pub few_changes-found-requires-clause-pinned : goal.few_changes-found-requires-clause-pinned
few_changes-found-requires-clause-pinned g c = reaches_back c.self.inside.pass.now c.args.self.now.pass c.self.invariant.0.pinned.pin c.args.q c.self.invariant.0.pinned.pinned (same_pass _ _ c.self.view_is) c.requires.above

pub invariant_of-self : goal.invariant_of-self
invariant_of-self g c =
    let old = c.self.inside.pass.now in
    let new = c.few_changes-found.new.pass in
    let on = c.few_changes-found.ensures.reads_on in
    let short : c.args.p ≤ length old.view = subst (λ (v : PassView). c.args.p ≤ length v.view) (sym (same_pass _ _ c.self.view_is)) c.requires.within in
    let same = base_changes_prefix c.args.q c.args.p c.args.table old.view new.view c.requires.order short on.begins in (
      still_readable g.N.Naming.history c.self.inside.history.now c.self.inside.joins.now c.self.inside.p old new c.self.invariant.0 on,
      c.self.invariant.1 ∙ ap reach (sym on.same_mark),
      c.known_of.ensures new.view (IfOk-weaker c.few_changes-found.result _ _ (λ found exact. subst (λ ks. IfSome found (λ changes. changes.items ≡ ks)) (sym same) exact) c.few_changes-found.ensures.exact),
    )

pub returns : goal.returns
returns g c = lends_on _ _ c.few_changes-found.new.pass c.self.view_is c.few_changes-found.ensures.reads_on
