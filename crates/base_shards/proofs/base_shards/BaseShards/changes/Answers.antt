use Rattle.std.proofs.Common.{◌≡◌, ◌≤◌, sym, ap, ◌∙◌, subst}
use Rattle.std.proofs.lemmas.Result.{IfOk-weaker}
use Rattle.base_versions.specs.Valued.{base_changes}
use Rattle.base_shards.specs.Shards.{ShardView}
use Rattle.base_shards.proofs.ListLemmas.{base_changes_prefix}
use Rattle.base_shards.proofs.ReadingLemmas.{reaches_start}
use Rattle.base_shards.proofs.base_shards.BaseShards.changes.Goals as goal

pub changes-requires-clause-from : goal.changes-requires-clause-from
changes-requires-clause-from g c =
    let shown : c.deref-2.result.now ≡ c.advance_to.new.self = cc in
    subst (λ (s : ShardView). s.base.start ≤ c.args.q) (sym shown) (reaches_start c.args.pass.now c.advance_to.new.pass c.args.q c.advance_to.new.self.base.start c.advance_to.ensures.goes_on c.requires.pinned c.advance_to.ensures.start)

pub returns-clause-exact : goal.returns-clause-exact
returns-clause-exact g c =
    let shown : c.deref-2.result.now ≡ c.advance_to.new.self = cc in
    let view = ap (λ (s : ShardView). s.pass.view) shown ∙ c.advance_to.ensures.met in
    let same = ap (base_changes c.args.q c.args.p c.args.range.now) view
    ∙ base_changes_prefix c.args.q c.args.p c.args.range.now c.args.pass.now.view c.advance_to.new.pass.view c.requires.order c.requires.within c.advance_to.ensures.goes_on.begins in
    IfOk-weaker c.changes.result _ _ (λ found exact. exact ∙ same) c.changes.ensures.exact
