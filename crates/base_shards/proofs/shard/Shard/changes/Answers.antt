use Rattle.std.proofs.Common.{◌≡◌, ◌≤◌, sym, ap, ◌∙◌, subst}
use Rattle.std.proofs.lemmas.Result.{IfOk-weaker}
use Rattle.semantics.specs.Texts.{table_of}
use Rattle.base_versions.specs.Valued.{base_changes}
use Rattle.base_versions.specs.Kept.{shard_of}
use Rattle.base_shards.specs.Shards.{ShardView}
use Rattle.base_shards.proofs.ShardLemmas.{own_part, changes_of_view}
use Rattle.base_shards.proofs.shard.Shard.changes.Goals as goal

pub changes-requires-clause-own : goal.changes-requires-clause-own
changes-requires-clause-own g c =
    own_part c.self.inside.base (table_of c.args.range.now.low) c.self.invariant.1.shards (subst (λ (s : ShardView). shard_of 16 (table_of c.args.range.now.low) ≡ s.base.shard) (sym c.self.view_is) c.requires.part)

pub returns-clause-exact : goal.returns-clause-exact
returns-clause-exact g c =
    let inside = subst (λ (s : ShardView). c.args.p ≤ s.base.position) (sym c.self.view_is) c.requires.within in
    let from = subst (λ (s : ShardView). s.base.start ≤ c.args.q) (sym c.self.view_is) c.requires.from in
    IfOk-weaker c.changes.result _ _ (λ found exact.
    changes_of_view g.N.Naming.history c.self.inside.base c.self.inside.pass c.args.q c.args.p c.args.range.now found.items c.self.invariant.1 from c.requires.order inside exact
    ∙ ap (λ (s : ShardView). base_changes c.args.q c.args.p c.args.range.now s.pass.view) c.self.view_is) c.changes.ensures.exact
