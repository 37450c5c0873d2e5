use Rattle.std.proofs.Common.{◌≡◌, ◌≤◌, IfSome, sym, subst}
use Rattle.std.proofs.lemmas.Result.{IfOk-weaker}
use Rattle.semantics.specs.Texts.{table_of}
use Rattle.base_versions.specs.Valued.{base_changes}
use Rattle.base_versions.specs.Kept.{shard_of}
use Rattle.base_shards.specs.Shards.{ShardView}
use Rattle.base_shards.proofs.ShardLemmas.{own_part, few_of_view}
use Rattle.base_shards.proofs.shard.Shard.few_changes.Goals as goal

pub few_changes-requires-clause-own : goal.few_changes-requires-clause-own
few_changes-requires-clause-own g c =
    own_part c.self.inside.base (table_of c.args.range.now.low) c.self.invariant.1.shards (subst (λ (s : ShardView). shard_of 16 (table_of c.args.range.now.low) ≡ s.base.shard) (sym c.self.view_is) c.requires.part)

pub returns : goal.returns
returns g c =
    let inside = subst (λ (s : ShardView). c.args.p ≤ s.base.position) (sym c.self.view_is) c.requires.within in
    let from = subst (λ (s : ShardView). s.base.start ≤ c.args.q) (sym c.self.view_is) c.requires.from in
    IfOk-weaker c.few_changes.result _ _ (λ few exact.
    subst (λ (s : ShardView). IfSome few (λ found. found.items ≡ base_changes c.args.q c.args.p c.args.range.now s.pass.view)) c.self.view_is
    (few_of_view g.N.Naming.history c.self.inside.base c.self.inside.pass c.args.q c.args.p c.args.range.now few c.self.invariant.1 from c.requires.order inside exact)) c.few_changes.ensures
