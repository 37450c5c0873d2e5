use Rattle.std.proofs.Common.{◌≡◌, ◌≤◌, take, sym, ap, ◌∙◌, subst}
use Rattle.std.proofs.lemmas.Result.{IfOk-weaker}
use Rattle.semantics.specs.Texts.{pairs_within, table_of}
use Rattle.semantics.specs.Histories.{base_of}
use Rattle.base_versions.specs.Kept.{shard_of}
use Rattle.base_shards.specs.Shards.{ShardView}
use Rattle.base_shards.proofs.ShardLemmas.{own_part, pairs_of_view}
use Rattle.base_shards.proofs.shard.Shard.pairs_at.Goals as goal

pub pairs_at-requires-clause-own : goal.pairs_at-requires-clause-own
pairs_at-requires-clause-own g c =
    own_part c.self.inside.base (table_of c.args.range.now.low) c.self.invariant.1.shards (subst (λ (s : ShardView). shard_of 16 (table_of c.args.range.now.low) ≡ s.base.shard) (sym c.self.view_is) c.requires.part)

pub returns-clause-exact : goal.returns-clause-exact
returns-clause-exact g c =
    let inside = subst (λ (s : ShardView). c.args.p ≤ s.base.position) (sym c.self.view_is) c.requires.within in
    let from = subst (λ (s : ShardView). s.base.start ≤ c.args.p) (sym c.self.view_is) c.requires.from in
    IfOk-weaker c.pairs_at.result _ _ (λ pairs exact.
    pairs_of_view g.N.Naming.history c.self.inside.base c.self.inside.pass c.args.p c.args.range.now pairs.items c.self.invariant.1 from inside exact
    ∙ ap (λ (s : ShardView). pairs_within c.args.range.now (base_of (take c.args.p s.pass.view))) c.self.view_is) c.pairs_at.ensures.exact
