use Rattle.std.proofs.Common.{◌≡◌, ◌≤◌, take, sym, ap, ◌∙◌, subst}
use Rattle.std.proofs.lemmas.Result.{IfOk-weaker}
use Rattle.semantics.specs.Texts.{pairs_within}
use Rattle.semantics.specs.Histories.{base_of}
use Rattle.growing_history.proofs.PrefixLemmas.{take_prefix}
use Rattle.base_shards.specs.Shards.{ShardView}
use Rattle.base_shards.proofs.ReadingLemmas.{reaches_start}
use Rattle.base_shards.proofs.base_shards.BaseShards.pairs_at.Goals as goal

pub pairs_at-requires-clause-from : goal.pairs_at-requires-clause-from
pairs_at-requires-clause-from g c =
    let shown : c.deref-2.result.now ≡ c.advance_to.new.self = cc in
    subst (λ (s : ShardView). s.base.start ≤ c.args.p) (sym shown) (reaches_start c.args.pass.now c.advance_to.new.pass c.args.p c.advance_to.new.self.base.start c.advance_to.ensures.goes_on c.requires.pinned c.advance_to.ensures.start)

pub returns-clause-exact : goal.returns-clause-exact
returns-clause-exact g c =
    let shown : c.deref-2.result.now ≡ c.advance_to.new.self = cc in
    let view = ap (λ (s : ShardView). s.pass.view) shown ∙ c.advance_to.ensures.met in
    let same = ap (take c.args.p) view ∙ take_prefix c.args.p c.args.pass.now.view c.advance_to.new.pass.view c.requires.within c.advance_to.ensures.goes_on.begins in
    IfOk-weaker c.pairs_at.result _ _ (λ pairs exact. exact ∙ ap (λ es. pairs_within c.args.range.now (base_of es)) same) c.pairs_at.ensures.exact
