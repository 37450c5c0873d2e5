use Rattle.std.proofs.Common.{◌≡◌, List, take, sym, ◌∙◌, subst}
use Rattle.range_evaluation.specs.Trees.{Need}
use Rattle.join_rows.specs.Kept.{AreApart}
use Rattle.join_rows.proofs.need_list.NeedList.merge_in_one_look.Goals as goal

pub fresh_among-requires-clause-apart : goal.fresh_among-requires-clause-apart
fresh_among-requires-clause-apart c =
    let own : c.as_slice.result.now ≡ c.args.self = c.as_slice.ensures.value ∙ c.self.view_is in
    let more : c.as_slice-more.result.now ≡ c.args.other = c.as_slice-more.ensures.value ∙ c.other.view_is in
    subst (λ (w : List Need × List Need). AreApart (take c.args.first w.0) w.1) (λ i. (sym own i, sym more i)) c.requires.apart
