use Rattle.std.proofs.Common.{◌≡◌, List, ◌++◌, sym, ap, ◌∙◌, subst}
use Rattle.range_evaluation.specs.Trees.{Need}
use Rattle.join_rows.specs.Kept.{AddsEach}
use Rattle.join_rows.proofs.NeedLemmas.{adds_all}
use Rattle.join_rows.proofs.need_list.NeedList.append.Goals as goal

pub returns : goal.returns
returns c =
    let both : c.self.inside.needs.items ++ c.other.inside.needs.items ≡ c.args.self ++ c.args.other =
    ap (λ (needs : List Need). needs ++ c.other.inside.needs.items) c.self.view_is ∙ ap (λ (needs : List Need). c.args.self ++ needs) c.other.view_is in
    subst (λ (new : List Need). AddsEach c.args.other c.args.self new) (sym (c.in_ok-append.ensures.items ∙ both)) (adds_all c.args.other c.args.self c.requires.once c.requires.apart)
