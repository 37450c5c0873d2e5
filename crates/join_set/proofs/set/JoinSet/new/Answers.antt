use Rattle.std.proofs.Common.{◌≤◌, ◌∙◌, All, List, [], sym, subst}
use Rattle.std.proofs.lemmas.List.Elements.{All-nil}
use Rattle.semantics.specs.Histories.{DeclaredJoin}
use Rattle.join_set.specs.Sets.{AreUpTo}
use Rattle.join_set.proofs.RankLemmas.{IsRanked-empty}
use Rattle.join_set.proofs.set.JoinSet.new.Goals as goal

pub invariant_of-result : goal.invariant_of-result
invariant_of-result c = record {
  ranked = IsRanked-empty c.new.result.items c.new-2.result.items c.new.ensures.items c.new-2.ensures.items;
  up_to = subst (λ (js : List DeclaredJoin). AreUpTo 0 js) (sym c.new.ensures.items) (All-nil (λ s. s.position ≤ 0));
}
