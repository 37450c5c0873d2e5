use Rattle.std.proofs.Common.{◌≡◌, ◌<◌, ◌∙◌, None, sym, ap, subst, arith}
use Rattle.semantics.specs.States.{ranks_of}
use Rattle.semantics.specs.Verdicts.{join_cause, joined}
use Rattle.join_set.specs.Sets.{Joins}
use Rattle.join_set.proofs.RankLemmas.{IsRanked-joined}
use Rattle.join_set.proofs.RemoveLemmas.{up_to_joined}
use Rattle.join_set.proofs.set.JoinSet.add.Goals as goal

pub invariant_of-self-2 : goal.invariant_of-self-2
invariant_of-self-2 c =
    let inside = c.self.inside in
    let items = c.in_ok-push.ensures.items in
    let free = subst (λ (s : Joins). join_cause s.standing c.args.at c.args.join ≡ None) (sym c.self.view_is) c.in_ok-ranks.ensures.free in
    let ranks = subst (λ (s : Joins). c.in_ok-ranks.ranks.items ≡ ranks_of (joined s.standing c.args.at c.args.join)) (sym c.self.view_is) c.in_ok-ranks.ensures.ok in
    let later : inside.changed < c.args.at = omega (arith, c.requires, ap (λ (s : Joins). s.changed) c.self.view_is) in
    record {
      ranked = IsRanked-joined inside.joins.items c.args.at c.args.join c.push.new.self.items c.in_ok-ranks.ranks.items c.self.invariant.ranked.admissible free ranks items;
      up_to = up_to_joined inside.changed c.args.at c.args.join inside.joins.items c.push.new.self.items later c.self.invariant.up_to items;
    }
