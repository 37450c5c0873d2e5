use Rattle.std.proofs.Common.{◌+◌, List, take, sym, subst}
use Rattle.std.specs.List.{AllByRecursion}
use Rattle.semantics.specs.Texts.{Range}
use Rattle.shared_reader.specs.Following.{HaveWhole, IsOneMore}
use Rattle.shared_reader.proofs.FollowedLemmas.{all_more, all_still, new_whole}
use Rattle.shared_reader.proofs.followed.Followed.take_in.Goals as goal
use Rattle.shared_reader.proofs.followed.Followed.take_in.Goals.{then-not-has_whole+in_ok-copy+in_ok-add+in_ok-copy-2+in_ok-push, else-not-has_whole}

pub loop-range-preserved : goal.loop-range-preserved
loop-range-preserved c =
    let parts = c.args.ranges.now in
    let i = c.loop-range.range-index in
    let part = c.range-item.result in
    elim c.if-not-has_whole.branch [
      | then-not-has_whole+in_ok-copy+in_ok-add+in_ok-copy-2+in_ok-push w ↦
          let more : IsOneMore c.loop-range.self part w.add.new.self = subst (λ (r : Range). IsOneMore c.loop-range.self r w.add.new.self) w.in_ok-copy.ensures w.in_ok-add.ensures.ok in
          subst (λ (have : List Range). AllByRecursion (HaveWhole have) (take (i + 1) parts)) (sym w.self-is)
          (all_more w.add.new.self parts i part c.loop-range-test.true c.range-item.is (all_still c.loop-range.self w.add.new.self part (take i parts) more c.loop-range.invariant) (new_whole c.loop-range.self w.add.new.self part more))
      | else-not-has_whole w ↦
          subst (λ (have : List Range). AllByRecursion (HaveWhole have) (take (i + 1) parts)) (sym w.self-is)
          (all_more c.loop-range.self parts i part c.loop-range-test.true c.range-item.is c.loop-range.invariant (c.has_whole.ensures w.if-not-has_whole.false))
    ]
