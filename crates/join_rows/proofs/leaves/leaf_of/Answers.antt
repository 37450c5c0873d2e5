use Rattle.std.proofs.Common.{◌≡◌, ◌+◌, ◌-◌, ◌/◌, ◌<◌, length, suc, true, false, drop, sym, ◌∙◌, subst, arith}
use Rattle.join_rows.specs.Found.{AllAbove}
use Rattle.std.specs.Bool.{OnTrue}
use Rattle.join_rows.specs.Leaves.{all_rows, IsLeafOf}
use Rattle.join_rows.proofs.LeafLemmas.{filled_at, below_read, above_read, none_above_all}
use Rattle.join_rows.proofs.leaves.leaf_of.Goals as goal

pub loop-low-init : goal.loop-low-init
loop-low-init c = record {
  order = c.requires.some;
  within = omega arith;
  below = tt;
  above = none_above_all c.args.key.now c.args.leaves.now (length c.args.leaves.now) (omega arith);
}

pub is_before-requires : goal.is_before-requires
is_before-requires c =
    let m = c.loop-low.low + (c.loop-low.end - c.loop-low.low) / 2 in
    filled_at c.args.leaves.now m c.index-leaves-middle.result c.requires.are (omega arith) c.index-leaves-middle.is

pub loop-low-preserved-then-is_before : goal.loop-low-preserved-then-is_before
loop-low-preserved-then-is_before c =
    let m = c.loop-low.low + (c.loop-low.end - c.loop-low.low) / 2 in
    let within : m < length c.args.leaves.now = omega arith in record {
      order = omega arith;
      within = omega arith;
      below = c.loop-low.invariant.below;
      above = above_read c.args.key.now c.args.leaves.now m c.index-leaves-middle.result c.requires.are within c.index-leaves-middle.is (sym c.is_before.ensures ∙ c.if-is_before.true);
    }

pub loop-low-preserved : goal.loop-low-preserved
loop-low-preserved c =
    let m = c.loop-low.low + (c.loop-low.end - c.loop-low.low) / 2 in
    let within : m < length c.args.leaves.now = omega arith in record {
      order = omega arith;
      within = c.loop-low.invariant.within;
      below = below_read c.args.key.now c.args.leaves.now m c.index-leaves-middle.result c.requires.are within c.index-leaves-middle.is (sym c.is_before.ensures ∙ c.if-is_before.false);
      above = c.loop-low.invariant.above;
    }

pub returns : goal.returns
returns c =
    let e : c.loop-low.end ≡ suc c.loop-low.low = omega arith in record {
      inside = omega arith;
      below = c.loop-low.invariant.below;
      above = subst (λ n. AllAbove c.args.key.now (all_rows (drop n c.args.leaves.now))) e c.loop-low.invariant.above;
    }

pub returns-then-is_in_last : goal.returns-then-is_in_last
returns-then-is_in_last c = subst (λ b. OnTrue b (IsLeafOf c.args.key.now c.args.leaves.now (length c.args.leaves.now - 1))) c.if-is_in_last.true c.is_in_last.ensures
