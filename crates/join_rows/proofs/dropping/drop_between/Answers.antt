use Rattle.std.proofs.Common.{◌≡◌, ◌-◌, List, [], suc, is_some, arith, rules}
use Rattle.semantics.specs.Texts.{Text, Table}
use Rattle.semantics.specs.Patterns.{bind}
use Rattle.join_rows.proofs.DropLemmas.{leaves_none, leaves_all, leaves_thinned}
use Rattle.join_rows.proofs.dropping.drop_between.Goals as goal

pub loop-place-init : goal.loop-place-init
loop-place-init c = record {
  thinned = leaves_none (λ (key : Text). is_some (bind c.args.pattern.now key c.args.slots.now)) c.args.leaves.now.items c.args.span.to (search rules) c.requires.counted.leaves c.requires.behind;
  counted = c.requires.counted;
  order = c.requires.order;
}

pub loop-place-preserved : goal.loop-place-preserved
loop-place-preserved c =
    let n = c.loop-place.place in
    let e : n ≡ suc (n - 1) = omega arith in
    let gone = c.drop_at-gone.ensures.gone in
    let counted = c.loop-place.invariant.counted.number in record {
      thinned = leaves_thinned (λ (key : Text). is_some (bind c.args.pattern.now key c.args.slots.now)) c.args.leaves.now.items c.loop-place.leaves.items c.drop_at-gone.new.leaves.items n (n - 1) [] e c.loop-place.invariant.thinned
          c.drop_at-gone.ensures.are c.drop_at-gone.ensures.rows c.drop_at-gone.ensures.before c.drop_at-gone.ensures.inside;
      counted = record { leaves = c.drop_at-gone.ensures.are; number = omega arith };
      order = omega arith;
    }

pub returns-clause-rows : goal.returns-clause-rows
returns-clause-rows c =
    leaves_all (λ (key : Text). is_some (bind c.args.pattern.now key c.args.slots.now)) c.args.leaves.now.items c.loop-place.leaves.items c.loop-place.place c.args.span.from (omega arith) c.loop-place.invariant.thinned c.requires.before
