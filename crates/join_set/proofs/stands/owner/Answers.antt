use Rattle.std.proofs.Common.{sym, ap, ◌∙◌, Some, option_map}
use Rattle.semantics.specs.Patterns.{fits}
use Rattle.semantics.specs.Histories.{DeclaredJoin}
use Rattle.join_set.proofs.FindLemmas.{found_here, found_none}
use Rattle.join_set.proofs.stands.owner.Goals as goal

pub returns-then-owns : goal.returns-then-owns
returns-then-owns c =
    let found = found_here (λ (s : DeclaredJoin). fits s.join.output c.args.key.now) c.args.joins.now c.loop-stands.stands-index c.stands-item.result c.loop-stands.invariant c.loop-stands-test.true c.stands-item.is (sym c.owns.ensures ∙ c.if-owns.true) in
    ap (λ (s : DeclaredJoin). Some s.position) c.stands.view_is ∙ sym (ap (λ o. option_map (λ (s : DeclaredJoin). s.position) o) found)

pub loop-stands-preserved : goal.loop-stands-preserved
loop-stands-preserved c =
    found_none (λ (s : DeclaredJoin). fits s.join.output c.args.key.now) c.args.joins.now c.loop-stands.stands-index c.stands-item.result c.loop-stands.invariant c.loop-stands-test.true c.stands-item.is (sym c.owns.ensures ∙ c.if-owns.false)
