use Rattle.std.proofs.Common.{refl}
use Rattle.write_history.proofs.Entering.{prefix_nil}
use Rattle.pequod_cache.proofs.AddingLemmas.{none_added}
use Rattle.load_run.proofs.ActLemmas.{declared_more}
use Rattle.load_run.proofs.declaring.declare_joins.Goals as goal

pub loop-join-init : goal.loop-join-init
loop-join-init g c = record { numbered = c.requires.numbered; counted = refl; added = none_added c.args.first.now; begins = prefix_nil c.args.first.now.view }

pub loop-join-preserved : goal.loop-join-preserved
loop-join-preserved g c =
    declared_more c.loop-join.yielded c.in-Some.join c.loop-join.position c.in_ok-position.position c.args.first.now c.loop-join.first c.declare_next.new.first
    c.loop-join.invariant c.in_ok-position.ensures.position c.in_ok-position.ensures.added c.in_ok-position.ensures.entry
