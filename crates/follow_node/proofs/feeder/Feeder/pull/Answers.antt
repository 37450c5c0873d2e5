-- One line more, and each end.
use Rattle.std.proofs.Common.{◌≡◌, ◌<◌, [], length, false, sym, ap, ◌∙◌, arith}
use Rattle.std.specs.Prelude.{None}
use Rattle.pq_io.proofs.StreamLemmas.{Gave-nothing}
use Rattle.follow_node.specs.Feeders.{FeederView}
use Rattle.follow_node.specs.Pulls.{over, level, stops}
use Rattle.follow_node.proofs.PullLemmas.{IsReady, pull_more, pull_ends, ready_heard, ready_kept, pulls_unheard}
use Rattle.follow_node.proofs.ProgressLemmas.{nearer}
use Rattle.follow_node.proofs.StandingLemmas.{as_pulled}
use Rattle.follow_node.proofs.feeder.Feeder.pull.Goals as goal
use Rattle.follow_node.proofs.feeder.Feeder.pull.Goals.{then-not-self+in-Ok, else-not-self}

pub returns-then-self-clause-pulls : goal.returns-then-self-clause-pulls
returns-then-self-clause-pulls g c = as_pulled _ _ _ _ _ _ _ ([], Gave-nothing _, over None c.args.self.now _ (ap (λ (v : FeederView). v.ended) (sym c.self.view_is) ∙ c.if-self.true))

pub returns-in-Err-clause-pulls : goal.returns-in-Err-clause-pulls
returns-in-Err-clause-pulls g c =
    let so_far = c.loop-self.invariant in
    let heard = c.in-Err.ensures.heard in
    let none : c.loop-self.self.kept ≡ false = ap (λ (v : FeederView). v.kept) (sym c.self-in-loop-self.view_is) ∙ c.if-not-self.true in
    as_pulled _ _ c.args.self.now c.hear.new.self _ _ _ (
    pull_ends _ _ _ c.loop-self.first c.loop-self.self c.hear.new.self _ _ _ _ heard.0 c.in-Err.pulled so_far.so_far heard.1
    (pulls_unheard _ c.loop-self.first c.loop-self.self c.hear.new.self _ heard.0 c.length.result c.in-Err.pulled so_far.open_feeder none heard.2))

pub returns-then-length-goal-clause-pulls : goal.returns-then-length-goal-clause-pulls
returns-then-length-goal-clause-pulls g c =
    let so_far = c.loop-self.invariant in
    let view = c.self-in-loop-self.view_is in
    let ready : IsReady (g.L.Link.left c.loop-self.home) (g.L.Link.left c.if-not-self.home) c.loop-self.self (g.R.Replica.writes c.loop-self.replica) c.if-not-self.self =
    elim c.if-not-self.branch [
      | then-not-self+in-Ok w ↦
          let heard = w.in-Ok.ensures.heard in
          ready_heard _ (g.L.Link.left w.hear.new.home) _ c.loop-self.self w.hear.new.self c.if-not-self.self _ w.length.result heard.0 so_far.open_feeder
          (ap (λ (v : FeederView). v.kept) (sym view) ∙ w.if-not-self.true) w.length.ensures heard.1 heard.2 (ap g.L.Link.left w.home-is) w.self-is
      | else-not-self w ↦
          ready_kept _ _ c.loop-self.self c.if-not-self.self _ so_far.open_feeder (ap (λ (v : FeederView). v.kept) (sym view) ∙ w.if-not-self.false) (ap g.L.Link.left w.home-is) w.self-is
    ] in
    let enough = c.if-length-goal.true in
    let count = c.length-in-Ok-take_line.ensures in
    as_pulled _ _ c.args.self.now c.take_line.new.self _ _ _ (
    pull_ends _ _ _ c.loop-self.first c.loop-self.self c.take_line.new.self _ _ _ _ ready.bytes _ so_far.so_far ready.gave
    (level c.loop-self.first c.loop-self.self c.if-not-self.self c.take_line.new.self _ _ ready.bytes c.in-Ok-take_line.goal ready.ready c.in-Ok-take_line.ensures.taken (omega arith)))

pub loop-self-smaller : goal.loop-self-smaller
loop-self-smaller g c =
    let so_far = c.loop-self.invariant in
    let view = c.self-in-loop-self.view_is in
    let ready : IsReady (g.L.Link.left c.loop-self.home) (g.L.Link.left c.if-not-self.home) c.loop-self.self (g.R.Replica.writes c.loop-self.replica) c.if-not-self.self =
    elim c.if-not-self.branch [
      | then-not-self+in-Ok w ↦
          let heard = w.in-Ok.ensures.heard in
          ready_heard _ (g.L.Link.left w.hear.new.home) _ c.loop-self.self w.hear.new.self c.if-not-self.self _ w.length.result heard.0 so_far.open_feeder
          (ap (λ (v : FeederView). v.kept) (sym view) ∙ w.if-not-self.true) w.length.ensures heard.1 heard.2 (ap g.L.Link.left w.home-is) w.self-is
      | else-not-self w ↦
          ready_kept _ _ c.loop-self.self c.if-not-self.self _ so_far.open_feeder (ap (λ (v : FeederView). v.kept) (sym view) ∙ w.if-not-self.false) (ap g.L.Link.left w.home-is) w.self-is
    ] in
    let short = c.if-length-goal.false in
    let count = c.length-in-Ok-take_line.ensures in
    nearer _ c.loop-self.first c.loop-self.self c.if-not-self.self c.take_line.new.self (g.R.Replica.writes c.loop-self.replica) (g.R.Replica.writes c.take_line.new.replica) ready.bytes c.in-Ok-take_line.goal
    so_far.short ready.ready c.in-Ok-take_line.ensures.taken c.in-Ok-take_line.ensures.small (omega arith)

pub loop-self-preserved : goal.loop-self-preserved
loop-self-preserved g c =
    let so_far = c.loop-self.invariant in
    let view = c.self-in-loop-self.view_is in
    let ready : IsReady (g.L.Link.left c.loop-self.home) (g.L.Link.left c.if-not-self.home) c.loop-self.self (g.R.Replica.writes c.loop-self.replica) c.if-not-self.self =
    elim c.if-not-self.branch [
      | then-not-self+in-Ok w ↦
          let heard = w.in-Ok.ensures.heard in
          ready_heard _ (g.L.Link.left w.hear.new.home) _ c.loop-self.self w.hear.new.self c.if-not-self.self _ w.length.result heard.0 so_far.open_feeder
          (ap (λ (v : FeederView). v.kept) (sym view) ∙ w.if-not-self.true) w.length.ensures heard.1 heard.2 (ap g.L.Link.left w.home-is) w.self-is
      | else-not-self w ↦
          ready_kept _ _ c.loop-self.self c.if-not-self.self _ so_far.open_feeder (ap (λ (v : FeederView). v.kept) (sym view) ∙ w.if-not-self.false) (ap g.L.Link.left w.home-is) w.self-is
    ] in
    let took = c.in-Ok-take_line.ensures in
    let short = c.if-length-goal.false in
    let count = c.length-in-Ok-take_line.ensures in
    let more : length (g.R.Replica.writes c.take_line.new.replica) < c.in-Ok-take_line.goal = omega arith in
    record {
      so_far =
          pull_more _ _ _ c.loop-self.first c.loop-self.self c.if-not-self.self c.take_line.new.self _ _ _ _ ready.bytes c.in-Ok-take_line.goal
          so_far.so_far ready.gave ready.ready took.taken more;
      short = (took.taken.1, more);
      open_feeder = took.taken.2;
      counts = took.given;
      same_read_faults = elim c.if-not-self.branch [
        | then-not-self+in-Ok w ↦ ap g.L.Link.read_faults w.home-is ∙ w.in-Ok.ensures.reads_kept (λ e. cc) ∙ so_far.same_read_faults
        | else-not-self w ↦ ap g.L.Link.read_faults w.home-is ∙ so_far.same_read_faults
      ];
      same_write_faults = elim c.if-not-self.branch [
        | then-not-self+in-Ok w ↦ ap g.L.Link.write_faults w.home-is ∙ w.in-Ok.ensures.writes_kept (λ e. cc) ∙ so_far.same_write_faults
        | else-not-self w ↦ ap g.L.Link.write_faults w.home-is ∙ so_far.same_write_faults
      ];
      same_borrows = elim c.if-not-self.branch [
        | then-not-self+in-Ok w ↦ ap g.L.Link.borrows w.home-is ∙ w.in-Ok.ensures.same_borrows ∙ so_far.same_borrows
        | else-not-self w ↦ ap g.L.Link.borrows w.home-is ∙ so_far.same_borrows
      ];
    }

pub returns-in-Err-take_line-clause-pulls : goal.returns-in-Err-take_line-clause-pulls
returns-in-Err-take_line-clause-pulls g c =
    let so_far = c.loop-self.invariant in
    let view = c.self-in-loop-self.view_is in
    let ready : IsReady (g.L.Link.left c.loop-self.home) (g.L.Link.left c.if-not-self.home) c.loop-self.self (g.R.Replica.writes c.loop-self.replica) c.if-not-self.self =
    elim c.if-not-self.branch [
      | then-not-self+in-Ok w ↦
          let heard = w.in-Ok.ensures.heard in
          ready_heard _ (g.L.Link.left w.hear.new.home) _ c.loop-self.self w.hear.new.self c.if-not-self.self _ w.length.result heard.0 so_far.open_feeder
          (ap (λ (v : FeederView). v.kept) (sym view) ∙ w.if-not-self.true) w.length.ensures heard.1 heard.2 (ap g.L.Link.left w.home-is) w.self-is
      | else-not-self w ↦
          ready_kept _ _ c.loop-self.self c.if-not-self.self _ so_far.open_feeder (ap (λ (v : FeederView). v.kept) (sym view) ∙ w.if-not-self.false) (ap g.L.Link.left w.home-is) w.self-is
    ] in
    as_pulled _ _ c.args.self.now c.take_line.new.self _ _ _ (
    pull_ends _ _ _ c.loop-self.first c.loop-self.self c.take_line.new.self _ _ _ _ ready.bytes c.in-Err-take_line.pulled so_far.so_far ready.gave
    (stops c.loop-self.first c.loop-self.self c.if-not-self.self c.take_line.new.self _ _ ready.bytes c.in-Err-take_line.pulled ready.ready c.in-Err-take_line.ensures.taken))
