-- What a pull from here comes to, the whole comes to.
use Rattle.std.proofs.Common.{◌≡◌, length, false}
use Rattle.follow_node.specs.Feeders.{given}
use Rattle.follow_node.proofs.PullLemmas.{PullSoFar, far, IsShortOf}
use Rattle.follow_node.proofs.feeder.Feeder.pull.Given as goal

abbrev pub invariant-loop-self : goal.invariant-loop-self
invariant-loop-self g l =
    let home = l.fn.home in
    let ws = g.R.Replica.writes l.replica in
    record {
      so_far : PullSoFar l.fn.self (g.R.Replica.writes l.fn.replica) (g.L.Link.left home) l.first l.self ws (g.L.Link.left l.home);
      short : IsShortOf l.first l.self ws;
      open_feeder : l.self.ended ≡ false;
      counts : length ws ≡ given l.self;
      same_read_faults : g.L.Link.read_faults l.home ≡ g.L.Link.read_faults home;
      same_write_faults : g.L.Link.write_faults l.home ≡ g.L.Link.write_faults home;
      same_borrows : g.L.Link.borrows l.home ≡ g.L.Link.borrows home;
    }

abbrev pub decreases-loop-self : goal.decreases-loop-self
decreases-loop-self g l = far l.first (g.R.Replica.writes l.replica)
