-- So far the bytes of the reads are the line under way.
use Rattle.std.proofs.Common.{◌≡◌, ◌-◌, length, false}
use Rattle.protocol.specs.Lines.{line_limit}
use Rattle.pq_io.specs.Streams.{Gave}
use Rattle.follow_node.specs.Heard.{IsShort}
use Rattle.follow_node.proofs.reading.read_line.Given as goal

abbrev pub invariant-loop-count : goal.invariant-loop-count
invariant-loop-count g l =
    let home = l.initial.home in
    record {
      gave : Gave (g.L.Link.left home) (g.L.Link.left l.home) l.lines.line;
      open_line : l.lines.ended ≡ false;
      line : IsShort l.lines.line;
      same_read_faults : g.L.Link.read_faults l.home ≡ g.L.Link.read_faults home;
      same_taken : g.L.Link.taken l.home ≡ g.L.Link.taken home;
      same_write_faults : g.L.Link.write_faults l.home ≡ g.L.Link.write_faults home;
      same_borrows : g.L.Link.borrows l.home ≡ g.L.Link.borrows home;
    }

abbrev pub decreases-loop-count : goal.decreases-loop-count
decreases-loop-count g l = line_limit - length l.lines.line
