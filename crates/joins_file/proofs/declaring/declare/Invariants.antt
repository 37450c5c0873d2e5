use Rattle.std.proofs.Common.{◌≡◌, ◌+◌, ◌≤◌, length}
use Rattle.semantics.specs.Histories.{History}
use Rattle.protocol.specs.JoinsFile.{file_lines, declare_lines, file_history}
use Rattle.join_set.specs.Summaries.{StandsFor}
use Rattle.joins_file.proofs.declaring.declare.Given as goal

abbrev pub invariant-loop-line : goal.invariant-loop-line
invariant-loop-line l = record {
  declared : (h : History) × (file_history l.bytes ≡ declare_lines l.number h (file_lines l.rest)) × StandsFor l.standing h;
  few : l.number + length l.rest ≤ length l.bytes + 1;
}

abbrev pub decreases-loop-line : goal.decreases-loop-line
decreases-loop-line l = length l.rest
