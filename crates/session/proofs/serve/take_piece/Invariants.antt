-- So far the first bytes of the piece were taken.
use Rattle.std.proofs.Common.{◌≡◌, ◌-◌, ◌≤◌, ◌++◌, length, take, false}
use Rattle.session.specs.Serving.{IsShortLine}
use Rattle.session.proofs.PieceLemmas.{GoesOnWith}
use Rattle.session.proofs.serve.take_piece.Given as goal

abbrev pub invariant-loop-taken : goal.invariant-loop-taken
invariant-loop-taken g l =
    let service = l.initial.service in
    let link = l.initial.link in
    record {
      within : l.taken ≤ length l.piece;
      served : GoesOnWith (g.S.Service.view service) (g.S.Service.view l.service) (g.S.Service.number service)
          (l.initial.lines.line ++ take l.taken l.piece) (g.L.Link.taken link) (g.L.Link.taken l.link) l.lines.line;
      open_line : l.lines.ended ≡ false;
      line : IsShortLine l.lines.line;
      same_number : g.S.Service.number l.service ≡ g.S.Service.number service;
      same_write_faults : g.L.Link.write_faults l.link ≡ g.L.Link.write_faults link;
      same_left : g.L.Link.left l.link ≡ g.L.Link.left link;
      same_read_faults : g.L.Link.read_faults l.link ≡ g.L.Link.read_faults link;
      same_borrows : g.L.Link.borrows l.link ≡ g.L.Link.borrows link;
    }

abbrev pub decreases-loop-taken : goal.decreases-loop-taken
decreases-loop-taken g l = length l.piece - l.taken
