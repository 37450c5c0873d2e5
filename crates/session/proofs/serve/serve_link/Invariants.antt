-- So far so many reads gave bytes.
use Rattle.std.proofs.Common.{◌≡◌, false}
use Rattle.session.specs.Serving.{IsShortLine}
use Rattle.session.proofs.ReadLemmas.{GivenWith}
use Rattle.session.proofs.serve.serve_link.Given as goal

abbrev pub invariant-loop : goal.invariant-loop
invariant-loop g l =
    let service = l.initial.service in
    let link = l.initial.link in
    record {
      served : GivenWith l.counter (g.S.Service.view service) (g.S.Service.view l.service) (g.S.Service.number service)
          (g.L.Link.left link) (g.L.Link.left l.link) (g.L.Link.taken link) (g.L.Link.taken l.link) l.lines.line;
      open_line : l.lines.ended ≡ false;
      line : IsShortLine l.lines.line;
      same_number : g.S.Service.number l.service ≡ g.S.Service.number service;
      same_read_faults : g.L.Link.read_faults l.link ≡ g.L.Link.read_faults link;
      same_write_faults : g.L.Link.write_faults l.link ≡ g.L.Link.write_faults link;
      same_borrows : g.L.Link.borrows l.link ≡ g.L.Link.borrows link;
    }
