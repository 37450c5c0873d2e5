use Rattle.std.proofs.Common.{refl, sym, ◌∙◌}
use Rattle.protocol.proofs.AloneRuns.{alone_is_transcript}
use Rattle.session.specs.Ends.{plain_end}
use Rattle.pequod_commands.proofs.RunLemmas.{from_nothing}
use Rattle.pequod_commands.proofs.run.serve_only.Goals as goal

pub returns-clause-run : goal.returns-clause-run
returns-clause-run g c =
    let served = c.serve_link-end.ensures.served in
    let view = g.S.Service.view c.serve_link-end.new.service in
    let numbered = sym c.serve_link-end.ensures.same_number ∙ c.tell_own.ensures.numbered in
    let alone = from_nothing (plain_end c.serve_link-end.result) _ view _ served.0 served.1 (g.L.Link.left c.serve_link-end.new.link) c.requires.empty numbered served.4 in
    record {
      ending = plain_end c.serve_link-end.result;
      bytes = served.0;
      written = served.1;
      status_is = c.status_of.ensures;
      gave = served.2;
      took = served.3;
      view = view;
      served = alone;
      ran = alone_is_transcript _ _ refl refl c.tell_own.ensures.own alone;
    }
