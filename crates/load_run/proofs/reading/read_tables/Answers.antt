use Rattle.load_run.proofs.MeetLemmas.{tables_between}
use Rattle.load_run.proofs.reading.read_tables.Goals as goal

pub returns-clause-held : goal.returns-clause-held
returns-clause-held g c =
    tables_between c.args.client.now c.table_held.new.client c.table_held-2.new.client c.table_held-3.new.client c.table_held-4.new.client c.table_held-5.new.client
    (record { s = c.in_ok-s.s; p = c.in_ok-p.p; v = c.in_ok-v.v; t = c.in_ok-t.t; karma = c.in_ok-karma.karma })
    c.in_ok-s.ensures.reads c.in_ok-p.ensures.reads c.in_ok-v.ensures.reads c.in_ok-t.ensures.reads c.in_ok-karma.ensures.reads
    c.in_ok-s.ensures.held c.in_ok-p.ensures.held c.in_ok-v.ensures.held c.in_ok-t.ensures.held c.in_ok-karma.ensures.held
