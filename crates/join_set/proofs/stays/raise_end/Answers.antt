use Rattle.std.specs.String.{string_bytes}
use Rattle.join_set.proofs.EndLemmas.{raised_early, raised_late}
use Rattle.join_set.proofs.stays.raise_end.Goals as goal

pub returns-then-end-end_of : goal.returns-then-end-end_of
returns-then-end-end_of c = raised_early c.args.table.now c.args.end c.end_of.result c.args.ends.now c.end_of.ensures c.if-end-end_of.true

pub returns : goal.returns
returns c =
    raised_late c.args.table.now (string_bytes c.in_ok-name.name) c.args.end c.end_of.result c.args.ends.now c.insert.new.self c.end_of.ensures c.if-end-end_of.false c.in_ok-name.ensures.ok c.in_ok-insert.ensures.updates
