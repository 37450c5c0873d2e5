use Rattle.std.proofs.Common.{sym}
use Rattle.join_types.specs.Plain.{plain_op}
use Rattle.join_lang.specs.Words.{plain_word}
use Rattle.join_lang.proofs.SourceLemmas.{source_read}
use Rattle.join_lang.proofs.parser.read_source.Goals as goal

pub returns-in-Some-2-clause-ok : goal.returns-in-Some-2-clause-ok
returns-in-Some-2-clause-ok c =
    let op = c.in-Some.ensures in
    let rest = c.in-Some-next.ensures in
    rw rest (source_read c.args.end c.args.names.now c.read_pattern.new.names (plain_word c.args.word) (plain_word c.in-Some-next.token) c.next.new.self (plain_op c.in-Some.op) c.in-Some-2.pattern (sym op) (rw c.in-Some-2.is at c.in_ok-pattern.ensures))
