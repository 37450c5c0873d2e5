use Rattle.std.proofs.Common.{arith}
use Rattle.join_lang.proofs.JoinLemmas.{long_text, short_text}
use Rattle.join_lang.proofs.parser.parse.Goals as goal

pub returns-then-text-gt-MAX_TEXT_BYTES-clause-fault : goal.returns-then-text-gt-MAX_TEXT_BYTES-clause-fault
returns-then-text-gt-MAX_TEXT_BYTES-clause-fault c = long_text c.args.text.now (omega arith)

pub returns-clause-ok : goal.returns-clause-ok
returns-clause-ok c = rw (short_text c.args.text.now (omega arith), ← c.of.ensures) c.read_tokens.ensures.ok

pub returns-clause-fault : goal.returns-clause-fault
returns-clause-fault c = rw (short_text c.args.text.now (omega arith), ← c.of.ensures) c.read_tokens.ensures.fault
