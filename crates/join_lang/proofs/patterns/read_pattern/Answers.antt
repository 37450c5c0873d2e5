use Rattle.std.proofs.Common.{arith}
use Rattle.std.proofs.lemmas.Result.{IfErr-weaker}
use Rattle.key_pattern.specs.Plain.{plain_segments}
use Rattle.join_lang.proofs.SegmentLemmas.{too_long, no_segments, pattern_by}
use Rattle.join_lang.proofs.patterns.read_pattern.Goals as goal

pub returns-then-token-gt-MAX_PATTERN_BYTES : goal.returns-then-token-gt-MAX_PATTERN_BYTES
returns-then-token-gt-MAX_PATTERN_BYTES c = too_long c.args.names.now c.args.token.now (omega arith)

pub returns-in-Some : goal.returns-in-Some
returns-in-Some c =
    pattern_by c.args.names.now c.read_segments.new.names c.args.token.now (plain_segments c.in-Some.list.items) c.make.result c.ok.result
    (rw c.in-Some.is at c.in_ok-list.ensures) (omega arith) c.make.ensures.ok (IfErr-weaker c.make.result _ _ (λ y h. h.1) c.make.ensures.err) c.ok.ensures.value

pub returns-in-None : goal.returns-in-None
returns-in-None c = no_segments c.args.names.now c.args.token.now (rw c.in-None.is at c.in_ok-list.ensures) (omega arith)
