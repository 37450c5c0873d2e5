use Rattle.std.proofs.Common.{sym, ap, ◌∙◌, ◌+◌, ◌-◌, ◌*◌, arith}
use Rattle.std.proofs.lemmas.List.Sums.{fold_more}
use Rattle.protocol.specs.JoinText.{width_of}
use Rattle.join_lang.proofs.DigitLemmas.{no_width_past}
use Rattle.join_lang.proofs.slots.width_of.Goals as goal

pub returns-then-width-from : goal.returns-then-width-from
returns-then-width-from c =
    let bytes = c.as_bytes-bytes.result.now in
    let i = c.loop-byte.byte-index in
    sym (ap width_of (sym c.as_bytes-bytes.ensures.value)
    ∙ no_width_past bytes (i + 1) (omega (arith, fold_more (λ n b. 10 * n + (b - 48)) 0 bytes i 0 (omega arith))))
