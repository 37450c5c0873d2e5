use Rattle.std.proofs.Common.{◌≡◌, length, ap, ◌∙◌, arith}
use Rattle.std.proofs.lemmas.List.{take_all}
use Rattle.semantics.specs.Texts.{pairs_within}
use Rattle.semantics.specs.States.{state}
use Rattle.protocol.specs.Replies.{answered}
use Rattle.key_ranges.proofs.AnswerLemmas.{pairs_answer}
use Rattle.plain_history.proofs.history.PlainHistory.scan.Goals as goal

pub returns : goal.returns
returns c =
    let count : c.len-position.result ≡ length c.args.self.now = c.len-position.ensures.length in
    let whole = take_all c.len-position.result c.args.self.now (omega (arith, count)) in
    ap answered (pairs_answer c.args.range.now c.args.self.now c.len-position.result c.in_ok-pairs.pairs.items count (c.in_ok-pairs.ensures ∙ ap (λ h. pairs_within c.args.range.now (state h)) whole))
