use Rattle.std.proofs.Common.{◌≡◌, length, Some, None, sym, ap, ◌∙◌, arith}
use Rattle.std.proofs.lemmas.List.{take_all}
use Rattle.semantics.specs.Texts.{value_at}
use Rattle.semantics.specs.States.{state}
use Rattle.protocol.specs.Replies.{answered}
use Rattle.plain_history.proofs.AnswerLemmas.{found_here, absent_here}
use Rattle.plain_history.proofs.history.PlainHistory.get.Goals as goal

pub returns-in-Some : goal.returns-in-Some
returns-in-Some c =
    let count : c.len-position.result ≡ length c.args.self.now = c.len-position.ensures.length in
    let whole = c.beginning.ensures.entries ∙ take_all c.len-position.result c.args.self.now (omega (arith, count)) in
    let is : Some c.in-Some.value ≡ value_at c.args.key.now (state c.args.self.now) = sym c.in-Some.is ∙ c.in_ok-value.ensures ∙ ap (λ h. value_at c.args.key.now (state h)) whole in
    ap answered (found_here c.args.self.now c.args.key.now c.in-Some.value c.len-position.result count is)

pub returns-in-None : goal.returns-in-None
returns-in-None c =
    let count : c.len-position.result ≡ length c.args.self.now = c.len-position.ensures.length in
    let whole = c.beginning.ensures.entries ∙ take_all c.len-position.result c.args.self.now (omega (arith, count)) in
    let is : None ≡ value_at c.args.key.now (state c.args.self.now) = sym c.in-None.is ∙ c.in_ok-value.ensures ∙ ap (λ h. value_at c.args.key.now (state h)) whole in
    ap answered (absent_here c.args.self.now c.args.key.now c.len-position.result count is)
