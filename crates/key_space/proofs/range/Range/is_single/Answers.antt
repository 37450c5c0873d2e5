use Rattle.std.proofs.Common.{Some, None, lit<, sym, ◌∙◌}
use Rattle.std.proofs.lemmas.Str.Pattern.{strip_suffix_char}
use Rattle.key_space.proofs.BoundLemmas.{single_by_front, single_without_front}
use Rattle.key_space.proofs.range.Range.is_single.Goals as goal

pub returns-in-None : goal.returns-in-None
returns-in-None c =
    sym (single_without_front c.args.self.now.low c.args.self.now.high (λ front e. strip_suffix_char 0 c.hi.result.now None c.in-None.ensures.cases (lit< tt) front (c.hi.ensures ∙ e)))

pub returns-in-Some : goal.returns-in-Some
returns-in-Some c =
    c.eq.ensures
    ∙ sym (single_by_front c.args.self.now.low c.args.self.now.high c.in-Some.front.now c.lo.result.now c.lo.ensures.text
    (sym c.hi.ensures ∙ strip_suffix_char 0 c.hi.result.now (Some c.in-Some.front) c.in-Some.ensures.cases (lit< tt)))
