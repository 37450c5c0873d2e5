use Rattle.std.proofs.Common.{◌<◌, ◌≤◌, ◌++◌, ◌∷◌, [], length, Some, option_map, option_and_then, refl, sym, ap, ◌∙◌, arith}
use Rattle.std.specs.Option.{option_copied}
use Rattle.std.proofs.lemmas.Bool.{false≢true}
use Rattle.semantics.specs.Texts.{brace}
use Rattle.key_ranges.specs.Containing.{narrowed_end}
use Rattle.key_pattern.specs.Narrowing.{end_text}
use Rattle.key_pattern.proofs.NarrowingLemmas.{end_whole, end_cut, end_none}
use Rattle.key_pattern.proofs.narrowing.high_end.Goals as goal

pub returns-in_err-rest : goal.returns-in_err-rest
returns-in_err-rest c = ap (option_map end_text) c.from_residual.ensures ∙ sym (ap (λ o. option_and_then (narrowed_end c.args.width) (option_copied o)) c.in_err-rest.was)

pub returns-then-rest-width : goal.returns-then-rest-width
returns-then-rest-width c =
    let rest = c.in_ok-rest.rest.now in
    let short : length rest ≤ c.args.width = omega arith in
    sym (ap (λ o. option_and_then (narrowed_end c.args.width) (option_copied o)) c.in_ok-rest.was ∙ end_whole c.args.width rest short)

pub returns-in_err-text : goal.returns-in_err-text
returns-in_err-text c =
    let rest = c.in_ok-rest.rest.now in
    let long : c.args.width < length rest = omega arith in
    ap (option_map end_text) c.from_residual-in_err-text.ensures
    ∙ sym (ap (λ o. option_and_then (narrowed_end c.args.width) (option_copied o)) c.in_ok-rest.was ∙ end_none c.args.width rest long (λ b. false≢true (c.in_err-text.ensures.variant.1 b)))

pub returns : goal.returns
returns c =
    let rest = c.in_ok-rest.rest.now in
    let long : c.args.width < length rest = omega arith in
    ap (λ t. Some (t ++ brace ∷ [])) c.in_ok-text.ensures.front
    ∙ sym (ap (λ o. option_and_then (narrowed_end c.args.width) (option_copied o)) c.in_ok-rest.was ∙ end_cut c.args.width rest long (c.in_ok-text.ensures.variant.0 refl))
