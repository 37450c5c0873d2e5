use Rattle.std.proofs.Common.{◌≡◌, ◌++◌, ◌∷◌, [], None, Some, refl, sym, ap, ◌∙◌, subst, lit<}
use Rattle.std.proofs.lemmas.Str.Pattern.{split_parts, strip_prefix_char}
use Rattle.semantics.specs.Texts.{bar, brace}
use Rattle.semantics.proofs.PieceLemmas.{equal_by_same}
use Rattle.key_pattern.specs.Shared.{Shares}
use Rattle.key_pattern.proofs.CutLemmas.{lacks_from_reads}
use Rattle.key_pattern.proofs.SharedLemmas.{segments_lacking, shares_without, shares_other}
use Rattle.key_pattern.proofs.RestLemmas.{shares_none, nothing_with, ascend_with, shares_bar, shares_brace}
use Rattle.key_pattern.proofs.ranging.shared_segment.Goals as goal

pub returns-in_err-high : goal.returns-in_err-high
returns-in_err-high c = subst (Shares c.args.low.now c.args.high) (sym c.from_residual.ensures) (shares_none c.args.low.now c.args.high c.in_err-high.was)

pub returns-in_err-text : goal.returns-in_err-text
returns-in_err-text c =
    let lacks = lacks_from_reads bar c.args.low.now (split_parts 124 c.args.low.now None c.in_err-text.ensures.cases (lit< tt)) in
    subst (Shares c.args.low.now c.args.high) (sym c.from_residual-in_err-text.ensures)
    (nothing_with c.args.low.now c.args.high c.in_ok-high.high c.in_ok-high.was (segments_lacking c.args.low.now c.in_ok-high.high.now lacks))

pub returns-in_err-rest : goal.returns-in_err-rest
returns-in_err-rest c =
    let cut = split_parts 124 c.args.low.now (Some (c.in_ok-text.text, c.in_ok-text.low)) c.in_ok-text.ensures.cases (lit< tt) in
    let ascend = ascend_with c.args.low.now c.args.high c.in_ok-high.high c.in_ok-high.was c.requires.ascend in
    subst (Shares c.args.low.now c.args.high) (sym c.from_residual-in_err-rest.ensures)
    (nothing_with c.args.low.now c.args.high c.in_ok-high.high c.in_ok-high.was
    (shares_without c.args.low.now c.in_ok-high.high.now c.in_ok-text.text.now c.in_ok-text.low.now cut.0 (lacks_from_reads bar c.in_ok-text.text.now cut.1) ascend c.in_err-rest.ensures.cases))

pub returns-in-Some : goal.returns-in-Some
returns-in-Some c =
    let cut = split_parts 124 c.args.low.now (Some (c.in_ok-text.text, c.in_ok-text.low)) c.in_ok-text.ensures.cases (lit< tt) in
    let rest : c.in_ok-rest.rest.now ≡ bar ∷ c.in-Some.high.now = strip_prefix_char 124 c.in_ok-rest.rest.now (Some c.in-Some.high) c.in-Some.ensures.cases (lit< tt) in
    let follows : c.in_ok-high.high.now ≡ c.in_ok-text.text.now ++ bar ∷ c.in-Some.high.now =
    c.in_ok-rest.ensures.cases.1.1 ∙ ap (λ r. c.in_ok-text.text.now ++ r) (sym c.in_ok-rest.ensures.cases.2 ∙ rest) in
    shares_bar c.args.low.now c.args.high c.in_ok-high.high c.in-Some.high _ c.in_ok-high.was cut.0 (lacks_from_reads bar c.in_ok-text.text.now cut.1) follows c.requires.ascend refl

pub returns-then-eq : goal.returns-then-eq
returns-then-eq c =
    let cut = split_parts 124 c.args.low.now (Some (c.in_ok-text.text, c.in_ok-text.low)) c.in_ok-text.ensures.cases (lit< tt) in
    let follows : c.in_ok-high.high.now ≡ c.in_ok-text.text.now ++ brace ∷ [] =
    c.in_ok-rest.ensures.cases.1.1 ∙ ap (λ r. c.in_ok-text.text.now ++ r) (sym c.in_ok-rest.ensures.cases.2 ∙ equal_by_same _ _ (sym c.if-eq.ensures)) in
    shares_brace c.args.low.now c.args.high c.in_ok-high.high _ c.in_ok-high.was cut.0 (lacks_from_reads bar c.in_ok-text.text.now cut.1) follows refl

pub returns-else-eq : goal.returns-else-eq
returns-else-eq c =
    let cut = split_parts 124 c.args.low.now (Some (c.in_ok-text.text, c.in_ok-text.low)) c.in_ok-text.ensures.cases (lit< tt) in
    let ascend = ascend_with c.args.low.now c.args.high c.in_ok-high.high c.in_ok-high.was c.requires.ascend in
    let follows : c.in_ok-high.high.now ≡ c.in_ok-text.text.now ++ c.in_ok-rest.rest.now =
    c.in_ok-rest.ensures.cases.1.1 ∙ ap (λ r. c.in_ok-text.text.now ++ r) (sym c.in_ok-rest.ensures.cases.2) in
    nothing_with c.args.low.now c.args.high c.in_ok-high.high c.in_ok-high.was
    (shares_other c.args.low.now c.in_ok-high.high.now c.in_ok-text.text.now c.in_ok-text.low.now c.in_ok-rest.rest.now cut.0 (lacks_from_reads bar c.in_ok-text.text.now cut.1) ascend follows
    (strip_prefix_char 124 c.in_ok-rest.rest.now None c.in-None.ensures.cases (lit< tt)) (sym c.if-eq.ensures))
