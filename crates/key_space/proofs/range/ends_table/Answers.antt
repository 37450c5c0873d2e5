use Rattle.std.proofs.Common.{◌≡◌, ◌||◌, ◌++◌, ◌∷◌, [], sym, ◌∙◌, ap, lit<}
use Rattle.std.proofs.lemmas.Str.Pattern.{starts_text, starts_char}
use Rattle.semantics.specs.Texts.{brace, same}
use Rattle.key_space.specs.Parts.{ends_table}
use Rattle.key_space.proofs.NameLemmas.{ends_by, ends_without}
use Rattle.key_space.proofs.range.ends_table.Goals as goal

pub returns-in-None : goal.returns-in-None
returns-in-None c = sym (ends_without c.args.table.now c.args.high.now (sym (starts_text _ c.args.table.now c.args.high.now c.in-None.ensures.cases)))

pub returns-then-starts_with : goal.returns-then-starts_with
returns-then-starts_with c =
    let follows : c.args.high.now ≡ c.args.table.now ++ c.in-Some.rest.now =
    c.in-Some.ensures.cases.1.1 ∙ ap (λ r. c.args.table.now ++ r) (sym c.in-Some.ensures.cases.2) in
    let ends : ends_table c.args.table.now c.args.high.now ≡ (c.starts_with.result || same c.in-Some.rest.now (brace ∷ [])) =
    ends_by c.args.table.now c.args.high.now c.in-Some.rest.now c.starts_with.result follows
    (starts_char 124 c.in-Some.rest.now c.starts_with.result c.starts_with.ensures.cases (lit< tt) (lit< tt)) in
    c.if-starts_with.true ∙ sym (ends ∙ ap (λ b. b || same c.in-Some.rest.now (brace ∷ [])) c.if-starts_with.true)

pub returns-else-starts_with : goal.returns-else-starts_with
returns-else-starts_with c =
    let follows : c.args.high.now ≡ c.args.table.now ++ c.in-Some.rest.now =
    c.in-Some.ensures.cases.1.1 ∙ ap (λ r. c.args.table.now ++ r) (sym c.in-Some.ensures.cases.2) in
    let ends : ends_table c.args.table.now c.args.high.now ≡ (c.starts_with.result || same c.in-Some.rest.now (brace ∷ [])) =
    ends_by c.args.table.now c.args.high.now c.in-Some.rest.now c.starts_with.result follows
    (starts_char 124 c.in-Some.rest.now c.starts_with.result c.starts_with.ensures.cases (lit< tt) (lit< tt)) in
    c.eq.ensures ∙ sym (ends ∙ ap (λ b. b || same c.in-Some.rest.now (brace ∷ [])) c.if-starts_with.false)
