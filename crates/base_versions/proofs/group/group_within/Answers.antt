use Rattle.std.proofs.Common.{◌≡◌, ◌++◌, sym, ap, ◌∙◌, subst, lit<}
use Rattle.std.proofs.lemmas.Str.Pattern.{starts_char}
use Rattle.semantics.specs.Texts.{Text}
use Rattle.base_versions.proofs.GroupLemmas.{IsCutAtBar, EndsGroup, cut_at_bar, ends_with_bar, ends_with_brace, group-within_cuts}
use Rattle.base_versions.proofs.group.group_within.Goals as goal
use Rattle.base_versions.proofs.group.group_within.Goals.{then-eq-via-then-eq, then-eq-via-else-eq+then-starts_with}

pub returns-then-eq : goal.returns-then-eq
returns-then-eq c =
    let range = c.args.range.now in
    let first = c.in_ok-low.field-0-0 in
    let low = c.in_ok-low.low in
    let group = c.in_ok-group.group in
    let more = c.in_ok-group.field-0-1 in
    let last = c.in_ok-high.field-0-0 in
    let high = c.in_ok-high.high in
    let behind = c.in_ok-behind.behind.now in
    let low_cut : IsCutAtBar range.low first.now low.now = subst (λ (t : Text). IsCutAtBar t first.now low.now) c.lo.ensures.text (cut_at_bar c.lo.result.now (first, low) c.in_ok-low.ensures.cases) in
    let group_cut = cut_at_bar low.now (group, more) c.in_ok-group.ensures.cases in
    let high_cut : IsCutAtBar range.high last.now high.now = subst (λ (t : Text). IsCutAtBar t last.now high.now) c.hi.ensures (cut_at_bar c.hi.result.now (last, high) c.in_ok-high.ensures.cases) in
    let follows : high.now ≡ group.now ++ behind = c.in_ok-behind.ensures.cases.1.1 ∙ ap (λ r. group.now ++ r) (sym c.in_ok-behind.ensures.cases.2) in
    let ends : EndsGroup behind =
    elim c.then-eq.branch [
      | then-eq-via-then-eq w ↦ ends_with_brace behind (sym w.if-eq.ensures)
      | then-eq-via-else-eq+then-starts_with w ↦ ends_with_bar behind w.starts_with.result (starts_char 124 behind w.starts_with.result w.starts_with.ensures.cases (lit< tt) (lit< tt)) w.if-starts_with.true
    ] in
    group-within_cuts range first.now low.now group.now more.now last.now high.now behind c.lo.ensures.is_range low_cut group_cut high_cut follows ends
