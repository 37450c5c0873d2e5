use Rattle.std.proofs.Common.{cond, sym, ap, ◌∙◌}
use Rattle.semantics.specs.Patterns.{no_slots, is_pattern, bind}
use Rattle.key_ranges.specs.Containing.{bind_range, range_slots}
use Rattle.key_pattern.proofs.pattern.Pattern.range_slots.Goals as goal

pub bind_text-requires : goal.bind_text-requires
bind_text-requires c = ap is_pattern c.segments.ensures.segments ∙ c.segments.ensures.is_pattern

pub returns-then-is_single-clause-exact : goal.returns-then-is_single-clause-exact
unfolding range_slots
returns-then-is_single-clause-exact c =
    let p = c.args.self.now in
    let range = c.args.range.now in
    c.bind_text.ensures.binds
    ∙ ap (λ q. bind q c.lo.result.now c.none.result) c.segments.ensures.segments
    ∙ ap (λ t. bind p t c.none.result) c.lo.ensures.text
    ∙ ap (bind p range.low) c.none.ensures
    ∙ ap (λ b. cond b (bind p range.low no_slots) (bind_range p range)) (sym c.if-is_single.true ∙ c.is_single.ensures)

pub returns-else-is_single-clause-exact : goal.returns-else-is_single-clause-exact
unfolding range_slots
returns-else-is_single-clause-exact c =
    let p = c.args.self.now in
    let range = c.args.range.now in
    c.bind_range.ensures.binds ∙ ap (λ b. cond b (bind p range.low no_slots) (bind_range p range)) (sym c.if-is_single.false ∙ c.is_single.ensures)
