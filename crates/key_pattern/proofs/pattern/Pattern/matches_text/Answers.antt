use Rattle.std.proofs.Common.{ap, ◌∙◌}
use Rattle.semantics.specs.Patterns.{is_pattern, bind}
use Rattle.key_pattern.proofs.pattern.Pattern.matches_text.Goals as goal

pub bind_text-requires : goal.bind_text-requires
bind_text-requires c = ap is_pattern c.segments.ensures.segments ∙ c.segments.ensures.is_pattern

pub returns-clause-binds : goal.returns-clause-binds
returns-clause-binds c =
    c.bind_text.ensures.binds
    ∙ ap (λ p. bind p c.args.text.now c.args.given.now) c.segments.ensures.segments
