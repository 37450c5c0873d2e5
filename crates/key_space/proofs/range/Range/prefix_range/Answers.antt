use Rattle.std.proofs.Common.{Some, None, lit<, ◌∙◌}
use Rattle.std.proofs.lemmas.Str.Pattern.{strip_suffix_char}
use Rattle.key_space.proofs.BoundLemmas.{prefix_bounds, has_front}
use Rattle.key_space.proofs.range.Range.prefix_range.Goals as goal

pub invariant_of-result : goal.invariant_of-result
invariant_of-result c =
    prefix_bounds c.args.prefix.now c.in-Some.front.now
    c.of-low.result c.in_ok-high-in-Some.high
    c.requires.key (strip_suffix_char 124 c.args.prefix.now (Some c.in-Some.front) c.in-Some.ensures.cases (lit< tt))
    (c.of-low.ensures ∙ c.in_ok-read-in-Some.ensures) c.in_ok-high-in-Some.ensures

pub unreachable-requires : goal.unreachable-requires
unreachable-requires c =
    has_front c.args.prefix.now c.requires.ends (strip_suffix_char 124 c.args.prefix.now None c.in-None.ensures.cases (lit< tt))
