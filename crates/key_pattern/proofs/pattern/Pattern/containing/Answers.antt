use Rattle.std.proofs.Common.{◌≡◌, ◌++◌, ◌∷◌, [], None, option_map, sym, ◌∙◌, subst}
use Rattle.std.specs.String.{string_bytes}
use Rattle.std.proofs.lemmas.Result.{IfOk-weaker}
use Rattle.semantics.specs.Texts.{bar}
use Rattle.semantics.specs.Patterns.{short}
use Rattle.key_ranges.specs.Containing.{pattern_range, narrowing_width, containing}
use Rattle.key_pattern.specs.Plain.{plain_segments}
use Rattle.key_pattern.specs.Fixed.{JoinsFixed}
use Rattle.key_pattern.specs.Narrowing.{bounds_with}
use Rattle.key_pattern.proofs.NarrowedLemmas.{containing_whole, containing_with, ends_of_both, ends_fit, together_from_exact}
use Rattle.key_pattern.proofs.pattern.Pattern.containing.Goals as goal

pub returns-in-None-clause-exact : goal.returns-in-None-clause-exact
returns-in-None-clause-exact c =
    let source = c.args.self.now in
    let output = c.args.out.now in
    let none : narrowing_width source c.args.slots.now output c.args.range.now ≡ None =
    subst (λ q. narrowing_width source c.args.slots.now q c.args.range.now ≡ None) c.segments-2.ensures.segments
    (subst (λ p. narrowing_width p c.args.slots.now (plain_segments c.segments-2.result.now) c.args.range.now ≡ None) c.segments.ensures.segments c.in-None.ensures) in
    let is = containing_whole source c.args.slots.now output c.args.range.now none in
    IfOk-weaker c.prefix_range.result (λ found. found ≡ pattern_range source c.args.slots.now) (λ found. found ≡ containing source c.args.slots.now output c.args.range.now) (λ found e. e ∙ sym is) c.prefix_range.ensures.exact

pub narrowed_range-requires : goal.narrowed_range-requires
narrowed_range-requires c =
    let ends = ends_of_both (plain_segments c.segments.result.now) (plain_segments c.segments-2.result.now) c.args.self.now c.args.out.now c.args.slots.now c.args.range.now c.in-Some.ends c.segments.ensures.segments c.segments-2.ensures.segments c.in-Some.ensures in
    let joins = subst (λ p. JoinsFixed p c.args.slots.now c.in_ok-fixed-in-Some.fixed) c.segments-in-Some.ensures.segments c.in_ok-fixed-in-Some.ensures in
    ends_fit c.args.self.now c.args.slots.now c.args.out.now c.args.range.now c.in-Some.ends (string_bytes c.in_ok-fixed-in-Some.fixed.text) c.segments.ensures.is_pattern c.segments-2.ensures.is_pattern joins.text ends

pub returns-in_ok-fixed-in-Some : goal.returns-in_ok-fixed-in-Some
returns-in_ok-fixed-in-Some c =
    let source = c.args.self.now in
    let output = c.args.out.now in
    let ends = ends_of_both (plain_segments c.segments.result.now) (plain_segments c.segments-2.result.now) source output c.args.slots.now c.args.range.now c.in-Some.ends c.segments.ensures.segments c.segments-2.ensures.segments c.in-Some.ensures in
    let joins = subst (λ p. JoinsFixed p c.args.slots.now c.in_ok-fixed-in-Some.fixed) c.segments-in-Some.ensures.segments c.in_ok-fixed-in-Some.ensures in
    let front = string_bytes c.in_ok-fixed-in-Some.fixed.text in
    let is = containing_with source c.args.slots.now output c.args.range.now c.in-Some.ends front joins.text ends in
    let exact = IfOk-weaker c.narrowed_range.result (λ found. found ≡ option_map (λ _. bounds_with front c.in-Some.ends) (short (front ++ bar ∷ []))) (λ found. found ≡ containing source c.args.slots.now output c.args.range.now)
    (λ found e. e ∙ sym is) c.narrowed_range.ensures in
    record {
      exact = exact;
      holds = together_from_exact source c.args.slots.now output c.args.range.now c.narrowed_range.result c.segments.ensures.is_pattern c.segments-2.ensures.is_pattern ends.ordered exact;
    }
