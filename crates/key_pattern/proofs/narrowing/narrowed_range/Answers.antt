use Rattle.std.proofs.Common.{◌≡◌, ◌<◌, ◌++◌, ◌∷◌, [], length, true, Some, sym, ap, ◌∙◌, subst, arith}
use Rattle.std.specs.String.{string_bytes}
use Rattle.semantics.specs.Texts.{bar, is_range}
use Rattle.key_ranges.specs.Containing.{low_or}
use Rattle.key_pattern.specs.Shared.{bounds}
use Rattle.key_pattern.specs.Narrowing.{bounds_with}
use Rattle.key_pattern.proofs.NarrowedLemmas.{bounds_some}
use Rattle.key_pattern.proofs.narrowing.narrowed_range.Goals as goal

pub between-requires : goal.between-requires
between-requires c =
    let front = string_bytes c.args.front in
    let b = bounds_with front c.args.ends in
    let small : length front < 512 = omega arith in
    let low : string_bytes c.in_ok-low.low ≡ b.low = c.in_ok-low.ensures ∙ ap (λ t. low_or ((t ++ bar ∷ []) ++ c.args.ends.low.now) (t ++ bar ∷ [])) c.as_str.ensures.value in
    subst (λ t. is_range t (string_bytes c.in_ok-high.high) ≡ true) (sym low) (subst (λ t. is_range b.low t ≡ true) (sym c.in_ok-high.ensures) (c.requires small))

pub returns : goal.returns
returns c =
    let front = string_bytes c.args.front in
    let b = bounds_with front c.args.ends in
    let small : length front < 512 = omega arith in
    let low : string_bytes c.in_ok-low.low ≡ b.low = c.in_ok-low.ensures ∙ ap (λ t. low_or ((t ++ bar ∷ []) ++ c.args.ends.low.now) (t ++ bar ∷ [])) c.as_str.ensures.value in
    ap Some (c.in_ok-between.ensures ∙ ap (λ t. bounds t (string_bytes c.in_ok-high.high)) low ∙ ap (bounds b.low) c.in_ok-high.ensures) ∙ bounds_some front b small
