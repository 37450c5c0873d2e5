use Rattle.std.proofs.Common.{◌≡◌, true, sym, ap, ◌∙◌, subst}
use Rattle.std.specs.Prelude.{nat_eq, ◌∷◌, []}
use Rattle.std.specs.List.{ends_with}
use Rattle.std.specs.Fmt.{styled_decimal}
use Rattle.semantics.specs.Texts.{Text, bar, is_key}
use Rattle.load_gen.proofs.KeyLemmas.{four_digits}
use Rattle.load_run.proofs.LookLemmas.{timeline_prefix, prefix_text, prefix_is_key, prefix_ends}
use Rattle.load_run.proofs.acting.look.Goals as goal

pub prefix_range-requires-clause-key : goal.prefix_range-requires-clause-key
prefix_range-requires-clause-key g c =
    let text : c.as_str.result.now ≡ timeline_prefix c.args.user =
    prefix_text c.args.user c.as_str.result.now _ _ (ap (λ s. styled_decimal s c.args.user) c.laid_out.ensures ∙ four_digits c.args.user) c.as_str.ensures.value c.in_ok-prefix.ensures.ok in
    subst (λ (t : Text). is_key t ≡ true) (sym text) (prefix_is_key c.args.user c.ranges.user.fits)

pub prefix_range-requires-clause-ends : goal.prefix_range-requires-clause-ends
prefix_range-requires-clause-ends g c =
    let text : c.as_str.result.now ≡ timeline_prefix c.args.user =
    prefix_text c.args.user c.as_str.result.now _ _ (ap (λ s. styled_decimal s c.args.user) c.laid_out.ensures ∙ four_digits c.args.user) c.as_str.ensures.value c.in_ok-prefix.ensures.ok in
    subst (λ (t : Text). ends_with nat_eq t (bar ∷ []) ≡ true) (sym text) (prefix_ends c.args.user)
