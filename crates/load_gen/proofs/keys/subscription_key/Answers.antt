use Rattle.std.proofs.Common.{◌≡◌, true, refl, sym, ap, ◌∙◌, subst, arith}
use Rattle.std.specs.Fmt.{styled_decimal}
use Rattle.std.proofs.lemmas.Result.{IfOk-weaker}
use Rattle.semantics.specs.Texts.{Text, is_key}
use Rattle.load_gen.specs.Keys.{subscription}
use Rattle.load_gen.proofs.KeyLemmas.{four_digits, row_is_key, row_text}
use Rattle.load_gen.proofs.keys.subscription_key.Goals as goal

pub read_key-requires : goal.read_key-requires
read_key-requires c =
    let text : c.as_str.result.now ≡ subscription c.args.user c.args.poster =
    row_text 115 4 c.args.user c.args.poster c.as_str.result.now _ _ _ (ap (λ s. styled_decimal s c.args.user) c.laid_out.ensures ∙ four_digits c.args.user) (ap (λ s. styled_decimal s c.args.poster) c.laid_out-2.ensures ∙ four_digits c.args.poster)
    c.as_str.ensures.value c.in_ok-text.ensures.ok in
    subst (λ (t : Text). is_key t ≡ true) (sym text) (row_is_key 115 4 c.args.user c.args.poster refl (omega arith) c.ranges.user.fits c.ranges.poster.fits)

pub returns : goal.returns
returns c =
    let text : c.as_str.result.now ≡ subscription c.args.user c.args.poster =
    row_text 115 4 c.args.user c.args.poster c.as_str.result.now _ _ _ (ap (λ s. styled_decimal s c.args.user) c.laid_out.ensures ∙ four_digits c.args.user) (ap (λ s. styled_decimal s c.args.poster) c.laid_out-2.ensures ∙ four_digits c.args.poster)
    c.as_str.ensures.value c.in_ok-text.ensures.ok in
    IfOk-weaker c.read_key.result _ _ (λ key e. e ∙ text) c.read_key.ensures
