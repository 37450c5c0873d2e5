use Rattle.std.proofs.Common.{◌≡◌, true, refl, sym, ap, ◌∙◌, subst, arith}
use Rattle.std.specs.Fmt.{styled_decimal}
use Rattle.std.proofs.lemmas.Result.{IfOk-weaker}
use Rattle.semantics.specs.Texts.{Text, is_key}
use Rattle.load_gen.specs.Keys.{post}
use Rattle.load_gen.proofs.KeyLemmas.{four_digits, eight_digits, row_is_key, row_text}
use Rattle.load_gen.proofs.keys.post_key.Goals as goal

pub read_key-requires : goal.read_key-requires
read_key-requires c =
    let text : c.as_str.result.now ≡ post c.args.poster c.args.time =
    row_text 112 8 c.args.poster c.args.time c.as_str.result.now _ _ _ (ap (λ s. styled_decimal s c.args.poster) c.laid_out.ensures ∙ four_digits c.args.poster) (ap (λ s. styled_decimal s c.args.time) c.laid_out-2.ensures ∙ eight_digits c.args.time)
    c.as_str.ensures.value c.in_ok-text.ensures.ok in
    subst (λ (t : Text). is_key t ≡ true) (sym text) (row_is_key 112 8 c.args.poster c.args.time refl (omega arith) c.ranges.poster.fits c.ranges.time.fits)

pub returns : goal.returns
returns c =
    let text : c.as_str.result.now ≡ post c.args.poster c.args.time =
    row_text 112 8 c.args.poster c.args.time c.as_str.result.now _ _ _ (ap (λ s. styled_decimal s c.args.poster) c.laid_out.ensures ∙ four_digits c.args.poster) (ap (λ s. styled_decimal s c.args.time) c.laid_out-2.ensures ∙ eight_digits c.args.time)
    c.as_str.ensures.value c.in_ok-text.ensures.ok in
    IfOk-weaker c.read_key.result _ _ (λ key e. e ∙ text) c.read_key.ensures
