use Rattle.std.proofs.Common.{◌≡◌, true, refl, sym, ap, ◌∙◌, subst, arith}
use Rattle.std.specs.Fmt.{styled_decimal}
use Rattle.std.proofs.lemmas.Result.{IfOk-weaker}
use Rattle.semantics.specs.Texts.{Text, is_key}
use Rattle.load_gen.specs.Keys.{vote}
use Rattle.load_gen.proofs.KeyLemmas.{four_digits, row_is_key, row_text}
use Rattle.load_gen.proofs.keys.vote_key.Goals as goal

pub read_key-requires : goal.read_key-requires
read_key-requires c =
    let text : c.as_str.result.now ≡ vote c.args.poster c.args.user =
    row_text 118 4 c.args.poster c.args.user c.as_str.result.now _ _ _ (ap (λ s. styled_decimal s c.args.poster) c.laid_out.ensures ∙ four_digits c.args.poster) (ap (λ s. styled_decimal s c.args.user) c.laid_out-2.ensures ∙ four_digits c.args.user)
    c.as_str.ensures.value c.in_ok-text.ensures.ok in
    subst (λ (t : Text). is_key t ≡ true) (sym text) (row_is_key 118 4 c.args.poster c.args.user refl (omega arith) c.ranges.poster.fits c.ranges.user.fits)

pub returns : goal.returns
returns c =
    let text : c.as_str.result.now ≡ vote c.args.poster c.args.user =
    row_text 118 4 c.args.poster c.args.user c.as_str.result.now _ _ _ (ap (λ s. styled_decimal s c.args.poster) c.laid_out.ensures ∙ four_digits c.args.poster) (ap (λ s. styled_decimal s c.args.user) c.laid_out-2.ensures ∙ four_digits c.args.user)
    c.as_str.ensures.value c.in_ok-text.ensures.ok in
    IfOk-weaker c.read_key.result _ _ (λ key e. e ∙ text) c.read_key.ensures
