use Rattle.std.proofs.Common.{◌≡◌, length, true, sym, ap, ◌∙◌, subst, arith}
use Rattle.std.specs.Str.{is_utf8}
use Rattle.std.proofs.lemmas.List.{length-map}
use Rattle.semantics.specs.Texts.{Text}
use Rattle.join_rows.specs.Laid.{row_of, rows_of}
use Rattle.join_rows.proofs.LaidLemmas.{row_own, row_got}
use Rattle.join_rows.proofs.search.value_at.Goals as goal

pub text_of-requires : goal.text_of-requires
text_of-requires c =
    let bytes = c.args.bytes.now in
    let entries = c.args.entries.now in
    let row = row_own (rows_of bytes entries) c.args.place c.requires.laid.rows (omega (arith, c.requires.inside, length-map entries (row_of bytes))) in
    let got = row_got bytes entries c.args.place (record { start = 0; value_len = 0; key_len = 0 }) c.requires.inside in
    subst (λ (t : Text). is_utf8 t ≡ true) (ap (λ (r : Text × Text). r.1) got ∙ sym c.value.ensures) row.value_text
