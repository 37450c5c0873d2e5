use Rattle.std.proofs.Common.{◌-◌, length, sym, ap, ◌∙◌, arith}
use Rattle.std.specs.Ordering.{is_lt}
use Rattle.std.proofs.lemmas.List.{length-map}
use Rattle.semantics.specs.Texts.{Text, text_cmp}
use Rattle.join_rows.specs.Laid.{row_of, rows_of}
use Rattle.join_rows.proofs.FoundLemmas.{behind_last}
use Rattle.join_rows.proofs.search.is_behind.Goals as goal

pub returns : goal.returns
returns c =
    let rows = rows_of c.args.bytes.now c.args.entries.now in
    behind_last c.args.key.now rows (length c.args.entries.now - 1) c.is_lt.result c.requires.rows.ascending
    (omega (arith, length-map c.args.entries.now (row_of c.args.bytes.now)))
    (c.is_lt.ensures ∙ ap is_lt (c.cmp.ensures ∙ ap (λ (k : Text). text_cmp k c.args.key.now) c.key_at.ensures))
