use Rattle.std.proofs.Common.{◌≡◌, true, sym, ◌∙◌, subst}
use Rattle.std.specs.Result.{OnOk}
use Rattle.std.proofs.lemmas.Str.{is_utf8-from_IsUtf8}
use Rattle.semantics.specs.Texts.{Text, is_key, is_value, with_pair}
use Rattle.join_rows.proofs.packed.PackedRows.put.Goals as goal

pub put_row-requires : goal.put_row-requires
put_row-requires c = record {
  key = subst (λ (k : Text). is_key k ≡ true) (sym c.text-key.ensures.text) c.text-key.ensures.is_key;
  key_text = is_utf8-from_IsUtf8 c.text-key.result.now c.text-key.utf8;
  value = subst (λ (v : Text). is_value v ≡ true) (sym c.text-value.ensures.text) c.text-value.ensures.is_value;
  value_text = is_utf8-from_IsUtf8 c.text-value.result.now c.text-value.utf8;
}

pub returns-clause-ok : goal.returns-clause-ok
returns-clause-ok c =
    subst (λ (v : Text). OnOk c.put_row.result (c.put_row.new.self ≡ with_pair c.args.key.now v c.args.self.now)) c.text-value.ensures.text
    (subst (λ (k : Text). OnOk c.put_row.result (c.put_row.new.self ≡ with_pair k c.text-value.result.now c.args.self.now)) c.text-key.ensures.text c.put_row.ensures.ok)
