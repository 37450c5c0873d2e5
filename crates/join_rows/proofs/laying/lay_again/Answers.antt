use Rattle.std.proofs.Common.{◌<◌, length, ap, arith}
use Rattle.semantics.specs.Texts.{Text}
use Rattle.join_rows.proofs.LaidLemmas.{length-key, length-value}
use Rattle.join_rows.proofs.laying.lay_again.Goals as goal

pub lay-requires-clause-short_key : goal.lay-requires-clause-short_key
lay-requires-clause-short_key c =
    let same = ap (λ (t : Text). length t) c.key.ensures in
    omega (arith, same, length-key c.args.bytes.now c.args.entry.now c.requires, c.requires.short_key)

pub lay-requires-clause-short_value : goal.lay-requires-clause-short_value
lay-requires-clause-short_value c =
    let same = ap (λ (t : Text). length t) c.value.ensures in
    omega (arith, same, length-value c.args.bytes.now c.args.entry.now c.requires, c.requires.short_value)
