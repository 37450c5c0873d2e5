use Rattle.std.proofs.Common.{[], ◌∷◌, length, length-append, ap, ◌∙◌, arith}
use Rattle.write_history.specs.Numbers.{positions_of}
use Rattle.write_history.proofs.Numbering.{none_more}
use Rattle.write_history.proofs.part_numbers.PartNumbers.new.Goals as goal

pub loop-part-preserved : goal.loop-part-preserved
loop-part-preserved c =
    let parts = c.loop-part.parts.items in
    let more = c.in_ok-push.ensures.items in
    record {
      count = ap length more ∙ length-append parts (c.new.result ∷ []) ∙ omega (arith, c.loop-part.invariant.count);
      none = λ part. ap (positions_of part) more ∙ none_more parts c.new.result c.new.ensures c.loop-part.invariant.none part;
    }
