use Rattle.std.proofs.Common.{◌≡◌, false, true, Err, sym, ◌∙◌, ap}
use Rattle.std.proofs.lemmas.Bool.{false≢true}
use Rattle.semantics.specs.Texts.{is_range}
use Rattle.key_space.specs.declared.range.RangeFault.TheVariants.{BadRange}
use Rattle.scan_core.proofs.BoundLemmas.{next_is_range}
use Rattle.scan_core.proofs.scan_table.range_between.Goals as goal

pub unreachable-requires : goal.unreachable-requires
unreachable-requires c =
    let bad : c.read.result ≡ Err BadRange = c.in-Err-BadRange.is ∙ ap Err c.in-Err-BadRange.field-0-is in
    let not_range : is_range c.text.result.now c.text-2.result.now ≡ false = c.read.ensures.bad_range.0 bad in
    let is : is_range c.text.result.now c.text-2.result.now ≡ true =
    (λ i. is_range (c.text.ensures.text i) (c.text-2.ensures.text i))
    ∙ next_is_range c.args.whole.now c.args.place.now c.args.upto.now c.lo-low.ensures.is_range c.text.ensures.is_bound c.text-2.ensures.is_bound c.requires.begins c.requires.goes_on c.requires.ends in
    false≢true (sym not_range ∙ is)
