use Rattle.load_gen.proofs.KeyLemmas.{post_is_value}
use Rattle.load_gen.proofs.keys.post_value.Goals as goal

pub read_value-requires : goal.read_value-requires
read_value-requires c = post_is_value 109 c.args.number c.as_str.result.now _ c.ranges.number.fits c.as_str.ensures.value c.in_ok-text.ensures.ok
