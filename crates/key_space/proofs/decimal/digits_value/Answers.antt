use Rattle.std.proofs.Common.{◌+◌, arith}
use Rattle.std.proofs.lemmas.Grind.{common_steps}
use Rattle.key_space.proofs.NumberLemmas.{first_digits}
use Rattle.key_space.proofs.decimal.digits_value.Goals as goal

pub returns-then-next-from : goal.returns-then-next-from
returns-then-next-from c = λ h. grind (arith, common_steps, first_digits c.args.digits.now (c.loop-digit.digit-index + 1))
