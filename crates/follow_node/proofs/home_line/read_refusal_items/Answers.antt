use Rattle.std.proofs.Common.{sym, arith}
use Rattle.follow_node.proofs.RefusalLemmas.{refusal_few, refusal_many}
use Rattle.follow_node.proofs.home_line.read_refusal_items.Goals as goal

pub returns-in-len1 : goal.returns-in-len1
returns-in-len1 c = sym (refusal_few c.args.items.now (omega (arith, c.in-len1.len_below)))

pub returns-in_default : goal.returns-in_default
returns-in_default c = sym (refusal_many c.args.items.now c.in_default.len_at_least)
