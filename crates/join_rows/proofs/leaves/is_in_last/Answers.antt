use Rattle.std.proofs.Common.{◌-◌, length, sym, ap, ◌∙◌, not, arith}
use Rattle.join_rows.proofs.LeafLemmas.{filled_at, last_leaf}
use Rattle.join_rows.proofs.leaves.is_in_last.Goals as goal

pub is_before-requires : goal.is_before-requires
is_before-requires c =
    filled_at c.args.leaves.now (length c.args.leaves.now - 1) c.index-leaves-last.result c.requires.are (omega arith) c.index-leaves-last.is

pub returns : goal.returns
returns c =
    last_leaf c.args.key.now c.args.leaves.now (length c.args.leaves.now - 1) c.index-leaves-last.result c.is_before.result c.requires.are (omega arith) c.index-leaves-last.is c.is_before.ensures
