use Rattle.std.proofs.Common.{nat_lt, rules}
use Rattle.std.proofs.lemmas.Fn.{filter_same}
use Rattle.join_set.specs.Sets.{LastDrop}
use Rattle.join_set.proofs.drops.keep_behind.Goals as goal

pub returns : goal.returns
returns c =
    filter_same _ (λ (d : LastDrop). nat_lt c.args.floor d.position) _ (λ d b f' t. search rules) c.args.drops.now.items c.retain.new.self.items c.retain.ensures.filtered
