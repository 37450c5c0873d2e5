use Rattle.std.proofs.Common.{rules}
use Rattle.std.proofs.lemmas.Fn.{filter_same}
use Rattle.semantics.specs.Stays.{Stay, is_after}
use Rattle.join_set.proofs.stays.keep_stays.Goals as goal

pub returns : goal.returns
returns c =
    filter_same _ (λ (stay : Stay). is_after c.args.floor stay.until) _ (λ stay b f' t. search rules) c.args.stays.now.items c.retain.new.self.items c.retain.ensures.filtered
