use Rattle.std.proofs.Common.{◌≡◌, ◌++◌, append-nil, sym, ap, ◌∙◌}
use Rattle.join_set.specs.Sets.{last_drop}
use Rattle.join_set.proofs.EndLemmas.{listed, listed_tells}
use Rattle.join_set.proofs.stays.drops_of.Goals as goal

pub returns : goal.returns
returns c table =
    let drops = c.loop-table.drops.items in
    let gives = c.into_iter-table-iterator.ensures.into_iter_gives in
    let all : drops ≡ listed c.args.ends.entries = sym (append-nil drops) ∙ sym (ap (λ es. drops ++ listed es) c.in-None.ensures.steps.0) ∙ c.loop-table.invariant ∙ ap (λ es. listed es) gives.0 in
    ap (last_drop table) all ∙ listed_tells table c.args.ends.entries gives.5
