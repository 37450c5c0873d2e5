use Rattle.std.proofs.Common.{◌<◌, List, ℕ, length, subst, arith}
use Rattle.updater_index.specs.Marked.{AreQueued}
use Rattle.updater_index.proofs.MarkLemmas.{first_below}
use Rattle.updater_index.proofs.marks.Marks.next.Goals as goal

pub index_mut-requires : goal.index_mut-requires
index_mut-requires c =
    let below : c.in_ok-id.id < length c.self.inside.queued.items = first_below c.self.inside.queued.items c.pop_front.new.self.items c.in_ok-id.id (subst (λ (ids : List ℕ). AreQueued c.self.inside.queued.items ids) c.in_ok-id.ensures.items c.self.invariant) in
    omega (arith, c.self.inside.queued.ok)
