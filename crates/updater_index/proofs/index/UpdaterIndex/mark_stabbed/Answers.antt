use Rattle.std.proofs.Common.{◌<◌, List, ℕ, get_or, length, sym, ◌∙◌, subst}
use Rattle.updater_index.specs.Registered.{Held, stabbed}
use Rattle.updater_index.proofs.IndexLemmas.{stabbed_below}
use Rattle.updater_index.proofs.index.UpdaterIndex.mark_stabbed.Goals as goal

pub mark-requires : goal.mark-requires
mark-requires c =
    let is = c.as_slice-id-items.ensures.value ∙ c.in_ok-ids.ensures in
    let k = c.loop-id.id-index in
    subst (λ (hs : Held). get_or c.as_slice-id-items.result.now k 0 < length hs) (sym c.loop-id.invariant.held)
    (subst (λ (ids : List ℕ). get_or ids k 0 < length c.args.self.now.held) (sym is) (stabbed_below c.args.key.now c.args.self.now.held k (subst (λ (ids : List ℕ). k < length ids) is c.loop-id-test.true)))
