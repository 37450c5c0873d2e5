use Rattle.std.proofs.Common.{subst}
use Rattle.key_ranges.specs.Containing.{only}
use Rattle.key_pattern.specs.SlotPlaces.{HaveSamePlaces}
use Rattle.lazy_log.proofs.index.are_own.Goals as goal

pub returns : goal.returns
returns c = λ yes.
    subst (λ s. HaveSamePlaces (only c.args.output.now s) s) c.lend-lent.ensures.lent
    (subst (λ o. HaveSamePlaces o c.lend-lent.result) c.only.ensures (c.has_places_of.ensures yes))
