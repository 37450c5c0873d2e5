use Rattle.std.proofs.Common.{length, sym, ap, subst, ◌∙◌}
use Rattle.key_pattern.specs.SlotPlaces.{AreAtPlaces}
use Rattle.lazy_log.proofs.index.has_at.Goals as goal

pub returns : goal.returns
returns c = record {
  sought = c.in_ok-sought.sought;
  at = subst (AreAtPlaces c.args.found.now c.args.shape.now) (sym c.in_ok-sought.ensures)
      (subst (λ s. AreAtPlaces c.args.found.now s c.at_places_of-at.result) c.lend-places.ensures.lent c.at_places_of-at.ensures.at);
  places = ap length c.in_ok-sought.ensures ∙ c.at_places_of-at.ensures.places;
  told = c.contains-has.ensures;
}
