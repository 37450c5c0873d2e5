use Rattle.std.proofs.Common.{length, slice_get, is_some, ap, ◌∙◌}
use Rattle.std.specs.Option.{option_copied}
use Rattle.shared_cells.specs.Spots.{place_at}
use Rattle.shared_cells.proofs.SpotLemmas.{no_number, place_of_found, some_number}
use Rattle.shared_cells.proofs.spots.Spots.cell.Goals as goal

pub returns-in_default : goal.returns-in_default
returns-in_default g c =
    let place = place_of_found c.self.inside.spots.items (length c.self.inside.unused.items) c.args.self.now c.args.id (option_copied c.spot_at.result) (c.spot_at.ensures ∙ ap (λ l. slice_get l c.args.id) c.as_slice.ensures.value) c.self.view_is in
    no_number (place_at c.args.self.now c.args.id) c.args.id (c.in_default.ensures ∙ ap is_some place)

pub returns : goal.returns
returns g c =
    let place = place_of_found c.self.inside.spots.items (length c.self.inside.unused.items) c.args.self.now c.args.id (option_copied c.spot_at.result) (c.spot_at.ensures ∙ ap (λ l. slice_get l c.args.id) c.as_slice.ensures.value) c.self.view_is in
    some_number (place_at c.args.self.now c.args.id) c.args.id (c.in-Some.ensures ∙ ap is_some place)
