use Rattle.std.proofs.Common.{List, slice_get, slice_set, sym, ap, ◌∙◌}
use Rattle.cell_slots.proofs.PlaceLemmas.{kept_still}
use Rattle.shared_cells.specs.Spots.{SpotView, place_at, free}
use Rattle.shared_cells.specs.Listings.{listed_at}
use Rattle.shared_cells.specs.Directories.{DirectoryView, directory_of}
use Rattle.shared_cells.proofs.SpotLemmas.{back_places}
use Rattle.shared_cells.proofs.directory.Directory.give_back.Goals as goal

pub invariant_of-self : goal.invariant_of-self
invariant_of-self g c =
    let before = c.self.inside.spots in
    let after = c.give_back.new.self in
    kept_still (place_at before) (place_at after) (listed_at c.self.inside.listings) (back_places c.args.id before after c.give_back.ensures.back c.give_back.ensures.same) c.self.invariant

pub returns-clause-back : goal.returns-clause-back
returns-clause-back g c = λ waits.
    ap (λ (l : List SpotView). directory_of l c.self.inside.listings) (c.give_back.ensures.back (ap (λ (d : DirectoryView). slice_get d.spots c.args.id) c.self.view_is ∙ waits))
    ∙ ap (λ (d : DirectoryView). directory_of (slice_set d.spots c.args.id free) d.listed) c.self.view_is

pub returns-clause-same : goal.returns-clause-same
returns-clause-same g c = λ waits_not.
    ap (λ (l : List SpotView). directory_of l c.self.inside.listings) (c.give_back.ensures.same (λ waits. waits_not (ap (λ (d : DirectoryView). slice_get d.spots c.args.id) (sym c.self.view_is) ∙ waits)))
    ∙ c.self.view_is
