use Rattle.std.proofs.Common.{◌≡◌, ℕ, true, sym, subst, string_bytes}
use Rattle.range_set.specs.Held.{Held, are_of_table}
use Rattle.shared_cells.proofs.ListingLemmas.{of_table-without_range}
use Rattle.shared_cells.proofs.listing.Listing.remove.Goals as goal

pub invariant_of-self : goal.invariant_of-self
invariant_of-self c =
    let before = c.self.inside in
    let name = string_bytes before.table in
    subst (λ (held : Held ℕ). are_of_table held name ≡ true) (sym c.remove.ensures.left) (of_table-without_range c.args.range.now before.ranges name c.self.invariant)
