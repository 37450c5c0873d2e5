use Rattle.std.proofs.Common.{ℕ, [], unwrap_or, sym, ap, ◌∙◌, subst, rules}
use Rattle.range_set.specs.Held.{Held, without_range}
use Rattle.cell_slots.specs.Places.{ListsInstead}
use Rattle.shared_cells.specs.Listings.{listed_at}
use Rattle.shared_cells.proofs.ListingLemmas.{lists_instead, unlists_none}
use Rattle.shared_cells.proofs.listings.unlist_in.Goals as goal

pub returns-in-None : goal.returns-in-None
returns-in-None c =
    unlists_none c.args.join c.args.range.now c.args.joins.now.entries c.get_mut.follows.lender-at-none.entries (ap (λ m. m.entries) c.get_mut.follows.holds-at-none) (ap (λ o. unwrap_or o []) (sym c.in-None.ensures.value))

pub returns-in-Some : goal.returns-in-Some
returns-in-Some c =
    let old = c.args.joins.now.entries in
    let new = (c.get_mut.follows.lender c.remove.new.self).entries in
    let set = ((c.get_mut.follows.holds c.remove.new.self).3 (search rules)).0 in
    subst (λ (ranges : Held ℕ). ListsInstead c.args.join ranges (listed_at old) (listed_at new)) (c.remove.ensures ∙ ap (without_range c.args.range.now) (ap (λ o. unwrap_or o []) c.in-Some.ensures.value))
    (lists_instead c.args.join c.remove.new.self old new set)
