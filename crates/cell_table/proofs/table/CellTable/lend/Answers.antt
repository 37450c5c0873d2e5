use Rattle.std.proofs.Common.{◌≡◌, ℕ, List, slice_get, Option, Some, ap, refl, sym, subst, ◌∙◌}
use Rattle.std.proofs.lemmas.Option.{same_Some, slice_get_within}
use Rattle.semantics.specs.Texts.{Range as Bounds}
use Rattle.kept_ranges.specs.Sound.{KeptRange}
use Rattle.cell_slots.specs.declared.slot.Slot.{Slot}
use Rattle.cell_slots.specs.declared.slot.Slot.TheVariants.{Held, Lent}
use Rattle.cell_slots.specs.Slots.{place_of, with_lent}
use Rattle.cell_table.specs.Stores.{IsStore}
use Rattle.cell_table.specs.Moves.{at_rank, IsLent, MayLend}
use Rattle.cell_table.proofs.StoreLemmas.{store_set, store_used}
use Rattle.cell_table.proofs.LendLemmas.{given_is, holdings, lent_holdings, match_some, same_held}
use Rattle.cell_table.proofs.table.CellTable.lend.Goals as goal

pub invariant_of-self-2 : goal.invariant_of-self-2
invariant_of-self-2 c =
    let before = c.self.inside in
    let state = c.in-Some.state.now in
    let held : slice_get before.slots c.args.id ≡ Some (Held c.args.at state) = sym c.get.ensures ∙ c.in-Some.ensures.may.held in
    let place : place_of (Lent c.args.at c.in_ok-place.place) ≡ Some (c.args.at, state.range) = ap (λ (r : Bounds). Some (c.args.at, r)) (c.in_ok-place.ensures ∙ c.range.ensures) in
    store_set before.slots c.put-taken.new.self c.push.new.self.items before.directory before.book c.args.id (Held c.args.at state) (Lent c.args.at c.in_ok-place.place)
    (subst (λ (used : List ℕ). IsStore before.slots used before.directory before.book) (sym c.in_ok-push.ensures.items)
    (store_used before.slots before.used.items before.directory before.book c.args.id c.self.invariant (slice_get_within before.slots c.args.id (Held c.args.at state) held)))
    held place c.put-taken.ensures.set

pub returns-clause-lent : goal.returns-clause-lent
returns-clause-lent c =
    let before = c.self.inside in
    let state = c.in-Some.state.now in
    let held : slice_get before.slots c.args.id ≡ Some (Held c.args.at state) = sym c.get.ensures ∙ c.in-Some.ensures.may.held in
    let taken : c.put-taken.result ≡ Held c.args.at state = same_Some c.put-taken.result (Held c.args.at state) (sym c.put-taken.ensures.was ∙ held) in
    let found : c.given.result ≡ Some (at_rank c.args.rank state) = given_is c.args.rank state c.in_ok-anew.anew c.given.result c.in_ok-anew.ensures (c.given.ensures c.args.at state taken) in
    match_some c.given.result (at_rank c.args.rank state) _ (IsLent c.args.self.now.holdings (holdings c.put-taken.new.self c.push.new.self.items) c.args.id c.args.at c.args.rank c.args.p c.args.part.now) found
    (record {
      was = state;
      might = subst (λ (o : Option Slot). MayLend o c.args.at c.args.rank c.args.p c.args.part.now state) (c.get.ensures ∙ ap (λ t. slice_get t.holdings.slots c.args.id) c.self.view_is) c.in-Some.ensures.may;
      given = refl;
      lent = lent_holdings before.slots c.put-taken.new.self before.used.items c.push.new.self.items c.args.id c.args.at c.in_ok-place.place state.range c.put-taken.ensures.set (c.in_ok-place.ensures ∙ c.range.ensures) c.in_ok-push.ensures.items
          ∙ ap (λ t. with_lent c.args.id c.args.at state.range t.holdings) c.self.view_is;
    })

pub returns-clause-always : goal.returns-clause-always
returns-clause-always c = λ s may.
    let before = c.self.inside in
    let state = c.in-Some.state.now in
    let held : slice_get before.slots c.args.id ≡ Some (Held c.args.at state) = sym c.get.ensures ∙ c.in-Some.ensures.may.held in
    let taken : c.put-taken.result ≡ Held c.args.at state = same_Some c.put-taken.result (Held c.args.at state) (sym c.put-taken.ensures.was ∙ held) in
    let found : c.given.result ≡ Some (at_rank c.args.rank state) = given_is c.args.rank state c.in_ok-anew.anew c.given.result c.in_ok-anew.ensures (c.given.ensures c.args.at state taken) in
    let one : state ≡ s = same_held c.args.at state s (sym held ∙ ap (λ t. slice_get t.holdings.slots c.args.id) c.self.view_is ∙ may.held) in
    found ∙ ap (λ (x : KeptRange). Some (at_rank c.args.rank x)) one
