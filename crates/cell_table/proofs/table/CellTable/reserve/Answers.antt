use Rattle.std.proofs.Common.{◌≡◌, ◌<◌, List, length, slice_set, true, Some, ap, refl, sym, subst, ◌∙◌}
use Rattle.std.proofs.lemmas.Option.{slice_get_within}
use Rattle.semantics.specs.Texts.{Range as Bounds, table_of}
use Rattle.range_set.specs.Held.{are_of_table, is_free, with_range}
use Rattle.cell_slots.specs.declared.slot.Slot.{Slot}
use Rattle.cell_slots.specs.declared.slot.Slot.TheVariants.{Free, Held}
use Rattle.cell_slots.specs.Slots.{MeetsNone, place_of}
use Rattle.cell_table.specs.Places.{Replaces, held_at}
use Rattle.cell_table.specs.Stores.{AreOfTable, IsStore, Store}
use Rattle.cell_table.proofs.DirectedLemmas.{directed_kept, free_range, listed_of_table}
use Rattle.cell_table.proofs.StoreLemmas.{store_from, store_taken}
use Rattle.cell_table.proofs.table.CellTable.reserve.Goals as goal

pub insert-requires-clause-free : goal.insert-requires-clause-free
insert-requires-clause-free c =
    let before = c.self.inside in
    subst (λ (r : Bounds). is_free (held_at before.directory c.args.at) r ≡ true) (sym c.in_ok-copy-3.ensures)
    (free_range before.slots before.directory c.args.at c.args.range.now c.self.invariant.directed (subst (λ (t : Store). MeetsNone t.holdings.slots c.args.at c.args.range.now) (sym c.self.view_is) c.requires.apart))

pub insert-requires-clause-table : goal.insert-requires-clause-table
insert-requires-clause-table c =
    let before = c.self.inside in
    subst (λ (r : Bounds). are_of_table (held_at before.directory c.args.at) (table_of r.low) ≡ true) (sym c.in_ok-copy-3.ensures)
    (listed_of_table before.slots before.directory c.args.at (table_of c.args.range.now.low) c.self.invariant.directed (subst (λ (t : Store). AreOfTable t.holdings.slots c.args.at (table_of c.args.range.now.low)) (sym c.self.view_is) c.requires.table))

pub invariant_of-self-in_err-insert : goal.invariant_of-self-in_err-insert
invariant_of-self-in_err-insert c =
    let before = c.self.inside in
    subst (λ (slots : List Slot). IsStore slots before.used.items c.insert.new.self before.book) (sym c.lowest_free.ensures.same)
    (store_from before.slots before.slots before.used.items before.used.items before.directory c.insert.new.self before.book before.book c.self.invariant refl
    (directed_kept before.slots before.directory c.insert.new.self c.in_err-insert.ensures.err c.self.invariant.directed) refl c.self.invariant.used_are_cells c.self.invariant.booked c.self.invariant.fits)

pub put-requires : goal.put-requires
put-requires c = subst (λ (slots : List Slot). c.in-Some.id < length slots) (sym c.lowest_free.ensures.same) (slice_get_within c.self.inside.slots c.in-Some.id Free c.in-Some.ensures.lowest.free)

pub invariant_of-self-2 : goal.invariant_of-self-2
invariant_of-self-2 c =
    let before = c.self.inside in
    let range = c.args.range.now in
    let slot = Held c.args.at c.new-state.result in
    let place : place_of slot ≡ Some (c.args.at, range) = ap (λ s. Some (c.args.at, s.range)) c.new-state.ensures ∙ ap (λ (r : Bounds). Some (c.args.at, r)) c.in_ok-copy-2.ensures in
    store_taken before.slots c.put.new.self before.used.items before.directory c.insert.new.self before.book c.in-Some.id c.args.at range slot c.self.invariant c.in-Some.ensures.lowest.free place c.requires.open
    (subst (λ (t : Store). MeetsNone t.holdings.slots c.args.at range) (sym c.self.view_is) c.requires.apart)
    (c.put.ensures.set ∙ ap (λ (slots : List Slot). slice_set slots c.in-Some.id slot) c.lowest_free.ensures.same)
    (subst (λ (r : Bounds). Replaces c.args.at (with_range r c.in-Some.id (held_at before.directory c.args.at)) before.directory c.insert.new.self) c.in_ok-copy-3.ensures c.in_ok-insert.ensures.ok)
