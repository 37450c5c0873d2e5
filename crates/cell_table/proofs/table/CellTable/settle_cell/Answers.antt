use Rattle.std.proofs.Common.{◌≡◌, ℕ, ◌+◌, ◌<◌, ◌≤◌, List, length, slice_get, Some, ap, sym, subst, ◌∙◌}
use Rattle.std.proofs.lemmas.Option.{same_Some}
use Rattle.semantics.proofs.MemberLemmas.{Has, contains_from_has, has_from_contains}
use Rattle.kept_ranges.specs.Sound.{KeptRange}
use Rattle.evict_book.specs.Books.{Book, victims_of, with_use}
use Rattle.cell_slots.specs.declared.slot.Slot.TheVariants.{Held}
use Rattle.cell_slots.specs.Slots.{place_of}
use Rattle.cell_slots.proofs.PlaceLemmas.{place_from_slot}
use Rattle.cell_table.specs.Stores.{Store}
use Rattle.cell_table.specs.Moves.{IsTooHeavy, weighed}
use Rattle.cell_table.proofs.EvictLemmas.{not_victim, too_heavy_goes, weighed_from}
use Rattle.cell_table.proofs.LendLemmas.{holdings, same_state}
use Rattle.cell_table.proofs.StoreLemmas.{store_weighed}
use Rattle.cell_table.proofs.table.CellTable.settle_cell.Goals as goal

pub invariant_of-self-2 : goal.invariant_of-self-2
invariant_of-self-2 c =
    let before = c.self.inside in
    let state = c.in-Some-Held.state in
    let held : slice_get before.slots c.args.id ≡ Some (Held c.in-Some-Held.field-0-0 state) = sym c.in-Some-Held.ensures ∙ ap Some c.in-Some-Held.field-0-is in
    store_weighed before.slots before.used.items before.directory before.book c.touch.new.self c.args.id c.rows-rows.result c.self.invariant
    (record { at = c.in-Some-Held.field-0-0; range = state.range; kept = place_from_slot place_of before.slots c.args.id (Held c.in-Some-Held.field-0-0 state) held }) c.in_ok-victims.ensures.ok

pub returns-clause-told : goal.returns-clause-told
returns-clause-told c = λ at s held.
    let before = c.self.inside in
    let state = c.in-Some-Held.state in
    let here : slice_get before.slots c.args.id ≡ Some (Held at s) = ap (λ (t : Store). slice_get t.holdings.slots c.args.id) c.self.view_is ∙ held in
    let is : Held c.in-Some-Held.field-0-0 state ≡ Held at s = sym c.in-Some-Held.field-0-is ∙ same_Some c.in-Some-Held.field-0.now (Held at s) (c.in-Some-Held.ensures ∙ here) in
    let rows : c.rows-rows.result ≡ length s.kept.rows = c.rows-rows.ensures ∙ ap (λ (x : KeptRange). length x.kept.rows) (same_state c.in-Some-Held.field-0-0 at state s is) in
    let victims : c.as_slice.result.now ≡ victims_of before.book.limit (with_use c.args.id c.rows-rows.result before.book.used) = c.as_slice.ensures.value ∙ c.in_ok-victims.ensures.victims in
    let store : Book → Store = λ b. record { holdings = holdings before.slots before.used.items; limit = b.limit; book = b.used } in
    subst (λ (t : Store). c.evict_all.new.self ≡ weighed c.args.id (length s.kept.rows) t) c.self.view_is
    (weighed_from (store before.book) (store c.touch.new.self) c.evict_all.new.self c.as_slice.result.now c.args.id c.rows-rows.result (length s.kept.rows) victims (ap store c.in_ok-victims.ensures.ok) c.evict_all.ensures.freed rows)

pub returns-clause-same : goal.returns-clause-same
returns-clause-same c = λ none.
    let held : slice_get c.self.inside.slots c.args.id ≡ Some (Held c.in-Some-Held.field-0-0 c.in-Some-Held.state) = sym c.in-Some-Held.ensures ∙ ap Some c.in-Some-Held.field-0-is in
    absurd (none (record { at = c.in-Some-Held.field-0-0; state = c.in-Some-Held.state; held = sym (ap (λ (t : Store). slice_get t.holdings.slots c.args.id) c.self.view_is) ∙ held }))

pub returns-clause-spared : goal.returns-clause-spared
returns-clause-spared c = λ at s held light.
    let before = c.self.inside in
    let state = c.in-Some-Held.state in
    let here : slice_get before.slots c.args.id ≡ Some (Held at s) = ap (λ (t : Store). slice_get t.holdings.slots c.args.id) c.self.view_is ∙ held in
    let is : Held c.in-Some-Held.field-0-0 state ≡ Held at s = sym c.in-Some-Held.field-0-is ∙ same_Some c.in-Some-Held.field-0.now (Held at s) (c.in-Some-Held.ensures ∙ here) in
    let rows : c.rows-rows.result ≡ length s.kept.rows = c.rows-rows.ensures ∙ ap (λ (x : KeptRange). length x.kept.rows) (same_state c.in-Some-Held.field-0-0 at state s is) in
    let light_here : c.rows-rows.result + 1 ≤ before.book.limit = subst (λ (n : ℕ). n + 1 ≤ before.book.limit) (sym rows) (subst (λ (m : ℕ). length s.kept.rows + 1 ≤ m) (sym (ap (λ (t : Store). t.limit) c.self.view_is)) light) in
    let victims : c.as_slice.result.now ≡ victims_of before.book.limit (with_use c.args.id c.rows-rows.result before.book.used) = c.as_slice.ensures.value ∙ c.in_ok-victims.ensures.victims in
    c.evict_all.ensures.others c.args.id (λ h. not_victim before.book.limit c.args.id c.rows-rows.result before.book.used light_here
    (subst (λ (ids : List ℕ). Has ids c.args.id) victims (has_from_contains c.as_slice.result.now c.args.id h))) ∙ here

pub returns-clause-heavy : goal.returns-clause-heavy
returns-clause-heavy c = λ at s held heavy.
    let before = c.self.inside in
    let state = c.in-Some-Held.state in
    let here : slice_get before.slots c.args.id ≡ Some (Held at s) = ap (λ (t : Store). slice_get t.holdings.slots c.args.id) c.self.view_is ∙ held in
    let is : Held c.in-Some-Held.field-0-0 state ≡ Held at s = sym c.in-Some-Held.field-0-is ∙ same_Some c.in-Some-Held.field-0.now (Held at s) (c.in-Some-Held.ensures ∙ here) in
    let rows : c.rows-rows.result ≡ length s.kept.rows = c.rows-rows.ensures ∙ ap (λ (x : KeptRange). length x.kept.rows) (same_state c.in-Some-Held.field-0-0 at state s is) in
    let too_heavy : IsTooHeavy before.book.limit s = subst (λ (n : ℕ). IsTooHeavy n s) (sym (ap (λ (t : Store). t.limit) c.self.view_is)) heavy in
    let heavy_here : before.book.limit < c.rows-rows.result + 1 = subst (λ (n : ℕ). before.book.limit < n + 1) (sym rows) too_heavy.rows in
    let victims : c.as_slice.result.now ≡ victims_of before.book.limit (with_use c.args.id c.rows-rows.result before.book.used) = c.as_slice.ensures.value ∙ c.in_ok-victims.ensures.victims in
    c.evict_all.ensures.gone c.args.id
    (contains_from_has c.as_slice.result.now c.args.id (subst (λ (ids : List ℕ). Has ids c.args.id) (sym victims) (too_heavy_goes before.book.limit c.args.id c.rows-rows.result before.book.used heavy_here too_heavy.most)))
    (record { at = at; state = s; held = here })
