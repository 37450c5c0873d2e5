-- What settling frees does not depend on what cells are held over.
use Rattle.std.proofs.Common.{◌≡◌, ℕ, List, [], ◌∷◌, length, slice_get, Option, Some, None, Result, Ok, Err, OnOk, refl, sym, ap, ◌∙◌}
use Rattle.semantics.specs.Histories.{History}
use Rattle.evict_book.specs.Books.{left_of, victims_of, with_use}
use Rattle.cell_slots.specs.declared.slot.Slot.{Slot}
use Rattle.cell_slots.specs.declared.slot.Slot.TheVariants.{Free, Lent, Held}
use Rattle.cell_slots.specs.Slots.{Setting, held_over}
use Rattle.cell_table.specs.Stores.{Store, unused, with_book, with_holdings}
use Rattle.cell_table.specs.Moves.{freed, freed_all, freed_by, settled, settled_all, settled_by, weighed}
use Rattle.scan_core.specs.Cells.{IsSettled}
use Rattle.scan_core.specs.Rights.{contents_of, setting_of}

-- a store whose cells are held over something
abbrev over : Setting → Store → Store
over setting before = with_holdings (held_over setting before.holdings) before

freed_by_over : (setting : Setting) (o : Option Slot) (id : ℕ) (before : Store) → freed_by o id (over setting before) ≡ over setting (freed_by o id before)
freed_by_over setting None id before = refl
freed_by_over setting (Some Free) id before = refl
freed_by_over setting (Some (Lent at range)) id before = refl
freed_by_over setting (Some (Held at s)) id before = refl

freed_all_over : (setting : Setting) (ids : List ℕ) (before : Store) → freed_all ids (over setting before) ≡ over setting (freed_all ids before)
freed_all_over setting [] before = refl
freed_all_over setting (id ∷ ids) before =
    ap (freed_all ids) (freed_by_over setting (slice_get before.holdings.slots id) id before) ∙ freed_all_over setting ids (freed id before)

weighed_over : (setting : Setting) (id rows : ℕ) (before : Store) → weighed id rows (over setting before) ≡ over setting (weighed id rows before)
weighed_over setting id rows before =
    freed_all_over setting (victims_of before.limit (with_use id rows before.book)) (with_book (left_of before.limit (with_use id rows before.book)) before)

settled_by_over : (setting : Setting) (o : Option Slot) (id : ℕ) (before : Store) → settled_by o id (over setting before) ≡ over setting (settled_by o id before)
settled_by_over setting None id before = refl
settled_by_over setting (Some Free) id before = refl
settled_by_over setting (Some (Lent at range)) id before = refl
settled_by_over setting (Some (Held at s)) id before = weighed_over setting id (length s.kept.rows) before

settled_all_over : (setting : Setting) (ids : List ℕ) (before : Store) → settled_all ids (over setting before) ≡ over setting (settled_all ids before)
settled_all_over setting [] before = refl
settled_all_over setting (id ∷ ids) before =
    ap (settled_all ids) (settled_by_over setting (slice_get before.holdings.slots id) id before) ∙ settled_all_over setting ids (settled id before)

-- a table of cells that is settled is settled as the cells of the core
pub settled_as : {X E : Type 0} (result : Result X E) (h : History) (before after : Store) → OnOk result (after ≡ unused (settled_all before.holdings.used before)) →
    OnOk result (IsSettled (contents_of h before).cells (contents_of h after).cells)
settled_as (Ok x) h before after is = record {
  book = before.book;
  is = ap (λ (s : Store). s.holdings.slots) is ∙ sym (ap (λ (s : Store). s.holdings.slots) (settled_all_over (setting_of h before) before.holdings.used before));
}
settled_as (Err e) h before after is = tt
