use Rattle.std.proofs.Common.{◌≡◌, ℕ, true, List, map, Contains, Some, None, IfOk, ap, sym, subst, ◌∙◌}
use Rattle.std.proofs.lemmas.Result.{IfOk-weaker}
use Rattle.semantics.specs.Texts.{Range as Bounds}
use Rattle.key_ranges.specs.Ranges.{is_open}
use Rattle.layering.specs.Parts.{JoinTo}
use Rattle.cell_slots.specs.declared.slot.Slot.{Slot}
use Rattle.cell_slots.specs.declared.slot.Part.{Part}
use Rattle.cell_slots.specs.Places.{LiesInPlace, ServeKept}
use Rattle.cell_slots.specs.Slots.{MeetsNone, place_at}
use Rattle.cell_slots.specs.Spending.{one_gap, one_part}
use Rattle.cell_table.specs.Stores.{IsGap}
use Rattle.cell_table.proofs.PartLemmas.{gap_from_free, join_parts, lies_from_kept, lone_gap, part, serve_kept, whole_part}
use Rattle.cell_table.proofs.table.CellTable.parts.Goals as goal

pub returns-clause-join : goal.returns-clause-join
returns-clause-join c =
    let range = c.args.range.now in
    IfOk-weaker c.parts_of.result _ _ (λ parts is. subst (λ (xs : List Part). JoinTo range (map (λ (p : Part). p.range) xs)) (sym is)
    (join_parts range.low range.high c.in_ok-pieces.pieces.items c.in_ok-pieces.ensures.pieces.joins)) c.parts_of.ensures

pub returns-clause-kept : goal.returns-clause-kept
returns-clause-kept c =
    subst (λ (slots : List Slot). IfOk c.parts_of.result (λ parts. (id : ℕ) → (r : Bounds) → Contains parts.items (part r (Some id)) → LiesInPlace (place_at slots) id c.args.at r)) (ap (λ t. t.holdings.slots) c.self.view_is)
    (IfOk-weaker c.parts_of.result _ _ (λ parts is id r h. lies_from_kept c.self.inside.slots c.self.inside.directory c.args.at c.args.range.now c.in_ok-pieces.pieces.items r id c.self.invariant.directed c.in_ok-pieces.ensures.pieces
    (subst (λ (xs : List Part). Contains xs (part r (Some id))) is h)) c.parts_of.ensures)

pub returns-clause-gaps : goal.returns-clause-gaps
returns-clause-gaps c =
    subst (λ (slots : List Slot). IfOk c.parts_of.result (λ parts. (r : Bounds) → Contains parts.items (part r None) → IsGap slots c.args.at r)) (ap (λ t. t.holdings.slots) c.self.view_is)
    (IfOk-weaker c.parts_of.result _ _ (λ parts is r h. gap_from_free c.self.inside.slots c.self.inside.directory c.args.at c.args.range.now c.in_ok-pieces.pieces.items r c.self.invariant.directed c.in_ok-pieces.ensures.pieces
    (subst (λ (xs : List Part). Contains xs (part r None)) is h)) c.parts_of.ensures)

pub returns-clause-served : goal.returns-clause-served
returns-clause-served c =
    subst (λ (slots : List Slot). IfOk c.parts_of.result (λ parts. ServeKept (place_at slots) c.args.at c.args.range.now parts.items)) (ap (λ t. t.holdings.slots) c.self.view_is)
    (IfOk-weaker c.parts_of.result _ _ (λ parts is. subst (λ (xs : List Part). ServeKept (place_at c.self.inside.slots) c.args.at c.args.range.now xs) (sym is)
    (serve_kept c.self.inside.slots c.self.inside.directory c.args.at c.args.range.now c.in_ok-pieces.pieces.items c.self.invariant.directed c.in_ok-pieces.ensures.pieces c.cover.ensures.apart)) c.parts_of.ensures)

pub returns-clause-whole : goal.returns-clause-whole
returns-clause-whole c =
    let range = c.args.range.now in
    subst (λ (slots : List Slot). IfOk c.parts_of.result (λ parts. (id : ℕ) → is_open range ≡ true → LiesInPlace (place_at slots) id c.args.at range → parts.items ≡ one_part range id)) (ap (λ t. t.holdings.slots) c.self.view_is)
    (IfOk-weaker c.parts_of.result _ _ (λ parts is id not_empty lies. is ∙ whole_part c.self.inside.slots c.self.inside.directory id c.args.at range c.in_ok-pieces.pieces.items c.self.invariant.directed c.in_ok-pieces.ensures.pieces
    c.cover.ensures.apart not_empty lies) c.parts_of.ensures)

pub returns-clause-none : goal.returns-clause-none
returns-clause-none c =
    let range = c.args.range.now in
    subst (λ (slots : List Slot). IfOk c.parts_of.result (λ parts. is_open range ≡ true → MeetsNone slots c.args.at range → parts.items ≡ one_gap range)) (ap (λ t. t.holdings.slots) c.self.view_is)
    (IfOk-weaker c.parts_of.result _ _ (λ parts is not_empty none. is ∙ lone_gap c.self.inside.slots c.self.inside.directory c.args.at range c.in_ok-pieces.pieces.items c.self.invariant.directed c.in_ok-pieces.ensures.pieces
    not_empty none) c.parts_of.ensures)
