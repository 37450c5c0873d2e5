use Rattle.std.proofs.Common.{◌≡◌, ◌<◌, length, List, refl, sym, ap, subst, arith}
use Rattle.std.proofs.lemmas.Result.{IfOk-weaker}
use Rattle.semantics.specs.Texts.{Range as Bounds}
use Rattle.layering.specs.Parts.{JoinTo}
use Rattle.cell_slots.specs.declared.slot.Part.{Part}
use Rattle.cell_slots.specs.Slots.{place_at}
use Rattle.cell_table.specs.Moves.{GetCells}
use Rattle.cell_table.proofs.CellLemmas.{frame_from, alone_from, reserves_gap, same_ranges, serve_still}
use Rattle.cell_table.proofs.table.CellTable.cover.Goals as goal

pub returns-then-are_too_many-clause-alone : goal.returns-then-are_too_many-clause-alone
returns-then-are_too_many-clause-alone c = λ id not_empty lies. record { one = c.in_ok-parts.ensures.whole id not_empty lies; still = refl }

pub returns-then-are_too_many-clause-reserved : goal.returns-then-are_too_many-clause-reserved
returns-then-are_too_many-clause-reserved c = λ not_empty may.
    let many : 64 < c.len.result = c.are_too_many.ensures.many c.if-are_too_many.true in
    let one : length c.in_ok-parts.parts.items ≡ 1 = ap length (c.in_ok-parts.ensures.none not_empty may.apart) in
    absurd (omega (arith, many, one, c.len.ensures))

pub returns-in-Pull-clause-alone : goal.returns-in-Pull-clause-alone
returns-in-Pull-clause-alone c = λ id not_empty lies. record { one = c.in_ok-parts.ensures.whole id not_empty lies; still = refl }

pub returns-in-Push-clause-join : goal.returns-in-Push-clause-join
returns-in-Push-clause-join c =
    IfOk-weaker c.reserve_parts.result _ _ (λ made got. subst (λ (rs : List Bounds). JoinTo c.args.range.now rs)
    (sym (same_ranges c.args.at c.args.rank c.args.join.now c.args.self.now c.reserve_parts.new.self c.in_ok-parts.parts.items made.items got)) c.in_ok-parts.ensures.join) c.reserve_parts.ensures.got

pub returns-in-Push-clause-served : goal.returns-in-Push-clause-served
returns-in-Push-clause-served c =
    IfOk-weaker c.reserve_parts.result _ _ (λ made got.
    serve_still c.args.at c.args.rank c.args.join.now c.args.self.now c.reserve_parts.new.self (place_at c.args.self.now.holdings.slots) c.args.range.now c.in_ok-parts.parts.items made.items got c.in_ok-parts.ensures.served) c.reserve_parts.ensures.got

pub returns-in-Push-clause-alone : goal.returns-in-Push-clause-alone
returns-in-Push-clause-alone c =
    IfOk-weaker c.reserve_parts.result _ _ (λ made got id not_empty lies. alone_from c.args.at c.args.rank c.args.join.now c.args.self.now c.reserve_parts.new.self c.args.range.now id made.items
    (subst (λ (ps : List Part). GetCells c.args.at c.args.rank c.args.join.now c.args.self.now ps made.items c.reserve_parts.new.self) (c.in_ok-parts.ensures.whole id not_empty lies) got)) c.reserve_parts.ensures.got

pub returns-in-Push-clause-reserved : goal.returns-in-Push-clause-reserved
returns-in-Push-clause-reserved c =
    IfOk-weaker c.reserve_parts.result _ _ (λ made got not_empty may. reserves_gap c.args.at c.args.rank c.args.join.now c.args.self.now c.reserve_parts.new.self c.args.range.now made.items
    (subst (λ (ps : List Part). GetCells c.args.at c.args.rank c.args.join.now c.args.self.now ps made.items c.reserve_parts.new.self) (c.in_ok-parts.ensures.none not_empty may.apart) got) may.free) c.reserve_parts.ensures.got

pub returns-in-Push-clause-frame : goal.returns-in-Push-clause-frame
returns-in-Push-clause-frame c = frame_from c.args.self.now.holdings c.reserve_parts.new.self.holdings c.args.at c.args.rank c.args.join.now c.args.range.now c.reserve_parts.ensures.slots
