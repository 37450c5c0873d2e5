use Rattle.std.proofs.Common.{◌+◌, List, [], ◌∷◌, ◌++◌, append_assoc, append-nil, length, drop, sym, ap, ◌∙◌, subst}
use Rattle.std.proofs.lemmas.List.{map-id}
use Rattle.std.proofs.lemmas.Iterator.Adapters.{YieldsList-from_vec}
use Rattle.std.proofs.lemmas.Iterator.Consumers.{YieldsList-end, YieldsList-so_far, YieldsList-turn}
use Rattle.cell_slots.specs.declared.slot.Part.{Part}
use Rattle.cell_slots.proofs.TurnLemmas.{at_turn}
use Rattle.cell_table.specs.Stores.{Store}
use Rattle.cell_table.specs.Moves.{GetCells, ReservesParts}
use Rattle.cell_table.proofs.CellLemmas.{book_stays, got_more, limit_stays, next_gap, next_table, so_far}
use Rattle.cell_table.proofs.table.CellTable.reserve_parts.Goals as goal

pub give_cell-requires-clause-gap : goal.give_cell-requires-clause-gap
give_cell-requires-clause-gap c =
    let all = c.args.parts.items in
    let before = c.loop-part.yielded in
    let gives = c.into_iter-part-iterator.ensures.into_iter_gives in
    let road = YieldsList-from_vec {s = c.into_iter-part-iterator.result} all gives.0 (gives.1 ∙ c.args.parts.ok.0) in
    let is = at_turn all before c.in-Some.part (YieldsList-so_far road before c.loop-part.part-iterator c.loop-part.yielded_by) (YieldsList-turn road before c.loop-part.part-iterator c.loop-part.yielded_by c.next.result c.next.new.self c.in-Some.part c.in-Some.is c.next.ensures.steps) in
    next_gap c.args.at c.args.rank c.args.join.now c.args.range.now all before (drop (length before + 1) all) c.loop-part.made.items c.in-Some.part c.args.self.now c.loop-part.self is c.requires.join c.requires.gaps c.loop-part.invariant

pub give_cell-requires-clause-table : goal.give_cell-requires-clause-table
give_cell-requires-clause-table c =
    let all = c.args.parts.items in
    let before = c.loop-part.yielded in
    let gives = c.into_iter-part-iterator.ensures.into_iter_gives in
    let road = YieldsList-from_vec {s = c.into_iter-part-iterator.result} all gives.0 (gives.1 ∙ c.args.parts.ok.0) in
    let is = at_turn all before c.in-Some.part (YieldsList-so_far road before c.loop-part.part-iterator c.loop-part.yielded_by) (YieldsList-turn road before c.loop-part.part-iterator c.loop-part.yielded_by c.next.result c.next.new.self c.in-Some.part c.in-Some.is c.next.ensures.steps) in
    next_table c.args.at c.args.rank c.args.join.now c.args.range.now all before (drop (length before + 1) all) c.loop-part.made.items c.in-Some.part c.args.self.now c.loop-part.self is c.requires.join c.lo.ensures.is_range c.requires.table c.loop-part.invariant

pub returns-in_err-give_cell-clause-slots : goal.returns-in_err-give_cell-clause-slots
returns-in_err-give_cell-clause-slots c =
    let all = c.args.parts.items in
    let before = c.loop-part.yielded in
    let gives = c.into_iter-part-iterator.ensures.into_iter_gives in
    let road = YieldsList-from_vec {s = c.into_iter-part-iterator.result} all gives.0 (gives.1 ∙ c.args.parts.ok.0) in
    let is = at_turn all before c.in-Some.part (YieldsList-so_far road before c.loop-part.part-iterator c.loop-part.yielded_by) (YieldsList-turn road before c.loop-part.part-iterator c.loop-part.yielded_by c.next.result c.next.new.self c.in-Some.part c.in-Some.is c.next.ensures.steps) in
    subst (λ (s : Store). ReservesParts c.args.self.now.holdings s.holdings c.args.at c.args.rank c.args.join.now c.args.range.now) (sym c.in_err-give_cell.ensures.err)
    (so_far c.args.at c.args.rank c.args.join.now c.args.range.now all before (c.in-Some.part ∷ drop (length before + 1) all) c.loop-part.made.items c.args.self.now c.loop-part.self is c.requires.join c.loop-part.invariant)

pub returns-in_err-give_cell-clause-same_limit : goal.returns-in_err-give_cell-clause-same_limit
returns-in_err-give_cell-clause-same_limit c =
    ap (λ (s : Store). s.limit) c.in_err-give_cell.ensures.err ∙ limit_stays c.args.at c.args.rank c.args.join.now c.loop-part.yielded c.loop-part.made.items c.args.self.now c.loop-part.self c.loop-part.invariant

pub returns-in_err-give_cell-clause-same_book : goal.returns-in_err-give_cell-clause-same_book
returns-in_err-give_cell-clause-same_book c =
    ap (λ (s : Store). s.book) c.in_err-give_cell.ensures.err ∙ book_stays c.args.at c.args.rank c.args.join.now c.loop-part.yielded c.loop-part.made.items c.args.self.now c.loop-part.self c.loop-part.invariant

pub loop-part-preserved : goal.loop-part-preserved
loop-part-preserved c =
    subst (λ (made : List Part). GetCells c.args.at c.args.rank c.args.join.now c.args.self.now (c.loop-part.yielded ++ c.in-Some.part ∷ []) made c.give_cell.new.self) (sym c.in_ok-push.ensures.items)
    (got_more c.args.at c.args.rank c.args.join.now c.args.self.now c.loop-part.self c.give_cell.new.self c.loop-part.yielded c.loop-part.made.items c.in-Some.part c.in_ok-give_cell.field-0 c.loop-part.invariant c.in_ok-give_cell.ensures.got)

pub returns-in_err-push-clause-slots : goal.returns-in_err-push-clause-slots
returns-in_err-push-clause-slots c =
    let all = c.args.parts.items in
    let before = c.loop-part.yielded in
    let gives = c.into_iter-part-iterator.ensures.into_iter_gives in
    let road = YieldsList-from_vec {s = c.into_iter-part-iterator.result} all gives.0 (gives.1 ∙ c.args.parts.ok.0) in
    let is = at_turn all before c.in-Some.part (YieldsList-so_far road before c.loop-part.part-iterator c.loop-part.yielded_by) (YieldsList-turn road before c.loop-part.part-iterator c.loop-part.yielded_by c.next.result c.next.new.self c.in-Some.part c.in-Some.is c.next.ensures.steps) in
    let rest = drop (length before + 1) all in
    so_far c.args.at c.args.rank c.args.join.now c.args.range.now all (before ++ c.in-Some.part ∷ []) rest (c.loop-part.made.items ++ c.in_ok-give_cell.field-0 ∷ []) c.args.self.now c.give_cell.new.self
    (is ∙ sym (append_assoc before (c.in-Some.part ∷ []) rest)) c.requires.join
    (got_more c.args.at c.args.rank c.args.join.now c.args.self.now c.loop-part.self c.give_cell.new.self before c.loop-part.made.items c.in-Some.part c.in_ok-give_cell.field-0 c.loop-part.invariant c.in_ok-give_cell.ensures.got)

pub returns-in_err-push-clause-same_limit : goal.returns-in_err-push-clause-same_limit
returns-in_err-push-clause-same_limit c =
    limit_stays c.args.at c.args.rank c.args.join.now (c.loop-part.yielded ++ c.in-Some.part ∷ []) (c.loop-part.made.items ++ c.in_ok-give_cell.field-0 ∷ []) c.args.self.now c.give_cell.new.self
    (got_more c.args.at c.args.rank c.args.join.now c.args.self.now c.loop-part.self c.give_cell.new.self c.loop-part.yielded c.loop-part.made.items c.in-Some.part c.in_ok-give_cell.field-0 c.loop-part.invariant c.in_ok-give_cell.ensures.got)

pub returns-in_err-push-clause-same_book : goal.returns-in_err-push-clause-same_book
returns-in_err-push-clause-same_book c =
    book_stays c.args.at c.args.rank c.args.join.now (c.loop-part.yielded ++ c.in-Some.part ∷ []) (c.loop-part.made.items ++ c.in_ok-give_cell.field-0 ∷ []) c.args.self.now c.give_cell.new.self
    (got_more c.args.at c.args.rank c.args.join.now c.args.self.now c.loop-part.self c.give_cell.new.self c.loop-part.yielded c.loop-part.made.items c.in-Some.part c.in_ok-give_cell.field-0 c.loop-part.invariant c.in_ok-give_cell.ensures.got)

pub returns-clause-slots : goal.returns-clause-slots
returns-clause-slots c =
    let all = c.args.parts.items in
    let before = c.loop-part.yielded in
    let gives = c.into_iter-part-iterator.ensures.into_iter_gives in
    let road = YieldsList-from_vec {s = c.into_iter-part-iterator.result} all gives.0 (gives.1 ∙ c.args.parts.ok.0) in
    let whole = YieldsList-end road before c.loop-part.part-iterator c.loop-part.yielded_by c.next.result c.next.new.self c.in-None.is c.next.ensures.steps in
    so_far c.args.at c.args.rank c.args.join.now c.args.range.now all before [] c.loop-part.made.items c.args.self.now c.loop-part.self (sym (append-nil before ∙ sym (map-id before) ∙ whole.0)) c.requires.join c.loop-part.invariant

pub returns-clause-same_limit : goal.returns-clause-same_limit
returns-clause-same_limit c = limit_stays c.args.at c.args.rank c.args.join.now c.loop-part.yielded c.loop-part.made.items c.args.self.now c.loop-part.self c.loop-part.invariant

pub returns-clause-same_book : goal.returns-clause-same_book
returns-clause-same_book c = book_stays c.args.at c.args.rank c.args.join.now c.loop-part.yielded c.loop-part.made.items c.args.self.now c.loop-part.self c.loop-part.invariant
