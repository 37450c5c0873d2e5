use Rattle.std.proofs.Common.{◌+◌, length, drop, sym, ◌∙◌}
use Rattle.std.proofs.lemmas.List.{map-id}
use Rattle.std.proofs.lemmas.Iterator.Adapters.{YieldsList-from_vec}
use Rattle.std.proofs.lemmas.Iterator.Consumers.{YieldsList-end, YieldsList-so_far, YieldsList-turn}
use Rattle.semantics.proofs.MemberLemmas.{has_from_contains}
use Rattle.cell_slots.proofs.PieceLemmas.{apart_from_free, gap_piece, inside_is_kept, whole_piece}
use Rattle.cell_slots.proofs.TurnLemmas.{at_turn}
use Rattle.shared_cells.specs.Listings.{listed_at}
use Rattle.shared_cells.proofs.DirectoryLemmas.{covers_all, covers_alone, covers_begin, covers_gap, covers_join, covers_kept, covers_more, covers_served, covers_whole, given_more, piece_within, still_lies}
use Rattle.shared_cells.proofs.directory.Directory.cover.Goals as goal

-- ---- one piece after another

pub loop-piece-init : goal.loop-piece-init
loop-piece-init g c = covers_begin _ c.args.join c.args.range.now c.are_gaps_kept-is_kept.result c.args.self.now c.in_ok-parts.parts.items c.in_ok-parts.ensures.items

pub part-requires : goal.part-requires
part-requires g c =
    let all = c.in_ok-pieces.pieces.items in
    let before = c.loop-piece.yielded in
    let gives = c.into_iter-piece-iterator.ensures.into_iter_gives in
    let road = YieldsList-from_vec {s = c.into_iter-piece-iterator.result} all gives.0 (gives.1 ∙ c.in_ok-pieces.pieces.ok.0) in
    let is = at_turn all before c.in-Some.piece (YieldsList-so_far road before c.loop-piece.piece-iterator c.loop-piece.yielded_by) (YieldsList-turn road before c.loop-piece.piece-iterator c.loop-piece.yielded_by c.next.result c.next.new.self c.in-Some.piece c.in-Some.is c.next.ensures.steps) in
    still_lies _ c.args.join c.args.range.now c.are_gaps_kept-is_kept.result c.args.self.now c.loop-piece.self all before (drop (length before + 1) all) c.loop-piece.parts.items c.in-Some.piece c.in_ok-pieces.ensures.places c.loop-piece.invariant is

pub loop-piece-preserved : goal.loop-piece-preserved
loop-piece-preserved g c =
    let all = c.in_ok-pieces.pieces.items in
    let before = c.loop-piece.yielded in
    let gives = c.into_iter-piece-iterator.ensures.into_iter_gives in
    let road = YieldsList-from_vec {s = c.into_iter-piece-iterator.result} all gives.0 (gives.1 ∙ c.in_ok-pieces.pieces.ok.0) in
    let is = at_turn all before c.in-Some.piece (YieldsList-so_far road before c.loop-piece.piece-iterator c.loop-piece.yielded_by) (YieldsList-turn road before c.loop-piece.piece-iterator c.loop-piece.yielded_by c.next.result c.next.new.self c.in-Some.piece c.in-Some.is c.next.ensures.steps) in
    covers_more _ c.args.join c.args.range.now c.are_gaps_kept-is_kept.result c.args.self.now c.loop-piece.self c.part.new.self before c.loop-piece.parts.items c.push.new.self.items c.in-Some.piece c.in_ok-part.field-0 c.in_ok-push.ensures.items
    c.loop-piece.invariant (piece_within c.args.range.now all before (drop (length before + 1) all) c.in-Some.piece c.in_ok-pieces.ensures.pieces.joins is) c.in_ok-part.ensures.made c.part.ensures.given c.part.ensures.pulled

-- ---- where memory runs out

pub returns-in_err-part-clause-given : goal.returns-in_err-part-clause-given
returns-in_err-part-clause-given g c =
    let all = c.in_ok-pieces.pieces.items in
    let before = c.loop-piece.yielded in
    let gives = c.into_iter-piece-iterator.ensures.into_iter_gives in
    let road = YieldsList-from_vec {s = c.into_iter-piece-iterator.result} all gives.0 (gives.1 ∙ c.in_ok-pieces.pieces.ok.0) in
    let is = at_turn all before c.in-Some.piece (YieldsList-so_far road before c.loop-piece.piece-iterator c.loop-piece.yielded_by) (YieldsList-turn road before c.loop-piece.piece-iterator c.loop-piece.yielded_by c.next.result c.next.new.self c.in-Some.piece c.in-Some.is c.next.ensures.steps) in
    given_more _ c.args.join c.args.range.now c.are_gaps_kept-is_kept.result c.args.self.now c.loop-piece.self c.part.new.self before c.loop-piece.parts.items c.in-Some.piece c.loop-piece.invariant
    (piece_within c.args.range.now all before (drop (length before + 1) all) c.in-Some.piece c.in_ok-pieces.ensures.pieces.joins is) c.part.ensures.given

pub returns-in_err-part-clause-pulled : goal.returns-in_err-part-clause-pulled
returns-in_err-part-clause-pulled g c = λ no. let not_kept = c.are_gaps_kept-is_kept.ensures no in c.part.ensures.pulled not_kept ∙ c.loop-piece.invariant.pulled not_kept

pub returns-in_err-push-clause-given : goal.returns-in_err-push-clause-given
returns-in_err-push-clause-given g c =
    let all = c.in_ok-pieces.pieces.items in
    let before = c.loop-piece.yielded in
    let gives = c.into_iter-piece-iterator.ensures.into_iter_gives in
    let road = YieldsList-from_vec {s = c.into_iter-piece-iterator.result} all gives.0 (gives.1 ∙ c.in_ok-pieces.pieces.ok.0) in
    let is = at_turn all before c.in-Some.piece (YieldsList-so_far road before c.loop-piece.piece-iterator c.loop-piece.yielded_by) (YieldsList-turn road before c.loop-piece.piece-iterator c.loop-piece.yielded_by c.next.result c.next.new.self c.in-Some.piece c.in-Some.is c.next.ensures.steps) in
    given_more _ c.args.join c.args.range.now c.are_gaps_kept-is_kept.result c.args.self.now c.loop-piece.self c.part.new.self before c.loop-piece.parts.items c.in-Some.piece c.loop-piece.invariant
    (piece_within c.args.range.now all before (drop (length before + 1) all) c.in-Some.piece c.in_ok-pieces.ensures.pieces.joins is) c.part.ensures.given

pub returns-in_err-push-clause-pulled : goal.returns-in_err-push-clause-pulled
returns-in_err-push-clause-pulled g c = λ no. let not_kept = c.are_gaps_kept-is_kept.ensures no in c.part.ensures.pulled not_kept ∙ c.loop-piece.invariant.pulled not_kept

-- ---- once all pieces are parts

pub returns-clause-join : goal.returns-clause-join
returns-clause-join g c =
    let all = c.in_ok-pieces.pieces.items in
    let before = c.loop-piece.yielded in
    let gives = c.into_iter-piece-iterator.ensures.into_iter_gives in
    let road = YieldsList-from_vec {s = c.into_iter-piece-iterator.result} all gives.0 (gives.1 ∙ c.in_ok-pieces.pieces.ok.0) in
    let whole = YieldsList-end road before c.loop-piece.piece-iterator c.loop-piece.yielded_by c.next.result c.next.new.self c.in-None.is c.next.ensures.steps in
    covers_join _ c.args.join c.args.range.now c.are_gaps_kept-is_kept.result c.args.self.now c.loop-piece.self all c.loop-piece.parts.items
    (covers_all _ c.args.join c.args.range.now c.are_gaps_kept-is_kept.result c.args.self.now c.loop-piece.self before all c.loop-piece.parts.items c.loop-piece.invariant (sym (map-id before) ∙ whole.0)) c.in_ok-pieces.ensures.pieces.joins

pub returns-clause-kept : goal.returns-clause-kept
returns-clause-kept g c =
    let all = c.in_ok-pieces.pieces.items in
    let before = c.loop-piece.yielded in
    let gives = c.into_iter-piece-iterator.ensures.into_iter_gives in
    let road = YieldsList-from_vec {s = c.into_iter-piece-iterator.result} all gives.0 (gives.1 ∙ c.in_ok-pieces.pieces.ok.0) in
    let whole = YieldsList-end road before c.loop-piece.piece-iterator c.loop-piece.yielded_by c.next.result c.next.new.self c.in-None.is c.next.ensures.steps in
    covers_kept _ c.args.join c.args.range.now c.are_gaps_kept-is_kept.result c.args.self.now c.loop-piece.self all c.loop-piece.parts.items
    (covers_all _ c.args.join c.args.range.now c.are_gaps_kept-is_kept.result c.args.self.now c.loop-piece.self before all c.loop-piece.parts.items c.loop-piece.invariant (sym (map-id before) ∙ whole.0)) c.in_ok-pieces.ensures.places

pub returns-clause-gaps : goal.returns-clause-gaps
returns-clause-gaps g c = λ part h.
    let all = c.in_ok-pieces.pieces.items in
    let before = c.loop-piece.yielded in
    let gives = c.into_iter-piece-iterator.ensures.into_iter_gives in
    let road = YieldsList-from_vec {s = c.into_iter-piece-iterator.result} all gives.0 (gives.1 ∙ c.in_ok-pieces.pieces.ok.0) in
    let whole = YieldsList-end road before c.loop-piece.piece-iterator c.loop-piece.yielded_by c.next.result c.next.new.self c.in-None.is c.next.ensures.steps in
    covers_gap _ c.args.join c.args.range.now c.are_gaps_kept-is_kept.result c.args.self.now c.loop-piece.self all c.loop-piece.parts.items
    (covers_all _ c.args.join c.args.range.now c.are_gaps_kept-is_kept.result c.args.self.now c.loop-piece.self before all c.loop-piece.parts.items c.loop-piece.invariant (sym (map-id before) ∙ whole.0))
    (listed_at c.args.self.now.listed c.args.join) c.in_ok-pieces.ensures.pieces.free_gaps part h

pub returns-clause-served : goal.returns-clause-served
returns-clause-served g c = λ id place listed inside.
    let all = c.in_ok-pieces.pieces.items in
    let before = c.loop-piece.yielded in
    let gives = c.into_iter-piece-iterator.ensures.into_iter_gives in
    let road = YieldsList-from_vec {s = c.into_iter-piece-iterator.result} all gives.0 (gives.1 ∙ c.in_ok-pieces.pieces.ok.0) in
    let whole = YieldsList-end road before c.loop-piece.piece-iterator c.loop-piece.yielded_by c.next.result c.next.new.self c.in-None.is c.next.ensures.steps in
    let ranges = listed_at c.args.self.now.listed c.args.join in
    covers_served _ c.args.join c.args.range.now c.are_gaps_kept-is_kept.result c.args.self.now c.loop-piece.self all c.loop-piece.parts.items
    (covers_all _ c.args.join c.args.range.now c.are_gaps_kept-is_kept.result c.args.self.now c.loop-piece.self before all c.loop-piece.parts.items c.loop-piece.invariant (sym (map-id before) ∙ whole.0)) id place
    (inside_is_kept ranges id place c.args.range.now all c.in_ok-pieces.ensures.pieces c.pieces.ensures.apart (has_from_contains ranges (place, id) listed) inside)

pub returns-clause-whole : goal.returns-clause-whole
returns-clause-whole g c = λ id place not_empty listed inside.
    let all = c.in_ok-pieces.pieces.items in
    let before = c.loop-piece.yielded in
    let gives = c.into_iter-piece-iterator.ensures.into_iter_gives in
    let road = YieldsList-from_vec {s = c.into_iter-piece-iterator.result} all gives.0 (gives.1 ∙ c.in_ok-pieces.pieces.ok.0) in
    let whole = YieldsList-end road before c.loop-piece.piece-iterator c.loop-piece.yielded_by c.next.result c.next.new.self c.in-None.is c.next.ensures.steps in
    let ranges = listed_at c.args.self.now.listed c.args.join in
    covers_whole _ c.args.join c.args.range.now c.are_gaps_kept-is_kept.result c.args.self.now c.loop-piece.self all c.loop-piece.parts.items
    (covers_all _ c.args.join c.args.range.now c.are_gaps_kept-is_kept.result c.args.self.now c.loop-piece.self before all c.loop-piece.parts.items c.loop-piece.invariant (sym (map-id before) ∙ whole.0)) id
    (whole_piece ranges id place c.args.range.now all c.in_ok-pieces.ensures.pieces c.pieces.ensures.apart (has_from_contains ranges (place, id) listed) inside not_empty)

pub returns-clause-none : goal.returns-clause-none
returns-clause-none g c = λ not_empty free.
    let all = c.in_ok-pieces.pieces.items in
    let before = c.loop-piece.yielded in
    let gives = c.into_iter-piece-iterator.ensures.into_iter_gives in
    let road = YieldsList-from_vec {s = c.into_iter-piece-iterator.result} all gives.0 (gives.1 ∙ c.in_ok-pieces.pieces.ok.0) in
    let whole = YieldsList-end road before c.loop-piece.piece-iterator c.loop-piece.yielded_by c.next.result c.next.new.self c.in-None.is c.next.ensures.steps in
    let ranges = listed_at c.args.self.now.listed c.args.join in
    covers_alone _ c.args.join c.args.range.now c.are_gaps_kept-is_kept.result c.args.self.now c.loop-piece.self all c.loop-piece.parts.items
    (covers_all _ c.args.join c.args.range.now c.are_gaps_kept-is_kept.result c.args.self.now c.loop-piece.self before all c.loop-piece.parts.items c.loop-piece.invariant (sym (map-id before) ∙ whole.0))
    (gap_piece ranges c.args.range.now all c.in_ok-pieces.ensures.pieces (apart_from_free c.args.range.now ranges free) not_empty)

pub returns-clause-given : goal.returns-clause-given
returns-clause-given g c = c.loop-piece.invariant.given

pub returns-clause-pulled : goal.returns-clause-pulled
returns-clause-pulled g c = λ no. c.loop-piece.invariant.pulled (c.are_gaps_kept-is_kept.ensures no)
