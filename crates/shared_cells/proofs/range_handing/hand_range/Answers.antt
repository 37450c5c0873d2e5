use Rattle.std.proofs.Common.{◌≡◌, ◌≤◌, length, sym, subst, arith}
use Rattle.std.proofs.lemmas.Grind.{common_steps}
use Rattle.std.proofs.lemmas.List.{nil_from_length}
use Rattle.std.proofs.lemmas.Result.{IfOk-weaker}
use Rattle.growing_history.proofs.PrefixLemmas.{prefix_length}
use Rattle.join_eval.specs.Moves.{Moves}
use Rattle.join_eval.proofs.MovesLemmas.{moves_trans}
use Rattle.cell_slots.proofs.DeclaredLemmas.{stands_over}
use Rattle.shared_cells.proofs.RangeHandingLemmas.{handed_state, only_stands}
use Rattle.shared_cells.proofs.range_handing.hand_range.Goals as goal

pub returns-in_err-seen-clause-moves : goal.returns-in_err-seen-clause-moves
returns-in_err-seen-clause-moves g c = record {
  kept = c.pairs.ensures.kept;
  entered = λ _. c.pairs.ensures.entered;
  same_floor = c.pairs.ensures.same_floor;
  on = c.pairs.ensures.on;
}

pub hand_join-requires-clause-within : goal.hand_join-requires-clause-within
hand_join-requires-clause-within g c = omega (arith, c.requires.within, prefix_length (g.R.Reader.list c.args.reader.now) (g.R.Reader.list c.pairs.new.self) c.pairs.ensures.kept)

pub hand_join-requires-clause-above : goal.hand_join-requires-clause-above
hand_join-requires-clause-above g c = subst (λ n. n ≤ c.args.p) (sym c.pairs.ensures.same_floor) c.requires.above

pub hand_join-requires-clause-stands : goal.hand_join-requires-clause-stands
hand_join-requires-clause-stands g c =
    let list = g.R.Reader.list in
    let only = c.requires.only in (
      only.join,
      stands_over (list c.args.reader.now) (list c.pairs.new.self) c.args.p c.args.at c.args.rank only.join c.requires.within c.pairs.ensures.kept
          (only_stands (list c.args.reader.now) c.args.p c.args.at c.args.rank c.args.range.now only),
    )

pub returns-then-is_empty-clause-handed : goal.returns-then-is_empty-clause-handed
returns-then-is_empty-clause-handed g c =
    let list = g.R.Reader.list in
    let short : length c.in_ok-seen.seen.items ≡ 0 = grind (arith, common_steps) in
    IfOk-weaker c.hand_join.result _ _ (λ gave handed.
    handed_state g.K.RowSink.got (list c.args.reader.now) (list c.pairs.new.self) c.args.p c.args.at c.args.rank c.args.range.now c.in_ok-seen.seen.items c.args.sink.now c.hand_join.new.sink c.pairs.new.steps c.hand_join.new.steps gave
    c.requires.within c.pairs.ensures.kept c.pairs.ensures.entered c.look_at.ensures c.requires.only c.in_ok-seen.ensures.exact (nil_from_length c.in_ok-seen.seen.items short) handed) c.hand_join.ensures.handed

pub returns-then-is_empty-clause-moves : goal.returns-then-is_empty-clause-moves
returns-then-is_empty-clause-moves g c =
    let list = g.R.Reader.list in let floor = g.R.Reader.floor in let went = g.R.Reader.went in
    let read : Moves list floor went c.args.reader.now c.pairs.new.self = record { kept = c.pairs.ensures.kept; entered = λ _. c.pairs.ensures.entered; same_floor = c.pairs.ensures.same_floor; on = c.pairs.ensures.on } in
    moves_trans list floor went c.args.reader.now c.pairs.new.self c.hand_join.new.reader (g.met.R.Reader.went_trans c.args.reader.now c.pairs.new.self c.hand_join.new.reader) read c.hand_join.ensures.moves

pub returns-clause-moves : goal.returns-clause-moves
returns-clause-moves g c = record {
  kept = c.pairs.ensures.kept;
  entered = λ _. c.pairs.ensures.entered;
  same_floor = c.pairs.ensures.same_floor;
  on = c.pairs.ensures.on;
}
