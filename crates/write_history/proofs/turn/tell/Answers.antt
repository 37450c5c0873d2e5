use Rattle.std.proofs.Common.{ap, ◌∙◌, subst, arith}
use Rattle.write_history.specs.Steps.{Sat, Agrees, informed}
use Rattle.write_history.proofs.Dealing.{notes, informs, agrees}
use Rattle.write_history.proofs.Appending.{learns_from}
use Rattle.write_history.proofs.turn.tell.Goals as goal

pub split_seat-note-requires : goal.split_seat-note-requires
split_seat-note-requires c =
    let size = c.requires.sized in
    let place = c.args.place.now in
    (c.requires.own.0, omega arith, notes c.args.board.now.key place.id place.me.0 c.requires.resting.0.1.none_held)

pub join_seat-requires : goal.join_seat-requires
join_seat-requires c =
    let size = c.requires.sized in
    let other = c.args.other.now in
    let note = c.split_seat-note.result in
    let is = c.split_seat-note.ensures.4 in (
      c.requires.own.1,
      c.split_seat-note.ensures.3 ∙ c.requires.own.0,
      ap (λ (m : Sat). m.1) is,
      omega arith,
      informs c.args.board.now.key other.id note.id other.me.0 note.me.0 c.requires.resting.1.1.none_held (ap (λ (m : Sat). m.0.held) is) (ap (λ (m : Sat). m.0.role) is),
    )

pub load-requires : goal.load-requires
load-requires c =
    let size = c.requires.sized in
    let board = c.args.board.now in
    let other = c.join_seat.new.seat in
    let is = c.join_seat.ensures.2 in (
      c.join_seat.ensures.0 ∙ c.requires.own.1,
      omega arith,
      agrees board.key board.table_id.slots other.id other.me c.requires.resting.1.0 (ap (λ (m : Sat). m.0.role) is ∙ c.requires.resting.1.1.numbered) (ap (λ (m : Sat). m.0.held) is ∙ c.requires.resting.1.1.none_held),
    )

pub returns : goal.returns
returns c =
    let other = c.args.other.now in
    let place = c.args.place.now in
    let is = c.join_seat.ensures.2 ∙ ap (λ (m : Sat). (informed other.me.0 m.0, other.me.1)) c.split_seat-note.ensures.4 in
    record {
      own = (c.split_seat-note.ensures.0, c.load.ensures.0 ∙ c.join_seat.ensures.0);
      unchanged = c.split_seat-note.ensures.2;
      told = learns_from other.me place.me.0 c.load.new.seat.me (subst (λ (m : Sat). Agrees m c.load.new.seat.me) is c.load.ensures.2);
    }
