use Rattle.std.proofs.Common.{◌≡◌, [], ◌∷◌, ◌++◌, Some, sym, ap, ◌∙◌, subst, refl, arith}
use Rattle.atomic_table.specs.Table.{Allows}
use Rattle.write_history.specs.Rule.{Keeps}
use Rattle.write_history.specs.Steps.{Sat, entered, whole_by}
use Rattle.write_history.proofs.Turning.{enters, whole_is}
use Rattle.write_history.proofs.turn.enter.Goals as goal

pub store-requires : goal.store-requires
store-requires c =
    let has = c.requires.log in
    let h = has.0 in
    let board = c.args.board.now in
    let place = c.take_entry.new.place in
    let taken = c.in-Ok.ensures.taken h has.1 has.2 in
    let size = c.requires.sized in (
      c.take_entry.ensures.own ∙ c.requires.own,
      omega arith,
      subst (λ (m : Sat). Allows (Keeps board.key) board.table_id.slots place.id m 16 (λ n. c.in-Ok.count) (λ n. entered m c.in-Ok.count)) (sym taken.is)
          (enters board.key board.table_id.slots place.id (c.args.place.now.me.0, (0, taken.log) ∷ []) c.args.entry.client h taken.log c.args.entry c.in-Ok.count
          c.requires.number has.2.held refl has.2.is_log.within taken.takes.is_log refl c.requires.writer taken.takes.free taken.takes.write taken.takes.counted),
    )

pub returns-in-Ok-clause-entered : goal.returns-in-Ok-clause-entered
returns-in-Ok-clause-entered c = λ h log has.
    let m = c.args.place.now.me in
    let e = c.args.entry in
    let taken = c.in-Ok.ensures.taken h log has in
    let carried : Sat = (m.0, (0, taken.log) ∷ []) in
    let whole : whole_by carried ≡ h ++ e ∷ [] = whole_is carried h taken.log e has.held refl has.is_log.within taken.takes.is_log in
    record {
      log = taken.log;
      takes = taken.takes;
      is = c.store.ensures.2
          ∙ ap (λ (x : Sat). (record x.0 { seen = whole_by x; held = Some (whole_by x) }, x.1)) taken.is
          ∙ ap (λ es. (record m.0 { seen = es; held = Some es }, (0, taken.log) ∷ [])) whole;
    }
