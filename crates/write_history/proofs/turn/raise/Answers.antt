use Rattle.std.proofs.Common.{◌≡◌, ◌+◌, ◌≤◌, ℕ, suc, ◌∷◌, [], refl, sym, ap, ◌∙◌, subst, arith}
use Rattle.atomic_table.specs.Table.{Allows}
use Rattle.write_history.specs.Marks.{words_of, IsLow}
use Rattle.write_history.specs.Rule.{Keeps}
use Rattle.write_history.specs.declared.known.Mark.{Mark}
use Rattle.write_history.specs.Steps.{Sat, raised}
use Rattle.write_history.proofs.Raising.{raises}
use Rattle.write_history.proofs.turn.raise.Goals as goal

pub store-requires : goal.store-requires
store-requires c =
    let board = c.args.board.now in
    let m = c.args.place.now.me in
    let place = c.drop_to.new.place in
    let has = c.requires.log in
    let dropped = c.drop_to.ensures.dropped has.0 has.1 has.2 has.3 has.4 in
    let size = c.requires.sized in (
      c.drop_to.ensures.own ∙ c.requires.own,
      omega arith,
      subst (λ n. Allows (Keeps board.key) board.table_id.slots place.id place.me 24 (λ k. n) (raised place.me)) (ap (λ (x : Sat). x.0.low) dropped.is ∙ c.requires.low)
          (raises board.key board.table_id.slots place.id place.me c.requires.number.0 has.0
          (ap (λ (x : Sat). x.0.role) dropped.is ∙ c.requires.number.1)
          (ap (λ (x : Sat). x.0.held) dropped.is ∙ has.2.held)
          (ap (λ (x : Sat). x.0.passed) dropped.is ∙ c.requires.passed ∙ ap (λ (x : Sat). words_of x.0.kinds) (sym dropped.is))
          (subst (λ (x : Sat). x.0.lacks ≤ x.0.low) (sym dropped.is) (subst (λ n. m.0.lacks ≤ n) (sym c.requires.low) has.3))),
    )

pub returns-clause-raised : goal.returns-clause-raised
returns-clause-raised c = λ h log has fits.
    let m = c.args.place.now.me in
    let low = c.requires.log in
    let dropped = c.drop_to.ensures.dropped h log has low.3 fits in
    record {
      log = dropped.log;
      low = subst (λ (x : Mark × ℕ). IsLow x.0 x.1) (λ i. ((dropped.is i).0.mark, (ap (λ (x : Sat). x.0.low) dropped.is ∙ c.requires.low) i)) c.store.ensures.2.0;
      is_log = dropped.is_log;
      is = c.store.ensures.2.1
          ∙ ap (λ (x : Sat). (record x.0 { floor = x.0.low; lacks = x.0.low }, x.1)) dropped.is
          ∙ ap (λ n. (record m.0 { floor = n; lacks = n }, (0, dropped.log) ∷ [])) c.requires.low;
    }
