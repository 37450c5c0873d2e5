use Rattle.std.proofs.Common.{◌==◌, ◌<◌, ◌++◌, [], ◌∷◌, cond, length, refl, sym, ap, ◌∙◌, subst, eq-eqb, arith}
use Rattle.std.proofs.lemmas.List.{append-nil}
use Rattle.base_versions.specs.Own.{is_this, shard_written}
use Rattle.join_types.specs.Writes.{plain_write}
use Rattle.write_history.specs.Numbers.{Numbers, positions_of, numbers_of}
use Rattle.write_history.proofs.Numbering.{own_numbers, set_more}
use Rattle.write_history.proofs.part_numbers.PartNumbers.push.Goals as goal

pub push-requires : goal.push-requires
push-requires c =
    let parts = c.self.inside.parts.items in
    let part = c.in-Some.part in
    let less : part < length parts = omega (arith, c.in-Some.ensures.within, c.self.invariant) in
    let own = own_numbers parts part c.index_mut.result.now less c.index_mut.ensures.value in
    subst (λ (n : Numbers). 0 < n.room) (sym (own ∙ ap (numbers_of part) c.self.view_is)) (c.requires part (ap (is_this part) (sym c.in-Some.ensures.is) ∙ eq-eqb part part refl))

pub returns-in-Some : goal.returns-in-Some
returns-in-Some c = λ other.
    let parts = c.self.inside.parts.items in
    let part = c.in-Some.part in
    let position = c.args.position in
    let less : part < length parts = omega (arith, c.in-Some.ensures.within, c.self.invariant) in
    let own = own_numbers parts part c.index_mut.result.now less c.index_mut.ensures.value in
    set_more parts part position c.push.new.self less (c.push.ensures ∙ ap (λ (n : Numbers). n.positions ++ position ∷ []) own) other (part == other) refl
    ∙ ap (λ b. positions_of other parts ++ cond b (position ∷ []) []) (ap (is_this other) c.in-Some.ensures.is)
    ∙ ap (λ ns. positions_of other ns ++ cond (is_this other (shard_written 16 (plain_write c.args.write.now))) (position ∷ []) []) c.self.view_is

pub returns-in_default : goal.returns-in_default
returns-in_default c = λ other.
    sym (ap (λ b. positions_of other c.args.self.now ++ cond b (c.args.position ∷ []) []) (sym (ap (is_this other) c.in_default.ensures.is)) ∙ append-nil (positions_of other c.args.self.now))
