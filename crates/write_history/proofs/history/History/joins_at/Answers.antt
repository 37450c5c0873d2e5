use Rattle.std.proofs.Common.{◌≤◌, ◌∙◌, ℕ, length, take, sym, ap, subst, arith}
use Rattle.std.proofs.lemmas.Result.{IfOk-weaker}
use Rattle.semantics.specs.Histories.{History}
use Rattle.growing_history.proofs.PrefixLemmas.{prefix_length}
use Rattle.join_set.specs.Sets.{AreJoins}
use Rattle.join_set.proofs.BareLemmas.{AreJoins-higher}
use Rattle.write_history.specs.Stored.{Stored}
use Rattle.write_history.specs.Marks.{MayAsk}
use Rattle.write_history.specs.Passes.{PassView}
use Rattle.write_history.specs.Steps.{Sat, HasLog}
use Rattle.write_history.proofs.Appending.{asks, taken_log}
use Rattle.write_history.proofs.Telling.{first_of_view}
use Rattle.write_history.proofs.history.History.joins_at.Goals as goal

pub make_joins_at-joins-requires-clause-log : goal.make_joins_at-joins-requires-clause-log
make_joins_at-joins-requires-clause-log g c =
    let m = c.pass.inside.place.me in
    let now = c.take_turn.new.place.me in
    let turn = c.take_turn.ensures.taken in
    let may : MayAsk m.0.mark c.args.p = subst (λ (v : PassView). MayAsk v.mark c.args.p) (sym c.pass.view_is) c.requires.kept in
    let less = asks m.0.mark turn.floor c.args.p turn.low may in
    let within = subst (λ (v : PassView). c.args.p ≤ length v.view) (sym c.pass.view_is) c.requires.within in (
      turn.history,
      turn.log,
      taken_log m now turn c.pass.invariant.empty,
      subst (λ n. n ≤ c.args.p) (sym (ap (λ (x : Sat). x.0.lacks) turn.is)) less,
      (let more = prefix_length m.0.seen turn.history turn.begins in omega arith),
    )

pub returns-clause-joins : goal.returns-clause-joins
returns-clause-joins g c =
    let p = c.args.p in
    let m = c.pass.inside.place.me in
    let now = c.take_turn.new.place.me in
    let turn = c.take_turn.ensures.taken in
    let within = subst (λ (v : PassView). p ≤ length v.view) (sym c.pass.view_is) c.requires.within in
    let first = first_of_view m now turn p within ∙ ap (λ (v : PassView). take p v.view) c.pass.view_is in
    IfOk-weaker c.make_joins_at-joins.result
    (λ joins. (h : History) (log : Stored) → HasLog h log now → AreJoins now.0.lacks joins (take p h))
    (λ joins. (from : ℕ) → MayAsk c.args.pass.now.mark from → AreJoins from joins (take p c.args.pass.now.view))
    (λ joins each from may.
    let asked : MayAsk m.0.mark from = subst (λ (v : PassView). MayAsk v.mark from) (sym c.pass.view_is) may in
    let low : now.0.lacks ≤ from = subst (λ n. n ≤ from) (sym (ap (λ (x : Sat). x.0.lacks) turn.is)) (asks m.0.mark turn.floor from turn.low asked) in
    AreJoins-higher now.0.lacks from joins (take p c.args.pass.now.view) low
    (subst (λ (h : History). AreJoins now.0.lacks joins h) first (each turn.history turn.log (taken_log m now turn c.pass.invariant.empty))))
    c.make_joins_at-joins.ensures.joins
