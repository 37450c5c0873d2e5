use Rattle.std.proofs.Common.{◌≡◌, ◌+◌, ◌-◌, ◌≤◌, length, take, drop, sym, ap, ◌∙◌, subst, arith}
use Rattle.std.proofs.lemmas.Result.{IfOk-weaker}
use Rattle.semantics.specs.Histories.{History}
use Rattle.growing_history.proofs.PrefixLemmas.{prefix_length}
use Rattle.base_versions.specs.Own.{own_from}
use Rattle.write_history.specs.Stored.{Stored}
use Rattle.write_history.specs.Marks.{MayAsk}
use Rattle.write_history.specs.Passes.{PassView}
use Rattle.write_history.specs.Steps.{Sat, HasLog}
use Rattle.write_history.proofs.Appending.{asks, range_of_log, taken_log}
use Rattle.write_history.proofs.history.History.entries_of.Goals as goal

pub copy_own-copies-requires-clause-log : goal.copy_own-copies-requires-clause-log
copy_own-copies-requires-clause-log g c =
    let m = c.pass.inside.place.me in
    let now = c.take_turn.new.place.me in
    let turn = c.take_turn.ensures.taken in
    let may : MayAsk m.0.mark c.args.from = subst (λ (p : PassView). MayAsk p.mark c.args.from) (sym c.pass.view_is) c.requires.kept in
    let less = asks m.0.mark turn.floor c.args.from turn.low may in
    let within = subst (λ (p : PassView). c.args.to ≤ length p.view) (sym c.pass.view_is) c.requires.within in (
      turn.history,
      turn.log,
      taken_log m now turn c.pass.invariant.empty,
      subst (λ n. n ≤ c.args.from) (sym (ap (λ (x : Sat). x.0.lacks) turn.is)) less,
      (let more = prefix_length m.0.seen turn.history turn.begins in omega arith),
    )

pub returns-clause-entries : goal.returns-clause-entries
returns-clause-entries g c =
    let from = c.args.from in
    let to = c.args.to in
    let m = c.pass.inside.place.me in
    let now = c.take_turn.new.place.me in
    let turn = c.take_turn.ensures.taken in
    let within = subst (λ (p : PassView). to ≤ length p.view) (sym c.pass.view_is) c.requires.within in
    IfOk-weaker c.copy_own-copies.result
    (λ copies. (h : History) (log : Stored) → HasLog h log now → copies.items ≡ own_from 16 c.args.part (from + 1) (take (to - from) (drop from h)))
    (λ copies. copies.items ≡ own_from 16 c.args.part (from + 1) (take (to - from) (drop from c.args.pass.now.view)))
    (λ copies each. each turn.history turn.log (taken_log m now turn c.pass.invariant.empty)
    ∙ ap (own_from 16 c.args.part (from + 1)) (range_of_log m now turn from to c.requires.order within ∙ ap (λ (p : PassView). take (to - from) (drop from p.view)) c.pass.view_is))
    c.copy_own-copies.ensures.copies
