use Rattle.std.proofs.Common.{◌≡◌, ◌+◌, [], ◌∷◌, length, slice_get, refl, sym, ap, ◌∙◌, subst, arith}
use Rattle.std.proofs.lemmas.List.{length-append}
use Rattle.write_history.specs.Passes.{PassView, new_pass}
use Rattle.write_history.specs.Steps.{Sat, IsResting, dealing, dealt}
use Rattle.write_history.proofs.Entering.{IsRecorded-nil}
use Rattle.write_history.proofs.Lists.{each_push}
use Rattle.write_history.proofs.Marking.{first_low, first_placed}
use Rattle.write_history.proofs.Dealing.{deals}
use Rattle.write_history.proofs.history.deal.Goals as goal

pub split_seat-place-requires : goal.split_seat-place-requires
split_seat-place-requires c =
    let size = c.requires.sized in
    let first = c.loop-number.first in
    let now = c.loop-number.invariant in
    (now.own, omega arith, deals c.args.board.now.key first.id first.me.0 c.loop-number.number (ap (λ (m : Sat). m.0.role) now.next) (ap (λ (m : Sat). m.0.held) now.next))

pub invariant_of-push : goal.invariant_of-push
invariant_of-push c =
    let is = c.split_seat-place.ensures.4 ∙ ap (λ (m : Sat). (dealt m.0, [])) c.loop-number.invariant.next in
    subst (λ (m : Sat). IsResting c.loop-number.number m) (sym is) (record { numbered = refl; empty = refl; none_told = refl; none_held = refl; recorded = IsRecorded-nil c.args.board.now.key.writers; low = first_low c.args.board.now.key c.loop-number.number; placed = first_placed c.args.board.now.key c.loop-number.number })

pub loop-number-preserved : goal.loop-number-preserved
loop-number-preserved c =
    let now = c.loop-number.invariant in
    let board = c.args.board.now in
    let number = c.loop-number.number in
    let place = c.split_seat-place.result in
    let old = c.loop-number.passes.items in
    let pass : PassView = record { history = record { table = place.table_id; kinds = place.me.0.kinds }; number = number; writers = place.me.0.kinds.writers; view = place.me.0.seen; mark = place.me.0.mark; floor = place.me.0.floor } in
    let is = c.split_seat-place.ensures.4 ∙ ap (λ (m : Sat). (dealt m.0, [])) now.next in
    let own = c.split_seat-place.ensures.3 ∙ now.own in
    let pass_is : pass ≡ new_pass (record { table = board.table_id; kinds = board.key }) number =
    λ i. record { history = record { table = own i; kinds = (is i).0.kinds }; number = number; writers = (is i).0.kinds.writers; view = (is i).0.seen; mark = (is i).0.mark; floor = (is i).0.floor } in
    let items = c.in_ok-push.ensures.items in
    record {
      own = c.split_seat-place.ensures.0 ∙ now.own;
      next = c.split_seat-place.ensures.2 ∙ ap (λ (m : Sat). (dealing m.0, m.1)) now.next;
      count = ap length items ∙ length-append old (pass ∷ []) ∙ ap (λ n. n + 1) now.count;
      each = λ n less. ap (λ passes. slice_get passes n) items ∙ each_push old pass number (λ k. new_pass (record { table = board.table_id; kinds = board.key }) k) now.count now.each pass_is n less;
    }
