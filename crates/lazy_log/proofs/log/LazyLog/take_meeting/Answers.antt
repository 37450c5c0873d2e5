use Rattle.std.proofs.Common.{List, ◌++◌, filter, not, sym, ap, ◌∙◌}
use Rattle.semantics.specs.Patterns.{Slots}
use Rattle.lazy_log.specs.Pending.{PendingSlots, meets_held, meets_output}
use Rattle.lazy_log.specs.Held.{slots_of}
use Rattle.lazy_log.specs.declared.log.Noted.{Noted}
use Rattle.lazy_log.proofs.PendingLemmas.{left_held, left_slots, none_passes, taken_slots}
use Rattle.lazy_log.proofs.log.LazyLog.take_meeting.Goals as goal

pub invariant_of-self : goal.invariant_of-self
invariant_of-self c = (
  left_held c.self.inside.output c.args.range.now c.self.inside.noted.items c.in_ok-left.left.items c.part.new.left.items c.self.invariant.0 c.in_ok-left.ensures.items
      (c.part.ensures.left ∙ (λ i. c.in_ok-left.left.items ++ filter (λ (n : Noted). not (meets_held n.held c.args.range.now)) (c.replace-noted.ensures.value i).items)),
  tt,
)

pub returns-clause-taken : goal.returns-clause-taken
returns-clause-taken c =
    taken_slots c.self.inside.output c.args.range.now c.self.inside.noted.items c.in_ok-taken.taken.items c.part.new.taken.items c.self.invariant.0 c.in_ok-taken.ensures.items
    (c.part.ensures.taken ∙ (λ i. c.in_ok-taken.taken.items ++ slots_of (filter (λ (n : Noted). meets_held n.held c.args.range.now) (c.replace-noted.ensures.value i).items)))
    ∙ ap (λ (log : PendingSlots). filter (meets_output log.output c.args.range.now) log.noted) c.self.view_is

pub returns-clause-left : goal.returns-clause-left
returns-clause-left c =
    let left = left_slots c.self.inside.output c.args.range.now c.self.inside.noted.items c.in_ok-left.left.items c.part.new.left.items c.self.invariant.0 c.in_ok-left.ensures.items
    (c.part.ensures.left ∙ (λ i. c.in_ok-left.left.items ++ filter (λ (n : Noted). not (meets_held n.held c.args.range.now)) (c.replace-noted.ensures.value i).items)) in
    (λ i. record { output = c.self.inside.output; noted = left i })
    ∙ ap (λ (log : PendingSlots). record { output = log.output; noted = filter (λ slots. not (meets_output log.output c.args.range.now slots)) log.noted }) c.self.view_is

pub returns-then-not-meets-clause-taken : goal.returns-then-not-meets-clause-taken
returns-then-not-meets-clause-taken c =
    c.new.ensures.items ∙ sym (none_passes (meets_output c.args.self.now.output c.args.range.now) c.args.self.now.noted (sym c.if-not-meets.ensures)).0

pub returns-then-not-meets-clause-left : goal.returns-then-not-meets-clause-left
returns-then-not-meets-clause-left c =
    ap (λ (noted : List Slots). record { output = c.args.self.now.output; noted = noted })
    (sym (none_passes (meets_output c.args.self.now.output c.args.range.now) c.args.self.now.noted (sym c.if-not-meets.ensures)).1)
