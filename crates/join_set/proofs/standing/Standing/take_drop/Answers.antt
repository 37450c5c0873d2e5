use Rattle.std.proofs.Common.{◌≡◌, ◌+◌, ◌-◌, ◌^◌, ◌<◌, ◌≤◌, ◌++◌, ◌∙◌, length, drop, take, None, sym, ap, subst, arith}
use Rattle.std.proofs.lemmas.List.{length-map, take_at}
use Rattle.semantics.specs.Histories.{drop_join}
use Rattle.semantics.specs.Stays.{stays_after}
use Rattle.join_set.specs.Summaries.{Summary, IsOfSome, cause_over}
use Rattle.join_set.proofs.SummaryLemmas.{free-from_cause_over, free_drop, some_after, within_some}
use Rattle.join_set.proofs.standing.Standing.take_drop.Goals as goal

pub overflow_add-at : goal.overflow_add-at
overflow_add-at c =
    let room = (free-from_cause_over c.args.self.now (drop_join c.args.position) c.requires).0 in
    omega (arith, room, ap (λ (s : Summary). s.length) c.self.view_is)

pub take_out-requires-clause-later : goal.take_out-requires-clause-later
take_out-requires-clause-later c =
    let within : c.self.inside.joins.changed ≤ c.self.inside.entries = within_some _ c.self.invariant in
    omega (arith, within)

pub take_out-requires-clause-free : goal.take_out-requires-clause-free
take_out-requires-clause-free c =
    let kept : Summary = record { joins = c.self.inside.joins; length = c.self.inside.entries; floor = c.self.inside.floor; changed_at_floor = c.self.inside.changed_at_floor; stays = c.self.inside.stays.items } in
    free_drop kept c.args.position (subst (λ (s : Summary). cause_over s (drop_join c.args.position) ≡ None) (sym c.self.view_is) c.requires)

pub invariant_of-self-2 : goal.invariant_of-self-2
invariant_of-self-2 c =
    let inside = c.self.inside in
    let at = inside.entries + 1 in
    let position = c.args.position in
    let kept : Summary = record { joins = inside.joins; length = inside.entries; floor = inside.floor; changed_at_floor = inside.changed_at_floor; stays = inside.stays.items } in
    let free = subst (λ (s : Summary). cause_over s (drop_join position) ≡ None) (sym c.self.view_is) c.requires in
    let left = c.end_stays.new.stays in
    let is : left ≡ stays_after at (drop_join position) inside.stays.items = c.end_stays.ensures ∙ ap (stays_after at (drop_join position)) c.as_mut_slice.ensures.value in
    let long : length left ≡ inside.stays.len =
    ap (λ stays. length stays) is ∙ length-map inside.stays.items _ ∙ sym (ap (λ stays. length stays) c.as_mut_slice.ensures.value) ∙ c.as_mut_slice.ensures.len in
    let stays = take_at left (drop (length left) inside.stays.items) inside.stays.len long ∙ is in
    subst IsOfSome (λ i. record { joins = sym c.in_ok-take_out.ensures.removed i; length = at; floor = inside.floor; changed_at_floor = inside.changed_at_floor; stays = sym stays i }) (some_after kept (drop_join position) c.self.invariant free)
