use Rattle.std.proofs.Common.{◌≡◌, ◌+◌, ◌-◌, ◌^◌, ◌<◌, ◌≤◌, ◌∙◌, ◌∷◌, ◌++◌, [], List, None, sym, ap, subst, arith}
use Rattle.semantics.specs.Histories.{declare}
use Rattle.semantics.specs.Verdicts.{join_cause}
use Rattle.semantics.specs.Stays.{Stay}
use Rattle.join_set.specs.Sets.{Joins, with_join}
use Rattle.join_set.specs.Summaries.{Summary, IsOfSome, cause_over}
use Rattle.join_set.proofs.SummaryLemmas.{free-from_cause_over, free_join, some_after, within_some}
use Rattle.join_set.proofs.standing.Standing.take_join.Goals as goal

pub overflow_add-at : goal.overflow_add-at
overflow_add-at c =
    let room = (free-from_cause_over c.args.self.now (declare c.args.join.now) c.requires).0 in
    omega (arith, room, ap (λ (s : Summary). s.length) c.self.view_is)

pub add-requires-clause-later : goal.add-requires-clause-later
add-requires-clause-later c =
    let within : c.self.inside.joins.changed ≤ c.self.inside.entries = within_some _ c.self.invariant in
    omega (arith, within)

pub add-requires-clause-free : goal.add-requires-clause-free
add-requires-clause-free c =
    let kept : Summary = record { joins = c.self.inside.joins; length = c.self.inside.entries; floor = c.self.inside.floor; changed_at_floor = c.self.inside.changed_at_floor; stays = c.self.inside.stays.items } in
    let free = subst (λ (s : Summary). cause_over s (declare c.args.join.now) ≡ None) (sym c.self.view_is) c.requires in
    ap (join_cause c.self.inside.joins.standing (c.self.inside.entries + 1)) c.in_ok-copy-2.ensures ∙ free_join kept c.args.join.now free

pub invariant_of-self-2 : goal.invariant_of-self-2
invariant_of-self-2 c =
    let inside = c.self.inside in
    let at = inside.entries + 1 in
    let kept : Summary = record { joins = inside.joins; length = inside.entries; floor = inside.floor; changed_at_floor = inside.changed_at_floor; stays = inside.stays.items } in
    let free = subst (λ (s : Summary). cause_over s (declare c.args.join.now) ≡ None) (sym c.self.view_is) c.requires in
    let joins : c.add.new.joins ≡ with_join at c.args.join.now inside.joins = c.in_ok-add.ensures.added ∙ ap (λ j. with_join at j inside.joins) c.in_ok-copy-2.ensures in
    let stay : Stay = record { position = at; join = c.args.join.now; until = None } in
    let stays : c.push.new.self.items ≡ inside.stays.items ++ stay ∷ [] =
    c.in-Ok.ensures.items ∙ (λ i. c.in_ok-reserve.ensures.items i ++ record { position = at; join = c.in_ok-copy.ensures i; until = None } ∷ []) in
    subst IsOfSome (λ i. record { joins = sym joins i; length = at; floor = inside.floor; changed_at_floor = inside.changed_at_floor; stays = sym stays i }) (some_after kept (declare c.args.join.now) c.self.invariant free)
