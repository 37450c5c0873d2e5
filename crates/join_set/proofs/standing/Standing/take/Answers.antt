use Rattle.std.proofs.Common.{◌≡◌, None, sym, subst}
use Rattle.join_types.specs.declared.write.Write.{Write}
use Rattle.join_types.specs.Writes.{plain_write}
use Rattle.join_set.specs.Summaries.{Summary, cause_over}
use Rattle.join_set.proofs.SummaryLemmas.{some_after}
use Rattle.join_set.proofs.standing.Standing.take.Goals as goal

pub take_join-requires : goal.take_join-requires
take_join-requires c = subst (λ (w : Write). cause_over c.args.self.now (plain_write w) ≡ None) c.in-Declare.is c.requires

pub take_drop-requires : goal.take_drop-requires
take_drop-requires c = subst (λ (w : Write). cause_over c.args.self.now (plain_write w) ≡ None) c.in-Drop.is c.requires

pub invariant_of-self : goal.invariant_of-self
invariant_of-self c =
    let inside = c.self.inside in
    let kept : Summary = record { joins = inside.joins; length = inside.entries; floor = inside.floor; changed_at_floor = inside.changed_at_floor; stays = inside.stays.items } in
    let free = subst (λ (s : Summary). cause_over s (plain_write c.args.write.now) ≡ None) (sym c.self.view_is) c.requires in
    some_after kept _ c.self.invariant (subst (λ (w : Write). cause_over kept (plain_write w) ≡ None) c.in-Put.is free)

pub invariant_of-self-in-Remove : goal.invariant_of-self-in-Remove
invariant_of-self-in-Remove c =
    let inside = c.self-in-Remove.inside in
    let kept : Summary = record { joins = inside.joins; length = inside.entries; floor = inside.floor; changed_at_floor = inside.changed_at_floor; stays = inside.stays.items } in
    let free = subst (λ (s : Summary). cause_over s (plain_write c.args.write.now) ≡ None) (sym c.self-in-Remove.view_is) c.requires in
    some_after kept _ c.self-in-Remove.invariant (subst (λ (w : Write). cause_over kept (plain_write w) ≡ None) c.in-Remove.is free)
