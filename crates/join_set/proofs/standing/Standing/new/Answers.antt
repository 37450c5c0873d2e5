use Rattle.std.proofs.Common.{◌≡◌, ◌<◌, ◌^◌, [], sym, subst, arith}
use Rattle.join_set.specs.Summaries.{Summary, no_summary, StandsFor, IsOfSome}
use Rattle.join_set.proofs.SummaryLemmas.{StandsFor-nil}
use Rattle.join_set.proofs.standing.Standing.new.Goals as goal

pub invariant_of-result : goal.invariant_of-result
invariant_of-result c =
    let none : no_summary ≡ record { joins = c.new.result; length = 0; floor = 0; changed_at_floor = 0; stays = c.new-2.result.items } = λ i. record { joins = sym c.new.ensures i; length = 0; floor = 0; changed_at_floor = 0; stays = sym c.new-2.ensures.items i } in
    subst (λ (s : Summary). IsOfSome s) none (record { history = []; stands = StandsFor-nil; room = omega arith })

pub returns : goal.returns
returns c =
    let none : no_summary ≡ record { joins = c.new.result; length = 0; floor = 0; changed_at_floor = 0; stays = c.new-2.result.items } = λ i. record { joins = sym c.new.ensures i; length = 0; floor = 0; changed_at_floor = 0; stays = sym c.new-2.ensures.items i } in
    subst (λ (s : Summary). StandsFor s []) none StandsFor-nil
