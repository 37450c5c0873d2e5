use Rattle.std.proofs.Common.{sym, ◌∙◌, subst, string_bytes}
use Rattle.semantics.proofs.MemberLemmas.{Has, has_from_contains}
use Rattle.key_ranges.proofs.OrderLemmas.{up_to_itself}
use Rattle.range_set.specs.Held.{Held}
use Rattle.range_set.proofs.StoredLemmas.{none_before, ends_at_start}
use Rattle.range_set.proofs.range_set.RangeSet.start.Goals as goal

pub returns-in-None-clause-up_to : goal.returns-in-None-clause-up_to
returns-in-None-clause-up_to g c = up_to_itself (string_bytes c.args.low.now)

pub returns-in-None-clause-passed : goal.returns-in-None-clause-passed
returns-in-None-clause-passed g c e h b =
    let has = subst (λ (l : Held g.row.T.Denot). Has l e) (sym c.self.view_is) (has_from_contains c.args.self.now e h) in
    absurd (none_before string_bytes (string_bytes c.args.low.now) c.self.inside.ranges.entries c.self.invariant.own
    (sym (c.range-before.ensures.between tt) ∙ c.in-None.ensures.steps.0) e has b)

pub returns-in-Some-clause-passed : goal.returns-in-Some-clause-passed
returns-in-Some-clause-passed g c e h b =
    let has = subst (λ (l : Held g.row.T.Denot). Has l e) (sym c.self.view_is) (has_from_contains c.args.self.now e h) in
    ends_at_start string_bytes (string_bytes c.args.low.now) c.self.inside.ranges.entries c.next_back.new.self c.in-Some.text.now c.in-Some.field-0-1.now c.self.invariant.own c.self.invariant.apart
    (sym (c.range-before.ensures.between tt) ∙ c.in-Some.ensures.steps) e has b
