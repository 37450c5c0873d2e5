use Rattle.std.proofs.Common.{◌≡◌, ◌≤◌, ◌∙◌, List, take, max, sym, ap, subst, arith}
use Rattle.std.proofs.lemmas.Result.{IfOk-weaker}
use Rattle.semantics.specs.Histories.{DeclaredJoin}
use Rattle.semantics.specs.States.{IsAdmissible}
use Rattle.semantics.specs.Stays.{joins_at}
use Rattle.join_set.specs.Sets.{Joins, AreJoins, AreUpTo}
use Rattle.join_set.specs.Summaries.{Summary}
use Rattle.join_set.specs.Timelines.{changed_up_to, dropped_up_to}
use Rattle.join_set.proofs.StayLemmas.{joins_at_up_to}
use Rattle.join_set.proofs.SummaryLemmas.{admissible_some, taken_some}
use Rattle.join_set.proofs.standing.Standing.joins_at.Goals as goal

pub of-requires-clause-admissible : goal.of-requires-clause-admissible
of-requires-clause-admissible c =
    let above : c.self.inside.floor ≤ c.args.p = omega (arith, c.requires.above, ap (λ (s : Summary). s.floor) c.self.view_is) in
    subst (λ (js : List DeclaredJoin). IsAdmissible js) (sym (c.in_ok-joins.ensures ∙ ap (joins_at c.args.p) c.as_slice-stays.ensures.value)) (admissible_some _ c.args.p c.self.invariant above)

pub of-requires-clause-up_to : goal.of-requires-clause-up_to
of-requires-clause-up_to c =
    let low : changed_up_to c.args.p c.as_slice-stays.result.now ≤ c.max-changed.result = omega (arith, c.changed_up_to.ensures, c.max-changed.ensures) in
    subst (λ (js : List DeclaredJoin). AreUpTo c.max-changed.result js) (sym c.in_ok-joins.ensures) (joins_at_up_to c.args.p c.max-changed.result c.as_slice-stays.result.now low)

pub returns : goal.returns
returns c =
    let p = c.args.p in
    let stays = c.as_slice-stays.ensures.value ∙ ap (λ (s : Summary). s.stays) c.self.view_is in
    let floor_change = ap (λ (s : Summary). s.changed_at_floor) c.self.view_is in
    let joins = c.in_ok-joins.ensures ∙ ap (joins_at p) stays in
    let last = c.changed_up_to.ensures ∙ ap (changed_up_to p) stays in
    let changed = c.max-changed.ensures ∙ (λ i. max (floor_change i) (last i)) in
    IfOk-weaker c.of.result _ _
    (λ set is h s.
    subst (λ (j : Joins). AreJoins c.args.self.now.floor j (take p h)) (sym (is ∙ (λ i. record { standing = joins i; changed = changed i; drops = c.in_ok-drops.drops.items })))
    (taken_some c.args.self.now h p c.in_ok-drops.drops.items s c.requires.above c.requires.within (λ table. c.in_ok-drops.ensures table ∙ ap (dropped_up_to p table) stays)))
    c.of.ensures
