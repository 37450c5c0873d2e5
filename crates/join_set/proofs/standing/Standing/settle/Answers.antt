use Rattle.std.proofs.Common.{◌≡◌, ℕ, ◌≤◌, ◌∙◌, List, max, sym, ap, subst, arith}
use Rattle.semantics.specs.Stays.{Stay}
use Rattle.join_set.specs.Sets.{Joins, without_drops}
use Rattle.join_set.specs.Summaries.{Summary, StandsFor, IsOfSome, summary_settled}
use Rattle.join_set.specs.Timelines.{changed_up_to, kept_stays}
use Rattle.join_set.proofs.SummaryLemmas.{StandsFor-settled, some_settled}
use Rattle.join_set.proofs.standing.Standing.settle.Goals as goal

-- the summary with the floor, by the joins without the drops up to there, the last change up to there and the stays that are left
settled_is : (summary : Summary) (floor changed last : ℕ) (joins : Joins) (stays : List Stay) → changed ≡ max summary.changed_at_floor last → last ≡ changed_up_to floor summary.stays → joins ≡ without_drops floor summary.joins →
    stays ≡ kept_stays floor summary.stays → record { joins = joins; length = summary.length; floor = floor; changed_at_floor = changed; stays = stays } ≡ summary_settled floor summary
settled_is summary floor changed last joins stays greatest told forgotten left =
    let later : changed ≡ max summary.changed_at_floor (changed_up_to floor summary.stays) = greatest ∙ ap (max summary.changed_at_floor) told in
    λ i. record { joins = forgotten i; length = summary.length; floor = floor; changed_at_floor = later i; stays = left i }

pub invariant_of-self : goal.invariant_of-self
invariant_of-self c =
    let inside = c.self.inside in
    let floor = c.args.floor in
    let kept : Summary = record { joins = inside.joins; length = inside.entries; floor = inside.floor; changed_at_floor = inside.changed_at_floor; stays = inside.stays.items } in
    let told = c.changed_up_to-last.ensures ∙ ap (changed_up_to floor) c.as_slice.ensures.value in
    let rises : inside.floor ≤ floor = omega (arith, c.requires.rises, ap (λ (s : Summary). s.floor) c.self.view_is) in
    let within : floor ≤ inside.entries = omega (arith, c.requires.within, ap (λ (s : Summary). s.length) c.self.view_is) in
    subst (λ (s : Summary). IsOfSome s)
    (sym (settled_is kept floor c.max-changed.result c.changed_up_to-last.result c.forget_drops.new.self c.keep_stays.new.stays.items c.max-changed.ensures told c.forget_drops.ensures c.keep_stays.ensures))
    (some_settled kept floor c.self.invariant rises within)

pub returns-clause-exact : goal.returns-clause-exact
returns-clause-exact c =
    let inside = c.self.inside in
    let kept : Summary = record { joins = inside.joins; length = inside.entries; floor = inside.floor; changed_at_floor = inside.changed_at_floor; stays = inside.stays.items } in
    let told = c.changed_up_to-last.ensures ∙ ap (changed_up_to c.args.floor) c.as_slice.ensures.value in
    settled_is kept c.args.floor c.max-changed.result c.changed_up_to-last.result c.forget_drops.new.self c.keep_stays.new.stays.items c.max-changed.ensures told c.forget_drops.ensures c.keep_stays.ensures
    ∙ ap (summary_settled c.args.floor) c.self.view_is

pub returns-clause-history : goal.returns-clause-history
returns-clause-history c h stands =
    let inside = c.self.inside in
    let kept : Summary = record { joins = inside.joins; length = inside.entries; floor = inside.floor; changed_at_floor = inside.changed_at_floor; stays = inside.stays.items } in
    let told = c.changed_up_to-last.ensures ∙ ap (changed_up_to c.args.floor) c.as_slice.ensures.value in
    let exact =
    settled_is kept c.args.floor c.max-changed.result c.changed_up_to-last.result c.forget_drops.new.self c.keep_stays.new.stays.items c.max-changed.ensures told c.forget_drops.ensures c.keep_stays.ensures
    ∙ ap (summary_settled c.args.floor) c.self.view_is in
    subst (λ (s : Summary). StandsFor s h) (sym exact) (StandsFor-settled c.args.self.now h c.args.floor stands c.requires.rises c.requires.within)
