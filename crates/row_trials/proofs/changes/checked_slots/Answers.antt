use Rattle.std.proofs.Common.{◌≡◌, ◌==◌, true, false, cond, not, length, List, [], ◌∷◌, ◌++◌, Some, refl, sym, ap, ◌∙◌, subst, arith, eqb-true}
use Rattle.std.specs.List.{slice_get}
use Rattle.std.specs.Option.{IfSome}
use Rattle.semantics.specs.Texts.{Text}
use Rattle.semantics.specs.Patterns.{Slots, no_slots, bind}
use Rattle.semantics.specs.Joins.{Source, Join, is_check, is_join, checks_of, value_sources_of, keeps_slot_rule}
use Rattle.operators.specs.Evaluation.{CanGoOn}
use Rattle.operators.proofs.SlotLemmas.{can_start, goes_on}
use Rattle.row_trials.proofs.changes.checked_slots.Goals as goal

-- a check and then a source that is none are evaluated as they are written
in_order : (check copy : Source) → is_check check.operator ≡ true → is_check copy.operator ≡ false → checks_of (check ∷ copy ∷ []) ++ value_sources_of (check ∷ copy ∷ []) ≡ check ∷ copy ∷ []
in_order check copy first second = λ k.
    cond (first k) (check ∷ cond (second k) (copy ∷ []) []) (cond (second k) (copy ∷ []) [])
    ++ cond (not (first k)) (check ∷ cond (not (second k)) (copy ∷ []) []) (cond (not (second k)) (copy ∷ []) [])

-- once a key of the check gave its slots, the other source is left
after_check : (j : Join) (check copy : Source) (key : Text) (found : Slots) → is_join j ≡ true → keeps_slot_rule j ≡ true → j.sources ≡ check ∷ copy ∷ [] → is_check check.operator ≡ true → is_check copy.operator ≡ false → bind check.pattern key no_slots ≡ Some found →
    IfSome (slice_get j.sources 1) (λ s. CanGoOn j.output (s ∷ []) found)
after_check j check copy key found ok rule sources first second binds =
    let order = ap (λ (ss : List Source). checks_of ss ++ value_sources_of ss) sources ∙ in_order check copy first second in
    subst (λ (ss : List Source). IfSome (slice_get ss 1) (λ s. CanGoOn j.output (s ∷ []) found)) (sym sources)
    (goes_on j.output check (copy ∷ []) key no_slots found (subst (λ (ss : List Source). CanGoOn j.output ss no_slots) order (can_start j ok rule)) binds)

no_others : (others : List Source) → (length others == 0) ≡ true → others ≡ []
no_others [] e = refl
no_others (s ∷ ss) e = let none = eqb-true (length (s ∷ ss)) 0 e in absurd (omega arith)

pub returns-clause-goes_on : goal.returns-clause-goes_on
returns-clause-goes_on c =
    let j = c.args.join.now in
    let check = c.in-Some.check.now in
    let copy = c.in-Some-split_first.copy.now in
    let none = no_others c.in-Some-split_first.others.now (sym c.is_empty.ensures ∙ c.if-not-is_empty.false) in
    let sources : j.sources ≡ check ∷ copy ∷ [] = sym (ap (λ (k : Join). k.sources) c.join.view_is) ∙ sym c.as_slice.ensures.value ∙ c.in-Some.ensures.cases.0
    ∙ ap (λ (ss : List Source). check ∷ ss) (c.in-Some-split_first.ensures.cases.0 ∙ ap (λ (ss : List Source). copy ∷ ss) none) in
    let first = ap (λ (s : Source). is_check s.operator) (sym c.check.view_is) ∙ sym c.is_check.ensures ∙ c.if-not-is_check.false in
    let second = ap (λ (s : Source). is_check s.operator) (sym c.copy.view_is) ∙ sym c.is_check-else-not-is_check.ensures ∙ c.if-is_check.false in
    let binds = ap (λ (s : Source). bind s.pattern c.args.key.now no_slots) (sym c.check.view_is) ∙ ap (bind c.check.inside.pattern c.args.key.now) (sym c.none.ensures) ∙ sym c.matches.ensures.binds ∙ c.in-Some-matches.is in
    after_check j check copy c.args.key.now c.in-Some-matches.slots (ap is_join (sym c.join.view_is) ∙ c.join.invariant) c.requires sources first second binds
