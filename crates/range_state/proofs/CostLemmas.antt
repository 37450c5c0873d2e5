-- What an advance over bare ranges costs.
use Rattle.std.proofs.Common.{◌≡◌, ℕ, ◌+◌, ◌≤◌, List, sym, ap, ◌∙◌, subst, arith}
use Rattle.std.proofs.lemmas.Option.{same_Some}
use Rattle.semantics.specs.Histories.{History}
use Rattle.range_evaluation.specs.Trees.{Need}
use Rattle.kept_ranges.specs.Sound.{KeptRange}
use Rattle.range_state.specs.Asking.{AreBareThroughout, asking_steps}
use Rattle.range_state.specs.Held.{range_kept}
use Rattle.range_state.specs.Ready.{StandsAt}
use Rattle.range_state.specs.Work.{advance_steps}
use Rattle.range_state.specs.declared.holding.Holding.{Holding}
use Rattle.range_state.specs.declared.subject.Subject.{Subject}

-- ---- where it is held

-- what is held stands where the kept range stands
pub same_place : (s : Subject) (held : Holding) (v : KeptRange) (q : ℕ) → range_kept s held ≡ v → StandsAt q v → held.position ≡ q
same_place s held v q view stands = same_Some _ _ (ap (λ (w : KeptRange). w.position) view ∙ stands)

-- the ranges of the needs that are held are bare from where it stands on
pub bare_held : (s : Subject) (held : Holding) (v : KeptRange) (h : History) (q p : ℕ) (needs : List Need) → range_kept s held ≡ v → StandsAt q v → needs ≡ held.rows.needs → AreBareThroughout h q p v.kept.needs → AreBareThroughout h held.position p needs
bare_held s held v h q p needs view stands are bare =
    let place : q ≡ held.position = sym (same_place s held v q view stands) in
    let same : v.kept.needs ≡ needs = sym (are ∙ ap (λ (w : KeptRange). w.kept.needs) view) in
    subst (λ (w : ℕ × List Need). AreBareThroughout h w.0 p w.1) (λ i. (place i, same i)) bare

-- ---- what it costs

-- to ask for the needs that are held costs what an advance of what is kept does
pub cost_held : (s : Subject) (held : Holding) (v : KeptRange) (h : History) (q p : ℕ) (needs : List Need) (before asked : ℕ) → range_kept s held ≡ v → StandsAt q v → needs ≡ held.rows.needs → asked ≡ before + asking_steps held.position p h needs
    → asked ≤ before + advance_steps h q p v.kept.needs
cost_held s held v h q p needs before asked view stands are asking =
    let place : held.position ≡ q = same_place s held v q view stands in
    let kept : needs ≡ v.kept.needs = are ∙ ap (λ (w : KeptRange). w.kept.needs) view in
    let own : asked ≤ before + asking_steps held.position p h needs = omega (arith, asking) in
    subst (λ (w : ℕ × List Need). asked ≤ before + advance_steps h w.0 p w.1) (λ i. (place i, kept i)) own
