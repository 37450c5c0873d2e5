use Rattle.std.proofs.Common.{◌≡◌, ℕ, suc, ◌<◌, ◌≤◌, length, get_or, List, ◌∷◌, sym, subst, arith, ◌∙◌}
use Rattle.std.proofs.lemmas.Grind.{common_steps}
use Rattle.std.specs.Ordering.{ord_max, nat_cmp}
use Rattle.growing_history.proofs.PrefixLemmas.{prefix_length}
use Rattle.write_history.specs.Passes.{HasSeen}
use Rattle.history_trials.proofs.appends.meet_each.Goals as goal

-- what is true of each element of a list is true of its first, and of each after it
one_more : {A : Type 0} (P : A → Type 0) (xs ys : List A) (x : A) → xs ≡ x ∷ ys → ((i : ℕ) (d : A) → i < length xs → P (get_or xs i d)) → P x × ((i : ℕ) (d : A) → i < length ys → P (get_or ys i d))
one_more P xs ys x e each =
    let each' = subst (λ l. (i : ℕ) (d : _) → i < length l → P (get_or l i d)) e each in
    (each' 0 x (omega arith), λ i d below. each' (suc i) d (omega arith))

-- the greater of two numbers that are within a bound
max_within : (a b bound : ℕ) → a ≤ bound → b ≤ bound → ord_max nat_cmp a b ≤ bound
max_within a b bound first second = grind (arith, common_steps)

pub loop-pass-preserved : goal.loop-pass-preserved
loop-pass-preserved g c =
    let now = one_more (λ p. HasSeen c.args.history.now p.0 p.1) _ _ _ c.in-Some.ensures.steps.0 c.loop-pass.invariant.4 in
    let longer = prefix_length _ _ c.meet.ensures.first.begins in
    let other = prefix_length _ _ c.meet.ensures.told.1 in
    let first : c.loop-pass.last ≤ length c.meet.new.a.view = omega (arith, c.loop-pass.invariant.2.within) in
    let second : c.in-Some.position ≤ length c.meet.new.a.view = omega (arith, now.0.within) in
    (tt, tt, record { same_history = c.meet.ensures.first.same_history ∙ c.loop-pass.invariant.2.same_history; within = subst (λ n. n ≤ length c.meet.new.a.view) (sym c.max-last.ensures) (max_within _ _ _ first second) }, c.meet.ensures.first.same_mark ∙ c.loop-pass.invariant.3, now.1)
