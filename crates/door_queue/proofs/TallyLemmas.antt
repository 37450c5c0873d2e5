-- Each move keeps the rule of a tallied queue.
use Rattle.std.proofs.Common.{◌≡◌, ◌≢◌, ℕ, zero, suc, ◌+◌, ◌-◌, ◌<◌, ◌≤◌, List, [], ◌∷◌, ◌++◌, set, refl, sym, ap, ◌∙◌, subst, arith, ⊎_elim}
use mathlib.Core.Option.{some, some-ne-none, some-injective}
use lib.ListN.{get_elem?}
use Rattle.crossbeam_queue.specs.Fifo.{Pushes, Pops, Forks, Merges, Learns}
use Rattle.crossbeam_queue.proofs.Lists.{at_set, at_snoc}
use Rattle.door_queue.specs.declared.tally.Hand.{Hand}
use Rattle.door_queue.specs.Tallies.{weigh, all_parts, hand, whole_hand, without_part, with_put, with_taken, both_hands, IdleIsEmpty, IsBalanced, WhatIsLeft}

-- ---- weights

pub weigh-append : {T : Type 0} (weight : T → ℕ) (xs ys : List T) → weigh weight (xs ++ ys) ≡ weigh weight xs + weigh weight ys
weigh-append weight [] ys = omega arith
weigh-append weight (x ∷ xs) ys = let s = weigh-append weight xs ys in omega arith

-- the total after a change of one pass
weigh-set : {V : Type 0} (f : V → ℕ) (views : List V) (port : ℕ) (v w : V) → get_elem? views port ≡ some v → weigh f (set views port w) + f v ≡ weigh f views + f w
weigh-set f [] port v w at = absurd (some-ne-none v (sym at))
weigh-set f (x ∷ xs) zero v w at = let same : f x ≡ f v = ap f (some-injective x v at) in omega arith
weigh-set f (x ∷ xs) (suc port) v w at = let s = weigh-set f xs port v w at in omega arith

-- no pass weighs more than all
weigh-within : {V : Type 0} (f : V → ℕ) (views : List V) (port : ℕ) (v : V) → get_elem? views port ≡ some v → f v ≤ weigh f views
weigh-within f [] port v at = absurd (some-ne-none v (sym at))
weigh-within f (x ∷ xs) zero v at = let same : f x ≡ f v = ap f (some-injective x v at) in omega arith
weigh-within f (x ∷ xs) (suc port) v at = let s = weigh-within f xs port v at in omega arith

-- where none has a part, and f is 0 of each that has none, all weigh 0
weigh-none : {V : Type 0} (parts f : V → ℕ) (views : List V) → weigh parts views ≡ 0 → ((port : ℕ) (v : V) → get_elem? views port ≡ some v → parts v ≡ 0 → f v ≡ 0) → weigh f views ≡ 0
weigh-none parts f [] none idle = refl
weigh-none parts f (x ∷ xs) none idle =
    let first = idle 0 x refl (omega arith) in
    let rest = weigh-none parts f xs (omega arith) (λ port v at. idle (suc port) v at) in
    omega arith

-- where one has all parts, and f is 0 of each that has none, all weigh what that one weighs
weigh-one : {V : Type 0} (parts f : V → ℕ) (views : List V) (port : ℕ) (v : V) → get_elem? views port ≡ some v → weigh parts views ≡ parts v →
    ((port : ℕ) (v : V) → get_elem? views port ≡ some v → parts v ≡ 0 → f v ≡ 0) → weigh f views ≡ f v
weigh-one parts f [] port v at all idle = absurd (some-ne-none v (sym at))
weigh-one parts f (x ∷ xs) zero v at all idle =
    let same : x ≡ v = some-injective x v at in
    let here : parts x ≡ parts v = ap parts same in
    let there : f x ≡ f v = ap f same in
    let rest = weigh-none parts f xs (omega arith) (λ port v at. idle (suc port) v at) in
    omega arith
weigh-one parts f (x ∷ xs) (suc port) v at all idle =
    let within = weigh-within parts xs port v at in
    let first = idle 0 x refl (omega arith) in
    let rest = weigh-one parts f xs port v at (omega arith) (λ port v at. idle (suc port) v at) in
    omega arith

-- ---- passes without a part

module _ {T : Type 0} where
  idle-set : (views : List (Hand T)) (port : ℕ) (w : Hand T) → (w.parts ≡ 0 → (w.put ≡ []) × (w.taken ≡ [])) → IdleIsEmpty views → IdleIsEmpty (set views port w)
  idle-set views port w mine others j u at none =
      ⊎_elim
      (λ (x : (j ≡ port) × (w ≡ u)). subst (λ (y : Hand T). (y.put ≡ []) × (y.taken ≡ [])) x.1 (mine (ap (λ (y : Hand T). y.parts) x.1 ∙ none)))
      (λ (x : (j ≢ port) × (get_elem? views j ≡ some u)). others j u x.1 none)
      (at_set views port j w u at)

  idle-snoc : (views : List (Hand T)) (w : Hand T) → (w.parts ≡ 0 → (w.put ≡ []) × (w.taken ≡ [])) → IdleIsEmpty views → IdleIsEmpty (views ++ w ∷ [])
  idle-snoc views w mine others j u at none =
      ⊎_elim
      (λ (x : get_elem? views j ≡ some u). others j u x none)
      (λ (x : w ≡ u). subst (λ (y : Hand T). (y.put ≡ []) × (y.taken ≡ [])) x (mine (ap (λ (y : Hand T). y.parts) x ∙ none)))
      (at_snoc views w u j at)

  -- ---- moves

  pub begins : IsBalanced {T = T} [] (whole_hand ∷ [])
  begins = record {
    whole = omega arith;
    even = λ weight. omega arith;
    idle = idle-snoc [] whole_hand (λ none. (refl, refl)) (λ port v at none. absurd (some-ne-none v (sym at)));
  }

  pub puts : (n port : ℕ) (v : Hand T) (x : T) → 0 < v.parts → Pushes IsBalanced n port v x (λ w. w ≡ with_put v x)
  puts n port v x some_part items views room b at =
      let w = with_put v x in (
        w,
        record {
          whole = let s = weigh-set (λ (u : Hand T). u.parts) views port v w at in let p = b.whole in omega arith;
          even = λ weight.
              let s = weigh-set (λ (u : Hand T). weigh weight u.put) views port v w at in
              let t = weigh-set (λ (u : Hand T). weigh weight u.taken) views port v w at in
              let p = b.even weight in
              let q = weigh-append weight v.put (x ∷ []) in
              let r = weigh-append weight items (x ∷ []) in
              omega arith;
          idle = idle-set views port w (λ none. absurd (omega arith)) b.idle;
        },
        refl,
      )

  pub takes : (port : ℕ) (v : Hand T) → 0 < v.parts → Pops IsBalanced port v (λ x w. w ≡ with_taken v x)
  takes port v some_part x items views b at =
      let w = with_taken v x in (
        w,
        record {
          whole = let s = weigh-set (λ (u : Hand T). u.parts) views port v w at in let p = b.whole in omega arith;
          even = λ weight.
              let s = weigh-set (λ (u : Hand T). weigh weight u.put) views port v w at in
              let t = weigh-set (λ (u : Hand T). weigh weight u.taken) views port v w at in
              let p = b.even weight in
              let q = weigh-append weight v.taken (x ∷ []) in
              omega arith;
          idle = idle-set views port w (λ none. absurd (omega arith)) b.idle;
        },
        refl,
      )

  pub forks : (port : ℕ) (v : Hand T) → 1 < v.parts → Forks IsBalanced port v (without_part v) (hand 1 [] [])
  forks port v parts items views b at =
      let left = without_part v in
      let right : Hand T = hand 1 [] [] in
      let vs : List (Hand T) = set views port left in
      record {
        whole =
            let s = weigh-set (λ (u : Hand T). u.parts) views port v left at in
            let p = b.whole in
            let q = weigh-append (λ (u : Hand T). u.parts) vs (right ∷ []) in
            omega arith;
        even = λ weight.
            let s = weigh-set (λ (u : Hand T). weigh weight u.put) views port v left at in
            let t = weigh-set (λ (u : Hand T). weigh weight u.taken) views port v left at in
            let p = b.even weight in
            let q = weigh-append (λ (u : Hand T). weigh weight u.put) vs (right ∷ []) in
            let r = weigh-append (λ (u : Hand T). weigh weight u.taken) vs (right ∷ []) in
            omega arith;
        idle = idle-snoc vs right (λ none. absurd (omega arith)) (idle-set views port left (λ none. absurd (omega arith)) b.idle);
      }

  pub merges : (port : ℕ) (v : Hand T) (other : ℕ) (u : Hand T) → 0 < v.parts → Merges IsBalanced port v other u (both_hands v u) (hand 0 [] [])
  merges port v other u some_part items views b at apart at_other =
      let both = both_hands v u in
      let spent : Hand T = hand 0 [] [] in
      let vs : List (Hand T) = set views port both in
      record {
        whole =
            let s = weigh-set (λ (y : Hand T). y.parts) views port v both at in
            let t = weigh-set (λ (y : Hand T). y.parts) vs other u spent at_other in
            let p = b.whole in
            omega arith;
        even = λ weight.
            let s = weigh-set (λ (y : Hand T). weigh weight y.put) views port v both at in
            let t = weigh-set (λ (y : Hand T). weigh weight y.put) vs other u spent at_other in
            let s' = weigh-set (λ (y : Hand T). weigh weight y.taken) views port v both at in
            let t' = weigh-set (λ (y : Hand T). weigh weight y.taken) vs other u spent at_other in
            let p = b.even weight in
            let q = weigh-append weight v.put u.put in
            let r = weigh-append weight v.taken u.taken in
            omega arith;
        idle = idle-set vs other spent (λ none. (refl, refl)) (idle-set views port both (λ none. absurd (omega arith)) b.idle);
      }

  pub learns : (port : ℕ) (v : Hand T) → v.parts ≡ all_parts → Learns IsBalanced port v (WhatIsLeft v)
  learns port v all items views b at weight =
      let whole : weigh (λ (u : Hand T). u.parts) views ≡ v.parts = b.whole ∙ sym all in
      let put = weigh-one (λ (u : Hand T). u.parts) (λ (u : Hand T). weigh weight u.put) views port v at whole (λ j u here none. ap (weigh weight) (b.idle j u here none).0) in
      let taken = weigh-one (λ (u : Hand T). u.parts) (λ (u : Hand T). weigh weight u.taken) views port v at whole (λ j u here none. ap (weigh weight) (b.idle j u here none).1) in
      sym put ∙ b.even weight ∙ ap (λ (n : ℕ). n + weigh weight items) taken
