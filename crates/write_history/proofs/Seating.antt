-- Views of seats, after one of them has changed or one more has come.
use Rattle.std.proofs.Common.{◌≡◌, ◌≢◌, ◌⊎◌, ℕ, zero, suc, ◌<◌, List, [], ◌∷◌, ◌++◌, length, set, refl, sym, ap, ◌∙◌, subst, ⊎_elim, inl, inr, arith}
use mathlib.Core.Option.{some, some-injective, some-ne-none}
use lib.ListN.{get_elem?}
use Rattle.atomic_table.proofs.Lists.{at_set}

-- what the seat that changed is afterwards, and what each other is
pub all_set : {A : Type 0} (P : ℕ → A → Type 0) (vs : List A) (id : ℕ) (w : A) → P id w → ((seat : ℕ) (v : A) → seat ≢ id → get_elem? vs seat ≡ some v → P seat v) →
    (seat : ℕ) (v : A) → get_elem? (set vs id w) seat ≡ some v → P seat v
all_set P vs id w mine others seat v at =
    ⊎_elim
    (λ (t : (seat ≡ id) × (w ≡ v)). subst (λ (x : ℕ × _). P x.0 x.1) (λ i. (sym t.0 i, t.1 i)) mine)
    (λ (t : (seat ≢ id) × (get_elem? vs seat ≡ some v)). others seat v t.0 t.1)
    (at_set vs id seat w v at)

-- where something stands is below the length
pub at_below : {A : Type 0} (vs : List A) (seat : ℕ) (v : A) → get_elem? vs seat ≡ some v → seat < length vs
at_below [] seat v at = absurd (some-ne-none v (sym at))
at_below (x ∷ vs) zero v at = omega arith
at_below (x ∷ vs) (suc seat) v at = let less = at_below vs seat v at in omega arith

-- nothing stands in the empty list
pub at_none : {A : Type 0} (seat : ℕ) (v : A) → get_elem? [] seat ≡ some v → ⊥
at_none seat v at = some-ne-none v (sym at)

-- at the end of a longer list stands what was added, at the old length
pub at_end : {A : Type 0} (vs : List A) (w v : A) (seat : ℕ) → get_elem? (vs ++ w ∷ []) seat ≡ some v → (get_elem? vs seat ≡ some v) ⊎ ((seat ≡ length vs) × (w ≡ v))
at_end [] w v zero at = inr (refl, some-injective w v at)
at_end [] w v (suc seat) at = absurd (some-ne-none v (sym at))
at_end (x ∷ vs) w v zero at = inl at
at_end (x ∷ vs) w v (suc seat) at = ⊎_elim (λ t. inl t) (λ (t : (seat ≡ length vs) × (w ≡ v)). inr (ap suc t.0, t.1)) (at_end vs w v seat at)

-- what the new seat is, and what each old one is
pub all_end : {A : Type 0} (P : ℕ → A → Type 0) (vs : List A) (w : A) → P (length vs) w → ((seat : ℕ) (v : A) → get_elem? vs seat ≡ some v → P seat v) →
    (seat : ℕ) (v : A) → get_elem? (vs ++ w ∷ []) seat ≡ some v → P seat v
all_end P vs w mine others seat v at =
    ⊎_elim
    (λ (t : get_elem? vs seat ≡ some v). others seat v t)
    (λ (t : (seat ≡ length vs) × (w ≡ v)). subst (λ (x : ℕ × _). P x.0 x.1) (λ i. (sym t.0 i, t.1 i)) mine)
    (at_end vs w v seat at)

module _ {A : Type 0} (R : A → A → Type 0) where
  -- each two different seats are related
  abbrev pub Each : List A → Type 0
  Each vs = (seat other : ℕ) (v w : A) → seat ≢ other → get_elem? vs seat ≡ some v → get_elem? vs other ≡ some w → R v w

  -- they stay so where the one that changes is related to each other, both ways
  pub each_set : (vs : List A) (id : ℕ) (w : A) → Each vs
      → ((seat : ℕ) (v : A) → seat ≢ id → get_elem? vs seat ≡ some v → R v w × R w v) → Each (set vs id w)
  each_set vs id w old mine seat other v u apart at at' =
      ⊎_elim
      (λ (t : (seat ≡ id) × (w ≡ v)). ⊎_elim
      (λ (t' : (other ≡ id) × (w ≡ u)). absurd (apart (t.0 ∙ sym t'.0)))
      (λ (t' : (other ≢ id) × (get_elem? vs other ≡ some u)). subst (λ x. R x u) t.1 (mine other u t'.0 t'.1).1)
      (at_set vs id other w u at'))
      (λ (t : (seat ≢ id) × (get_elem? vs seat ≡ some v)). ⊎_elim
      (λ (t' : (other ≡ id) × (w ≡ u)). subst (λ x. R v x) t'.1 (mine seat v t.0 t.1).0)
      (λ (t' : (other ≢ id) × (get_elem? vs other ≡ some u)). old seat other v u apart t.1 t'.1)
      (at_set vs id other w u at'))
      (at_set vs id seat w v at)

  -- and where the one that comes is related to each old one, both ways
  pub each_end : (vs : List A) (w : A) → Each vs → ((seat : ℕ) (v : A) → get_elem? vs seat ≡ some v → R v w × R w v) → Each (vs ++ w ∷ [])
  each_end vs w old mine seat other v u apart at at' =
      ⊎_elim
      (λ (t : get_elem? vs seat ≡ some v). ⊎_elim
      (λ (t' : get_elem? vs other ≡ some u). old seat other v u apart t t')
      (λ (t' : (other ≡ length vs) × (w ≡ u)). subst (λ x. R v x) t'.1 (mine seat v t).0)
      (at_end vs w u other at'))
      (λ (t : (seat ≡ length vs) × (w ≡ v)). ⊎_elim
      (λ (t' : get_elem? vs other ≡ some u). subst (λ x. R x u) t.1 (mine other u t').1)
      (λ (t' : (other ≡ length vs) × (w ≡ u)). absurd (apart (t.0 ∙ sym t'.0)))
      (at_end vs w u other at'))
      (at_end vs w v seat at)
