-- Histories whose entries all entered: the empty one, and one entry more.
use Rattle.std.proofs.Common.{◌≡◌, [], ◌∷◌, ◌++◌, length, None, refl, sym, ap, ◌∙◌, ◌⊎◌, ⊎_elim, inl, inr, arith}
use Rattle.std.proofs.lemmas.List.{length-append}
use Rattle.semantics.specs.Histories.{Entry, History}
use Rattle.semantics.specs.Verdicts.{verdict, AllEntered}

-- an entry of a list with one more is the last one, or stands in the list
entry_of_push : (h before after : History) (e f : Entry) → h ++ e ∷ [] ≡ before ++ f ∷ after →
    ((before ≡ h) × (f ≡ e)) ⊎ ((rest : History) × (h ≡ before ++ f ∷ rest))
entry_of_push [] [] after e f is = let first : e ≡ f = cc in inl (refl, sym first)
entry_of_push [] (b ∷ before) after e f is = let n = simp length-append at (ap length is) in absurd (omega arith)
entry_of_push (x ∷ h) [] after e f is = let first : x ≡ f = cc in inr (h, ap (λ y. y ∷ h) first)
entry_of_push (x ∷ h) (b ∷ before) after e f is =
    let first : x ≡ b = cc in
    let others : h ++ e ∷ [] ≡ before ++ f ∷ after = cc in
    ⊎_elim (λ p. inl ((λ i. sym first i ∷ p.0 i), p.1)) (λ r. inr (r.0, (λ i. first i ∷ r.1 i))) (entry_of_push h before after e f others)

-- nothing is against the entries of the empty history
pub AllEntered-nil : AllEntered []
AllEntered-nil before e after is = let n = simp length-append at (ap length is) in absurd (omega arith)

-- one entry more, against which nothing was
pub AllEntered-push : (h : History) (e : Entry) → AllEntered h → verdict e.write h ≡ None → AllEntered (h ++ e ∷ [])
AllEntered-push h e entered free before f after is =
    ⊎_elim (λ p. (λ i. verdict (p.1 i).write (p.0 i)) ∙ free) (λ r. entered before f r.0 r.1) (entry_of_push h before after e f is)
