-- Slots at the places of others.
use Rattle.std.proofs.Common.{◌≡◌, ◌≢◌, ℕ, ◌+◌, ◌<◌, ◌≤◌, cond, is_some, length, Option, Some, None, slice_set, refl, sym, ap, ◌∙◌, ⊎_elim, arith}
use Rattle.std.proofs.lemmas.Bool.{cases_eq}
use Rattle.std.proofs.lemmas.List.{length-set}
use Rattle.semantics.specs.Texts.{Text}
use Rattle.semantics.specs.Patterns.{Slots, text_at}
use Rattle.semantics.proofs.PatternLemmas.{text_at-set_same, text_at-set_other}
use Rattle.key_pattern.specs.SlotPlaces.{AreAtPlaces, kept_where}

-- below a place the slots have texts where the others have one; from it on they have all
pub record KeptUpTo (given others : Slots) (n : ℕ) (kept : Slots) : Type 0 where
  pub before : (k : ℕ) → k < n → text_at k kept ≡ cond (is_some (text_at k others)) (text_at k given) None
  pub rest : (k : ℕ) → n ≤ k → text_at k kept ≡ text_at k given
  pub long : length kept ≡ 16

pub none_yet : (given others : Slots) → length given ≡ 16 → KeptUpTo given others 0 given
none_yet given others long = record { before = λ k less. absurd (omega arith); rest = λ k more. refl; long = long }

-- after one place more
pub after_place : (given others kept : Slots) (n : ℕ) (o : Option Text) → n < 16 → text_at n others ≡ o → KeptUpTo given others n kept → KeptUpTo given others (n + 1) (kept_where o n kept)
after_place given others kept n None small at so_far =
    let less : n < length kept = omega (arith, so_far.long) in record {
      before = λ k below. ⊎_elim
          (λ (q : k ≡ n).
          ap (λ j. text_at j (slice_set kept n None)) q ∙ text_at-set_same kept n None less
          ∙ sym (ap (λ o. cond (is_some o) (text_at k given) None) (ap (λ j. text_at j others) q ∙ at)))
          (λ (q : k ≢ n). text_at-set_other kept n k None q ∙ so_far.before k (omega arith))
          (cases_eq k n);
      rest = λ k more. let apart : k ≢ n = omega arith in text_at-set_other kept n k None apart ∙ so_far.rest k (omega arith);
      long = length-set kept n None ∙ so_far.long;
    }
after_place given others kept n (Some t) small at so_far = record {
  before = λ k below. ⊎_elim
      (λ (q : k ≡ n). so_far.rest k (omega arith) ∙ sym (ap (λ o. cond (is_some o) (text_at k given) None) (ap (λ j. text_at j others) q ∙ at)))
      (λ (q : k ≢ n). so_far.before k (omega arith))
      (cases_eq k n);
  rest = λ k more. so_far.rest k (omega arith);
  long = so_far.long;
}

pub all_places : (given others : Slots) (n : ℕ) (kept : Slots) → 16 ≤ n → KeptUpTo given others n kept → AreAtPlaces given others kept
all_places given others n kept all so_far = λ place less. so_far.before place (omega arith)
