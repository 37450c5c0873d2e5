-- What is kept of a history with one entry more, and what its client is told then.
use Rattle.std.proofs.Common.{◌≡◌, ℕ, ◌+◌, [], ◌∷◌, ◌++◌, length, Option, Some, None, option_map, refl, sym, subst}
use Rattle.semantics.specs.Histories.{Write, History}
use Rattle.semantics.specs.Verdicts.{Cause, verdict}
use Rattle.protocol.specs.Requests.{write}
use Rattle.protocol.specs.Replies.{done, refused}
use Rattle.protocol.specs.Told.{Told}
use Rattle.protocol.specs.Own.{AreOwn}
use Rattle.protocol.proofs.TellingSteps.{told_refused, told_done}
use Rattle.join_set.specs.Summaries.{Summary, StandsFor}
use Rattle.plain_history.specs.Histories.{IsKept}

-- where no cause was given there is none
pub no_cause : {C : Type 0} (o : Option C) (f : C → Cause) (cause : Option Cause) → ((x : C) → o ≡ Some x → ⊥) → option_map f o ≡ cause → cause ≡ None
no_cause None f cause none is = sym is
no_cause (Some x) f cause none is = absurd (none x refl)

own_push : (h : History) (w : Write) → AreOwn h → AreOwn (h ++ record { client = 0; write = w } ∷ [])
own_push [] w own = (refl, tt)
own_push (e ∷ h) w own = (own.0, own_push h w own.1)

-- an entry that the summary takes is kept
pub kept_next : (summary after : Summary) (h : History) (w : Write) → IsKept summary h →
    ((g : History) (client : ℕ) → StandsFor summary g → StandsFor after (g ++ record { client = client; write = w } ∷ [])) →
    IsKept after (h ++ record { client = 0; write = w } ∷ [])
kept_next summary after h w kept goes = record { stands = goes h 0 kept.stands; own = own_push h w kept.own }

-- a write that is refused
pub told_refused_at : (h : History) (w : Write) (cause : Cause) (n : ℕ) → n ≡ length h → verdict w h ≡ Some cause → Told h h 0 (write w ∷ []) (refused n cause ∷ [])
told_refused_at h w cause n count is = subst (λ m. Told h h 0 (write w ∷ []) (refused m cause ∷ [])) (sym count) (told_refused h 0 w cause is)

-- a write that enters, where the views before and after are known by other names
pub told_after : (h before after : History) (w : Write) (n : ℕ) → h ≡ before → after ≡ h ++ record { client = 0; write = w } ∷ [] → n ≡ length h → verdict w h ≡ None →
    Told before after 0 (write w ∷ []) (done (n + 1) ∷ [])
told_after h before after w n same grows count is =
    subst (λ b. Told b after 0 (write w ∷ []) (done (n + 1) ∷ [])) same
    (subst (λ a. Told h a 0 (write w ∷ []) (done (n + 1) ∷ [])) (sym grows)
    (subst (λ m. Told h (h ++ record { client = 0; write = w } ∷ []) 0 (write w ∷ []) (done (m + 1) ∷ [])) (sym count) (told_done h 0 w is)))
