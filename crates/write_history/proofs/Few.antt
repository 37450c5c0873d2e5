-- A history has fewer than 2^48 entries.
use Rattle.std.proofs.Common.{◌≡◌, ℕ, zero, suc, ◌+◌, ◌-◌, ◌^◌, ◌<◌, ◌≤◌, List, [], ◌∷◌, ◌++◌, length, take, drop, filter, flat_map, nat_le, Some, None, if◌then◌else◌, leb-false, refl, sym, ap, ◌∙◌, arith}
use Rattle.std.proofs.lemmas.List.{length-append, length-drop, length-take, drop-append-le, take-append-drop, take-append-le}
use Rattle.semantics.specs.Histories.{Write, History, IsPrefix}
use Rattle.semantics.specs.Verdicts.{full, write_cause, verdict}
use Rattle.semantics.proofs.JoinSets.{first_cause-None, test-from_None}
use Rattle.growing_history.specs.Entered.{HasEntered}

-- without a cause against a write there is room for it
room_before : (write : Write) (h : History) → verdict write h ≡ None → length h < 2 ^ 48 - 1
unfolding verdict
room_before write h free =
    let room = first_cause-None (if nat_le (2 ^ 48 - 1) (length h) then Some full else None) (write_cause write h ∷ []) free in
    leb-false (2 ^ 48 - 1) (length h) (test-from_None (nat_le (2 ^ 48 - 1) (length h)) full room.0)

-- there is a last element, or none
last_of : {A : Type 0} (x : A) (xs : List A) → (before : List A) × (last : A) × (x ∷ xs ≡ before ++ last ∷ [])
last_of x [] = ([], x, refl)
last_of x (y ∷ ys) = let rest = last_of y ys in (x ∷ rest.0, rest.1, ap (λ l. x ∷ l) rest.2)

-- a history has fewer than 2^48 entries
pub few_entries : (h : History) → HasEntered h → length h < 2 ^ 48
few_entries [] entered = omega arith
few_entries (e ∷ es) entered =
    let last = last_of e es in
    let room : length last.0 < 2 ^ 48 - 1 = room_before last.1.write last.0 (entered.entered last.0 last.1 [] last.2) in
    let long = ap length last.2 ∙ length-append last.0 (last.1 ∷ []) in
    omega (arith, room, long)
