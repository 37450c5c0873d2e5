-- What calls of a door leave.
use Rattle.std.proofs.Common.{◌≡◌, Bool, true, false, cond, List, [], ◌∷◌, ◌++◌, fold, refl, sym, ap, ◌∙◌, append-nil, append_assoc}
use Rattle.door_queue.specs.declared.door_state.Offered.TheVariants as offered
use Rattle.door_queue.specs.Doors.{Door, door, is_full, others, first_of}
use Rattle.door_queue.specs.Runs.{Call, offers, takes, closes, Run, kept_by, taken_by, after_call, KeptIsTakenOrLeft}

-- what was kept was taken or is left
abbrev IsKept : {T : Type 0} → Run T → Type 0
IsKept r = r.kept ≡ r.taken ++ r.state.items

offered_by : {T : Type 0} (d : Door T) (kept taken : List T) (item : T) (x y : Bool) → kept ≡ taken ++ d.items →
    kept ++ kept_by item (cond x (offered.Closed item) (cond y (offered.Full item) offered.Kept)) ≡ taken ++ (cond x d (cond y d (record d { items = d.items ++ item ∷ [] }))).items
offered_by d kept taken item true y h = append-nil kept ∙ h
offered_by d kept taken item false true h = append-nil kept ∙ h
offered_by d kept taken item false false h = ap (λ l. l ++ item ∷ []) h ∙ append_assoc taken d.items (item ∷ [])

taken_from : {T : Type 0} (kept taken items : List T) (is_closed : Bool) → kept ≡ taken ++ items → kept ≡ (taken ++ taken_by (first_of items is_closed)) ++ others items
taken_from kept taken [] true h = h ∙ sym (append-nil (taken ++ [])) ∙ refl
taken_from kept taken [] false h = h ∙ sym (append-nil (taken ++ [])) ∙ refl
taken_from kept taken (item ∷ items) is_closed h = h ∙ sym (append_assoc taken (item ∷ []) items)

-- one call more
stays : {T : Type 0} (r : Run T) (call : Call T) → IsKept r → IsKept (after_call r call)
stays r (offers item) h = offered_by r.state r.kept r.taken item r.state.is_closed (is_full r.state) h
stays r takes h = taken_from r.kept r.taken r.state.items r.state.is_closed h
stays r closes h = h

all_stay : {T : Type 0} (r : Run T) (calls : List (Call T)) → IsKept r → IsKept (fold after_call r calls)
all_stay r [] h = h
all_stay r (call ∷ calls) h = all_stay (after_call r call) calls (stays r call h)

-- each item that was kept was taken once, in order, or is left
pub kept_is_taken_or_left : (T : Type 0) → KeptIsTakenOrLeft T
kept_is_taken_or_left T most calls = all_stay {T = T} (record { state = door [] most false; kept = []; taken = [] }) calls refl
