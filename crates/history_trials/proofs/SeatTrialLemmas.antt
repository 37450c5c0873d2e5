-- The passes of a new history, by what they are for.
use Rattle.std.proofs.Common.{◌≡◌, ℕ, ◌+◌, ◌<◌, ◌≤◌, List, All, length, take, drop, slice_get, slice_index_or, Some, refl, ap, sym, ◌∙◌, subst, arith}
use Rattle.std.proofs.lemmas.Option.{get_or_from_slice_get}
use Rattle.std.proofs.lemmas.List.{get_or-take, get_or-drop, length-take, length-drop}
use Rattle.write_history.specs.Marks.{before, reach, MayAsk}
use Rattle.write_history.specs.Passes.{HistoryId, PassView, MayAppend, new_pass}
use Rattle.write_history.specs.declared.known.Mark.{Mark}
use Rattle.write_history.specs.declared.known.Mark.TheVariants.{Free, Pinned, Noted}
use Rattle.write_history.proofs.Marking.{first_free, first_noted}
use Rattle.history_trials.specs.Seated.{IsFree}

-- new passes of the history with the numbers from one up
abbrev pub Follow : HistoryId → ℕ → List PassView → Type 0
Follow history from passes = (k : ℕ) (d : PassView) → k < length passes → slice_index_or passes k d ≡ new_pass history (from + k)

-- those that were dealt
pub dealt : (history : HistoryId) (passes : List PassView) (count : ℕ) → length passes ≡ count → ((number : ℕ) → number < count → slice_get passes number ≡ Some (new_pass history number)) → Follow history 0 passes
dealt history passes count long each k d less =
    let same : k ≡ 0 + k = omega arith in
    get_or_from_slice_get passes k (new_pass history k) d (each k (omega (arith, less, long))) ∙ ap (λ m. new_pass history m) same

-- the first so many of them, and those that are left
taken : (history : HistoryId) (from n : ℕ) (passes : List PassView) → Follow history from passes → Follow history from (take n passes)
taken history from n passes are k d less =
    let short : k < n = omega (arith, less, length-take n passes) in
    let inside : k < length passes = omega (arith, less, length-take n passes) in
    get_or-take n passes k d short ∙ are k d inside

dropped : (history : HistoryId) (from n : ℕ) (passes : List PassView) → Follow history from passes → Follow history (from + n) (drop n passes)
dropped history from n passes are k d less =
    let same : from + (n + k) ≡ from + n + k = omega arith in
    get_or-drop n passes k d ∙ are (n + k) d (omega (arith, less, length-drop n passes)) ∙ ap (λ m. new_pass history m) same

-- what new passes have by their numbers, all of them have
all_follow : (P : PassView → Type 0) (history : HistoryId) (from : ℕ) (passes : List PassView) → Follow history from passes →
    ((number : ℕ) → from ≤ number → number < from + length passes → P (new_pass history number)) → All P passes
all_follow P history from passes are has k d less = subst P (sym (are k d less)) (has (from + k) (omega arith) (omega (arith, less)))

-- ---- how they are split: the writers w, those that are pinned p, the shards s, and the readers

-- the writers may append, and are not pinned
pub writers_may : (history : HistoryId) (w p s : ℕ) (passes : List PassView) → Follow history 0 passes → history.kinds.writers ≡ w →
    All (λ pass. MayAppend history pass) (take w (take (w + p) (take (w + p + s) passes)))
writers_may history w p s passes are writers =
    let rest = take (w + p) (take (w + p + s) passes) in
    all_follow (λ pass. MayAppend history pass) history 0 (take w rest)
    (taken history 0 w rest (taken history 0 (w + p) (take (w + p + s) passes) (taken history 0 (w + p + s) passes are)))
    (λ number past less. record { same_history = refl; writer = omega (arith, less, length-take w rest, writers) })

pub writers_free : (history : HistoryId) (w p s : ℕ) (passes : List PassView) → Follow history 0 passes → history.kinds.writers ≡ w →
    All (λ pass. pass.mark ≡ Free) (take w (take (w + p) (take (w + p + s) passes)))
writers_free history w p s passes are writers =
    let rest = take (w + p) (take (w + p + s) passes) in
    all_follow (λ pass. pass.mark ≡ Free) history 0 (take w rest)
    (taken history 0 w rest (taken history 0 (w + p) (take (w + p + s) passes) (taken history 0 (w + p + s) passes are)))
    (λ number past less. first_free history.kinds number (omega (arith, less, length-take w rest, writers)))

-- so are those that only read and may be pinned
pub pinned_free : (history : HistoryId) (w p s : ℕ) (passes : List PassView) → Follow history 0 passes → history.kinds.writers ≡ w → history.kinds.pinned ≡ p →
    All (λ pass. IsFree history pass) (drop w (take (w + p) (take (w + p + s) passes)))
pinned_free history w p s passes are writers pinned =
    let rest = take (w + p) (take (w + p + s) passes) in
    all_follow (λ pass. IsFree history pass) history (0 + w) (drop w rest)
    (dropped history 0 w rest (taken history 0 (w + p) (take (w + p + s) passes) (taken history 0 (w + p + s) passes are)))
    (λ number past less. record {
      same_history = refl;
      free = first_free history.kinds number (omega (arith, past, less, length-drop w rest, length-take (w + p) (take (w + p + s) passes), writers, pinned));
    })

-- the shards have noted nothing
pub shards_noted : (history : HistoryId) (w p s : ℕ) (passes : List PassView) → Follow history 0 passes → history.kinds.writers ≡ w → history.kinds.pinned ≡ p → history.kinds.shards ≡ s →
    All (λ pass. pass.mark ≡ Noted 0) (drop (w + p) (take (w + p + s) passes))
shards_noted history w p s passes are writers pinned shards =
    let rest = take (w + p + s) passes in
    all_follow (λ pass. pass.mark ≡ Noted 0) history (0 + (w + p)) (drop (w + p) rest)
    (dropped history 0 (w + p) rest (taken history 0 (w + p + s) passes are))
    (λ number past less. first_noted history.kinds number (omega (arith, past, writers, pinned)) (omega (arith, past, less, length-drop (w + p) rest, length-take (w + p + s) passes, writers, pinned, shards)))

-- and all are of the history
pub shards_of : (history : HistoryId) (w p s : ℕ) (passes : List PassView) → Follow history 0 passes → All (λ pass. pass.history ≡ history) (drop (w + p) (take (w + p + s) passes))
shards_of history w p s passes are =
    let rest = take (w + p + s) passes in
    all_follow (λ pass. pass.history ≡ history) history (0 + (w + p)) (drop (w + p) rest)
    (dropped history 0 (w + p) rest (taken history 0 (w + p + s) passes are)) (λ number past less. refl)

pub readers_of : (history : HistoryId) (n : ℕ) (passes : List PassView) → Follow history 0 passes → All (λ pass. pass.history ≡ history) (drop n passes)
readers_of history n passes are =
    all_follow (λ pass. pass.history ≡ history) history (0 + n) (drop n passes) (dropped history 0 n passes are) (λ number past less. refl)

-- ---- what they may ask for

-- who has noted nothing may ask for all, and so may who was pinned before the first entry
pub noted_asks : (mark : Mark) (from : ℕ) → mark ≡ Noted 0 → MayAsk mark from
noted_asks mark from is = subst (λ (m : Mark). MayAsk m from) (sym is) (omega arith)

pub pinned_asks : (mark : Mark) (from : ℕ) → mark ≡ Pinned 0 → MayAsk mark from
unfolding before
pinned_asks mark from is = subst (λ (m : Mark). MayAsk m from) (sym is) (omega arith)

-- and who has noted a position may ask from there, as who is pinned may from where the pin reaches back to
pub asks_from_note : (mark : Mark) (noted : ℕ) → mark ≡ Noted noted → MayAsk mark noted
asks_from_note mark noted is = subst (λ (m : Mark). MayAsk m noted) (sym is) (omega arith)

pub asks_from_reach : (mark : Mark) (at from : ℕ) → mark ≡ Pinned at → from ≡ reach mark → MayAsk mark from
asks_from_reach mark at from is first =
    let back : from ≡ before at = first ∙ ap (λ (m : Mark). reach m) is in
    subst (λ (m : Mark). MayAsk m from) (sym is) (omega (arith, back))
