-- The passes of a new history, by what they are for.
use Rattle.std.proofs.Common.{◌≡◌, ℕ, zero, suc, ◌+◌, ◌<◌, ◌≤◌, List, [], ◌∷◌, ◌++◌, length, take, drop, slice_get, Some, refl, ap, sym, ◌∙◌, subst, arith}
use Rattle.std.specs.List.{AllByRecursion}
use Rattle.std.proofs.lemmas.List.{length-append}
use Rattle.std.proofs.lemmas.Option.{same_Some}
use Rattle.write_history.specs.Passes.{HistoryId, PassView, new_pass}
use Rattle.write_history.specs.declared.known.Mark.TheVariants.{Noted}
use Rattle.write_history.proofs.Marking.{first_free, first_noted}
use Rattle.pequod_cache.proofs.ClientLemmas.{at_seam}
use Rattle.pequod_cache.specs.Sitting.{AreOf, AreOfParts, AreWriters, IsFresh}

-- new passes of the history with the numbers from one up
abbrev pub Follow : HistoryId → ℕ → List PassView → Type 0
Follow history from passes = (i : ℕ) → i < length passes → slice_get passes i ≡ Some (new_pass history (from + i))

drop_at : {A : Type 0} (n : ℕ) (xs : List A) (i : ℕ) → i < length (drop n xs) → slice_get (drop n xs) i ≡ slice_get xs (n + i)
drop_at zero xs i less = let same : i ≡ 0 + i = omega arith in ap (slice_get xs) same
drop_at (suc n) [] i less = absurd (omega arith)
drop_at (suc n) (x ∷ xs) i less = let same : suc (n + i) ≡ suc n + i = omega arith in drop_at n xs i less ∙ ap (slice_get (x ∷ xs)) same

take_at : {A : Type 0} (n : ℕ) (xs : List A) (i : ℕ) → i < n → slice_get (take n xs) i ≡ slice_get xs i
take_at zero xs i less = absurd (omega arith)
take_at (suc n) [] i less = refl
take_at (suc n) (x ∷ xs) zero less = refl
take_at (suc n) (x ∷ xs) (suc i) less = take_at n xs i (omega arith)

-- those that are left of so many, and the first so many
pub follow_dropped : (history : HistoryId) (n : ℕ) (passes : List PassView) → Follow history 0 passes → n + length (drop n passes) ≡ length passes → Follow history n (drop n passes)
follow_dropped history n passes are whole i less =
    let same : 0 + (n + i) ≡ n + i = omega arith in
    drop_at n passes i less ∙ are (n + i) (omega (arith, whole, less)) ∙ ap (λ m. Some (new_pass history m)) same

pub follow_taken : (history : HistoryId) (n : ℕ) (passes : List PassView) → Follow history 0 passes → length (take n passes) ≤ n → length (take n passes) ≤ length passes → Follow history 0 (take n passes)
follow_taken history n passes are short within i less = take_at n passes i (omega (arith, less, short)) ∙ are i (omega (arith, less, within))

-- what a new pass has by its number, all of them have
pub all_follow : (P : PassView → Type 0) (history : HistoryId) (from : ℕ) (passes : List PassView) → Follow history from passes →
    ((number : ℕ) → from ≤ number → number < from + length passes → P (new_pass history number)) → AllByRecursion P passes
all_follow P history from [] are has = tt
all_follow P history from (pass ∷ passes) are has = (
  subst P (sym (same_Some pass (new_pass history (from + 0)) (are 0 (omega arith)))) (has (from + 0) (omega arith) (omega arith)),
  all_follow P history (from + 1) passes (λ i less. let same : from + suc i ≡ from + 1 + i = omega arith in are (suc i) (omega arith) ∙ ap (λ n. Some (new_pass history n)) same) (λ number past less. has number (omega arith) (omega arith)),
)

-- the passes of the cells are of the history
pub are_of : (history : HistoryId) (from count : ℕ) (passes : List PassView) → length passes ≡ count → Follow history from passes → AreOf history count passes
are_of history from count passes counted are = record {
  counted = counted;
  each = all_follow (λ pass. pass.history ≡ history) history from passes are (λ number past less. refl);
}

-- those of the parts have noted nothing
pub are_of_parts : (history : HistoryId) (from : ℕ) (passes : List PassView) → length passes ≡ 16 → from ≡ history.kinds.writers + history.kinds.pinned → history.kinds.shards ≡ 16 → Follow history from passes → AreOfParts history passes
are_of_parts history from passes counted at parts are = record {
  are_of = are_of history from 16 passes counted are;
  noted = all_follow (λ pass. pass.mark ≡ Noted 0) history from passes are (λ number past less. first_noted history.kinds number (omega (arith, past, at)) (omega (arith, less, counted, at, parts)));
}

-- an element of a list is one of a longer list
first_of : {A : Type 0} (before after : List A) (i : ℕ) → i < length before → slice_get before i ≡ slice_get (before ++ after) i
first_of [] after i less = absurd (omega arith)
first_of (x ∷ before) after zero less = refl
first_of (x ∷ before) after (suc i) less = first_of before after i (omega arith)

-- those before the last are the clients, where as many may write
pub are_writers : (history : HistoryId) (count : ℕ) (all before : List PassView) (last : PassView) → all ≡ before ++ last ∷ [] → length all ≡ count + 1 → history.kinds.writers ≡ count → Follow history 0 all → AreWriters history count before
are_writers history count all before last is counted writers are =
    let whole = ap (λ xs. length xs) is ∙ length-append before (last ∷ []) in
    record {
      counted = omega (arith, whole, counted);
      all = writers;
      each = λ i less. first_of before (last ∷ []) i (omega (arith, less, whole, counted)) ∙ ap (λ xs. slice_get xs i) (sym is) ∙ (let same : 0 + i ≡ i = omega arith in are i (omega (arith, less, counted)) ∙ ap (λ m. Some (new_pass history m)) same);
    }

-- the last is that of the updater, where one can be pinned besides
pub is_fresh : (history : HistoryId) (count : ℕ) (all before : List PassView) (last : PassView) → all ≡ before ++ last ∷ [] → length all ≡ count + 1 → history.kinds.writers ≡ count → history.kinds.pinned ≡ 1 → Follow history 0 all → IsFresh history last
is_fresh history count all before last is counted writers pinned are =
    let whole = ap (λ xs. length xs) is ∙ length-append before (last ∷ []) in
    let same0 : 0 + length before ≡ length before = omega arith in
    let new : last ≡ new_pass history (length before) =
    same_Some last (new_pass history (length before)) (sym (at_seam before [] last) ∙ ap (λ xs. slice_get xs (length before)) (sym is) ∙ are (length before) (omega (arith, whole)) ∙ ap (λ m. Some (new_pass history m)) same0) in
    record {
      same_history = ap (λ (p : PassView). p.history) new;
      unseen = ap (λ (p : PassView). p.view) new;
      free = ap (λ (p : PassView). p.mark) new ∙ first_free history.kinds (length before) (omega (arith, whole, counted, writers, pinned));
    }
