-- What a client's own entries are after what it was told.
use Rattle.std.proofs.Common.{◌≡◌, ℕ, zero, suc, ◌+◌, ◌-◌, ◌≤◌, ◌==◌, Bool, true, false, cond, List, [], ◌∷◌, ◌++◌, length, map, filter, drop, Some, refl, sym, ap, ◌∙◌, arith, add-one, append_assoc, append-nil}
use Rattle.std.specs.Prelude.{slice_get}
use Rattle.std.specs.List.{enumerate_from}
use Rattle.std.proofs.Math.Seq.{drop-append_seam}
use Rattle.semantics.specs.Histories.{Write, Entry, History}
use Rattle.protocol.specs.Requests.{write}
use Rattle.protocol.specs.Replies.{done}
use Rattle.protocol.specs.Told.{own_positions, Told}
use Rattle.growing_history.proofs.PrefixLemmas.{prefix_refl, prefix_trans}
use Rattle.write_history.specs.Entries.{written_by}
use Rattle.write_history.specs.Passes.{PassView, GoesOn, own}
use Rattle.write_history.proofs.Entering.{written_by-append}
use Rattle.pequod_cache.specs.Adding.{HasAdded, OnlyReads}

-- ---- an entry at its position

-- the positions of a client's entries, where one more stands first
own_first : (client start : ℕ) (e : Entry) (more : History) (b : Bool) → (e.client == client) ≡ b →
    own_positions client start (e ∷ more) ≡ cond b (start ∷ own_positions client (start + 1) more) (own_positions client (start + 1) more)
own_first client start e more true is =
    ap (λ (b : Bool). map (λ (p : ℕ × Entry). p.0) (cond b ((start, e) ∷ filter (λ (p : ℕ × Entry). p.1.client == client) (enumerate_from (start + 1) more)) (filter (λ (p : ℕ × Entry). p.1.client == client) (enumerate_from (start + 1) more)))) is
own_first client start e more false is =
    ap (λ (b : Bool). map (λ (p : ℕ × Entry). p.0) (cond b ((start, e) ∷ filter (λ (p : ℕ × Entry). p.1.client == client) (enumerate_from (start + 1) more)) (filter (λ (p : ℕ × Entry). p.1.client == client) (enumerate_from (start + 1) more)))) is

-- the entries of a client, where one more stands first
pub written_first : (client : ℕ) (e : Entry) (more : History) (b : Bool) → (e.client == client) ≡ b → written_by client (e ∷ more) ≡ cond b (e ∷ written_by client more) (written_by client more)
written_first client e more true is = ap (λ (b : Bool). cond b (e ∷ written_by client more) (written_by client more)) is
written_first client e more false is = ap (λ (b : Bool). cond b (e ∷ written_by client more) (written_by client more)) is

-- no position, no entry
pub none_written : (client start : ℕ) (more : History) → own_positions client start more ≡ [] → written_by client more ≡ []
none_written client start [] none = refl
none_written client start (e ∷ more) none =
    elim (e.client == client) as (λ b. (e.client == client) ≡ b → written_by client (e ∷ more) ≡ []) [
      | true ↦ λ is. let some : start ∷ own_positions client (start + 1) more ≡ [] = sym (own_first client start e more true is) ∙ none in absurd (cc)
      | false ↦ λ is. written_first client e more false is ∙ none_written client (start + 1) more (sym (own_first client start e more false is) ∙ none)
    ] refl

-- a position is not before the first
from_start : (client start : ℕ) (more : History) (n : ℕ) → own_positions client start more ≡ n ∷ [] → start ≤ n
from_start client start [] n is = absurd (cc)
from_start client start (e ∷ more) n is =
    elim (e.client == client) as (λ b. (e.client == client) ≡ b → start ≤ n) [
      | true ↦ λ own. let first : start ∷ own_positions client (start + 1) more ≡ n ∷ [] = sym (own_first client start e more true own) ∙ is in let same : start ≡ n = cc in omega arith
      | false ↦ λ other. let later = from_start client (start + 1) more n (sym (own_first client start e more false other) ∙ is) in omega arith
    ] refl

-- what stands behind the first element, and behind a list
behind_one : {A : Type 0} (x : A) (xs : List A) (i : ℕ) → slice_get (x ∷ xs) (i + 1) ≡ slice_get xs i
behind_one x xs i = ap (λ (k : ℕ). slice_get (x ∷ xs) k) (add-one i)

behind_all : {A : Type 0} (xs ys : List A) (i : ℕ) → length xs ≤ i → slice_get (xs ++ ys) i ≡ slice_get ys (i - length xs)
behind_all [] ys i less = let same : i ≡ i - 0 = omega arith in ap (slice_get ys) same
behind_all (x ∷ xs) ys zero less = absurd (omega arith)
behind_all (x ∷ xs) ys (suc i) less =
    let same : i - length xs ≡ suc i - suc (length xs) = omega arith in
    behind_all xs ys i (omega arith) ∙ ap (slice_get ys) same

-- where a client has one entry, it is the one at its position
only_written : (client start : ℕ) (more : History) (n : ℕ) (e : Entry) → own_positions client start more ≡ n ∷ [] → slice_get more (n - start) ≡ Some e → written_by client more ≡ e ∷ []
only_written client start [] n e is at = absurd (cc)
only_written client start (x ∷ more) n e is at =
    elim (x.client == client) as (λ b. (x.client == client) ≡ b → written_by client (x ∷ more) ≡ e ∷ []) [
      | true ↦ λ own.
          let first : start ∷ own_positions client (start + 1) more ≡ n ∷ [] = sym (own_first client start x more true own) ∙ is in
          let same : start ≡ n = cc in
          let none : own_positions client (start + 1) more ≡ [] = cc in
          let zero_is : n - start ≡ 0 = omega arith in
          let here : Some x ≡ Some e = ap (λ (i : ℕ). slice_get (x ∷ more) i) (sym zero_is) ∙ at in
          let it : x ≡ e = cc in
          written_first client x more true own ∙ ap (λ (y : Entry). y ∷ written_by client more) it ∙ ap (λ (ys : History). e ∷ ys) (none_written client (start + 1) more none)
      | false ↦ λ other.
          let later : own_positions client (start + 1) more ≡ n ∷ [] = sym (own_first client start x more false other) ∙ is in
          let past = from_start client (start + 1) more n later in
          let next : n - start ≡ (n - (start + 1)) + 1 = omega arith in
          let there : slice_get more (n - (start + 1)) ≡ Some e = sym (behind_one x more (n - (start + 1))) ∙ ap (λ (i : ℕ). slice_get (x ∷ more) i) (sym next) ∙ at in
          written_first client x more false other ∙ only_written client (start + 1) more n e later there
    ] refl

-- ---- clients that add entries

-- the entry of a write by the client with a number
abbrev entry_of : ℕ → Write → Entry
entry_of client w = record { client = client; write = w }

-- a client that was told the position of a write has added it
told_added : (before after : History) (client n : ℕ) (w : Write) → Told before after client (write w ∷ []) (done n ∷ []) → written_by client after ≡ written_by client before ++ entry_of client w ∷ []
told_added before after client n w told =
    let more : History = told.grows.0 in
    let seen : drop (length before) after ≡ more = ap (drop (length before)) told.grows.1 ∙ drop-append_seam before more in
    let at : own_positions client (length before + 1) more ≡ n ∷ [] = ap (own_positions client (length before + 1)) (sym seen) ∙ told.own in
    let past : length before + 1 ≤ n = from_start client (length before + 1) more n at in
    let place : (n - 1) - length before ≡ n - (length before + 1) = omega arith in
    let there : slice_get more (n - (length before + 1)) ≡ Some (entry_of client w) =
    ap (slice_get more) (sym place) ∙ sym (behind_all before more (n - 1) (omega arith)) ∙ ap (λ (h : History). slice_get h (n - 1)) (sym told.grows.1) ∙ told.answers.0.0 in
    ap (written_by client) told.grows.1 ∙ written_by-append client before more
    ∙ ap (λ (es : History). written_by client before ++ es) (only_written client (length before + 1) more n (entry_of client w) at there)

pub write_added : (old new : PassView) (n client : ℕ) (w : Write) → old.number ≡ client → GoesOn old new → Told old.view new.view old.number (write w ∷ []) (done n ∷ []) →
    HasAdded (entry_of client w ∷ []) old new
write_added old new n client w numbered goes told = record {
  same_number = goes.same_number;
  same_writers = goes.same_writers;
  begins = goes.begins;
  adds = ap (λ (k : ℕ). written_by k new.view) goes.same_number ∙ told_added old.view new.view old.number n w told
      ∙ ap (λ (k : ℕ). own old ++ entry_of k w ∷ []) numbered;
}

-- one that has added nothing has the entries that it had
pub none_more : (number : ℕ) (old new : PassView) → old.number ≡ number → HasAdded [] old new → written_by number new.view ≡ written_by number old.view
none_more number old new numbered added =
    ap (λ (n : ℕ). written_by n new.view) (sym (added.same_number ∙ numbered)) ∙ added.adds ∙ append-nil (own old) ∙ ap (λ (n : ℕ). written_by n old.view) numbered

-- one that goes on and has written nothing has added nothing
pub reads_added : (old new : PassView) → OnlyReads old new → HasAdded [] old new
reads_added old new reads = record {
  same_number = reads.goes_on.same_number;
  same_writers = reads.goes_on.same_writers;
  begins = reads.goes_on.begins;
  adds = reads.none ∙ sym (append-nil (own old));
}

-- at first nothing is added
pub none_added : (client : PassView) → HasAdded [] client client
none_added client = record { same_number = refl; same_writers = refl; begins = prefix_refl client.view; adds = sym (append-nil (own client)) }

-- what is added in two parts
pub added_more : (entries more : History) (old between new : PassView) → HasAdded entries old between → HasAdded more between new → HasAdded (entries ++ more) old new
added_more entries more old between new first next = record {
  same_number = next.same_number ∙ first.same_number;
  same_writers = next.same_writers ∙ first.same_writers;
  begins = prefix_trans old.view between.view new.view first.begins next.begins;
  adds = next.adds ∙ ap (λ (es : History). es ++ more) first.adds ∙ append_assoc (own old) entries more;
}
