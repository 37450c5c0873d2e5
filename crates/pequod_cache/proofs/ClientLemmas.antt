-- A client between calls, and the passes of new ones.
use Rattle.std.proofs.Common.{◌≡◌, ℕ, ◌+◌, ◌-◌, ◌<◌, Option, Some, Result, Ok, Err, IfOk, List, [], ◌∷◌, ◌++◌, length, get_or, refl, ap, sym, ◌∙◌, subst, arith}
use Rattle.std.specs.Prelude.{slice_get, IsOkAnd}
use Rattle.std.proofs.lemmas.List.{length-append}
use Rattle.std.proofs.lemmas.Option.{same_Some}
use Rattle.semantics.specs.Histories.{IsPrefix}
use Rattle.semantics.proofs.EnteredLemmas.{AllEntered-nil}
use Rattle.growing_history.proofs.PrefixLemmas.{prefix_trans}
use Rattle.write_history.specs.Passes.{HistoryId, PassView, GoesOn, new_pass, own}
use Rattle.write_history.specs.Marks.{IsLow}
use Rattle.write_history.specs.declared.known.Mark.{Mark}
use Rattle.write_history.specs.declared.known.Mark.TheVariants.{Free, Pinned}
use Rattle.write_history.proofs.Marking.{first_free}
use Rattle.write_history.specs.Entries.{IsRecorded}
use Rattle.base_shards.specs.Reading.{ReadsOn}
use Rattle.base_shards.proofs.ReadingLemmas.{reads_on-refl}
use Rattle.join_set.specs.Sets.{Joins}
use Rattle.pequod_cache.specs.Clients.{KeepsJoins, IsSeated, IsClient}
use Rattle.pequod_cache.specs.Sitting.{AreWriters, IsFresh}
use Rattle.pequod_cache.proofs.JoinsLemmas.{keeps_longer}

-- a pass goes on, and on
pub goes_on-trans : (old mid new : PassView) → GoesOn old mid → GoesOn mid new → GoesOn old new
goes_on-trans old mid new first next = record {
  same_history = next.same_history ∙ first.same_history;
  same_number = next.same_number ∙ first.same_number;
  same_writers = next.same_writers ∙ first.same_writers;
  begins = prefix_trans old.view mid.view new.view first.begins next.begins;
  recorded = next.recorded;
  same_mark = next.same_mark ∙ first.same_mark;
  higher = omega (arith, first.higher, next.higher);
  low = next.low;
}

-- ---- a pass that is not pinned between calls

-- it goes on as it reads on
pub free_goes_on : (old new : PassView) → old.mark ≡ Free → IsRecorded old.writers old.view → ReadsOn old new → GoesOn old new
free_goes_on old new free recorded on = record {
  same_history = on.same_history;
  same_number = on.same_number;
  same_writers = on.same_writers;
  begins = on.begins;
  recorded = on.recorded recorded;
  same_mark = on.same_mark;
  higher = on.higher;
  low = on.low (subst (λ (m : Mark). IsLow m old.floor) (sym free) tt);
}

-- so it does where it is pinned, reads on, and is not pinned any more
pub pinned_goes_on : (old looked new : PassView) (n : ℕ) → old.mark ≡ Free → GoesOn (record old { mark = Pinned n }) looked → ReadsOn looked new → GoesOn old (record new { mark = Free })
pinned_goes_on old looked new n free goes on = record {
  same_history = on.same_history ∙ goes.same_history;
  same_number = on.same_number ∙ goes.same_number;
  same_writers = on.same_writers ∙ goes.same_writers;
  begins = prefix_trans old.view looked.view new.view goes.begins on.begins;
  recorded = on.recorded goes.recorded;
  same_mark = sym free;
  higher = omega (arith, goes.higher, on.higher);
  low = tt;
}

-- ---- a pass and joins between calls

-- so it goes on where nothing is done
pub goes_nowhere : (history : HistoryId) (pass : PassView) (joins : Joins) → IsSeated history pass joins → GoesOn pass pass
goes_nowhere history pass joins seated = free_goes_on pass pass seated.free seated.recorded (reads_on-refl pass)

-- a pass that has gone on, and joins up to a declaration or drop in what it has seen since
pub seated_still : (history : HistoryId) (old new : PassView) (before joins : Joins) → IsSeated history old before → GoesOn old new → KeepsJoins joins new.view → IsSeated history new joins
seated_still history old new before joins seated goes kept = record {
  same_history = goes.same_history ∙ seated.same_history;
  free = goes.same_mark ∙ seated.free;
  recorded = goes.recorded;
  kept = kept;
}

-- what is true of a pass that looked, was pinned there, read on and is not pinned any more, and of joins: it has gone on from what it was seen as, has written nothing, saw on the way what it had seen where it looked, and is seated with the joins
pub record IsBack (history : HistoryId) (now looked new : PassView) (joins : Joins) : Type 0 where
  pub goes_on : GoesOn now new
  pub own : own new ≡ own now
  pub before : IsPrefix now.view looked.view
  pub after : IsPrefix looked.view new.view
  pub seated : IsSeated history new joins

-- it is true of such a pass with the joins that were brought where it looked
pub returned : (history : HistoryId) (had now looked done new : PassView) (n : ℕ) (before joins : Joins) → IsSeated history had before → had ≡ now →
    GoesOn (record had { mark = Pinned n }) looked → own looked ≡ own had → KeepsJoins joins looked.view → ReadsOn looked done → new ≡ record done { mark = Free } → IsBack history now looked new joins
returned history had now looked done new n before joins seated same goes mine kept on unpinned =
    let gone : GoesOn had new = subst (λ (p : PassView). GoesOn had p) (sym unpinned) (pinned_goes_on had looked done n seated.free goes on) in
    record {
      goes_on = subst (λ (p : PassView). GoesOn p new) same gone;
      own = ap (λ (p : PassView). own p) unpinned ∙ on.own ∙ mine ∙ ap (λ (p : PassView). own p) same;
      before = subst (λ (p : PassView). IsPrefix p.view looked.view) same goes.begins;
      after = subst (λ (p : PassView). IsPrefix looked.view p.view) (sym unpinned) on.begins;
      seated = seated_still history had new before joins seated gone
          (subst (λ (p : PassView). KeepsJoins joins p.view) (sym unpinned) (keeps_longer joins looked.view done.view on.begins kept));
    }

-- ---- a client between calls

-- its pass may write still, once it has gone on
pub client_still : (history : HistoryId) (old now new : PassView) (before joins : Joins) → IsClient history old before → old ≡ now → GoesOn now new → IsSeated history new joins → IsClient history new joins
client_still history old now new before joins client same goes seated = record {
  seated = seated;
  writer = omega (arith, client.writer, goes.same_number, goes.same_writers, ap (λ (p : PassView). p.number) same, ap (λ (p : PassView). p.writers) same);
}

-- with a pass that looked alone, and with joins that it has seen
pub client_stays : (history : HistoryId) (old new : PassView) (before joins : Joins) → IsClient history old before → GoesOn old new → KeepsJoins joins new.view → IsClient history new joins
client_stays history old new before joins client goes kept = client_still history old old new before joins client refl goes (seated_still history old new before joins client.seated goes kept)

-- with a pass that has gone on, and with the same joins
pub client_goes_on : (history : HistoryId) (old new : PassView) (joins : Joins) → IsClient history old joins → GoesOn old new → IsClient history new joins
client_goes_on history old new joins client goes = client_stays history old new joins joins client goes (keeps_longer joins old.view new.view goes.begins client.seated.kept)

-- ---- what is made of what was found

-- what is made of what a call found, with what is true of that
pub made_of_found : {X Y E F : Type 0} (found : Result X E) (made : Result Y F) (P : X → Type 0) (Q : X → Y → Type 0) (S : Y → Type 0) → IfOk found P → ((x : X) (y : Y) → P x → Q x y → S y) →
    IfOk made (λ y. IsOkAnd found (λ x. Q x y)) → IfOk made S
made_of_found found (Err e) P Q S exact gives is = tt
made_of_found (Err e) (Ok y) P Q S exact gives is = absurd is
made_of_found (Ok x) (Ok y) P Q S exact gives is = gives x y exact is

-- ---- passes of new clients

-- a pass that has seen nothing may have seen that
pub fresh_is_recorded : (history : HistoryId) (pass : PassView) → IsFresh history pass → IsRecorded pass.writers pass.view
fresh_is_recorded history pass fresh =
    subst (IsRecorded pass.writers) (sym fresh.unseen) (record { entered = record { entered = AllEntered-nil; writes = tt }; below = tt })

-- an element of a list stands where those before it end
pub at_seam : {A : Type 0} (before after : List A) (x : A) → slice_get (before ++ x ∷ after) (length before) ≡ Some x
at_seam [] after x = refl
at_seam (y ∷ before) after x = at_seam before after x

within_seam : {A : Type 0} (before after : List A) (x : A) → length before < length (before ++ x ∷ after)
within_seam before after x = omega (arith, length-append before (x ∷ after))

-- each of the passes that are left is of the history, may write, and is not pinned
pub next_writer : (history : HistoryId) (all done left after : List PassView) (pass : PassView) → AreWriters history (length all) all → done ++ left ≡ all → left ≡ pass ∷ after →
    (pass.history ≡ history) × (pass.number < pass.writers) × (pass.mark ≡ Free)
next_writer history all done left after pass are whole next =
    let split : done ++ pass ∷ after ≡ all = ap (λ xs. done ++ xs) (sym next) ∙ whole in
    let within : length done < length all = subst (λ (xs : List PassView). length done < length xs) split (within_seam done after pass) in
    let is : pass ≡ new_pass history (length done) =
    same_Some pass (new_pass history (length done)) (sym (at_seam done after pass) ∙ ap (λ xs. slice_get xs (length done)) split ∙ are.each (length done) within) in (
      ap (λ (p : PassView). p.history) is,
      omega (arith, within, are.all, ap (λ (p : PassView). p.number) is, ap (λ (p : PassView). p.writers) is),
      ap (λ (p : PassView). p.mark) is ∙ first_free history.kinds (length done) (omega (arith, within, are.all)),
    )

-- the last of one new client is the first
pub only_client : (history : HistoryId) (len : ℕ) (all : List PassView) (client : PassView) → len ≡ 1 → Some client ≡ Some (get_or all (len - 1) client) →
    slice_get all 0 ≡ Some (new_pass history 0) → client ≡ new_pass history 0
only_client history len [] client single last first = absurd (cc)
only_client history len (x ∷ others) client single last first =
    let at : len - 1 ≡ 0 = omega arith in
    let same : client ≡ x = same_Some client x (last ∙ ap (λ i. Some (get_or (x ∷ others) i client)) at) in
    same ∙ same_Some x (new_pass history 0) first
