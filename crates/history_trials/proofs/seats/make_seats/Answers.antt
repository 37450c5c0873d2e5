use Rattle.std.proofs.Common.{◌≡◌, ℕ, ◌+◌, All, take, drop, ap, sym, ◌∙◌, subst}
use Rattle.write_history.specs.Passes.{HistoryId, MayAppend}
use Rattle.write_history.specs.declared.known.Mark.TheVariants.{Free, Noted}
use Rattle.history_trials.specs.Seated.{IsFree}
use Rattle.history_trials.proofs.SeatTrialLemmas.{dealt, pinned_free, readers_of, shards_noted, shards_of, writers_free, writers_may}
use Rattle.history_trials.proofs.seats.make_seats.Goals as goal

pub returns-clause-writers : goal.returns-clause-writers
returns-clause-writers c =
    let made = c.in_ok-history in
    let a = c.args in
    let all = dealt made.history made.passes.items (a.writers + a.pinned + a.shards + a.readers) made.ensures.count made.ensures.each in
    subst (All (λ pass. MayAppend made.history pass))
    (sym (c.in_ok-pinned.ensures.items ∙ ap (λ xs. take a.writers xs) (c.in_ok-shards.ensures.items ∙ ap (λ xs. take (a.writers + a.pinned) xs) c.in_ok-readers.ensures.items)))
    (writers_may made.history a.writers a.pinned a.shards made.passes.items all (ap (λ k. k.writers) made.ensures.kinds))

pub returns-clause-free : goal.returns-clause-free
returns-clause-free c =
    let made = c.in_ok-history in
    let a = c.args in
    let all = dealt made.history made.passes.items (a.writers + a.pinned + a.shards + a.readers) made.ensures.count made.ensures.each in
    subst (All (λ pass. pass.mark ≡ Free))
    (sym (c.in_ok-pinned.ensures.items ∙ ap (λ xs. take a.writers xs) (c.in_ok-shards.ensures.items ∙ ap (λ xs. take (a.writers + a.pinned) xs) c.in_ok-readers.ensures.items)))
    (writers_free made.history a.writers a.pinned a.shards made.passes.items all (ap (λ k. k.writers) made.ensures.kinds))

pub returns-clause-pinned : goal.returns-clause-pinned
returns-clause-pinned c =
    let made = c.in_ok-history in
    let a = c.args in
    let all = dealt made.history made.passes.items (a.writers + a.pinned + a.shards + a.readers) made.ensures.count made.ensures.each in
    subst (All (λ pass. IsFree made.history pass))
    (sym (c.in_ok-pinned.ensures.tail ∙ ap (λ xs. drop a.writers xs) (c.in_ok-shards.ensures.items ∙ ap (λ xs. take (a.writers + a.pinned) xs) c.in_ok-readers.ensures.items)))
    (pinned_free made.history a.writers a.pinned a.shards made.passes.items all (ap (λ k. k.writers) made.ensures.kinds) (ap (λ k. k.pinned) made.ensures.kinds))

pub returns-clause-shards : goal.returns-clause-shards
returns-clause-shards c =
    let made = c.in_ok-history in
    let a = c.args in
    let all = dealt made.history made.passes.items (a.writers + a.pinned + a.shards + a.readers) made.ensures.count made.ensures.each in
    subst (All (λ pass. pass.history ≡ made.history))
    (sym (c.in_ok-shards.ensures.tail ∙ ap (λ xs. drop (a.writers + a.pinned) xs) c.in_ok-readers.ensures.items))
    (shards_of made.history a.writers a.pinned a.shards made.passes.items all)

pub returns-clause-noted : goal.returns-clause-noted
returns-clause-noted c =
    let made = c.in_ok-history in
    let a = c.args in
    let all = dealt made.history made.passes.items (a.writers + a.pinned + a.shards + a.readers) made.ensures.count made.ensures.each in
    subst (All (λ pass. pass.mark ≡ Noted 0))
    (sym (c.in_ok-shards.ensures.tail ∙ ap (λ xs. drop (a.writers + a.pinned) xs) c.in_ok-readers.ensures.items))
    (shards_noted made.history a.writers a.pinned a.shards made.passes.items all (ap (λ k. k.writers) made.ensures.kinds) (ap (λ k. k.pinned) made.ensures.kinds) (ap (λ k. k.shards) made.ensures.kinds))

pub returns-clause-readers : goal.returns-clause-readers
returns-clause-readers c =
    let made = c.in_ok-history in
    let a = c.args in
    let all = dealt made.history made.passes.items (a.writers + a.pinned + a.shards + a.readers) made.ensures.count made.ensures.each in
    subst (All (λ pass. pass.history ≡ made.history)) (sym c.in_ok-readers.ensures.tail)
    (readers_of made.history (a.writers + a.pinned + a.shards) made.passes.items all)
