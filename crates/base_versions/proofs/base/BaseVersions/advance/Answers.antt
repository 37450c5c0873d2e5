use Rattle.std.proofs.Common.{◌≡◌, ℕ, ◌+◌, ◌<◌, ◌∷◌, [], ◌++◌, length, take, get_or, sym, ap, ◌∙◌, subst, arith, append_assoc}
use Rattle.std.proofs.lemmas.List.{take_all, take_more}
use Rattle.semantics.specs.Histories.{Entry, History}
use Rattle.base_versions.specs.Kept.{StandsFor}
use Rattle.base_versions.proofs.EnterLemmas.{on_err_always}
use Rattle.base_versions.proofs.base.BaseVersions.advance.Goals as goal

-- the entries up to a place, and the one there
one_more : (h entries : History) (i : ℕ) (e : Entry) → i < length entries → e ≡ get_or entries i e → (h ++ take i entries) ++ e ∷ [] ≡ h ++ take (i + 1) entries
one_more h entries i e less is =
    append_assoc h (take i entries) (e ∷ []) ∙ ap (λ es. h ++ es) (ap (λ x. take i entries ++ x ∷ []) is ∙ sym (take_more entries i e less))

pub returns-in_err-enter-clause-err : goal.returns-in_err-enter-clause-err
returns-in_err-enter-clause-err c =
    on_err_always c.from_residual.result (record {
      count = c.loop-entry.entry-index;
      some = omega arith;
      position = c.in_err-enter.ensures.stays ∙ c.loop-entry.invariant.position;
      history = λ start h s. c.in_err-enter.ensures.err start (h ++ take c.loop-entry.entry-index c.args.entries.now) (c.loop-entry.invariant.history start h s);
    })

pub loop-entry-preserved : goal.loop-entry-preserved
loop-entry-preserved c = record {
  position = omega (arith, c.in_ok-enter.ensures.position, c.loop-entry.invariant.position);
  start = c.enter.ensures.start ∙ c.loop-entry.invariant.start;
  shard = c.enter.ensures.shard ∙ c.loop-entry.invariant.shard;
  shards = c.enter.ensures.shards ∙ c.loop-entry.invariant.shards;
  history = λ start h s.
      subst (λ es. StandsFor start c.enter.new.self es) (one_more h c.args.entries.now c.loop-entry.entry-index c.entry-item.result (omega arith) c.entry-item.is)
      (c.in_ok-enter.ensures.ok start (h ++ take c.loop-entry.entry-index c.args.entries.now) (c.loop-entry.invariant.history start h s));
}

pub returns-clause-ok : goal.returns-clause-ok
returns-clause-ok c = λ start h s.
    subst (λ es. StandsFor start c.loop-entry.self (h ++ es)) (take_all c.loop-entry.entry-index c.args.entries.now (omega arith)) (c.loop-entry.invariant.history start h s)
