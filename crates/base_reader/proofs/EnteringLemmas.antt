-- One entry more.
use Rattle.std.proofs.Common.{◌≡◌, ℕ, [], ◌∷◌, ◌++◌, None, sym, ◌∙◌, subst, arith}
use Rattle.std.proofs.lemmas.List.{length-append, take-append-le}
use Rattle.semantics.specs.Histories.{Write, Entry, History}
use Rattle.semantics.specs.Verdicts.{verdict}
use Rattle.semantics.proofs.EnteredLemmas.{AllEntered-push}
use Rattle.semantics.proofs.Members.{AllByRecursion-append}
use Rattle.growing_history.specs.Entered.{IsWrite}
use Rattle.base_versions.specs.Kept.{Kept, StandsFor}
use Rattle.join_set.specs.Summaries as summaries
use Rattle.base_reader.specs.Holds.{HoldsEntries}

-- what is kept of the entries is kept with one more, against which nothing was
pub holds_more : (es new : History) (e : Entry) (w : Write) (base : Kept) (summary after : summaries.Summary) → new ≡ es ++ e ∷ [] → w ≡ e.write → IsWrite w → verdict e.write es ≡ None →
    ((h : History) (client : ℕ) → summaries.StandsFor summary h → summaries.StandsFor after (h ++ record { client = client; write = w } ∷ [])) → after.floor ≡ summary.floor → HoldsEntries es base summary → HoldsEntries new base after
holds_more es new e w base summary after is same write free goes floor holds =
    subst (λ h. HoldsEntries h base after) (sym is) (record {
      entered = record {
        entered = AllEntered-push es e holds.entered.entered free;
        writes = AllByRecursion-append (λ x. IsWrite x.write) es (e ∷ []) holds.entered.writes (subst IsWrite same write, tt);
      };
      reaches = omega (arith, holds.reaches, length-append es (e ∷ []));
      versions = subst (StandsFor 0 base) (sym (take-append-le base.position es (e ∷ []) holds.reaches)) holds.versions;
      shard = holds.shard;
      shards = holds.shards;
      unsettled = floor ∙ holds.unsettled;
      summary = subst (λ x. summaries.StandsFor after (es ++ record { client = e.client; write = x } ∷ [])) same (goes es e.client holds.summary);
    })
