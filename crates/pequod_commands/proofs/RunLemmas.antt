-- How `run` ends where nothing is served, and from where on its client is served.
use Rattle.std.proofs.Common.{◌≡◌, ℕ, [], Option, refl, ap₂, subst}
use Rattle.semantics.specs.Texts.{Text}
use Rattle.semantics.specs.Histories.{History}
use Rattle.protocol.specs.Session.{Ending, Served, no_memory}
use Rattle.pq_io.proofs.StreamLemmas.{Gave-nothing, Took-nothing}
use Rattle.pequod_commands.specs.Statuses.{RunsTo}

-- where there was no memory at the start, nothing was read and nothing written
pub runs_to_no_memory : (status : ℕ) (left taken : Option Text) → status ≡ 6 → RunsTo status left left taken taken
runs_to_no_memory status left taken six = record {
  ending = no_memory;
  bytes = [];
  written = [];
  status_is = six;
  gave = Gave-nothing left;
  took = Took-nothing taken;
  view = [];
  served = (refl, refl, refl);
  ran = (refl, refl);
}

-- a client that had seen nothing, with the number 0, was served from the empty history by this number
pub from_nothing : (ending : Ending) (before after : History) (number : ℕ) (bytes written : Text) (left : Option Text) → before ≡ [] → number ≡ 0 →
    Served ending (record { before = before; after = after; client = number; bytes = bytes; written = written; left = left }) →
    Served ending (record { before = []; after = after; client = 0; bytes = bytes; written = written; left = left })
from_nothing ending before after number bytes written left empty numbered served =
    subst (Served ending) (ap₂ (λ (b : History) (n : ℕ). record { before = b; after = after; client = n; bytes = bytes; written = written; left = left }) empty numbered) served
