use Rattle.std.proofs.Common.{◌≡◌, subst, IfOk}
use Rattle.base_versions.specs.Versions.{Tracks, AllAscend, pairs_in}
use Rattle.base_versions.proofs.table.TableVersions.pairs_at.Goals as goal

pub returns-clause-pairs : goal.returns-clause-pairs
returns-clause-pairs c =
    subst (λ (ts : Tracks). AllAscend ts → IfOk c.listed.result (λ pairs. pairs.items ≡ pairs_in c.args.p ts)) c.in_ok-tracks.ensures.tracks c.listed.ensures
