use Rattle.std.proofs.Common.{subst}
use Rattle.base_versions.specs.Versions.{TrimsTracks}
use Rattle.base_versions.specs.Kept.{TableKept}
use Rattle.base_versions.proofs.TableTrims.{trims-kept}
use Rattle.base_versions.proofs.table.TableVersions.trim.Goals as goal

pub returns-then-trim_versions-clause-versions : goal.returns-then-trim_versions-clause-versions
returns-then-trim_versions-clause-versions c =
    subst (λ (t : TableKept). TrimsTracks c.args.to t.tracks c.remove_track.new.tracks.entries) c.self.view_is
    (trims-kept c.args.to c.self.inside.tracks.entries c.trim_versions.new.tracks.entries c.remove_track.new.tracks.entries c.trim_versions.ensures.trims c.remove_track.ensures.same)

pub returns-else-trim_versions-clause-versions : goal.returns-else-trim_versions-clause-versions
returns-else-trim_versions-clause-versions c =
    subst (λ (t : TableKept). TrimsTracks c.args.to t.tracks c.trim_versions.new.tracks.entries) c.self.view_is c.trim_versions.ensures.trims

pub invariant_of-self : goal.invariant_of-self
invariant_of-self c = (
  c.remove_track.ensures.keys (c.trim_versions.ensures.keys c.self.invariant.0),
  c.take_first.ensures.grouped c.self.invariant.1,
  c.remove_track.ensures.gone (c.trim_versions.ensures.others c.self.invariant.2),
)

pub invariant_of-self-else-trim_versions : goal.invariant_of-self-else-trim_versions
invariant_of-self-else-trim_versions c = (
  c.trim_versions.ensures.keys c.self.invariant.0,
  c.take_first.ensures.grouped c.self.invariant.1,
  c.trim_versions.ensures.some c.if-trim_versions.false c.self.invariant.2,
)
