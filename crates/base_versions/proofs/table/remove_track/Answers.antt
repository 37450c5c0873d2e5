use Rattle.std.proofs.Common.{◌≡◌, ◌<◌, List, length, None, sym, ap, ◌∙◌, subst}
use Rattle.std.specs.BTreeMap.{is_at}
use Rattle.semantics.specs.Texts.{Text, text_cmp}
use Rattle.base_versions.specs.declared.versions.Version.{Version}
use Rattle.base_versions.specs.Versions.{Tracks, OthersHaveVersions, versions_at}
use Rattle.base_versions.proofs.MapLemmas.{AreKeys}
use Rattle.base_versions.proofs.TableTrims.{keeps-from_taken, keys-remove}
use Rattle.base_versions.proofs.EachLemmas.{update-tied, each-update}
use Rattle.base_versions.proofs.table.remove_track.Goals as goal

pub returns-clause-same : goal.returns-clause-same
returns-clause-same c =
    keeps-from_taken c.place.result.now c.args.tracks.now.entries c.remove.new.self.entries (ap (λ (k : Text). versions_at k c.args.tracks.now.entries) c.place.ensures.place ∙ c.requires) c.remove.ensures.updates.0

pub returns-clause-keys : goal.returns-clause-keys
returns-clause-keys c = λ a. subst (λ (ts : Tracks). AreKeys ts) (sym c.remove.ensures.entries) (keys-remove (is_at (text_cmp c.place.result.now)) c.args.tracks.now.entries a)

pub returns-clause-gone : goal.returns-clause-gone
returns-clause-gone c = λ others.
    let key = c.place.result.now in
    let old = c.args.tracks.now.entries in
    each-update (λ (versions : List Version). 0 < length versions) key None old c.remove.new.self.entries (update-tied key None old c.remove.new.self.entries c.remove.ensures.updates.0) tt
    (subst (λ (k : Text). OthersHaveVersions k old) (sym c.place.ensures.place) others)
