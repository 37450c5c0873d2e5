use Rattle.std.proofs.Common.{◌≡◌, ◌<◌, List, [], length, Some, ap, ◌∙◌, rules, subst, sym}
use Rattle.std.specs.Option.{unwrap_or}
use Rattle.semantics.specs.Texts.{Text}
use Rattle.base_versions.specs.declared.versions.Version.{Version}
use Rattle.base_versions.specs.Versions.{Tracks, AscendFrom, EachHasVersion, OthersHaveVersions, TrimsTo, versions_at}
use Rattle.base_versions.proofs.MapLemmas.{IsSet, same_keys}
use Rattle.base_versions.proofs.TableTrims.{trims-from_set, set_here}
use Rattle.base_versions.proofs.EachLemmas.{IsUpdate, update-tied, others-each, each-update, others-update}
use Rattle.base_versions.proofs.table.trim_versions.Goals as goal

pub returns-in-Some-clause-trims : goal.returns-in-Some-clause-trims
returns-in-Some-clause-trims c =
    let old = c.args.tracks.now.entries in
    let vs = c.trim.new.self in
    let had = ap (λ o. unwrap_or o []) c.in-Some.ensures.value in
    trims-from_set c.args.to c.place.result.now vs old (c.get_mut.follows.lender vs).entries ((c.get_mut.follows.holds vs).3 (search rules)).0 (subst (λ ws. AscendFrom 0 ws → TrimsTo c.args.to ws vs) had c.trim.ensures)

pub returns-in-Some-clause-none : goal.returns-in-Some-clause-none
returns-in-Some-clause-none c = λ empty.
    let old = c.args.tracks.now.entries in
    let vs = c.trim.new.self in
    let new = (c.get_mut.follows.lender vs).entries in
    ap (λ (k : Text). versions_at k new) (sym c.place.ensures.place) ∙ set_here c.place.result.now vs old new ((c.get_mut.follows.holds vs).3 (search rules)).0 ∙ c.is_empty.ensures.none empty

pub returns-in-Some-clause-keys : goal.returns-in-Some-clause-keys
returns-in-Some-clause-keys c = same_keys c.args.tracks.now.entries (c.get_mut.follows.lender c.trim.new.self).entries (c.get_mut.follows.holds c.trim.new.self).1

pub returns-in-Some-clause-some : goal.returns-in-Some-clause-some
returns-in-Some-clause-some c = λ left each.
    let key = c.place.result.now in
    let old = c.args.tracks.now.entries in
    let vs = c.trim.new.self in
    let new = (c.get_mut.follows.lender vs).entries in
    let holds = λ (versions : List Version). 0 < length versions in
    each-update holds key (Some vs) old new (update-tied key (Some vs) old new ((c.get_mut.follows.holds vs).3 (search rules)).0) (c.is_empty.ensures.some left) (others-each holds key old each)

pub returns-in-Some-clause-others : goal.returns-in-Some-clause-others
returns-in-Some-clause-others c = λ each.
    let key = c.place.result.now in
    let old = c.args.tracks.now.entries in
    let vs = c.trim.new.self in
    let new = (c.get_mut.follows.lender vs).entries in
    let holds = λ (versions : List Version). 0 < length versions in
    subst (λ (k : Text). OthersHaveVersions k new) c.place.ensures.place
    (others-update holds key (Some vs) old new (update-tied key (Some vs) old new ((c.get_mut.follows.holds vs).3 (search rules)).0) (others-each holds key old each))
