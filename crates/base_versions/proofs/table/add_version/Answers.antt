use Rattle.std.proofs.Common.{◌≡◌, ◌<◌, ◌≤◌, List, [], ◌∷◌, ◌++◌, length, Result, Ok, Err, OnOk, OnErr, IfSome, sym, ap, ◌∙◌, rules, subst, cond, Some, arith}
use Rattle.std.proofs.lemmas.List.{length-append}
use Rattle.std.specs.BTreeMap.{is_at, insert_entry}
use Rattle.std.specs.Map.{lookup}
use Rattle.std.specs.Option.{unwrap_or}
use Rattle.std.proofs.lemmas.Result.{on_ok_weaker, on_err_weaker}
use Rattle.semantics.specs.Texts.{Text, text_cmp, is_key}
use Rattle.base_versions.specs.declared.versions.Version.{Version}
use Rattle.base_versions.specs.Versions.{Tracks, AddsVersion, EachHasVersion, versions_at}
use Rattle.base_versions.proofs.MapLemmas.{adds-from_set, keeps-from_set, IsSet, AreKeys, same_keys, keys-insert}
use Rattle.base_versions.proofs.EachLemmas.{update-tied, others-each, each-update}
use Rattle.base_versions.proofs.table.add_version.Goals as goal

pub returns-in-Some-clause-ok : goal.returns-in-Some-clause-ok
returns-in-Some-clause-ok c =
    let old = c.args.tracks.now.entries in
    let had = ap (λ o. unwrap_or o []) c.in-Some.ensures.value in
    let new = (c.get_mut.follows.lender c.push.new.self).entries in
    on_ok_weaker c.push.result (λ e. subst (λ (k : Text). AddsVersion k c.args.version old new) c.place.ensures.place
    (adds-from_set c.place.result.now c.args.version c.push.new.self old new (e ∙ ap (λ vs. vs ++ c.args.version ∷ []) had) ((c.get_mut.follows.holds c.push.new.self).3 (search rules)).0)) c.push.ensures.ok

pub returns-in-Some-clause-err : goal.returns-in-Some-clause-err
returns-in-Some-clause-err c =
    let had = ap (λ o. unwrap_or o []) c.in-Some.ensures.value in
    on_err_weaker c.push.result (λ e. keeps-from_set c.place.result.now c.push.new.self c.args.tracks.now.entries (c.get_mut.follows.lender c.push.new.self).entries (e ∙ had) ((c.get_mut.follows.holds c.push.new.self).3 (search rules)).0) c.push.ensures.err

pub returns-in-Some-clause-keys : goal.returns-in-Some-clause-keys
returns-in-Some-clause-keys c = same_keys c.args.tracks.now.entries (c.get_mut.follows.lender c.push.new.self).entries (c.get_mut.follows.holds c.push.new.self).1

pub returns-in_ok-insert-in-None-clause-ok : goal.returns-in_ok-insert-in-None-clause-ok
returns-in_ok-insert-in-None-clause-ok c =
    let old = c.args.tracks.now.entries in
    let new = c.insert.new.self.entries in
    let k = c.in_ok-copy-in-None.field-0 in
    let vs = c.push-in-None.new.self in
    let same : k ≡ c.args.key.now = c.in_ok-copy-in-None.ensures ∙ c.place-in-None.ensures.place in
    let had : [] ≡ versions_at k old = ap (λ o. unwrap_or o []) c.in-None.ensures.value ∙ ap (λ x. versions_at x old) (c.place.ensures.place ∙ sym same) in
    let set : IsSet k vs old new = λ q. c.in_ok-insert-in-None.ensures.updates.0 q ∙ ap (λ m. cond (is_at (text_cmp k) q) (Some vs) (lookup (is_at (text_cmp q)) m.entries)) c.get_mut.follows.holds-at-none in
    subst (λ (x : Text). AddsVersion x c.args.version old new) same
    (adds-from_set k c.args.version vs old new (c.in_ok-push-in-None.ensures.ok ∙ ap (λ ws. ws ++ c.args.version ∷ []) (c.new-versions.ensures ∙ had)) set)

pub returns-in_ok-insert-in-None-clause-keys : goal.returns-in_ok-insert-in-None-clause-keys
returns-in_ok-insert-in-None-clause-keys c = λ a.
    let k = c.in_ok-copy-in-None.field-0 in
    let vs = c.push-in-None.new.self in
    let same : k ≡ c.args.key.now = c.in_ok-copy-in-None.ensures ∙ c.place-in-None.ensures.place in
    subst (λ (ts : Tracks). AreKeys ts) (sym (c.in_ok-insert-in-None.ensures.entries ∙ ap (λ m. insert_entry text_cmp m.entries k vs) c.get_mut.follows.holds-at-none))
    (keys-insert c.args.tracks.now.entries k vs (ap is_key same ∙ c.place.ensures.is_key) a)

-- one version more
some_more : (old new : List Version) (v : Version) → new ≡ old ++ v ∷ [] → 0 < length new
some_more old new v more = let size = ap length more ∙ length-append old (v ∷ []) in omega arith

-- versions of which there were some, or one more
some_after : {X E : Type 0} (r : Result X E) (old new : List Version) (v : Version) → OnOk r (new ≡ old ++ v ∷ []) → OnErr r (new ≡ old) → 0 < length old → 0 < length new
some_after (Ok x) old new v ok err some = some_more old new v ok
some_after (Err e) old new v ok err some = let size = ap length err in omega arith

pub returns-in-Some-clause-some : goal.returns-in-Some-clause-some
returns-in-Some-clause-some c = λ each.
    let key = c.place.result.now in
    let old = c.args.tracks.now.entries in
    let before = c.in-Some.versions.now in
    let vs = c.push.new.self in
    let new = (c.get_mut.follows.lender vs).entries in
    let holds = λ (versions : List Version). 0 < length versions in
    let was : Some before ≡ lookup (is_at (text_cmp key)) old = c.in-Some.ensures.value in
    let had : 0 < length before = subst (λ o. IfSome o holds) (sym was) (each key) in
    each-update holds key (Some vs) old new (update-tied key (Some vs) old new ((c.get_mut.follows.holds vs).3 (search rules)).0)
    (some_after c.push.result before vs c.args.version c.push.ensures.ok c.push.ensures.err had) (others-each holds key old each)

pub returns-in_ok-insert-in-None-clause-some : goal.returns-in_ok-insert-in-None-clause-some
returns-in_ok-insert-in-None-clause-some c = λ each.
    let old = c.args.tracks.now.entries in
    let new = c.insert.new.self.entries in
    let k = c.in_ok-copy-in-None.field-0 in
    let vs = c.push-in-None.new.self in
    let holds = λ (versions : List Version). 0 < length versions in
    let set : IsSet k vs old new = λ q. c.in_ok-insert-in-None.ensures.updates.0 q ∙ ap (λ m. cond (is_at (text_cmp k) q) (Some vs) (lookup (is_at (text_cmp q)) m.entries)) c.get_mut.follows.holds-at-none in
    each-update holds k (Some vs) old new (update-tied k (Some vs) old new set)
    (some_more c.new-versions.result vs c.args.version c.in_ok-push-in-None.ensures.ok) (others-each holds k old each)
