use Rattle.std.proofs.Common.{◌≡◌, ◌<◌, List, [], ◌∷◌, ◌++◌, length, Some, None, refl, sym, ◌∙◌, ap, rules, subst, arith}
use Rattle.std.proofs.lemmas.List.{length-append}
use Rattle.std.specs.String.{string_bytes}
use Rattle.std.proofs.lemmas.Result.{on_ok_weaker}
use Rattle.semantics.specs.Texts.{Text}
use Rattle.base_versions.specs.declared.changes.Change.{Change}
use Rattle.base_versions.specs.Named.{named}
use Rattle.base_versions.specs.Groups.{Groups, EachHasChange, group_of}
use Rattle.base_versions.proofs.NamedLemmas.{IsSetAt, set-from_updates, among_found}
use Rattle.base_versions.proofs.GroupedLemmas.{adds_change-from_set}
use Rattle.base_versions.proofs.EachLemmas.{IsUpdate, update-named, others-each, each-update}
use Rattle.base_versions.proofs.groups.add_change.Goals as goal

pub returns-in-Some-clause-adds : goal.returns-in-Some-clause-adds
returns-in-Some-clause-adds c =
    let group = c.group_of-group.result.now in
    let is : group ≡ group_of c.args.key.now = c.group_of-group.ensures ∙ ap group_of c.text.ensures.text in
    let change : Change = record { position = c.args.position; key = c.args.key.now } in
    let before = c.in-Some.queue.now in
    let queue = c.push.new.self in
    let new = c.get_mut.follows.lender queue in
    let set = set-from_updates [] group queue c.args.queues.now new ((c.get_mut.follows.holds queue).3 (search rules)) in
    let was = among_found [] group group c.args.queues.now.entries (Some before) refl c.in-Some.ensures.value in
    on_ok_weaker c.push.result (λ more.
    adds_change-from_set group change before queue (named c.args.queues.now.entries) (named new.entries) is set (sym was)
    (more ∙ ap (λ (k : Text). before ++ record { position = c.args.position; key = k } ∷ []) c.in_ok-copy.ensures)) c.push.ensures

pub returns-in_ok-insert-in-None-clause-adds : goal.returns-in_ok-insert-in-None-clause-adds
returns-in_ok-insert-in-None-clause-adds c =
    let group = c.group_of-group.result.now in
    let name = string_bytes c.in_ok-name-in-None.name in
    let is : name ≡ group_of c.args.key.now = c.in_ok-name-in-None.ensures.ok ∙ c.group_of-group.ensures ∙ ap group_of c.text.ensures.text in
    let change : Change = record { position = c.args.position; key = c.args.key.now } in
    let before = c.new-queue.result in
    let queue = c.push-in-None.new.self in
    let new = named c.insert.new.self.entries in
    let set = set-from_updates [] name queue c.get_mut.follows.lender-at-none c.insert.new.self c.in_ok-insert-in-None.ensures.updates in
    let set_here : IsSetAt [] name queue (named c.args.queues.now.entries) new =
    subst (λ (gs : Groups). IsSetAt [] name queue gs new) (ap (λ m. named m.entries) c.get_mut.follows.holds-at-none) set in
    let was = among_found [] group name c.args.queues.now.entries None (sym c.in_ok-name-in-None.ensures.ok) c.in-None.ensures.value in
    adds_change-from_set name change before queue (named c.args.queues.now.entries) new is set_here (c.new-queue.ensures ∙ sym was)
    (c.in_ok-push-in-None.ensures ∙ ap (λ (k : Text). before ++ record { position = c.args.position; key = k } ∷ []) c.in_ok-copy.ensures)

-- a list with one more has one
more_some : (before queue : List Change) (c : Change) → queue ≡ before ++ c ∷ [] → 0 < length queue
more_some before queue c more = let size = ap length more ∙ length-append before (c ∷ []) in omega arith

pub returns-in-Some-clause-some : goal.returns-in-Some-clause-some
returns-in-Some-clause-some c =
    let group = c.group_of-group.result.now in
    let before = c.in-Some.queue.now in
    let queue = c.push.new.self in
    let old = c.args.queues.now in
    let new = c.get_mut.follows.lender queue in
    let holds = λ (changes : List Change). 0 < length changes in
    on_ok_weaker c.push.result (λ more each.
    each-update holds group (Some queue) (named old.entries) (named new.entries) (update-named group (Some queue) old new ((c.get_mut.follows.holds queue).3 (search rules)))
    (more_some before queue (record { position = c.args.position; key = c.in_ok-copy.field-0 }) more) (others-each holds group (named old.entries) each)) c.push.ensures

pub returns-in_ok-insert-in-None-clause-some : goal.returns-in_ok-insert-in-None-clause-some
returns-in_ok-insert-in-None-clause-some c = λ each.
    let name = string_bytes c.in_ok-name-in-None.name in
    let before = c.new-queue.result in
    let queue = c.push-in-None.new.self in
    let holds = λ (changes : List Change). 0 < length changes in
    let lent = c.get_mut.follows.lender-at-none in
    each-update holds name (Some queue) (named lent.entries) (named c.insert.new.self.entries) (update-named name (Some queue) lent c.insert.new.self c.in_ok-insert-in-None.ensures.updates)
    (more_some before queue (record { position = c.args.position; key = c.in_ok-copy.field-0 }) c.in_ok-push-in-None.ensures)
    (others-each holds name (named lent.entries) (subst (λ (gs : Groups). EachHasChange gs) (ap (λ m. named m.entries) (sym c.get_mut.follows.holds-at-none)) each))
