use Rattle.std.proofs.Common.{◌<◌, [], List, length, None, Some, refl, sym, ap, ◌∙◌, rules, subst}
use Rattle.base_versions.specs.declared.changes.Change.{Change}
use Rattle.base_versions.specs.Named.{named}
use Rattle.base_versions.specs.Groups.{Groups, EachHasChange, LosesFirst, OthersHaveChanges}
use Rattle.base_versions.proofs.NamedLemmas.{set-from_updates, among_found, here}
use Rattle.base_versions.proofs.GroupedLemmas.{loses_first-from_set, loses_first-none}
use Rattle.base_versions.proofs.EachLemmas.{IsUpdate, update-named, others-each, each-update, others-update}
use Rattle.base_versions.proofs.groups.lose_first.Goals as goal

pub returns-in-None-clause-loses : goal.returns-in-None-clause-loses
returns-in-None-clause-loses c =
    let group = c.args.group.now in
    let old = c.args.queues.now in
    let none = among_found [] group group old.entries None refl c.in-None.ensures.value in
    subst (λ (gs : Groups). LosesFirst group (named old.entries) gs) (ap (λ m. named m.entries) (sym c.get_mut.follows.holds-at-none)) (loses_first-none group (named old.entries) none)

pub returns-in-Some-clause-loses : goal.returns-in-Some-clause-loses
returns-in-Some-clause-loses c =
    let group = c.args.group.now in
    let old = c.args.queues.now in
    let queue = c.take_first.new.self in
    let new = c.get_mut.follows.lender queue in
    let set = set-from_updates [] group queue old new ((c.get_mut.follows.holds queue).3 (search rules)) in
    let was = among_found [] group group old.entries (Some c.in-Some.queue.now) refl c.in-Some.ensures.value in
    loses_first-from_set group c.in-Some.queue.now queue (named old.entries) (named new.entries) set (sym was) c.take_first.ensures

pub returns-in-Some-clause-none : goal.returns-in-Some-clause-none
returns-in-Some-clause-none c = λ empty.
    let group = c.args.group.now in
    let old = c.args.queues.now in
    let queue = c.take_first.new.self in
    let new = c.get_mut.follows.lender queue in
    let set = set-from_updates [] group queue old new ((c.get_mut.follows.holds queue).3 (search rules)) in
    here [] group queue (named old.entries) (named new.entries) set ∙ c.is_empty.ensures.none empty

pub returns-in-Some-clause-some : goal.returns-in-Some-clause-some
returns-in-Some-clause-some c = λ left each.
    let group = c.args.group.now in
    let old = c.args.queues.now in
    let queue = c.take_first.new.self in
    let new = c.get_mut.follows.lender queue in
    let holds = λ (changes : List Change). 0 < length changes in
    each-update holds group (Some queue) (named old.entries) (named new.entries) (update-named group (Some queue) old new ((c.get_mut.follows.holds queue).3 (search rules)))
    (c.is_empty.ensures.some left) (others-each holds group (named old.entries) each)

pub returns-in-Some-clause-others : goal.returns-in-Some-clause-others
returns-in-Some-clause-others c = λ each.
    let group = c.args.group.now in
    let old = c.args.queues.now in
    let queue = c.take_first.new.self in
    let new = c.get_mut.follows.lender queue in
    let holds = λ (changes : List Change). 0 < length changes in
    others-update holds group (Some queue) (named old.entries) (named new.entries) (update-named group (Some queue) old new ((c.get_mut.follows.holds queue).3 (search rules)))
    (others-each holds group (named old.entries) each)

pub returns-in-None-clause-some : goal.returns-in-None-clause-some
returns-in-None-clause-some c = λ left each. subst (λ (gs : Groups). EachHasChange gs) (ap (λ m. named m.entries) (sym c.get_mut.follows.holds-at-none)) each

pub returns-in-None-clause-others : goal.returns-in-None-clause-others
returns-in-None-clause-others c = λ each.
    let group = c.args.group.now in
    others-each (λ (changes : List Change). 0 < length changes) group (named c.get_mut.follows.lender-at-none.entries)
    (subst (λ (gs : Groups). EachHasChange gs) (ap (λ m. named m.entries) (sym c.get_mut.follows.holds-at-none)) each)
