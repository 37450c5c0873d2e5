use Rattle.std.proofs.Common.{◌≡◌, ◌++◌, ◌∷◌, [], length, Some, None, sym, ◌∙◌, ap, rules, subst, arith}
use Rattle.std.proofs.lemmas.List.{length-append}
use Rattle.std.specs.String.{string_bytes}
use Rattle.semantics.specs.Texts.{Text, table_of}
use Rattle.base_versions.specs.Named.{named}
use Rattle.base_versions.specs.declared.changes.Change.{Change}
use Rattle.base_versions.specs.Kept.{TableKept, Tables, EachHasKeyOrChange, HasKeyOrChange, empty_table}
use Rattle.base_versions.proofs.NamedLemmas.{IsSetAt, set-from_updates, among_found}
use Rattle.base_versions.proofs.EnterLemmas.{entered-from_set, kept-from_set, on_ok_both, on_err_both}
use Rattle.base_versions.proofs.EachLemmas.{update-named, others-each, each-update, each-found}
use Rattle.base_versions.proofs.base.enter_in.Goals as goal

pub returns-in-Some-clause-ok : goal.returns-in-Some-clause-ok
returns-in-Some-clause-ok c =
    let key = c.args.key.now in
    let old = named c.args.tables.now.entries in
    let new = named (c.get_mut.follows.lender c.enter.new.self).entries in
    let set = set-from_updates empty_table c.table.result.now c.enter.new.self c.args.tables.now (c.get_mut.follows.lender c.enter.new.self) ((c.get_mut.follows.holds c.enter.new.self).3 (search rules)) in
    let set_here : IsSetAt empty_table (table_of key) c.enter.new.self old new = subst (λ (t : Text). IsSetAt empty_table t c.enter.new.self old new) c.table.ensures.table set in
    let was = among_found empty_table c.table.result.now (table_of key) c.args.tables.now.entries (Some c.in-Some.table.now) c.table.ensures.table c.in-Some.ensures.value in
    on_ok_both c.enter.result (λ versions changes. entered-from_set c.args.position key c.args.value c.in-Some.table.now c.enter.new.self old new set_here (sym was) versions changes) c.enter.ensures.versions c.enter.ensures.changes

pub returns-in-Some-clause-err : goal.returns-in-Some-clause-err
returns-in-Some-clause-err c =
    let key = c.args.key.now in
    let old = named c.args.tables.now.entries in
    let new = named (c.get_mut.follows.lender c.enter.new.self).entries in
    let set = set-from_updates empty_table c.table.result.now c.enter.new.self c.args.tables.now (c.get_mut.follows.lender c.enter.new.self) ((c.get_mut.follows.holds c.enter.new.self).3 (search rules)) in
    let set_here : IsSetAt empty_table (table_of key) c.enter.new.self old new = subst (λ (t : Text). IsSetAt empty_table t c.enter.new.self old new) c.table.ensures.table set in
    let was = among_found empty_table c.table.result.now (table_of key) c.args.tables.now.entries (Some c.in-Some.table.now) c.table.ensures.table c.in-Some.ensures.value in
    on_err_both c.enter.result (λ versions changes. kept-from_set (table_of key) c.in-Some.table.now c.enter.new.self old new set_here (sym was) versions changes) c.enter.ensures.no_version c.enter.ensures.no_change

pub returns-in_ok-insert-in-None-clause-ok : goal.returns-in_ok-insert-in-None-clause-ok
returns-in_ok-insert-in-None-clause-ok c =
    let key = c.args.key.now in
    let old = named c.args.tables.now.entries in
    let new = named c.insert.new.self.entries in
    let table = c.enter-in-None.new.self in
    let name : string_bytes c.in_ok-name-in-None.name ≡ table_of key = c.in_ok-name-in-None.ensures.ok ∙ c.table-in-None-2.ensures.table in
    let set = set-from_updates empty_table (string_bytes c.in_ok-name-in-None.name) table c.get_mut.follows.lender-at-none c.insert.new.self c.in_ok-insert-in-None.ensures.updates in
    let set_here : IsSetAt empty_table (table_of key) table old new =
    subst (λ (t : Text). IsSetAt empty_table t table old new) name
    (subst (λ (ts : Tables). IsSetAt empty_table (string_bytes c.in_ok-name-in-None.name) table ts new) (ap (λ m. named m.entries) c.get_mut.follows.holds-at-none) set) in
    let was = among_found empty_table c.table.result.now (table_of key) c.args.tables.now.entries None c.table.ensures.table c.in-None.ensures.value in
    entered-from_set c.args.position key c.args.value c.new-table.result table old new set_here (c.new-table.ensures ∙ sym was) c.in_ok-enter-in-None.ensures.versions c.in_ok-enter-in-None.ensures.changes

-- a table with one change more has one
has_change : (before table : TableKept) (c : Change) → table.changes ≡ before.changes ++ c ∷ [] → HasKeyOrChange table
has_change before table c more = let size = ap length more ∙ length-append before.changes (c ∷ []) in omega arith

pub returns-in-Some-clause-some : goal.returns-in-Some-clause-some
returns-in-Some-clause-some c = λ each.
    let name = c.table.result.now in
    let old = c.args.tables.now in
    let table = c.enter.new.self in
    let new = c.get_mut.follows.lender table in
    each-update HasKeyOrChange name (Some table) (named old.entries) (named new.entries) (update-named name (Some table) old new ((c.get_mut.follows.holds table).3 (search rules)))
    (c.enter.ensures.some (each-found HasKeyOrChange name old.entries c.in-Some.table.now c.in-Some.ensures.value each)) (others-each HasKeyOrChange name (named old.entries) each)

pub returns-in_ok-insert-in-None-clause-some : goal.returns-in_ok-insert-in-None-clause-some
returns-in_ok-insert-in-None-clause-some c = λ each.
    let name = string_bytes c.in_ok-name-in-None.name in
    let table = c.enter-in-None.new.self in
    let lent = c.get_mut.follows.lender-at-none in
    let new = c.insert.new.self in
    each-update HasKeyOrChange name (Some table) (named lent.entries) (named new.entries) (update-named name (Some table) lent new c.in_ok-insert-in-None.ensures.updates)
    (has_change c.new-table.result table (record { position = c.args.position; key = c.args.key.now }) c.in_ok-enter-in-None.ensures.changes)
    (others-each HasKeyOrChange name (named lent.entries) (subst (λ (ts : Tables). EachHasKeyOrChange ts) (ap (λ m. named m.entries) (sym c.get_mut.follows.holds-at-none)) each))
