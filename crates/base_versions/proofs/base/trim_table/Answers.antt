use Rattle.std.proofs.Common.{◌≡◌, Some, sym, ap, ◌∙◌, rules, subst}
use Rattle.semantics.specs.Texts.{Text, table_of}
use Rattle.base_versions.specs.Named.{named}
use Rattle.base_versions.specs.Kept.{Tables, EachHasKeyOrChange, HasKeyOrChange, OthersHaveKeyOrChange, empty_table}
use Rattle.base_versions.proofs.NamedLemmas.{IsSetAt, set-from_updates, among_found, here}
use Rattle.base_versions.proofs.TableTrims.{trimmed-from_set}
use Rattle.base_versions.proofs.EachLemmas.{update-named, others-each, each-update, others-update}
use Rattle.base_versions.proofs.base.trim_table.Goals as goal

pub returns-in-Some-clause-trims : goal.returns-in-Some-clause-trims
returns-in-Some-clause-trims c =
    let key = c.args.key.now in
    let old = named c.args.tables.now.entries in
    let new = named (c.get_mut.follows.lender c.trim.new.self).entries in
    let set = set-from_updates empty_table c.table.result.now c.trim.new.self c.args.tables.now (c.get_mut.follows.lender c.trim.new.self) ((c.get_mut.follows.holds c.trim.new.self).3 (search rules)) in
    let set_here : IsSetAt empty_table (table_of key) c.trim.new.self old new = subst (λ (t : Text). IsSetAt empty_table t c.trim.new.self old new) c.table.ensures.table set in
    let was = among_found empty_table c.table.result.now (table_of key) c.args.tables.now.entries (Some c.in-Some.table.now) c.table.ensures.table c.in-Some.ensures.value in
    trimmed-from_set c.args.to (table_of key) c.in-Some.table.now c.trim.new.self old new set_here (sym was) c.trim.ensures.versions c.trim.ensures.changes

pub returns-in-Some-clause-none : goal.returns-in-Some-clause-none
returns-in-Some-clause-none c = λ empty.
    let key = c.args.key.now in
    let old = named c.args.tables.now.entries in
    let new = named (c.get_mut.follows.lender c.trim.new.self).entries in
    let set = set-from_updates empty_table c.table.result.now c.trim.new.self c.args.tables.now (c.get_mut.follows.lender c.trim.new.self) ((c.get_mut.follows.holds c.trim.new.self).3 (search rules)) in
    let set_here : IsSetAt empty_table (table_of key) c.trim.new.self old new = subst (λ (t : Text). IsSetAt empty_table t c.trim.new.self old new) c.table.ensures.table set in
    here empty_table (table_of key) c.trim.new.self old new set_here ∙ c.is_empty.ensures.none empty

pub returns-in-Some-clause-some : goal.returns-in-Some-clause-some
returns-in-Some-clause-some c = λ left each.
    let name = c.table.result.now in
    let old = c.args.tables.now in
    let table = c.trim.new.self in
    let new = c.get_mut.follows.lender table in
    each-update HasKeyOrChange name (Some table) (named old.entries) (named new.entries) (update-named name (Some table) old new ((c.get_mut.follows.holds table).3 (search rules)))
    (c.is_empty.ensures.some left) (others-each HasKeyOrChange name (named old.entries) each)

pub returns-in-Some-clause-others : goal.returns-in-Some-clause-others
returns-in-Some-clause-others c = λ each.
    let name = c.table.result.now in
    let old = c.args.tables.now in
    let table = c.trim.new.self in
    let new = c.get_mut.follows.lender table in
    subst (λ (t : Text). OthersHaveKeyOrChange t (named new.entries)) c.table.ensures.table
    (others-update HasKeyOrChange name (Some table) (named old.entries) (named new.entries) (update-named name (Some table) old new ((c.get_mut.follows.holds table).3 (search rules)))
    (others-each HasKeyOrChange name (named old.entries) each))

pub returns-in-None-clause-some : goal.returns-in-None-clause-some
returns-in-None-clause-some c = λ left each. subst (λ (ts : Tables). EachHasKeyOrChange ts) (ap (λ m. named m.entries) (sym c.get_mut.follows.holds-at-none)) each

pub returns-in-None-clause-others : goal.returns-in-None-clause-others
returns-in-None-clause-others c = λ each.
    others-each HasKeyOrChange (table_of c.args.key.now) (named c.get_mut.follows.lender-at-none.entries)
    (subst (λ (ts : Tables). EachHasKeyOrChange ts) (ap (λ m. named m.entries) (sym c.get_mut.follows.holds-at-none)) each)
