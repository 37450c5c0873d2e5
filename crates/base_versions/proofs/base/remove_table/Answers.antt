use Rattle.std.proofs.Common.{None, sym, ap, ◌∙◌, subst}
use Rattle.semantics.specs.Texts.{Text}
use Rattle.base_versions.specs.Named.{named}
use Rattle.base_versions.specs.Kept.{HasKeyOrChange, OthersHaveKeyOrChange, empty_table, table_among}
use Rattle.base_versions.proofs.NamedLemmas.{same-from_taken}
use Rattle.base_versions.proofs.EachLemmas.{update-named, each-update}
use Rattle.base_versions.proofs.base.remove_table.Goals as goal

pub returns-clause-same : goal.returns-clause-same
returns-clause-same c = λ q.
    same-from_taken empty_table c.table.result.now c.args.tables.now c.remove.new.self c.remove.ensures.updates
    (ap (λ t. table_among t (named c.args.tables.now.entries)) c.table.ensures.table ∙ c.requires) q

pub returns-clause-gone : goal.returns-clause-gone
returns-clause-gone c = λ others.
    let old = named c.args.tables.now.entries in
    each-update HasKeyOrChange c.table.result.now None old (named c.remove.new.self.entries)
    (update-named c.table.result.now None c.args.tables.now c.remove.new.self c.remove.ensures.updates) tt
    (subst (λ (t : Text). OthersHaveKeyOrChange t old) (sym c.table.ensures.table) others)
