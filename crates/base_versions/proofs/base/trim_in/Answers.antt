use Rattle.base_versions.specs.Named.{named}
use Rattle.base_versions.proofs.TableTrims.{trimmed-kept}
use Rattle.base_versions.proofs.base.trim_in.Goals as goal

pub returns-then-trim_table-clause-trims : goal.returns-then-trim_table-clause-trims
returns-then-trim_table-clause-trims c =
    trimmed-kept c.args.to (named c.args.tables.now.entries) (named c.trim_table.new.tables.entries) (named c.remove_table.new.tables.entries) c.trim_table.ensures.trims c.remove_table.ensures.same

pub returns-then-trim_table-clause-some : goal.returns-then-trim_table-clause-some
returns-then-trim_table-clause-some c = λ each. c.remove_table.ensures.gone (c.trim_table.ensures.others each)

pub returns-else-trim_table-clause-some : goal.returns-else-trim_table-clause-some
returns-else-trim_table-clause-some c = λ each. c.trim_table.ensures.some c.if-trim_table.false each
