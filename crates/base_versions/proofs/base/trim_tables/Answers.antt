use Rattle.base_versions.specs.Named.{named}
use Rattle.base_versions.proofs.TableTrims.{trimmed-same, trimmed-both}
use Rattle.base_versions.proofs.base.trim_tables.Goals as goal

pub loop-change-init : goal.loop-change-init
loop-change-init c = (trimmed-same c.args.to (named c.args.tables.now.entries), λ each. each)

pub loop-change-preserved-in-Some : goal.loop-change-preserved-in-Some
loop-change-preserved-in-Some c = (trimmed-both c.args.to (named c.args.tables.now.entries) (named c.loop-change.tables.entries) (named c.trim_in.new.tables.entries) c.loop-change.invariant.0 c.trim_in.ensures.trims, λ each. c.trim_in.ensures.some (c.loop-change.invariant.1 each))

pub loop-change-preserved : goal.loop-change-preserved
loop-change-preserved c = (trimmed-both c.args.to (named c.args.tables.now.entries) (named c.loop-change.tables.entries) (named c.trim_in.new.tables.entries) c.loop-change.invariant.0 c.trim_in.ensures.trims, λ each. c.trim_in.ensures.some (c.loop-change.invariant.1 each))
