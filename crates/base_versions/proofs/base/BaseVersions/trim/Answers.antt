use Rattle.std.proofs.Common.{ap, subst}
use Rattle.base_versions.specs.Named.{named}
use Rattle.base_versions.specs.Kept.{Kept, IsTrimmedTo}
use Rattle.base_versions.proofs.TableTrims.{stands-trimmed}
use Rattle.base_versions.proofs.base.BaseVersions.trim.Goals as goal

pub returns-clause-stands : goal.returns-clause-stands
returns-clause-stands c = λ start h s less.
    let old = c.args.self.now in
    let inside = c.self.inside in
    let new : Kept = record { shard = inside.shard; shards = inside.shards; start = c.args.to; position = inside.position; tables = named c.trim_tables.new.tables.entries } in
    let trimmed = subst (λ (k : Kept). IsTrimmedTo c.args.to k.tables new.tables) c.self.view_is c.trim_tables.ensures.trims in
    stands-trimmed start c.args.to old new h (ap (λ (k : Kept). k.position) c.self.view_is) (ap (λ (k : Kept). k.shard) c.self.view_is) (ap (λ (k : Kept). k.shards) c.self.view_is) trimmed less s
