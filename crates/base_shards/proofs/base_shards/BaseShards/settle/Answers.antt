use Rattle.base_shards.proofs.ReadingLemmas.{reads_on, reads_on-trans}
use Rattle.base_shards.proofs.base_shards.BaseShards.settle.Goals as goal

pub returns : goal.returns
returns g c =
    let old = c.args.pass.now in
    let looked = c.look-position.new.pass in
    let noted = c.note_parts.new.pass in
    let trimmed = c.trim-floor.new.pass in
    reads_on-trans old trimmed c.trim_parts.new.pass
    (reads_on-trans old noted trimmed (reads_on-trans old looked noted (reads_on old looked c.look-position.ensures.goes_on c.look-position.ensures.own) c.note_parts.ensures) (reads_on noted trimmed c.trim-floor.ensures.goes_on c.trim-floor.ensures.own))
    c.trim_parts.ensures
