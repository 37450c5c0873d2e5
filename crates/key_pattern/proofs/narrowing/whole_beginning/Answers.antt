use Rattle.std.proofs.Common.{sym, ◌∙◌}
use Rattle.key_pattern.proofs.NarrowingLemmas.{whole_is}
use Rattle.key_pattern.proofs.narrowing.whole_beginning.Goals as goal

pub returns : goal.returns
returns c =
    let end = c.floor_char_boundary-end in
    c.split_at.ensures.front ∙ sym (whole_is c.args.width end.result c.args.rest.now end.ensures.bound end.ensures.boundary end.ensures.nearest)
