use Rattle.std.proofs.Common.{◌≡◌, arith, map, subst, take}
use Rattle.std.proofs.lemmas.List.{take_all}
use Rattle.protocol.specs.Replies.{pair_item}
use Rattle.request_codec.specs.Tokens.{Appends}
use Rattle.request_codec.proofs.TokenLemmas.{Appends-list_of}
use Rattle.request_codec.proofs.writing.write_pairs.Goals as goal

pub returns : goal.returns
returns c =
    let begun = c.begin_array.new.self in
    let all : take c.loop-pair.pair-index c.args.pairs.now ≡ c.args.pairs.now = take_all _ _ (omega arith) in
    let written = subst (λ pairs. Appends begun c.loop-pair.writer (map pair_item pairs)) all c.loop-pair.invariant in
    Appends-list_of c.end_array.result c.args.writer.now begun c.loop-pair.writer c.end_array.new.self (map pair_item c.args.pairs.now) c.in_ok-begin_array.ensures.ok c.in_ok-begin_array.ensures.room.0 written c.end_array.ensures
