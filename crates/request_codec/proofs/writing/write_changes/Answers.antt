use Rattle.std.proofs.Common.{◌≡◌, arith, map, subst, take}
use Rattle.std.proofs.lemmas.List.{take_all}
use Rattle.protocol.specs.Replies.{change_item}
use Rattle.request_codec.specs.Tokens.{Appends}
use Rattle.request_codec.proofs.TokenLemmas.{Appends-list_of}
use Rattle.request_codec.proofs.writing.write_changes.Goals as goal

pub returns : goal.returns
returns c =
    let begun = c.begin_array.new.self in
    let all : take c.loop-change.change-index c.args.changes.now ≡ c.args.changes.now = take_all _ _ (omega arith) in
    let written = subst (λ changes. Appends begun c.loop-change.writer (map change_item changes)) all c.loop-change.invariant in
    Appends-list_of c.end_array.result c.args.writer.now begun c.loop-change.writer c.end_array.new.self (map change_item c.args.changes.now) c.in_ok-begin_array.ensures.ok c.in_ok-begin_array.ensures.room.0 written c.end_array.ensures
