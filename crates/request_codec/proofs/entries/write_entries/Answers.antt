use Rattle.std.proofs.Common.{◌≡◌, arith, map, subst, take}
use Rattle.std.proofs.lemmas.List.{take_all}
use Rattle.protocol.specs.Replies.{entry_item}
use Rattle.request_codec.specs.Tokens.{Appends}
use Rattle.request_codec.proofs.TokenLemmas.{Appends-between}
use Rattle.request_codec.proofs.entries.write_entries.Goals as goal

pub returns : goal.returns
returns c =
    let begun = c.begin_array.new.self in
    let all : take c.loop-entry.entry-index c.args.entries.now ≡ c.args.entries.now = take_all _ _ (omega arith) in
    let written = subst (λ entries. Appends begun c.loop-entry.writer (map entry_item entries)) all c.loop-entry.invariant in
    Appends-between c.args.writer.now begun c.loop-entry.writer c.end_array.new.self (map entry_item c.args.entries.now) c.in_ok-begin_array.ensures.ok c.in_ok-begin_array.ensures.room.0 written
    c.in_ok-end_array.ensures.ok c.in_ok-end_array.ensures.room.0
