use Rattle.std.proofs.Common.{◌≡◌, arith, map, subst, take}
use Rattle.std.proofs.lemmas.List.{take_all}
use Rattle.protocol.specs.Rows.{whole_number}
use Rattle.request_codec.specs.Tokens.{Appends}
use Rattle.request_codec.proofs.TokenLemmas.{Appends-list_of}
use Rattle.request_codec.proofs.writing.write_numbers.Goals as goal

pub returns : goal.returns
returns c =
    let begun = c.begin_array.new.self in
    let all : take c.loop-number.number-index c.args.numbers.now ≡ c.args.numbers.now = take_all _ _ (omega arith) in
    let written = subst (λ numbers. Appends begun c.loop-number.writer (map whole_number numbers)) all c.loop-number.invariant in
    Appends-list_of c.end_array.result c.args.writer.now begun c.loop-number.writer c.end_array.new.self (map whole_number c.args.numbers.now) c.in_ok-begin_array.ensures.ok c.in_ok-begin_array.ensures.room.0 written c.end_array.ensures
