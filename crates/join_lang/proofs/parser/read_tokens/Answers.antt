use Rattle.std.proofs.Common.{map, string_bytes}
use Rattle.join_types.specs.Plain.{plain_kind}
use Rattle.protocol.specs.JoinText.{join_of_tokens}
use Rattle.join_lang.specs.Words.{tokens_of}
use Rattle.join_lang.proofs.JoinLemmas.{joined, read_is_join}
use Rattle.join_lang.proofs.parser.read_tokens.Goals as goal

pub invariant_of-result : goal.invariant_of-result
invariant_of-result c =
    let read = c.read_kind-kind.result in
    read_is_join c.args.end c.args.tokens _
    (joined (join_of_tokens c.args.end c.args.tokens) c.args.end c.in_ok-output.output c.read_output.new.names c.read_output.new.tokens (tokens_of read.1 c.read_kind-kind.new.tokens)
    (plain_kind read.0) c.in_ok-sources.sources.items c.read_sources.new.names (map string_bytes c.into_list-names.result.items)
    c.in_ok-output.ensures.ok c.read_kind-kind.ensures.kind c.read_kind-kind.ensures.rest c.in_ok-sources.ensures.ok c.into_list-names.ensures)
