use Rattle.std.proofs.Common.{◌≡◌, ◌++◌, ◌∙◌, ap, sym, append-nil, length, arith}
use Rattle.key_ranges.proofs.AnswerLemmas.{none_by_length}
use Rattle.pequod_cache.proofs.ClientLemmas.{next_writer}
use Rattle.pequod_cache.proofs.cache.Cache.seat.Goals as goal

pub new-requires-clause-same_history : goal.new-requires-clause-same_history
new-requires-clause-same_history g c =
    (next_writer g.N.Naming.history c.args.passes.items c.loop-pass.clients.items c.loop-pass.pass-iterator.rest.items _ c.in-Some.pass c.requires c.loop-pass.invariant.2 c.in-Some.ensures.steps.0).0

pub new-requires-clause-writer : goal.new-requires-clause-writer
new-requires-clause-writer g c =
    (next_writer g.N.Naming.history c.args.passes.items c.loop-pass.clients.items c.loop-pass.pass-iterator.rest.items _ c.in-Some.pass c.requires c.loop-pass.invariant.2 c.in-Some.ensures.steps.0).1

pub new-requires-clause-free : goal.new-requires-clause-free
new-requires-clause-free g c =
    (next_writer g.N.Naming.history c.args.passes.items c.loop-pass.clients.items c.loop-pass.pass-iterator.rest.items _ c.in-Some.pass c.requires c.loop-pass.invariant.2 c.in-Some.ensures.steps.0).2

pub returns : goal.returns
returns g c =
    let rest = c.loop-pass.pass-iterator.rest in
    let counted = rest.ok.0 in
    let ended = c.in-None.ensures.steps.0 in
    let short : length rest.items ≡ 0 = omega arith in
    let all = sym c.loop-pass.invariant.2 ∙ ap (λ xs. c.loop-pass.clients.items ++ xs) (none_by_length rest.items short) ∙ append-nil c.loop-pass.clients.items in
    sym all
