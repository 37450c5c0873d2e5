use Rattle.std.proofs.Common.{◌≡◌, take, IfOk, sym, ◌∙◌, subst, arith}
use Rattle.semantics.specs.Texts.{pairs_within}
use Rattle.semantics.specs.States.{state}
use Rattle.semantics.specs.Answers.{pairs}
use Rattle.growing_history.specs.StateChanges.{changes}
use Rattle.protocol.specs.Requests.{scan_at, changes_since}
use Rattle.protocol.specs.Replies.{answered, changed}
use Rattle.protocol.specs.Earlier.{earlier_reply}
use Rattle.protocol.proofs.EarlierLemmas.{scan_at_told, changes_told}
use Rattle.request_codec.specs.Plain.{plain_reply}
use Rattle.request_codec.specs.declared.reply.Reply.{Reply}
use Rattle.pequod_cache.specs.Questions.{asked}
use Rattle.pequod_cache.specs.declared.earlier.Question.{Question}
use Rattle.pequod_cache.proofs.ClientLemmas.{made_of_found}
use Rattle.pequod_cache.proofs.cache.Cache.tell.Goals as goal

pub read-found-requires-clause-within : goal.read-found-requires-clause-within
read-found-requires-clause-within g c = omega (arith, c.requires.order, c.requires.whole)

pub returns-in-Pairs-clause-replied : goal.returns-in-Pairs-clause-replied
returns-in-Pairs-clause-replied g c =
    subst (λ (q : Question). IfOk c.pairs_reply.result (λ (r : Reply). plain_reply r ≡ earlier_reply (asked q c.args.range.now c.args.at) c.args.pass.now.view)) (sym c.in-Pairs.is)
    (made_of_found c.read-found.result c.pairs_reply.result (λ those. those.items ≡ pairs_within c.args.range.now (state (take c.args.at c.args.pass.now.view)))
    (λ those r. plain_reply r ≡ answered (pairs c.args.at those.items)) (λ r. plain_reply r ≡ earlier_reply (scan_at c.args.range.now c.args.at) c.args.pass.now.view) c.read-found.ensures.exact
    (λ those r was is. is ∙ scan_at_told c.args.range.now c.args.at c.args.pass.now.view those.items (record { not_ahead = omega (arith, c.requires.order, c.requires.whole); not_gone = c.requires.near }) was)
    c.pairs_reply.ensures)

pub returns-in-Changes-clause-replied : goal.returns-in-Changes-clause-replied
returns-in-Changes-clause-replied g c =
    subst (λ (q : Question). IfOk c.changes_reply.result (λ (r : Reply). plain_reply r ≡ earlier_reply (asked q c.args.range.now c.args.at) c.args.pass.now.view)) (sym c.in-Changes.is)
    (made_of_found c.changes-found.result c.changes_reply.result (λ those. those.items ≡ changes c.args.range.now c.args.pass.now.view c.args.at c.args.position)
    (λ those r. plain_reply r ≡ changed c.args.at c.args.position those.items) (λ r. plain_reply r ≡ earlier_reply (changes_since c.args.range.now c.args.at) c.args.pass.now.view) c.changes-found.ensures.exact
    (λ those r was is. is ∙ changes_told c.args.range.now c.args.at c.args.position c.args.pass.now.view those.items (record { not_ahead = omega (arith, c.requires.order, c.requires.whole); not_gone = c.requires.near }) c.requires.whole was)
    c.changes_reply.ensures)
