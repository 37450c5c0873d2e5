use Rattle.std.proofs.Common.{◌≡◌, ◌+◌, ◌-◌, ◌≤◌, length, take, drop, IfOk, None, refl, sym, ap, ◌∙◌, subst, arith, length-take}
use Rattle.std.proofs.lemmas.Result.{IfOk-weaker}
use Rattle.protocol.specs.Requests.{feed_from}
use Rattle.protocol.specs.Replies.{fed}
use Rattle.protocol.specs.Feeds.{longest, most_entries, run}
use Rattle.protocol.specs.Earlier.{earlier_reply}
use Rattle.protocol.specs.Told.{IsWithinReach}
use Rattle.protocol.proofs.EarlierLemmas.{feed_told}
use Rattle.protocol.proofs.FeedRuns.{run-is}
use Rattle.request_codec.specs.Plain.{plain_reply}
use Rattle.request_codec.specs.declared.reply.Reply.{Reply}
use Rattle.request_codec.proofs.ReachLemmas.{in_reach}
use Rattle.pequod_cache.proofs.EarlierLemmas.{may_ask_back}
use Rattle.pequod_cache.proofs.cache.Cache.feed.Goals as goal

-- out of reach

pub returns-in-Some-clause-replied : goal.returns-in-Some-clause-replied
returns-in-Some-clause-replied g c = c.in-Some.ensures (feed_from c.args.from) c.args.pass.now.view refl (sym c.requires.whole)

-- within reach

pub far_enough-to-requires : goal.far_enough-to-requires
far_enough-to-requires g c =
    let none : c.out_of_reach.result ≡ None = cc in
    let near = in_reach c.args.from c.args.position c.out_of_reach.result c.out_of_reach.ensures none in
    near.not_ahead

pub entries-requires-clause-within : goal.entries-requires-clause-within
entries-requires-clause-within g c = omega (arith, c.far_enough-to.ensures.within, c.requires.whole)

pub entries-requires-clause-kept : goal.entries-requires-clause-kept
entries-requires-clause-kept g c =
    let none : c.out_of_reach.result ≡ None = cc in
    let near = in_reach c.args.from c.args.position c.out_of_reach.result c.out_of_reach.ensures none in
    may_ask_back c.args.pass.now c.args.position c.args.from c.requires.pinned near.not_gone

pub feed_reply-requires : goal.feed_reply-requires
feed_reply-requires g c =
    let some = drop c.args.from c.args.pass.now.view in
    let size : length c.in_ok-entries.entries.items ≡ length (take (c.far_enough-to.result - c.args.from) some) = ap length c.in_ok-entries.ensures.entries in
    omega (arith, size, length-take (c.far_enough-to.result - c.args.from) some, c.far_enough-to.ensures.few)

pub returns-clause-replied : goal.returns-clause-replied
returns-clause-replied g c =
    let none : c.out_of_reach.result ≡ None = cc in
    let near = in_reach c.args.from c.args.position c.out_of_reach.result c.out_of_reach.ensures none in
    let view = c.args.pass.now.view in
    let whole : c.args.position ≡ length view = c.requires.whole in
    let listed : longest c.args.from c.args.position c.in_ok-entries.entries.items most_entries ≡ run view c.args.from c.args.position =
    ap (λ es. longest c.args.from c.args.position es most_entries) c.in_ok-entries.ensures.entries ∙ run-is view c.args.from c.args.position c.far_enough-to.result c.far_enough-to.ensures.far in
    IfOk-weaker c.feed_reply.result
    (λ (r : Reply). plain_reply r ≡ fed c.args.from c.args.position (longest c.args.from c.args.position c.in_ok-entries.entries.items most_entries))
    (λ (r : Reply). plain_reply r ≡ earlier_reply (feed_from c.args.from) view)
    (λ r is. is ∙ feed_told c.args.from c.args.position view (longest c.args.from c.args.position c.in_ok-entries.entries.items most_entries)
    (subst (λ n. IsWithinReach n c.args.from) whole near) whole listed)
    c.feed_reply.ensures
