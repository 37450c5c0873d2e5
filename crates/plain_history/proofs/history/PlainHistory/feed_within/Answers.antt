use Rattle.std.proofs.Common.{◌≡◌, ◌-◌, ◌≤◌, length, take, drop, ap, ◌∙◌, arith, length-take}
use Rattle.std.proofs.lemmas.Result.{IfOk-weaker}
use Rattle.protocol.specs.Requests.{feed_from}
use Rattle.protocol.specs.Replies.{fed}
use Rattle.protocol.specs.Feeds.{longest, most_entries, run}
use Rattle.protocol.specs.Earlier.{earlier_reply}
use Rattle.protocol.proofs.EarlierLemmas.{feed_told}
use Rattle.protocol.proofs.FeedRuns.{run-is}
use Rattle.request_codec.specs.Plain.{plain_reply}
use Rattle.request_codec.specs.declared.reply.Reply.{Reply}
use Rattle.plain_history.proofs.history.PlainHistory.feed_within.Goals as goal

pub far_enough-to-requires : goal.far_enough-to-requires
far_enough-to-requires c = omega (arith, c.requires.not_ahead, c.len-position.ensures.length)

pub between-requires-clause-within : goal.between-requires-clause-within
between-requires-clause-within c = omega (arith, c.far_enough-to.ensures.within, c.len-position.ensures.length)

pub feed_reply-requires : goal.feed_reply-requires
feed_reply-requires c =
    let some = drop c.args.from c.args.self.now in
    let size : length c.in_ok-entries.entries.items ≡ length (take (c.far_enough-to.result - c.args.from) some) = ap length (c.in_ok-entries.ensures ∙ c.between.ensures) in
    omega (arith, size, length-take (c.far_enough-to.result - c.args.from) some, c.far_enough-to.ensures.few)

pub returns : goal.returns
returns c =
    let h = c.args.self.now in
    let n = c.len-position.result in
    let es = c.in_ok-entries.entries.items in
    let listed : longest c.args.from n es most_entries ≡ run h c.args.from n =
    ap (λ l. longest c.args.from n l most_entries) (c.in_ok-entries.ensures ∙ c.between.ensures) ∙ run-is h c.args.from n c.far_enough-to.result c.far_enough-to.ensures.far in
    IfOk-weaker c.feed_reply.result (λ (r : Reply). plain_reply r ≡ fed c.args.from n (longest c.args.from n es most_entries)) (λ (r : Reply). plain_reply r ≡ earlier_reply (feed_from c.args.from) h)
    (λ r is. is ∙ feed_told c.args.from n h (longest c.args.from n es most_entries) c.requires c.len-position.ensures.length listed) c.feed_reply.ensures
