use Rattle.std.proofs.Common.{◌≡◌, ◌+◌, ◌≤◌, length, take, IfOk, None, sym, subst, arith}
use Rattle.protocol.specs.Earlier.{earlier_reply}
use Rattle.join_set.specs.Sets.{AreJoins}
use Rattle.write_history.specs.Entries.{IsRecorded}
use Rattle.write_history.specs.Marks.{reach}
use Rattle.write_history.specs.Passes.{PassView}
use Rattle.base_shards.specs.Reading.{ReachesBack, ReadsOn}
use Rattle.base_shards.proofs.ReadingLemmas.{reads_on-refl}
use Rattle.request_codec.specs.Plain.{plain_reply}
use Rattle.request_codec.specs.declared.reply.Reply.{Reply}
use Rattle.request_codec.proofs.ReachLemmas.{in_reach}
use Rattle.pequod_cache.specs.Questions.{asked}
use Rattle.pequod_cache.proofs.EarlierLemmas.{asked_at, joins_back, joins_now, may_ask_back, asked_back}
use Rattle.pequod_cache.proofs.cache.Cache.ask.Goals as goal

-- out of reach

pub returns-in-Some-clause-replied : goal.returns-in-Some-clause-replied
returns-in-Some-clause-replied g c = c.in-Some.ensures (asked c.args.question c.args.range.now c.args.at) c.args.pass.now.view (asked_at c.args.question c.args.range.now c.args.at) (sym c.requires.whole)

pub returns-in-Some-clause-reads_on : goal.returns-in-Some-clause-reads_on
returns-in-Some-clause-reads_on g c = reads_on-refl c.args.pass.now

-- the joins after all are those there

pub tell-requires-clause-order : goal.tell-requires-clause-order
tell-requires-clause-order g c =
    let none : c.out_of_reach.result ≡ None = cc in
    let near = in_reach c.args.at c.args.position c.out_of_reach.result c.out_of_reach.ensures none in
    near.not_ahead

pub tell-requires-clause-near : goal.tell-requires-clause-near
tell-requires-clause-near g c =
    let none : c.out_of_reach.result ≡ None = cc in
    let near = in_reach c.args.at c.args.position c.out_of_reach.result c.out_of_reach.ensures none in
    let not_gone : c.args.position ≤ c.args.at + 65536 = near.not_gone in
    omega (arith, not_gone, c.requires.whole)

pub tell-requires-clause-pinned : goal.tell-requires-clause-pinned
tell-requires-clause-pinned g c =
    let none : c.out_of_reach.result ≡ None = cc in
    let near = in_reach c.args.at c.args.position c.out_of_reach.result c.out_of_reach.ensures none in
    record { pin = c.args.position; pinned = c.requires.pinned; near = near.not_gone }

pub tell-requires-clause-old_joins : goal.tell-requires-clause-old_joins
tell-requires-clause-old_joins g c = joins_back c.args.pass.now c.args.at c.args.joins.now (omega (arith, c.changed_at.ensures.changed)) c.requires.joins

pub tell-requires-clause-new_joins : goal.tell-requires-clause-new_joins
tell-requires-clause-new_joins g c = joins_now c.args.pass.now c.args.position c.args.joins.now c.requires.whole c.requires.joins

-- they are made anew

pub joins_at-requires-clause-within : goal.joins_at-requires-clause-within
joins_at-requires-clause-within g c =
    let none : c.out_of_reach.result ≡ None = cc in
    let near = in_reach c.args.at c.args.position c.out_of_reach.result c.out_of_reach.ensures none in
    omega (arith, near.not_ahead, c.requires.whole)

pub joins_at-requires-clause-kept : goal.joins_at-requires-clause-kept
joins_at-requires-clause-kept g c =
    let none : c.out_of_reach.result ≡ None = cc in
    let near = in_reach c.args.at c.args.position c.out_of_reach.result c.out_of_reach.ensures none in
    may_ask_back c.args.pass.now c.args.position c.args.at c.requires.pinned near.not_gone

pub tell-requires-2-clause-order : goal.tell-requires-2-clause-order
tell-requires-2-clause-order g c =
    let none : c.out_of_reach.result ≡ None = cc in
    let near = in_reach c.args.at c.args.position c.out_of_reach.result c.out_of_reach.ensures none in
    near.not_ahead

pub tell-requires-2-clause-recorded : goal.tell-requires-2-clause-recorded
tell-requires-2-clause-recorded g c = subst (λ (p : PassView). IsRecorded p.writers p.view) (sym c.joins_at.ensures.unchanged) c.requires.recorded

pub tell-requires-2-clause-whole : goal.tell-requires-2-clause-whole
tell-requires-2-clause-whole g c = subst (λ (p : PassView). c.args.position ≡ length p.view) (sym c.joins_at.ensures.unchanged) c.requires.whole

pub tell-requires-2-clause-pinned : goal.tell-requires-2-clause-pinned
tell-requires-2-clause-pinned g c =
    let none : c.out_of_reach.result ≡ None = cc in
    let near = in_reach c.args.at c.args.position c.out_of_reach.result c.out_of_reach.ensures none in
    subst (λ (p : PassView). ReachesBack p c.args.at) (sym c.joins_at.ensures.unchanged) (record { pin = c.args.position; pinned = c.requires.pinned; near = near.not_gone })

pub tell-requires-2-clause-old_joins : goal.tell-requires-2-clause-old_joins
tell-requires-2-clause-old_joins g c =
    subst (λ (p : PassView). AreJoins (reach p.mark) c.in_ok-old.old (take c.args.at p.view)) (sym c.joins_at.ensures.unchanged)
    (asked_back c.args.pass.now c.args.position c.args.at c.in_ok-old.old c.requires.pinned c.in_ok-old.ensures.joins)

pub tell-requires-2-clause-new_joins : goal.tell-requires-2-clause-new_joins
tell-requires-2-clause-new_joins g c =
    subst (λ (p : PassView). AreJoins (reach p.mark) c.args.joins.now (take c.args.position p.view)) (sym c.joins_at.ensures.unchanged) (joins_now c.args.pass.now c.args.position c.args.joins.now c.requires.whole c.requires.joins)

pub tell-requires-2-clause-near : goal.tell-requires-2-clause-near
tell-requires-2-clause-near g c =
    let none : c.out_of_reach.result ≡ None = cc in
    let near = in_reach c.args.at c.args.position c.out_of_reach.result c.out_of_reach.ensures none in
    let not_gone : c.args.position ≤ c.args.at + 65536 = near.not_gone in
    subst (λ (p : PassView). length p.view ≤ c.args.at + 65536) (sym c.joins_at.ensures.unchanged) (omega (arith, not_gone, c.requires.whole))

pub returns-clause-replied : goal.returns-clause-replied
returns-clause-replied g c =
    subst (λ (p : PassView). IfOk c.tell-2.result (λ (r : Reply). plain_reply r ≡ earlier_reply (asked c.args.question c.args.range.now c.args.at) p.view)) c.joins_at.ensures.unchanged c.tell-2.ensures.replied

pub returns-clause-reads_on : goal.returns-clause-reads_on
returns-clause-reads_on g c = subst (λ (p : PassView). ReadsOn p c.tell-2.new.pass) c.joins_at.ensures.unchanged c.tell-2.ensures.reads_on

pub returns-in_err-old-clause-reads_on : goal.returns-in_err-old-clause-reads_on
returns-in_err-old-clause-reads_on g c = subst (λ (p : PassView). ReadsOn c.args.pass.now p) (sym c.joins_at.ensures.unchanged) (reads_on-refl c.args.pass.now)
