use Rattle.std.proofs.Common.{◌≡◌, sym, ap, ◌∙◌, subst}
use Rattle.std.proofs.lemmas.Result.{IfOk-weaker}
use Rattle.protocol.specs.Requests.{feed_from}
use Rattle.protocol.specs.Earlier.{earlier_reply}
use Rattle.write_history.specs.Passes.{PassView}
use Rattle.base_shards.specs.Reading.{ReadsOn}
use Rattle.base_shards.proofs.ReadingLemmas.{reads_on-refl}
use Rattle.request_codec.specs.Plain.{plain_reply}
use Rattle.request_codec.specs.declared.reply.Reply.{Reply}
use Rattle.pequod_cache.specs.Clients.{IsReplied}
use Rattle.pequod_cache.proofs.ClientLemmas.{client_stays, client_still, returned}
use Rattle.pequod_cache.proofs.client.Client.look_and_feed.Goals as goal

-- a pass that is unchanged reads on
stays : (old new : PassView) → new ≡ old → ReadsOn old new
stays old new same = subst (λ (p : PassView). ReadsOn old p) (sym same) (reads_on-refl old)

pub invariant_of-self : goal.invariant_of-self
invariant_of-self g c =
    client_stays g.N.Naming.history c.self.inside.pass c.look.new.pass c.self.inside.joins c.look.new.joins c.self.invariant c.in_err-position.ensures.goes_on c.look.ensures.kept

pub invariant_of-self-2 : goal.invariant_of-self-2
invariant_of-self-2 g c =
    let back =
    returned g.N.Naming.history c.self.inside.pass c.args.self.now c.look.new.pass c.feed-reply.new.pass c.unpin.new.pass c.in_ok-position.position c.self.inside.joins c.look.new.joins
    c.self.invariant.seated c.self.view_is c.in_ok-position.ensures.pinned c.look.ensures.own c.look.ensures.kept (stays c.look.new.pass c.feed-reply.new.pass c.feed-reply.ensures.unchanged) c.unpin.ensures in
    client_still g.N.Naming.history c.self.inside.pass c.args.self.now c.unpin.new.pass c.self.inside.joins c.look.new.joins c.self.invariant c.self.view_is back.goes_on back.seated

-- where the pass was not pinned

pub feed-reply-requires-clause-pinned : goal.feed-reply-requires-clause-pinned
feed-reply-requires-clause-pinned g c = c.in_ok-position.ensures.pinned.same_mark

pub unpin-requires-clause-pinned : goal.unpin-requires-clause-pinned
unpin-requires-clause-pinned g c = (c.in_ok-position.position, ap (λ (p : PassView). p.mark) c.feed-reply.ensures.unchanged ∙ c.in_ok-position.ensures.pinned.same_mark)

-- it is told what the question is told of all that was seen where it looked
pub returns : goal.returns
returns g c =
    let back =
    returned g.N.Naming.history c.self.inside.pass c.args.self.now c.look.new.pass c.feed-reply.new.pass c.unpin.new.pass c.in_ok-position.position c.self.inside.joins c.look.new.joins
    c.self.invariant.seated c.self.view_is c.in_ok-position.ensures.pinned c.look.ensures.own c.look.ensures.kept (stays c.look.new.pass c.feed-reply.new.pass c.feed-reply.ensures.unchanged) c.unpin.ensures in
    record {
      replied = IfOk-weaker c.feed-reply.result (λ (r : Reply). plain_reply r ≡ earlier_reply (feed_from c.args.from) c.look.new.pass.view)
          (λ (r : Reply). IsReplied c.args.self.now c.unpin.new.pass (feed_from c.args.from) (plain_reply r))
          (λ r told. record { seen = c.look.new.pass.view; begins = back.before; goes_on = back.after; is = told })
          c.feed-reply.ensures.replied;
      goes_on = back.goes_on;
      own = back.own;
    }
