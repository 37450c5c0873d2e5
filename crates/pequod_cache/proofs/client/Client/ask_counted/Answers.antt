use Rattle.std.proofs.Common.{◌≡◌, Some, ◌∙◌}
use Rattle.std.proofs.lemmas.Result.{IfOk-weaker}
use Rattle.protocol.specs.Earlier.{earlier_reply}
use Rattle.request_codec.specs.Plain.{plain_reply}
use Rattle.request_codec.specs.declared.reply.Reply.{Reply}
use Rattle.pequod_cache.specs.Clients.{IsReplied}
use Rattle.pequod_cache.specs.Questions.{asked}
use Rattle.pequod_cache.proofs.ClientLemmas.{client_stays, client_still, returned}
use Rattle.pequod_cache.proofs.client.Client.ask_counted.Goals as goal

pub invariant_of-self : goal.invariant_of-self
invariant_of-self g c =
    client_stays g.N.Naming.history c.self.inside.pass c.look.new.pass c.self.inside.joins c.look.new.joins c.self.invariant c.in_err-position.ensures.goes_on c.look.ensures.kept

pub invariant_of-self-2 : goal.invariant_of-self-2
invariant_of-self-2 g c =
    let back =
    returned g.N.Naming.history c.self.inside.pass c.args.self.now c.look.new.pass c.ask-reply.new.pass c.unpin.new.pass c.in_ok-position.position c.self.inside.joins c.look.new.joins
    c.self.invariant.seated c.self.view_is c.in_ok-position.ensures.pinned c.look.ensures.own c.look.ensures.kept c.ask-reply.ensures.reads_on c.unpin.ensures in
    client_still g.N.Naming.history c.self.inside.pass c.args.self.now c.unpin.new.pass c.self.inside.joins c.look.new.joins c.self.invariant c.self.view_is back.goes_on back.seated

-- where the pass was not pinned

pub ask-reply-requires-clause-pinned : goal.ask-reply-requires-clause-pinned
ask-reply-requires-clause-pinned g c = c.in_ok-position.ensures.pinned.same_mark

pub unpin-requires-clause-pinned : goal.unpin-requires-clause-pinned
unpin-requires-clause-pinned g c = (c.in_ok-position.position, c.ask-reply.ensures.reads_on.same_mark ∙ c.in_ok-position.ensures.pinned.same_mark)

-- what was found

pub returns : goal.returns
returns g c =
    let back =
    returned g.N.Naming.history c.self.inside.pass c.args.self.now c.look.new.pass c.ask-reply.new.pass c.unpin.new.pass c.in_ok-position.position c.self.inside.joins c.look.new.joins
    c.self.invariant.seated c.self.view_is c.in_ok-position.ensures.pinned c.look.ensures.own c.look.ensures.kept c.ask-reply.ensures.reads_on c.unpin.ensures in
    record {
      replied = IfOk-weaker c.ask-reply.result (λ (r : Reply). plain_reply r ≡ earlier_reply (asked c.args.question c.args.range.now c.args.at) c.look.new.pass.view)
          (λ (r : Reply). IsReplied c.args.self.now c.unpin.new.pass (asked c.args.question c.args.range.now c.args.at) (plain_reply r))
          (λ r told. record { seen = c.look.new.pass.view; begins = back.before; goes_on = back.after; is = told })
          c.ask-reply.ensures.replied;
      goes_on = back.goes_on;
      own = back.own;
    }
