use Rattle.std.proofs.Common.{◌≡◌, ℕ, Some, ap, ◌∙◌}
use Rattle.std.proofs.lemmas.Result.{IfOk-weaker}
use Rattle.semantics.specs.Texts.{pairs_within}
use Rattle.semantics.specs.States.{state}
use Rattle.semantics.specs.Answers.{pairs}
use Rattle.protocol.specs.Replies.{answered}
use Rattle.request_codec.specs.Plain.{plain_reply}
use Rattle.request_codec.specs.declared.reply.Reply.{Reply}
use Rattle.pequod_cache.specs.Clients.{IsScanned}
use Rattle.pequod_cache.proofs.ClientLemmas.{client_stays, client_still, returned}
use Rattle.pequod_cache.proofs.client.Client.scan_counted.Goals as goal

pub invariant_of-self : goal.invariant_of-self
invariant_of-self g c =
    client_stays g.N.Naming.history c.self.inside.pass c.look.new.pass c.self.inside.joins c.look.new.joins c.self.invariant c.in_err-position.ensures.goes_on c.look.ensures.kept

pub invariant_of-self-2 : goal.invariant_of-self-2
invariant_of-self-2 g c =
    let back =
    returned g.N.Naming.history c.self.inside.pass c.args.self.now c.look.new.pass c.scan-reply.new.pass c.unpin.new.pass c.in_ok-position.position c.self.inside.joins c.look.new.joins
    c.self.invariant.seated c.self.view_is c.in_ok-position.ensures.pinned c.look.ensures.own c.look.ensures.kept c.scan-reply.ensures.reads_on c.unpin.ensures in
    client_still g.N.Naming.history c.self.inside.pass c.args.self.now c.unpin.new.pass c.self.inside.joins c.look.new.joins c.self.invariant c.self.view_is back.goes_on back.seated

-- where the pass was not pinned

pub scan-reply-requires-clause-pinned : goal.scan-reply-requires-clause-pinned
scan-reply-requires-clause-pinned g c = c.in_ok-position.ensures.pinned.same_mark

pub unpin-requires-clause-pinned : goal.unpin-requires-clause-pinned
unpin-requires-clause-pinned g c = (c.in_ok-position.position, c.scan-reply.ensures.reads_on.same_mark ∙ c.in_ok-position.ensures.pinned.same_mark)

-- what was found

pub returns : goal.returns
returns g c =
    let seen = c.look.new.pass.view in
    let back =
    returned g.N.Naming.history c.self.inside.pass c.args.self.now c.look.new.pass c.scan-reply.new.pass c.unpin.new.pass c.in_ok-position.position c.self.inside.joins c.look.new.joins
    c.self.invariant.seated c.self.view_is c.in_ok-position.ensures.pinned c.look.ensures.own c.look.ensures.kept c.scan-reply.ensures.reads_on c.unpin.ensures in
    record {
      scanned = IfOk-weaker c.scan-reply.result (λ (r : Reply). plain_reply r ≡ answered (pairs c.in_ok-position.position (pairs_within c.args.range.now (state seen))))
          (λ (r : Reply). IsScanned c.args.self.now c.unpin.new.pass c.args.range.now (plain_reply r))
          (λ r told. record {
            seen = seen;
            begins = back.before;
            goes_on = back.after;
            is = told ∙ ap (λ (n : ℕ). answered (pairs n (pairs_within c.args.range.now (state seen)))) c.in_ok-position.ensures.length;
          })
          c.scan-reply.ensures.replied;
      goes_on = back.goes_on;
      own = back.own;
    }
