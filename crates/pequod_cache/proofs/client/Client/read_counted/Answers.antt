use Rattle.std.proofs.Common.{◌≡◌, take, Some, ap, ◌∙◌, arith}
use Rattle.std.proofs.lemmas.List.{take_all}
use Rattle.semantics.specs.Texts.{pairs_within}
use Rattle.semantics.specs.States.{state}
use Rattle.pequod_cache.specs.Clients.{IsFound}
use Rattle.pequod_cache.proofs.ClientLemmas.{client_stays, client_still, made_of_found, returned}
use Rattle.pequod_cache.proofs.EarlierLemmas.{joins_now}
use Rattle.pequod_cache.proofs.client.Client.read_counted.Goals as goal

pub invariant_of-self : goal.invariant_of-self
invariant_of-self g c =
    client_stays g.N.Naming.history c.self.inside.pass c.look.new.pass c.self.inside.joins c.look.new.joins c.self.invariant c.in_err-position.ensures.goes_on c.look.ensures.kept

pub invariant_of-self-2 : goal.invariant_of-self-2
invariant_of-self-2 g c =
    let back =
    returned g.N.Naming.history c.self.inside.pass c.args.self.now c.look.new.pass c.read-found.new.pass c.unpin.new.pass c.in_ok-position.position c.self.inside.joins c.look.new.joins
    c.self.invariant.seated c.self.view_is c.in_ok-position.ensures.pinned c.look.ensures.own c.look.ensures.kept c.read-found.ensures.reads_on c.unpin.ensures in
    client_still g.N.Naming.history c.self.inside.pass c.args.self.now c.unpin.new.pass c.self.inside.joins c.look.new.joins c.self.invariant c.self.view_is back.goes_on back.seated

-- where the pass was not pinned

pub read-found-requires-clause-pinned : goal.read-found-requires-clause-pinned
read-found-requires-clause-pinned g c = record { pin = c.in_ok-position.position; pinned = c.in_ok-position.ensures.pinned.same_mark; near = omega arith }

pub read-found-requires-clause-joins : goal.read-found-requires-clause-joins
read-found-requires-clause-joins g c = joins_now c.look.new.pass c.in_ok-position.position c.look.new.joins c.in_ok-position.ensures.length c.in_ok-position.ensures.brought

pub unpin-requires-clause-pinned : goal.unpin-requires-clause-pinned
unpin-requires-clause-pinned g c = (c.in_ok-position.position, c.read-found.ensures.reads_on.same_mark ∙ c.in_ok-position.ensures.pinned.same_mark)

-- what was found

pub returns : goal.returns
returns g c =
    let seen = c.look.new.pass.view in
    let all : take c.in_ok-position.position seen ≡ seen = take_all c.in_ok-position.position seen (omega (arith, c.in_ok-position.ensures.length)) in
    let back =
    returned g.N.Naming.history c.self.inside.pass c.args.self.now c.look.new.pass c.read-found.new.pass c.unpin.new.pass c.in_ok-position.position c.self.inside.joins c.look.new.joins
    c.self.invariant.seated c.self.view_is c.in_ok-position.ensures.pinned c.look.ensures.own c.look.ensures.kept c.read-found.ensures.reads_on c.unpin.ensures in
    record {
      found = made_of_found c.read-found.result c.found_at.result (λ those. those.items ≡ pairs_within c.args.range.now (state (take c.in_ok-position.position seen)))
          (λ those f. (f.position ≡ c.in_ok-position.position) × (f.pairs.items ≡ those.items)) (λ f. IsFound c.args.self.now c.unpin.new.pass c.args.range.now f.position f.pairs.items)
          c.read-found.ensures.exact
          (λ those f was is_made. record {
            seen = seen;
            begins = back.before;
            goes_on = back.after;
            at = is_made.0 ∙ c.in_ok-position.ensures.length;
            is = is_made.1 ∙ was ∙ ap (λ h. pairs_within c.args.range.now (state h)) all;
          })
          c.found_at.ensures;
      goes_on = back.goes_on;
      own = back.own;
    }
