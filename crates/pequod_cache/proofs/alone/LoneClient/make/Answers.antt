use Rattle.std.proofs.Common.{◌≡◌, ap, refl, sym, subst, arith}
use Rattle.write_history.specs.Passes.{PassView, new_pass}
use Rattle.pequod_cache.specs.Alone.{IsAlone}
use Rattle.pequod_cache.proofs.ClientLemmas.{only_client}
use Rattle.pequod_cache.proofs.alone.LoneClient.make.Goals as goal

pub invariant_of-result : goal.invariant_of-result
invariant_of-result g c =
    let counted = c.in_ok-clients.clients.ok.0 in
    let count = c.in_ok-clients.ensures.count in
    let one = c.requires.client.counted in
    let is : c.in-Some.client ≡ new_pass g.N.Naming.history 0 =
    only_client g.N.Naming.history c.in_ok-clients.clients.len c.in_ok-clients.clients.items c.in-Some.client (omega arith)
    (c.in-Some.ensures.value c.in-Some.client (omega arith)) (c.in_ok-clients.ensures.each 0 (omega arith)) in
    subst (λ (p : PassView). IsAlone p) (sym is) (record { numbered = refl; one = c.requires.client.all; own = tt })

pub returns : goal.returns
returns g c =
    let counted = c.in_ok-clients.clients.ok.0 in
    let count = c.in_ok-clients.ensures.count in
    let one = c.requires.client.counted in
    ap (λ (p : PassView). p.view)
    (only_client g.N.Naming.history c.in_ok-clients.clients.len c.in_ok-clients.clients.items c.in-Some.client (omega arith)
    (c.in-Some.ensures.value c.in-Some.client (omega arith)) (c.in_ok-clients.ensures.each 0 (omega arith)))
