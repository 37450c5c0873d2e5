use Rattle.std.proofs.Common.{◌++◌, ◌∷◌, [], length, map, ap, sym, subst, arith}
use Rattle.std.specs.List.{AllZip}
use Rattle.std.proofs.lemmas.List.{map-append}
use Rattle.server.proofs.ReceiptLemmas.{zip_push}
use Rattle.server.proofs.beside.join_all.Goals as goal

pub loop-thread-preserved : goal.loop-thread-preserved
loop-thread-preserved g c =
    let leaves = g.W.Labour.leaves in
    let so_far = c.loop-thread.invariant in
    let rest = ap length c.in-Some.ensures.steps.0 in
    record {
      next = tt;
      finite = tt;
      worked =
          subst (λ l. AllZip leaves (map (λ t. t.promise.begun.value) (c.loop-thread.yielded ++ c.in-Some.thread ∷ [])) l) (sym c.push_reserved.ensures.items)
          (subst (λ l. AllZip leaves l (c.loop-thread.ended.items ++ c.join.result ∷ [])) (sym (map-append (λ t. t.promise.begun.value) c.loop-thread.yielded (c.in-Some.thread ∷ [])))
          (zip_push leaves _ _ _ _ so_far.worked c.join.ensures));
      room = omega (arith, so_far.room, rest, c.push_reserved.ensures.len, c.push_reserved.ensures.capacity, c.loop-thread.ended.ok.0, c.push_reserved.new.self.ok.0);
    }
