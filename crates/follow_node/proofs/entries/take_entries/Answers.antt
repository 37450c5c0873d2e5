-- One entry more, and each end.
use Rattle.std.proofs.Common.{◌≡◌, [], ◌∷◌, ◌++◌, drop, length, sym, ap, ◌∙◌, arith, rules, subst}
use Rattle.semantics.specs.Histories.{Entry}
use Rattle.follow_node.specs.Fed.{writes_of}
use Rattle.follow_node.specs.Replicas.{cause_after, Stops}
use Rattle.follow_node.proofs.TakingLemmas.{taken_first, taken_more, taken_stops, taken_all, passes_over, next_is, stops_by, none_left}
use Rattle.follow_node.proofs.entries.take_entries.Goals as goal

pub loop-entry-init : goal.loop-entry-init
loop-entry-init g c = record {
  next = search rules;
  finite = search rules;
  so_far = taken_first _ _ _ c.args.taken.now (ap (λ es. drop c.args.taken.now (writes_of es)) (c.into_iter-entry-iterator.ensures.into_iter_gives.0));
  placed = let len = ap length c.into_iter-entry-iterator.ensures.into_iter_gives.0 in omega arith;
}

pub loop-entry-preserved-then-skipped-gt0 : goal.loop-entry-preserved-then-skipped-gt0
loop-entry-preserved-then-skipped-gt0 g c =
    let so_far = c.loop-entry.invariant in
    let is = c.in-Some.ensures.steps.0 in
    let len = ap length is in
    let placed = so_far.placed in
    record {
      next = tt;
      finite = tt;
      so_far = passes_over _ _ _ _ _ c.in-Some.entry _ _ c.loop-entry.skipped is (let h = c.if-skipped-gt0.true in omega arith) so_far.so_far;
      placed = let h = c.if-skipped-gt0.true in omega arith;
    }

pub overflow_add-taken : goal.overflow_add-taken
overflow_add-taken g c =
    let len = ap length c.in-Some.ensures.steps.0 in
    let placed = c.loop-entry.invariant.placed in
    let none = c.if-skipped-gt0.false in
    let is_len = c.args.entries.ok.0 in
    let small = c.args.entries.small in
    omega arith

pub loop-entry-preserved : goal.loop-entry-preserved
loop-entry-preserved g c =
    let so_far = c.loop-entry.invariant in
    let is = c.in-Some.ensures.steps.0 in
    let len = ap length is in
    let placed = so_far.placed in
    let none : c.loop-entry.skipped ≡ 0 = let h = c.if-skipped-gt0.false in omega arith in
    let took = c.in-Done.ensures.taken in
    let write_is = ap (λ (e : Entry). e.write) c.entry.view_is in
    record {
      next = tt;
      finite = tt;
      so_far =
          taken_more _ _ _ _ _ _ c.in-Some.entry.write _ c.loop-entry.taken (next_is _ _ c.in-Some.entry c.loop-entry.skipped is none)
          (ap (λ w. cause_after (g.R.Replica.writes c.loop-entry.replica) w) (sym write_is) ∙ took.0) (took.1 ∙ ap (λ w. g.R.Replica.writes c.loop-entry.replica ++ w ∷ []) write_is) so_far.so_far;
      placed = omega arith;
    }

pub returns-in_default : goal.returns-in_default
returns-in_default g c =
    let so_far = c.loop-entry.invariant in
    let is = c.in-Some.ensures.steps.0 in
    let none : c.loop-entry.skipped ≡ 0 = let h = c.if-skipped-gt0.false in omega arith in
    let write_is = ap (λ (e : Entry). e.write) c.entry.view_is in
    let stops = stops_by _ _ c.take.result _ c.take.ensures.taken c.in_default.not-Done in
    record {
      taken =
          taken_stops _ _ _ _ _ _ c.in-Some.entry.write _ c.loop-entry.taken c.take.result (next_is _ _ c.in-Some.entry c.loop-entry.skipped is none) stops.0
          (subst (λ w. Stops c.take.result (cause_after (g.R.Replica.writes c.loop-entry.replica) w)) write_is stops.1) so_far.so_far;
    }

pub returns : goal.returns
returns g c =
    let left = c.loop-entry.entry-iterator.rest in
    let none : length left.items ≡ 0 = sym left.ok.0 ∙ c.in-None.ensures.steps.0 in
    record { taken = taken_all _ _ _ _ _ _ (none_left left.items c.loop-entry.skipped none) c.loop-entry.invariant.so_far }
