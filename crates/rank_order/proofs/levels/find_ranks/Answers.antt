use Rattle.std.proofs.Common.{◌≡◌, sym, ◌∙◌, arith}
use Rattle.std.proofs.lemmas.Slice.Eq.{bytes_eq-Decides}
use Rattle.rank_order.proofs.RankRaises.{ranks_within-zero, AreVertices-ranks_within, All-numbers, raised-numbers, ranks-from_stay, ranks-from_rounds}
use Rattle.rank_order.proofs.levels.find_ranks.Goals as goal
use Rattle.rank_order.proofs.levels.find_ranks.Goals.{else-loop-round-test, then-loop-round-test+in_ok-deeper+then-eq}

pub loop-round-init : goal.loop-round-init
loop-round-init c = c.in_ok-numbers.ensures.items_if_clones_equal (λ y same. same) ∙ ranks_within-zero c.args.n c.args.edges.now

pub raise-requires-clause-ends : goal.raise-requires-clause-ends
raise-requires-clause-ends c =
    AreVertices-ranks_within c.loop-round._round c.args.n c.args.edges.now c.deref.result.now (c.deref.ensures.value ∙ c.loop-round.invariant) c.requires.ends

pub raise-requires-clause-room : goal.raise-requires-clause-room
raise-requires-clause-room c =
    All-numbers c.loop-round._round c.args.n c.args.edges.now c.deref.result.now (c.deref.ensures.value ∙ c.loop-round.invariant) c.loop-round-test.true

pub loop-round-preserved : goal.loop-round-preserved
loop-round-preserved c =
    c.in_ok-deeper.ensures ∙ raised-numbers c.loop-round._round c.args.n c.args.edges.now c.deref.result.now (c.deref.ensures.value ∙ c.loop-round.invariant)

pub returns : goal.returns
returns c =
    elim c.loop-round-test.branch [
      | else-loop-round-test w ↦
          (let all : c.loop-round._round ≡ c.args.n = omega (arith, w.loop-round-test.false) in
          ranks-from_rounds c.loop-round._round c.args.n c.args.edges.now c.loop-round.numbers.items all c.loop-round.invariant)
      | then-loop-round-test+in_ok-deeper+then-eq w ↦
          (let same = (bytes_eq-Decides w.in_ok-deeper.deeper.items c.loop-round.numbers.items).0 (sym w.eq.ensures ∙ w.if-eq.true) in
          let next = raised-numbers c.loop-round._round c.args.n c.args.edges.now w.deref.result.now (w.deref.ensures.value ∙ c.loop-round.invariant) in
          ranks-from_stay c.loop-round._round c.args.n c.args.edges.now c.loop-round.numbers.items (omega arith) c.loop-round.invariant (sym next ∙ sym w.in_ok-deeper.ensures ∙ same))
    ]
