use Rattle.std.proofs.Common.{◌≡◌, ℕ, ◌+◌, ◌-◌, ◌≤◌, ◌⊎◌, inl, inr, ◌++◌, ◌∷◌, [], take, drop, length, sym, ap, ◌∙◌, arith, Less, Equal, Greater}
use Rattle.std.proofs.lemmas.List.{take_all, length-drop}
use Rattle.semantics.specs.Texts.{text_cmp, Table}
use Rattle.semantics.specs.States.{merged}
use Rattle.cell_slots.proofs.MergingLemmas.{step_first, step_other, step_both, merged_rest}
use Rattle.cell_slots.proofs.merging.interleave.Goals as goal
use Rattle.cell_slots.proofs.merging.interleave.Goals.{then-loop-i-test+else-k-other, else-loop-i-test}

pub loop-i-preserved-in-Less : goal.loop-i-preserved-in-Less
loop-i-preserved-in-Less c =
    let least : text_cmp c.index-first-i.result.0 c.index-other-k.result.0 ≡ Less = sym (λ j. text_cmp (c.one.view_is j).0 (c.two.view_is j).0) ∙ sym c.in-Less.ensures in
    record {
      first_in = omega arith;
      other_in = omega arith;
      whole =
          ap (λ t. t ++ merged (drop (c.loop-i.i + 1) c.args.first.now) (drop c.loop-i.k c.args.other.now)) (c.in_ok-push-in-Less.ensures.items ∙ ap (λ x. c.loop-i.all.items ++ x ∷ []) c.in_ok-copy-in-Less.ensures)
          ∙ step_first c.args.first.now c.args.other.now c.loop-i.all.items c.loop-i.i c.loop-i.k c.index-first-i.result c.index-other-k.result c.requires.ascends c.requires.other_ascends c.loop-i-test.true c.if-k-other.true
          c.index-first-i.is c.index-other-k.is least c.loop-i.invariant.whole;
    }

pub loop-i-preserved-in-Equal : goal.loop-i-preserved-in-Equal
loop-i-preserved-in-Equal c =
    let tied : text_cmp c.index-first-i.result.0 c.index-other-k.result.0 ≡ Equal = sym (λ j. text_cmp (c.one.view_is j).0 (c.two.view_is j).0) ∙ sym c.in-Equal.ensures in
    record {
      first_in = omega arith;
      other_in = omega arith;
      whole =
          ap (λ t. t ++ merged (drop (c.loop-i.i + 1) c.args.first.now) (drop (c.loop-i.k + 1) c.args.other.now)) (c.in_ok-push-in-Equal.ensures.items ∙ ap (λ x. c.loop-i.all.items ++ x ∷ []) c.in_ok-copy-in-Equal.ensures)
          ∙ step_both c.args.first.now c.args.other.now c.loop-i.all.items c.loop-i.i c.loop-i.k c.index-first-i.result c.index-other-k.result c.requires.ascends c.requires.other_ascends c.loop-i-test.true c.if-k-other.true
          c.index-first-i.is c.index-other-k.is tied c.loop-i.invariant.whole;
    }

pub loop-i-preserved : goal.loop-i-preserved
loop-i-preserved c =
    let most : text_cmp c.index-first-i.result.0 c.index-other-k.result.0 ≡ Greater = sym (λ j. text_cmp (c.one.view_is j).0 (c.two.view_is j).0) ∙ sym c.in-Greater.ensures in
    record {
      first_in = omega arith;
      other_in = omega arith;
      whole =
          ap (λ t. t ++ merged (drop c.loop-i.i c.args.first.now) (drop (c.loop-i.k + 1) c.args.other.now)) (c.in_ok-push-in-Greater.ensures.items ∙ ap (λ x. c.loop-i.all.items ++ x ∷ []) c.in_ok-copy-in-Greater.ensures)
          ∙ step_other c.args.first.now c.args.other.now c.loop-i.all.items c.loop-i.i c.loop-i.k c.index-first-i.result c.index-other-k.result c.requires.ascends c.requires.other_ascends c.loop-i-test.true c.if-k-other.true
          c.index-first-i.is c.index-other-k.is most c.loop-i.invariant.whole;
    }

-- a list from a place on is what is left of it
rest_of : (xs : Table) (i : ℕ) → take (length xs - i) (drop i xs) ≡ drop i xs
rest_of xs i = take_all (length xs - i) (drop i xs) (omega (arith, length-drop i xs))

pub returns : goal.returns
returns c =
    let past : (length c.args.first.now ≤ c.loop-i.i) ⊎ (length c.args.other.now ≤ c.loop-i.k) =
    elim c.loop-i-test.branch [ then-loop-i-test+else-k-other w ↦ inr w.if-k-other.false | else-loop-i-test w ↦ inl w.loop-i-test.false ] in
    c.in_ok-push_copies-2.ensures
    ∙ (λ j. (c.in_ok-push_copies.ensures ∙ ap (λ t. c.loop-i.all.items ++ t) (rest_of c.args.first.now c.loop-i.i)) j ++ rest_of c.args.other.now c.loop-i.k j)
    ∙ merged_rest c.args.first.now c.args.other.now c.loop-i.all.items c.loop-i.i c.loop-i.k c.requires.ascends c.requires.other_ascends c.loop-i.invariant.whole past
