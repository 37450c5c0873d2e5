use Rattle.std.proofs.Common.{◌≡◌, ℕ, ◌+◌, ◌-◌, ◌≤◌, ◌⊎◌, inl, inr, ◌++◌, ◌∷◌, [], map, take, drop, length, sym, ap, ◌∙◌, arith, Less, Equal, Greater}
use Rattle.std.proofs.lemmas.List.{take_all, length-drop}
use Rattle.semantics.specs.Texts.{text_cmp, Table}
use Rattle.range_cells.specs.Comparing.{changes_of, gone_pair, new_pair}
use Rattle.range_cells.proofs.ComparingLemmas.{step_gone, step_new, step_both, rest_changes}
use Rattle.range_cells.proofs.comparing.compare.Goals as goal
use Rattle.range_cells.proofs.comparing.compare.Goals.{then-loop-i-test+else-k-after, else-loop-i-test}

pub loop-i-preserved-in-Less : goal.loop-i-preserved-in-Less
loop-i-preserved-in-Less c =
    let least : text_cmp c.index-before-i.result.0 c.index-after-k.result.0 ≡ Less = sym (λ j. text_cmp (c.one.view_is j).0 (c.two.view_is j).0) ∙ sym c.in-Less.ensures in
    record {
      first_in = omega arith;
      other_in = omega arith;
      whole =
          ap (λ t. t ++ changes_of (drop (c.loop-i.i + 1) c.args.before.now) (drop c.loop-i.k c.args.after.now)) (c.in_ok-push-in-Less.ensures.items ∙ ap (λ x. c.loop-i.changes.items ++ x ∷ []) c.in_ok-gone-in-Less.ensures)
          ∙ step_gone c.args.before.now c.args.after.now c.loop-i.changes.items c.loop-i.i c.loop-i.k c.index-before-i.result c.index-after-k.result c.requires.ascends c.requires.other_ascends c.loop-i-test.true c.if-k-after.true
          c.index-before-i.is c.index-after-k.is least c.loop-i.invariant.whole;
    }

pub loop-i-preserved-in-Equal : goal.loop-i-preserved-in-Equal
loop-i-preserved-in-Equal c =
    let tied : text_cmp c.index-before-i.result.0 c.index-after-k.result.0 ≡ Equal = sym (λ j. text_cmp (c.one.view_is j).0 (c.two.view_is j).0) ∙ sym c.in-Equal.ensures in
    record {
      first_in = omega arith;
      other_in = omega arith;
      whole =
          ap (λ t. t ++ changes_of (drop (c.loop-i.i + 1) c.args.before.now) (drop (c.loop-i.k + 1) c.args.after.now)) c.in_ok-push_both-in-Equal.ensures
          ∙ step_both c.args.before.now c.args.after.now c.loop-i.changes.items c.loop-i.i c.loop-i.k c.index-before-i.result c.index-after-k.result c.requires.ascends c.requires.other_ascends c.loop-i-test.true c.if-k-after.true
          c.index-before-i.is c.index-after-k.is tied c.loop-i.invariant.whole;
    }

pub loop-i-preserved : goal.loop-i-preserved
loop-i-preserved c =
    let most : text_cmp c.index-before-i.result.0 c.index-after-k.result.0 ≡ Greater = sym (λ j. text_cmp (c.one.view_is j).0 (c.two.view_is j).0) ∙ sym c.in-Greater.ensures in
    record {
      first_in = omega arith;
      other_in = omega arith;
      whole =
          ap (λ t. t ++ changes_of (drop c.loop-i.i c.args.before.now) (drop (c.loop-i.k + 1) c.args.after.now)) (c.in_ok-push-in-Greater.ensures.items ∙ ap (λ x. c.loop-i.changes.items ++ x ∷ []) c.in_ok-come-in-Greater.ensures)
          ∙ step_new c.args.before.now c.args.after.now c.loop-i.changes.items c.loop-i.i c.loop-i.k c.index-before-i.result c.index-after-k.result c.requires.ascends c.requires.other_ascends c.loop-i-test.true c.if-k-after.true
          c.index-before-i.is c.index-after-k.is most c.loop-i.invariant.whole;
    }

-- a list from a place on is what is left of it
rest_of : (xs : Table) (i : ℕ) → take (length xs - i) (drop i xs) ≡ drop i xs
rest_of xs i = take_all (length xs - i) (drop i xs) (omega (arith, length-drop i xs))

pub returns : goal.returns
returns c =
    let past : (length c.args.before.now ≤ c.loop-i.i) ⊎ (length c.args.after.now ≤ c.loop-i.k) =
    elim c.loop-i-test.branch [ then-loop-i-test+else-k-after w ↦ inr w.if-k-after.false | else-loop-i-test w ↦ inl w.loop-i-test.false ] in
    c.in_ok-push_come.ensures
    ∙ (λ j. (c.in_ok-push_gone.ensures ∙ ap (λ t. c.loop-i.changes.items ++ map gone_pair t) (rest_of c.args.before.now c.loop-i.i)) j ++ map new_pair (rest_of c.args.after.now c.loop-i.k j))
    ∙ rest_changes c.args.before.now c.args.after.now c.loop-i.changes.items c.loop-i.i c.loop-i.k c.requires.ascends c.requires.other_ascends c.loop-i.invariant.whole past
