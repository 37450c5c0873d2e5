use Rattle.std.proofs.Common.{◌≡◌, Bool, true, false, not, ◌&&◌, List, [], ◌∷◌, ◌++◌, Vec, inl, inr, refl, ap, sym, ◌∙◌}
use Rattle.std.specs.Global.{Global}
use Rattle.std.proofs.lemmas.Bool.{false≢true}
use Rattle.range_evaluation.specs.Trees.{Need as PlainNeed}
use Rattle.join_rows.specs.declared.need.Need.{Need}
use Rattle.join_rows.specs.Order.{is_among}
use Rattle.join_rows.proofs.OrderLemmas.{among_contains, first_fresh, fresh_added, fresh_kept}
use Rattle.join_rows.proofs.need_list.add_fresh.Goals.{then-remove+in_ok-push, else-remove+in-Apart-1, else-remove+in-Here-1}
use Rattle.join_rows.proofs.need_list.add_fresh.Goals as goal

absent : (b m : Bool) → b ≡ not m → b ≡ true → m ≡ false
absent b true found is = absurd (false≢true (sym found ∙ is))
absent b false found is = refl

there : (b m : Bool) → b ≡ not m → b ≡ false → m ≡ true
there b true found is = refl
there b false found is = absurd (false≢true (sym is ∙ found))

pub returns-clause-added : goal.returns-clause-added
returns-clause-added c = λ rest fresh.
    let needs = c.args.needs.now.items in
    let need = c.args.need in
    let found = first_fresh c.args.fresh.now.keys needs rest need c.remove.result c.remove.ensures.test (fresh need) in
    let known = among_contains needs need (is_among needs need) refl in
    elim c.if-remove.branch [
      | then-remove+in_ok-push w ↦ inr (
        λ has. false≢true (sym (absent c.remove.result (is_among needs need) found w.if-remove.true) ∙ known.1 has),
        ap (λ (v : Vec Need Global). v.items) w.needs-is ∙ w.in_ok-push.ensures.items,
      )
      | else-remove+in-Apart-1 w ↦ inl (known.0 (there c.remove.result (is_among needs need) found w.if-remove.false), ap (λ (v : Vec Need Global). v.items) w.needs-is)
      | else-remove+in-Here-1 w ↦ inl (known.0 (there c.remove.result (is_among needs need) found w.if-remove.false), ap (λ (v : Vec Need Global). v.items) w.needs-is)
    ]

pub returns-clause-fresh : goal.returns-clause-fresh
returns-clause-fresh c = λ rest fresh q.
    let needs = c.args.needs.now.items in
    let need = c.args.need in
    let found = first_fresh c.args.fresh.now.keys needs rest need c.remove.result c.remove.ensures.test (fresh need) in
    elim c.if-remove.branch [
      | then-remove+in_ok-push w ↦
          fresh_added c.args.fresh.now.keys c.remove.new.self.keys needs rest need q (c.remove.ensures.updates.0 q) (fresh q)
          ∙ ap (λ (after : List PlainNeed). is_among rest q && not (is_among after q)) (sym (ap (λ (v : Vec Need Global). v.items) w.needs-is ∙ w.in_ok-push.ensures.items))
      | else-remove+in-Apart-1 w ↦
          fresh_kept c.args.fresh.now.keys c.remove.new.self.keys needs rest need q (there c.remove.result (is_among needs need) found w.if-remove.false) (c.remove.ensures.updates.0 q) (fresh q)
          ∙ ap (λ (after : List PlainNeed). is_among rest q && not (is_among after q)) (sym (ap (λ (v : Vec Need Global). v.items) w.needs-is))
      | else-remove+in-Here-1 w ↦
          fresh_kept c.args.fresh.now.keys c.remove.new.self.keys needs rest need q (there c.remove.result (is_among needs need) found w.if-remove.false) (c.remove.ensures.updates.0 q) (fresh q)
          ∙ ap (λ (after : List PlainNeed). is_among rest q && not (is_among after q)) (sym (ap (λ (v : Vec Need Global). v.items) w.needs-is))
    ]
