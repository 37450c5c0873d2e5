use Rattle.std.proofs.Common.{◌≡◌, ◌+◌, ◌*◌, ◌-◌, ◌<◌, ◌≤◌, ℕ, suc, min, refl, sym, ap, ◌∙◌, subst, arith}
use Rattle.atomic_table.specs.Table.{Allows}
use Rattle.write_history.specs.Marks.{before, pins, words_of, allowed}
use Rattle.write_history.specs.Rule.{Keeps}
use Rattle.write_history.specs.Steps.{Sat, passing}
use Rattle.write_history.proofs.Marking.{before_is}
use Rattle.write_history.proofs.Lines.{mark_at}
use Rattle.write_history.proofs.Raising.{passes}
use Rattle.write_history.proofs.turn.lowest.Goals as goal

pub load-word-requires : goal.load-word-requires
load-word-requires c =
    let board = c.args.board.now in
    let place = c.loop-number.place in
    let m = c.args.place.now.me in
    let now = c.loop-number.invariant in
    let number = c.loop-number.number in
    let size = c.requires.sized in
    let words = c.requires.words in
    let less : number < words_of board.key = omega arith in
    let there : number < words_of place.me.0.kinds = subst (λ k. number < words_of k) (sym (ap (λ (x : Sat). x.0.kinds) now.me ∙ c.requires.same_kinds)) less in
    let at : mark_at place.me.0.passed ≡ 32 + 8 * number = ap (λ (x : Sat). mark_at x.0.passed) now.me ∙ omega arith in (
      now.own ∙ c.requires.own,
      omega arith,
      subst (λ i. Allows (Keeps board.key) board.table_id.slots place.id place.me i (λ n. n) (passing place.me)) at
          (passes board.key board.table_id.slots place.id place.me c.requires.number.0 c.requires.held.0
          (ap (λ (x : Sat). x.0.role) now.me ∙ c.requires.number.1)
          (ap (λ (x : Sat). x.0.held) now.me ∙ c.requires.held.1)
          (subst (λ n. n < words_of place.me.0.kinds) (sym (ap (λ (x : Sat). x.0.passed) now.me)) there)),
    )

pub loop-number-init : goal.loop-number-init
loop-number-init c =
    let m = c.args.place.now.me in
    let begun = c.requires.begun in
    let low : before c.args.count ≡ c.saturating_sub-low.result = before_is c.args.count ∙ sym c.saturating_sub-low.ensures in
    record {
      own = refl;
      me = λ i. (record m.0 { passed = begun.0 i; low = (begun.1 ∙ low) i }, m.1);
      above = subst (λ n. m.0.lacks ≤ n) low begun.2;
      within = subst (λ n. n ≤ before c.args.count) low (omega arith);
    }

pub loop-number-preserved : goal.loop-number-preserved
loop-number-preserved c =
    let m = c.args.place.now.me in
    let now = c.loop-number.invariant in
    let number = c.loop-number.number in
    let found = c.load-word.result in
    let pins_are = c.requires.pins ∙ ap pins (sym c.requires.same_kinds) in
    let bound : c.bound_of.result ≡ allowed m.0.kinds number found = c.bound_of.ensures m.0.kinds pins_are in
    let is : min c.loop-number.low (allowed m.0.kinds number found) ≡ c.least-low.result = ap (min c.loop-number.low) (sym bound) ∙ sym c.least-low.ensures in
    let first : m.0.lacks ≤ allowed m.0.kinds number found = subst (λ (x : Sat). x.0.lacks ≤ allowed x.0.kinds x.0.passed found) now.me c.load-word.ensures.2.0 in
    record {
      own = c.load-word.ensures.0 ∙ now.own;
      me = c.load-word.ensures.2.1
          ∙ ap (λ (x : Sat). (record x.0 { passed = x.0.passed + 1; low = min x.0.low (allowed x.0.kinds x.0.passed found) }, x.1)) now.me
          ∙ (λ i. (record m.0 { passed = number + 1; low = is i }, m.1));
      above = subst (λ n. m.0.lacks ≤ n) is (let a = now.above in omega arith);
      within = subst (λ n. n ≤ before c.args.count) is (let w = now.within in omega arith);
    }
