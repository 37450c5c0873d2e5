use Rattle.std.proofs.Common.{◌≡◌, ℕ, ◌+◌, ◌*◌, length, arith, [], ◌∷◌, ◌++◌, ap, sym, ◌∙◌, subst, List}
use Rattle.atomic_table.specs.Table.{opening}
use Rattle.write_history.specs.Stored.{Stored}
use Rattle.write_history.specs.Rule.{Keeps, dealer, first_words}
use Rattle.write_history.specs.Marks.{words_of}
use Rattle.write_history.proofs.Lines.{length-lines}
use Rattle.write_history.proofs.Marking.{first_words_are}
use Rattle.write_history.proofs.Dealing.{opens}
use Rattle.write_history.proofs.history.make_board.Goals as goal

pub new-requires-2 : goal.new-requires-2
new-requires-2 c =
    let kinds = c.args.kinds in
    let log = c.in_ok-new.field-0 in
    let only = c.in_ok-push.ensures.items ∙ ap (λ logs. logs ++ log ∷ []) c.in_ok-logs.ensures.items in
    let words = c.in_ok-words.ensures kinds c.requires.pins c.requires.shards in
    subst (λ (x : List ℕ × List Stored). Keeps kinds (opening x.0 x.1 (dealer kinds))) (λ i. (sym (c.deref.ensures.value ∙ words) i, sym only i)) (opens kinds log c.in_ok-new.ensures)

pub returns-in-Ok-clause-sized : goal.returns-in-Ok-clause-sized
returns-in-Ok-clause-sized c =
    let kinds = c.args.kinds in
    let words = c.in_ok-words.ensures kinds c.requires.pins c.requires.shards in
    let size = ap length (c.deref.ensures.value ∙ words) ∙ length-lines (0 ∷ 0 ∷ 0 ∷ 0 ∷ first_words kinds) in
    let all = (first_words_are kinds).0 in
    let made = c.in-Ok.ensures.ok in
    let long : c.in-Ok.made.0.shared.table_id.words ≡ 8 * (4 + words_of kinds) = omega (arith, made.0) in
    subst (λ k. c.in-Ok.made.0.shared.table_id.words ≡ 8 * (4 + words_of k)) (sym made.5) long
