use Rattle.std.proofs.Common.{◌≡◌, ◌++◌, [], ◌∷◌, replicate, sym, ap, ◌∙◌, append_assoc}
use Rattle.std.proofs.lemmas.List.{append-nil}
use Rattle.write_history.specs.Lines.{lines}
use Rattle.write_history.proofs.Lines.{lines_more}
use Rattle.write_history.proofs.history.add_lines.Goals as goal

pub loop-line-init : goal.loop-line-init
loop-line-init c = sym (append-nil c.args.words.now.items)

pub loop-line-preserved : goal.loop-line-preserved
loop-line-preserved c =
    let old = c.args.words.now.items in
    let word = c.args.word in
    let n = c.loop-line._line in
    c.in_ok-extend_from_slice.ensures.items
    ∙ ap (λ ws. ws ++ lines (word ∷ [])) c.loop-line.invariant
    ∙ append_assoc old (lines (replicate n word)) (lines (word ∷ []))
    ∙ ap (λ ws. old ++ ws) (sym (lines_more n word))
