use Rattle.std.proofs.Common.{refl, sym, ◌∙◌}
use Rattle.std.proofs.lemmas.Bool.{false≢true}
use Rattle.shared_cells.proofs.directory.Directory.gap_part.Goals as goal

pub returns-in_err-cell-clause-pulled : goal.returns-in_err-cell-clause-pulled
returns-in_err-cell-clause-pulled g c = λ no. absurd (false≢true (sym no ∙ c.if-not-keep.false))

pub returns-clause-made : goal.returns-clause-made
returns-clause-made g c = (refl, c.in_ok-cell.ensures.kept)

pub returns-clause-pulled : goal.returns-clause-pulled
returns-clause-pulled g c = λ no. absurd (false≢true (sym no ∙ c.if-not-keep.false))
