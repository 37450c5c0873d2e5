use Rattle.std.proofs.Common.{◌≡◌, ℕ, Some, IfOk, sym, ◌∙◌, subst}
use Rattle.range_set.specs.declared.piece.Piece.{Piece}
use Rattle.range_set.specs.Pieces.{range_of}
use Rattle.rank_layers.proofs.JoinLemmas.{ok_both}
use Rattle.shared_cells.specs.Spots.{number_at, numbered}
use Rattle.shared_cells.specs.Directories.{GivesParts, IsMadeOf}
use Rattle.shared_cells.proofs.DirectoryLemmas.{kept_number, parts_same, same_directory}
use Rattle.shared_cells.proofs.directory.Directory.part.Goals as goal

-- ---- a kept piece

pub returns-in-Kept-clause-made : goal.returns-in-Kept-clause-made
returns-in-Kept-clause-made g c =
    let lies = c.requires c.in-Kept.id c.in-Kept.range c.in-Kept.is in
    let there : number_at c.args.self.now.spots c.in-Kept.id ≡ Some c.in-Kept.id = kept_number c.args.self.now.spots c.in-Kept.id c.args.join lies.place lies.kept in
    subst (λ (piece : Piece ℕ). IfOk c.kept_part.result (λ part. IsMadeOf c.args.join c.kept_part.new.self.spots piece (numbered part.range part.cell))) (sym c.in-Kept.is)
    (ok_both c.kept_part.result _ _ _ (λ part range cell. (range, cell ∙ there)) c.kept_part.ensures.range c.kept_part.ensures.cell)

pub returns-in-Kept-clause-given : goal.returns-in-Kept-clause-given
returns-in-Kept-clause-given g c = parts_same c.args.join (range_of c.args.piece) c.args.self.now c.kept_part.new.self (same_directory c.args.self.now c.kept_part.new.self c.kept_part.ensures.same)

pub returns-in-Kept-clause-pulled : goal.returns-in-Kept-clause-pulled
returns-in-Kept-clause-pulled g c = λ no. c.kept_part.ensures.same

-- ---- a gap

pub returns-in-Gap-clause-made : goal.returns-in-Gap-clause-made
returns-in-Gap-clause-made g c =
    subst (λ (piece : Piece ℕ). IfOk c.gap_part.result (λ part. IsMadeOf c.args.join c.gap_part.new.self.spots piece (numbered part.range part.cell))) (sym c.in-Gap.is) c.gap_part.ensures.made

pub returns-in-Gap-clause-given : goal.returns-in-Gap-clause-given
returns-in-Gap-clause-given g c =
    subst (λ (piece : Piece ℕ). GivesParts c.args.join (range_of piece) c.args.self.now c.gap_part.new.self) (sym c.in-Gap.is) c.gap_part.ensures.given
