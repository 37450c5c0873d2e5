use Rattle.std.proofs.Common.{ℕ, Option, sym, subst}
use Rattle.std.proofs.lemmas.Result.{IfOk-weaker}
use Rattle.shared_cells.specs.Directories.{DirectoryView, GivesCell, GivesParts, IsGiven}
use Rattle.shared_cells.proofs.DirectoryLemmas.{given_number, parts_given, parts_same}
use Rattle.shared_cells.proofs.directory.Directory.give_cell.Goals as goal

pub returns-in_err-given-clause-given : goal.returns-in_err-given-clause-given
returns-in_err-given-clause-given g c = parts_same c.args.join c.args.range.now c.args.self.now c.give_place.new.self c.in_err-given.ensures.err

pub returns-in_default-clause-given : goal.returns-in_default-clause-given
returns-in_default-clause-given g c = parts_given c.args.join c.args.range.now c.args.self.now c.give_place.new.self c.in_ok-given.given c.in_ok-given.ensures.given

pub returns-clause-kept : goal.returns-clause-kept
returns-clause-kept g c =
    let before = c.args.self.now in
    let given : IsGiven c.args.join c.args.range.now c.in-Some.id before c.give_place.new.self =
    subst (λ (o : Option ℕ). GivesCell c.args.join c.args.range.now before c.give_place.new.self o) c.in-Some.is c.in_ok-given.ensures.given in
    IfOk-weaker c.cell.result _ _ (λ found e. given_number c.args.join c.args.range.now c.in-Some.id before c.give_place.new.self c.note_given.new.self _ given c.note_given.ensures e) c.cell.ensures

pub returns-clause-given : goal.returns-clause-given
returns-clause-given g c =
    subst (λ (after : DirectoryView). GivesParts c.args.join c.args.range.now c.args.self.now after) (sym c.note_given.ensures)
    (parts_given c.args.join c.args.range.now c.args.self.now c.give_place.new.self c.in_ok-given.given c.in_ok-given.ensures.given)
