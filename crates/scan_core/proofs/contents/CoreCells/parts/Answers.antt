use Rattle.std.proofs.Common.{ℕ, Contains, Some, None, IfOk, subst}
use Rattle.std.proofs.lemmas.Result.{IfOk-weaker}
use Rattle.semantics.specs.Texts.{Range}
use Rattle.cell_slots.specs.Places.{LiesInPlace}
use Rattle.cell_slots.specs.Slots.{MeetsNone, place_at}
use Rattle.scan_core.specs.Rights.{Contents}
use Rattle.scan_core.proofs.contents.CoreCells.parts.Goals as goal

pub returns-clause-kept : goal.returns-clause-kept
returns-clause-kept c =
    subst (λ (v : Contents). IfOk c.parts.result (λ parts. (id : ℕ) (part : Range) → Contains parts.items (record { range = part; cell = Some id }) → LiesInPlace (place_at v.cells.slots) id c.args.at part)) c.self.view_is c.parts.ensures.kept

pub returns-clause-gaps : goal.returns-clause-gaps
returns-clause-gaps c =
    subst (λ (v : Contents). IfOk c.parts.result (λ parts. (part : Range) → Contains parts.items (record { range = part; cell = None }) → MeetsNone v.cells.slots c.args.at part)) c.self.view_is
    (IfOk-weaker c.parts.result _ _ (λ parts gaps part has. (gaps part has).apart) c.parts.ensures.gaps)
