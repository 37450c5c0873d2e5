use Rattle.std.proofs.Common.{Some, refl, sym, ap, ◌∙◌}
use Rattle.cell_slots.proofs.slots.open_at.Goals as goal

pub returns : goal.returns
returns c = record {
  width = sym c.in_ok-width.ensures ∙ ap Some (sym c.from-bytes.ensures);
  same_rest = refl;
  same_last = refl;
}
