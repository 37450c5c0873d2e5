use Rattle.std.proofs.Common.{◌≤◌, [], length, sym, arith}
use Rattle.std.proofs.lemmas.List.{set_past}
use Rattle.updater_index.proofs.registered.Registered.forget.Goals as goal

pub returns-else-id-ids : goal.returns-else-id-ids
returns-else-id-ids c =
    let held = c.args.self.now in
    let past : length held ≤ c.args.id = omega (arith, c.ids.ensures, c.if-id-ids.false) in
    sym (set_past held c.args.id [] past)
