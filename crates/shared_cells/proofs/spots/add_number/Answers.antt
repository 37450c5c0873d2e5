use Rattle.std.proofs.Common.{◌≡◌, ◌+◌, [], ◌∷◌, length, map, None, Some, sym, ap, ◌∙◌, length-append}
use Rattle.std.proofs.lemmas.List.{append-nil}
use Rattle.std.proofs.lemmas.List.Elements.{All-pop}
use Rattle.write_history.specs.Passes.{PassView}
use Rattle.shared_cells.specs.Spots.{spot_view, with_unused}
use Rattle.shared_cells.proofs.SpotLemmas.{one_more_used}
use Rattle.shared_cells.proofs.spots.add_number.Goals as goal

pub returns-in_err-reserve-clause-same : goal.returns-in_err-reserve-clause-same
returns-in_err-reserve-clause-same g c = ap (λ items. with_unused (map spot_view items) (length c.args.unused.now.items)) c.reserve.ensures.items

pub returns-in_default-clause-same : goal.returns-in_default-clause-same
returns-in_default-clause-same g c =
    let same : c.args.unused.now.items ≡ c.pop.new.self.items = c.in_default.ensures.items ∙ append-nil c.pop.new.self.items in
    λ i. with_unused (map spot_view (c.reserve.ensures.items i)) (length (sym same i))

pub returns-in_default-clause-same_history : goal.returns-in_default-clause-same_history
returns-in_default-clause-same_history g c =
    (All-pop (λ (pass : PassView). pass.history ≡ g.N.Naming.history) c.args.unused.now.items c.pop.new.self.items None c.in_default.ensures.items c.requires).0

pub new-requires : goal.new-requires
new-requires g c =
    (All-pop (λ (pass : PassView). pass.history ≡ g.N.Naming.history) c.args.unused.now.items c.pop.new.self.items (Some c.in-Some.pass) c.in-Some.ensures.items c.requires).1

pub returns-clause-same : goal.returns-clause-same
returns-clause-same g c =
    let count : length c.args.unused.now.items ≡ length c.pop.new.self.items + 1 = ap length c.in-Some.ensures.items ∙ length-append c.pop.new.self.items (c.in-Some.pass ∷ []) in
    one_more_used c.reserve.new.self.items c.push.new.self.items _ _ (length c.args.unused.now.items) (length c.pop.new.self.items) c.in-Ok.ensures.items count
    ∙ ap (λ items. with_unused (map spot_view items) (length c.args.unused.now.items)) c.reserve.ensures.items

pub returns-clause-same_history : goal.returns-clause-same_history
returns-clause-same_history g c =
    (All-pop (λ (pass : PassView). pass.history ≡ g.N.Naming.history) c.args.unused.now.items c.pop.new.self.items (Some c.in-Some.pass) c.in-Some.ensures.items c.requires).0
