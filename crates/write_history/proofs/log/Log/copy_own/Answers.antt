use Rattle.std.proofs.Common.{◌≡◌, ◌<◌, ◌+◌, ◌-◌, [], ◌∷◌, ◌++◌, length, get_or, take, drop, arith, ap, sym, ◌∙◌}
use Rattle.std.proofs.lemmas.List.{length-map}
use Rattle.base_versions.specs.Own.{own_from}
use Rattle.base_versions.specs.declared.placed.Placed.{Placed}
use Rattle.base_versions.proofs.OwnLemmas.{placed}
use Rattle.write_history.specs.Stored.{Stored}
use Rattle.write_history.specs.Numbers.{positions_of, own_positions}
use Rattle.write_history.proofs.Lists.{range_more}
use Rattle.write_history.proofs.Numbering.{Cuts, cuts_of_log, own_of_log, own_at, placed_at}
use Rattle.write_history.proofs.log.Log.copy_own.Goals as goal

pub overflow_sub-last : goal.overflow_sub-last
overflow_sub-last c =
    let log = c.args.self.now in
    let part = c.args.part in
    let first = c.count_upto-first.result in
    let last = c.count_upto-last.result in
    let ps = positions_of part c.self.inside.numbers in
    let numbered : ps ≡ own_positions part (log.lacks + 1) log.entries = c.self.invariant.1 part ∙ ap (λ (s : Stored). own_positions part (s.lacks + 1) s.entries) c.self.view_is in
    let cut : Cuts part log.lacks c.args.from c.args.to log.entries first last =
    cuts_of_log part c.args.from c.args.to log ps first last c.requires.within c.requires.order numbered c.count_upto-first.ensures c.count_upto-last.ensures in
    omega (arith, cut.order)

pub get-position-requires : goal.get-position-requires
get-position-requires c =
    let log = c.args.self.now in
    let part = c.args.part in
    let first = c.count_upto-first.result in
    let last = c.count_upto-last.result in
    let ps = positions_of part c.self.inside.numbers in
    let numbered : ps ≡ own_positions part (log.lacks + 1) log.entries = c.self.invariant.1 part ∙ ap (λ (s : Stored). own_positions part (s.lacks + 1) s.entries) c.self.view_is in
    let cut : Cuts part log.lacks c.args.from c.args.to log.entries first last =
    cuts_of_log part c.args.from c.args.to log ps first last c.requires.within c.requires.order numbered c.count_upto-first.ensures c.count_upto-last.ensures in
    let many = ap length numbered ∙ length-map (own_from 16 part (log.lacks + 1) log.entries) (λ (p : Placed). p.position) in
    omega (arith, cut.within, many)

pub overflow_sub-position : goal.overflow_sub-position
overflow_sub-position c =
    let log = c.args.self.now in
    let part = c.args.part in
    let first = c.count_upto-first.result in
    let last = c.count_upto-last.result in
    let ps = positions_of part c.self.inside.numbers in
    let numbered : ps ≡ own_positions part (log.lacks + 1) log.entries = c.self.invariant.1 part ∙ ap (λ (s : Stored). own_positions part (s.lacks + 1) s.entries) c.self.view_is in
    let cut : Cuts part log.lacks c.args.from c.args.to log.entries first last =
    cuts_of_log part c.args.from c.args.to log ps first last c.requires.within c.requires.order numbered c.count_upto-first.ensures c.count_upto-last.ensures in
    let place = c.loop-place.place in
    let own = own_from 16 part (log.lacks + 1) log.entries in
    let short : place < length own = omega (arith, cut.within) in
    let found = own_at part log.lacks log.entries ps place c.get-position.result numbered short c.get-position.ensures in
    let lacks = ap (λ (s : Stored). s.lacks) c.self.view_is in
    let long = ap (λ (s : Stored). length s.entries) c.self.view_is in
    let stands = found.3 in
    let same = found.2 in
    omega (arith, stands.low, same)

pub get-requires-clause-kept : goal.get-requires-clause-kept
get-requires-clause-kept c =
    let log = c.args.self.now in
    let part = c.args.part in
    let first = c.count_upto-first.result in
    let last = c.count_upto-last.result in
    let ps = positions_of part c.self.inside.numbers in
    let numbered : ps ≡ own_positions part (log.lacks + 1) log.entries = c.self.invariant.1 part ∙ ap (λ (s : Stored). own_positions part (s.lacks + 1) s.entries) c.self.view_is in
    let cut : Cuts part log.lacks c.args.from c.args.to log.entries first last =
    cuts_of_log part c.args.from c.args.to log ps first last c.requires.within c.requires.order numbered c.count_upto-first.ensures c.count_upto-last.ensures in
    let place = c.loop-place.place in
    let own = own_from 16 part (log.lacks + 1) log.entries in
    let short : place < length own = omega (arith, cut.within) in
    let found = own_at part log.lacks log.entries ps place c.get-position.result numbered short c.get-position.ensures in
    let lacks = ap (λ (s : Stored). s.lacks) c.self.view_is in
    let long = ap (λ (s : Stored). length s.entries) c.self.view_is in
    let stands = found.3 in
    let same = found.2 in
    omega (arith, stands.low, same, lacks)

pub get-requires-clause-within : goal.get-requires-clause-within
get-requires-clause-within c =
    let log = c.args.self.now in
    let part = c.args.part in
    let first = c.count_upto-first.result in
    let last = c.count_upto-last.result in
    let ps = positions_of part c.self.inside.numbers in
    let numbered : ps ≡ own_positions part (log.lacks + 1) log.entries = c.self.invariant.1 part ∙ ap (λ (s : Stored). own_positions part (s.lacks + 1) s.entries) c.self.view_is in
    let cut : Cuts part log.lacks c.args.from c.args.to log.entries first last =
    cuts_of_log part c.args.from c.args.to log ps first last c.requires.within c.requires.order numbered c.count_upto-first.ensures c.count_upto-last.ensures in
    let place = c.loop-place.place in
    let own = own_from 16 part (log.lacks + 1) log.entries in
    let short : place < length own = omega (arith, cut.within) in
    let found = own_at part log.lacks log.entries ps place c.get-position.result numbered short c.get-position.ensures in
    let lacks = ap (λ (s : Stored). s.lacks) c.self.view_is in
    let long = ap (λ (s : Stored). length s.entries) c.self.view_is in
    let stands = found.3 in
    let same = found.2 in
    omega (arith, stands.low, stands.high, same, lacks, long)

pub loop-place-preserved : goal.loop-place-preserved
loop-place-preserved c =
    let log = c.args.self.now in
    let part = c.args.part in
    let first = c.count_upto-first.result in
    let last = c.count_upto-last.result in
    let ps = positions_of part c.self.inside.numbers in
    let numbered : ps ≡ own_positions part (log.lacks + 1) log.entries = c.self.invariant.1 part ∙ ap (λ (s : Stored). own_positions part (s.lacks + 1) s.entries) c.self.view_is in
    let cut : Cuts part log.lacks c.args.from c.args.to log.entries first last =
    cuts_of_log part c.args.from c.args.to log ps first last c.requires.within c.requires.order numbered c.count_upto-first.ensures c.count_upto-last.ensures in
    let place = c.loop-place.place in
    let own = own_from 16 part (log.lacks + 1) log.entries in
    let short : place < length own = omega (arith, cut.within) in
    let found = own_at part log.lacks log.entries ps place c.get-position.result numbered short c.get-position.ensures in
    let lacks = ap (λ (s : Stored). s.lacks) c.self.view_is in
    let long = ap (λ (s : Stored). length s.entries) c.self.view_is in
    let stands = found.3 in
    let same = found.2 in
    let so_far = take (place - first) (drop first own) in
    let here = ap (λ (s : Stored). s.entries) c.self.view_is in
    let e = c.get.result.now in
    c.in_ok-push.ensures.items
    ∙ ap (λ list. list ++ placed c.get-position.result c.in_ok-entry.entry ∷ []) c.loop-place.invariant
    ∙ ap (λ (x : Placed). so_far ++ x ∷ []) (placed_at log.lacks c.get-position.result log.entries found.0 e c.in_ok-entry.entry same stands (c.get.ensures ∙ (λ i. get_or (here i) (c.get-position.result - 1 - lacks i) e)) c.in_ok-entry.ensures)
    ∙ sym (range_more own first place found.0 (omega arith) short found.1)

pub returns : goal.returns
returns c =
    let log = c.args.self.now in
    let part = c.args.part in
    let first = c.count_upto-first.result in
    let last = c.count_upto-last.result in
    let ps = positions_of part c.self.inside.numbers in
    let numbered : ps ≡ own_positions part (log.lacks + 1) log.entries = c.self.invariant.1 part ∙ ap (λ (s : Stored). own_positions part (s.lacks + 1) s.entries) c.self.view_is in
    let cut : Cuts part log.lacks c.args.from c.args.to log.entries first last =
    cuts_of_log part c.args.from c.args.to log ps first last c.requires.within c.requires.order numbered c.count_upto-first.ensures c.count_upto-last.ensures in
    let end : c.loop-place.place ≡ last = omega (arith, cut.order) in
    λ h lacks is low.
    c.loop-place.invariant
    ∙ ap (λ n. take (n - first) (drop first (own_from 16 part (log.lacks + 1) log.entries))) end
    ∙ cut.between
    ∙ own_of_log part c.args.from c.args.to log h lacks is low
