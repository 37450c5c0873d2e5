use Rattle.std.proofs.Common.{◌≡◌, ℕ, ◌+◌, List, take, drop, Some, sym, ap, ◌∙◌, subst, arith, length-drop, length-take}
use Rattle.write_history.specs.declared.known.Kinds.{Kinds}
use Rattle.write_history.specs.Passes.{HistoryId, PassView, new_pass}
use Rattle.pequod_cache.specs.Sitting.{AreOf, AreOfParts}
use Rattle.pequod_cache.proofs.SeatLemmas.{Follow, are_of, are_of_parts, are_writers, follow_dropped, follow_taken, is_fresh}
use Rattle.pequod_cache.proofs.seats.Seats.make.Goals as goal

pub returns-clause-cells : goal.returns-clause-cells
returns-clause-cells c =
    let made = c.in_ok-history in
    let history : HistoryId = made.history in
    let items : List PassView = made.passes.items in
    let from : ℕ = c.args.clients + 1 + c.from-parts.result in
    let all : Follow history 0 items = λ i less. let same : i ≡ 0 + i = omega arith in made.ensures.each i (omega (arith, less, made.ensures.count)) ∙ ap (λ m. Some (new_pass history m)) same in
    let long = length-drop from items in
    subst (AreOf history c.args.cells) (sym c.in_ok-cells.ensures.tail)
    (are_of history from c.args.cells (drop from items) (omega (arith, long, made.ensures.count)) (follow_dropped history from items all (omega (arith, long, made.ensures.count))))

pub returns-clause-shards : goal.returns-clause-shards
returns-clause-shards c =
    let made = c.in_ok-history in
    let history : HistoryId = made.history in
    let items : List PassView = made.passes.items in
    let from : ℕ = c.args.clients + 1 + c.from-parts.result in
    let at : ℕ = c.args.clients + 1 in
    let all : Follow history 0 items = λ i less. let same : i ≡ 0 + i = omega arith in made.ensures.each i (omega (arith, less, made.ensures.count)) ∙ ap (λ m. Some (new_pass history m)) same in
    let first = take from items in
    let cut = length-take from items in
    let long = length-drop at first in
    let before : Follow history 0 first = follow_taken history from items all (omega (arith, cut)) (omega (arith, cut)) in
    let kinds = made.ensures.kinds in
    subst (AreOfParts history) (sym (c.in_ok-shards.ensures.tail ∙ ap (λ (xs : List PassView). drop at xs) c.in_ok-cells.ensures.items))
    (are_of_parts history at (drop at first) (omega (arith, long, cut, made.ensures.count)) (omega (arith, ap (λ (k : Kinds). k.writers) kinds, ap (λ (k : Kinds). k.pinned) kinds)) (omega (arith, ap (λ (k : Kinds). k.shards) kinds))
    (follow_dropped history at first before (omega (arith, long, cut, made.ensures.count))))

pub returns-clause-clients : goal.returns-clause-clients
returns-clause-clients c =
    let made = c.in_ok-history in
    let history : HistoryId = made.history in
    let items : List PassView = made.passes.items in
    let from : ℕ = c.args.clients + 1 + c.from-parts.result in
    let at : ℕ = c.args.clients + 1 in
    let all : Follow history 0 items = λ i less. let same : i ≡ 0 + i = omega arith in made.ensures.each i (omega (arith, less, made.ensures.count)) ∙ ap (λ m. Some (new_pass history m)) same in
    let first = take from items in
    let cut = length-take from items in
    let second = take at first in
    let short = length-take at first in
    let before : Follow history 0 first = follow_taken history from items all (omega (arith, cut)) (omega (arith, cut)) in
    let those : Follow history 0 second = follow_taken history at first before (omega (arith, short)) (omega (arith, short)) in
    let is = sym (c.in_ok-shards.ensures.items ∙ ap (λ (xs : List PassView). take at xs) c.in_ok-cells.ensures.items) ∙ c.in-Some.ensures.items in
    are_writers history c.args.clients second c.pop.new.self.items c.in-Some.updater is (omega (arith, short, cut, made.ensures.count)) (ap (λ (k : Kinds). k.writers) made.ensures.kinds) those

pub returns-clause-updater : goal.returns-clause-updater
returns-clause-updater c =
    let made = c.in_ok-history in
    let history : HistoryId = made.history in
    let items : List PassView = made.passes.items in
    let from : ℕ = c.args.clients + 1 + c.from-parts.result in
    let at : ℕ = c.args.clients + 1 in
    let all : Follow history 0 items = λ i less. let same : i ≡ 0 + i = omega arith in made.ensures.each i (omega (arith, less, made.ensures.count)) ∙ ap (λ m. Some (new_pass history m)) same in
    let first = take from items in
    let cut = length-take from items in
    let second = take at first in
    let short = length-take at first in
    let before : Follow history 0 first = follow_taken history from items all (omega (arith, cut)) (omega (arith, cut)) in
    let those : Follow history 0 second = follow_taken history at first before (omega (arith, short)) (omega (arith, short)) in
    let is = sym (c.in_ok-shards.ensures.items ∙ ap (λ (xs : List PassView). take at xs) c.in_ok-cells.ensures.items) ∙ c.in-Some.ensures.items in
    is_fresh history c.args.clients second c.pop.new.self.items c.in-Some.updater is (omega (arith, short, cut, made.ensures.count)) (ap (λ (k : Kinds). k.writers) made.ensures.kinds) (ap (λ (k : Kinds). k.pinned) made.ensures.kinds) those
