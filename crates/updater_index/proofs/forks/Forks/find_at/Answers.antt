use Rattle.std.proofs.Common.{◌≡◌, ℕ, ◌++◌, ◌∷◌, [], take, ap, sym, ◌∙◌, subst, List, filter, rules}
use Rattle.std.specs.declared.ops.Bound.TheVariants.{Included, Excluded}
use Rattle.std.proofs.lemmas.Result.{on_ok_weaker}
use Rattle.semantics.specs.Texts.{Text}
use Rattle.updater_index.specs.declared.fork.Fork.{Fork}
use Rattle.updater_index.specs.Shared.{next_at}
use Rattle.updater_index.specs.Sides.{Sides, is_registered, is_registered_at, is_at_some}
use Rattle.updater_index.specs.Spans.{FindsHolders, AllFound}
use Rattle.updater_index.proofs.FindLemmas.{finds_trans, finds_none}
use Rattle.updater_index.proofs.WindowLemmas.{window_is_forward, walked_is_registered, registered_is_walked}
use Rattle.updater_index.proofs.forks.Forks.find_at.Goals as goal

pub range-sides-requires : goal.range-sides-requires
range-sides-requires c = window_is_forward (take c.args.shared c.as_bytes-bytes.result.now) c.in_ok-of.field-0 c.in_ok-after.field-0 c.next_at-next.result c.in_ok-of.ensures c.in_ok-after.ensures

pub returns-clause-finds : goal.returns-clause-finds
returns-clause-finds c =
    on_ok_weaker c.find_among.result (λ f. subst (λ (ss : Sides). FindsHolders (is_registered ss) c.args.key.now c.args.found.now c.find_among.new.found) c.self.view_is
    (finds_trans (is_registered c.self.inside.sides.entries) (is_at_some c.range-sides.result) c.args.key.now c.args.found.now c.args.found.now c.find_among.new.found
    (walked_is_registered c.self.inside.lengths c.self.inside.sides (Included (record { beginning = c.in_ok-of.field-0; next = c.next_at-next.result })) (Excluded (record { beginning = c.in_ok-after.field-0; next = 0 })) c.range-sides.result c.self.invariant (c.range-sides.ensures.in_range (search rules)).0)
    (finds_none (is_registered c.self.inside.sides.entries) c.args.key.now c.args.found.now) f))
    c.find_among.ensures.finds

pub returns-clause-all : goal.returns-clause-all
returns-clause-all c =
    let bytes : c.as_bytes-bytes.result.now ≡ c.args.key.now = c.as_bytes-bytes.ensures.value ∙ c.text.ensures.text in
    let first : Fork = record { beginning = c.in_ok-of.field-0; next = c.next_at-next.result } in
    let last : Fork = record { beginning = c.in_ok-after.field-0; next = 0 } in
    on_ok_weaker c.find_among.result (λ f. subst (λ (ss : Sides). AllFound (is_registered_at c.args.shared ss) c.args.key.now c.find_among.new.found) c.self.view_is
    (λ r id h inside. f r id
    (registered_is_walked c.self.inside.sides.entries c.range-sides.result c.args.key.now first last c.args.shared
    (c.in_ok-of.ensures ∙ ap (λ (t : Text). take c.args.shared t) bytes) (c.next_at-next.ensures ∙ ap (λ (t : Text). next_at c.args.shared t) bytes)
    (c.in_ok-after.ensures ∙ ap (λ (t : Text). take c.args.shared t ++ 0 ∷ []) bytes) (c.range-sides.ensures.between (search rules)) r id h inside) inside))
    c.find_among.ensures.all
