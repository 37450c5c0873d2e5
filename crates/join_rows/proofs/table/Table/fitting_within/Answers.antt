use Rattle.std.proofs.Common.{◌≡◌, Bool, List, ◌++◌, ◌&&◌, not, filter, map, is_some, sym, ap, ◌∙◌, rules}
use Rattle.std.specs.Ordering.{is_le}
use Rattle.semantics.specs.Texts.{Text, text_cmp, Table, pairs_where, pairs_within}
use Rattle.semantics.specs.Patterns.{bind}
use Rattle.join_rows.specs.Placed.{PlacedPairs, pairs_of}
use Rattle.join_rows.proofs.PlacedLemmas.{range_within}
use Rattle.join_rows.proofs.table.Table.fitting_within.Goals as goal

-- the entries from one place on and below another
between : Text → Text → PlacedPairs → PlacedPairs
between low high entries = filter (λ e. is_le (text_cmp low e.0) && not (is_le (text_cmp high e.0))) entries

-- the keys of the pairs that pass
passed : (Text → Bool) → Table → List Text
passed test table = map (λ pair. pair.0) (pairs_where test table)

pub loop-pair-init : goal.loop-pair-init
unfolding between passed
loop-pair-init c =
    let entries : PlacedPairs = c.self.inside.pairs.entries in
    let fits = λ (key : Text). is_some (bind c.args.pattern.now key c.args.slots.now) in
    let found : c.range-pair-items.result ≡ between c.in_ok-first_place.field-0 c.in_ok-last_place.field-0 entries = c.range-pair-items.ensures.between (search rules) in
    ap (λ (items : List Text). items ++ passed fits (pairs_of c.into_iter-pair-iterator.result)) c.new-keys.ensures.items
    ∙ ap (λ (es : PlacedPairs). passed fits (pairs_of es)) (c.into_iter-pair-iterator.ensures.into_iter_gives ∙ found
    ∙ ap (λ (low : Text). between low c.in_ok-last_place.field-0 entries) c.in_ok-first_place.ensures.place
    ∙ ap (λ (high : Text). between c.args.range.now.low high entries) c.in_ok-last_place.ensures)
    ∙ ap (passed fits) (range_within c.args.range.now entries c.self.invariant ∙ ap (pairs_within c.args.range.now) c.self.view_is)
