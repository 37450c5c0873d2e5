use Rattle.std.proofs.Common.{◌≡◌, ℕ, ◌||◌, Bool, true, false, ap, sym, ◌∙◌, subst, List, filter, rules}
use Rattle.std.specs.List.{list_any}
use Rattle.std.specs.BTreeMap.Range.{range_contains}
use Rattle.std.specs.BTreeSet.{contains}
use Rattle.std.specs.Ordering.{nat_cmp}
use Rattle.std.specs.declared.ops.Bound.TheVariants.{Excluded, Unbounded}
use Rattle.std.proofs.lemmas.Result.{on_ok_weaker}
use Rattle.semantics.specs.Texts.{Range}
use Rattle.updater_index.specs.declared.side.Span.{Span}
use Rattle.updater_index.specs.Spans.{has_low, holds, span_cmp, FindsHolders, AllFound}
use Rattle.updater_index.proofs.HolderLemmas.{Walks, finds_holders, finds_all, low_walked}
use Rattle.updater_index.proofs.side.Side.find_by_low.Goals as goal

-- the spans that are walked are those below the next text after the key
abbrev walked : goal.After-find_among → Span → Bool
walked c = range_contains span_cmp Unbounded (Excluded (record { first = c.in_ok-copy.field-0; id = 0; second = c.in_ok-copy-2.field-0 }))

walk : (c : goal.After-find_among) → ((id : ℕ) → contains nat_cmp c.find_among.new.found id ≡ (contains nat_cmp c.args.found.now id || list_any (holds true c.args.key.now id) c.range-spans.result)) →
    Walks true (walked c) c.args.key.now c.self.inside.lows.keys c.args.found.now c.find_among.new.found
walk c w = λ id.
    let is : c.range-spans.result ≡ filter (walked c) c.self.inside.lows.keys = c.range-spans.ensures.between (search rules) in
    w id ∙ ap (λ (ss : List Span). contains nat_cmp c.args.found.now id || list_any (holds true c.args.key.now id) ss) is

pub returns-clause-finds : goal.returns-clause-finds
returns-clause-finds c =
    on_ok_weaker c.find_among.result (λ w. subst (λ (ss : List Span). FindsHolders (has_low ss) c.args.key.now c.args.found.now c.find_among.new.found) c.self.view_is
    (finds_holders true (walked c) c.args.key.now c.self.inside.lows.keys c.args.found.now c.find_among.new.found (walk c w)))
    c.find_among.ensures

pub returns-clause-all : goal.returns-clause-all
returns-clause-all c =
    on_ok_weaker c.find_among.result (λ w. subst (λ (ss : List Span). AllFound (has_low ss) c.args.key.now c.find_among.new.found) c.self.view_is
    (finds_all true (walked c) c.args.key.now c.self.inside.lows.keys c.args.found.now c.find_among.new.found (walk c w)
    (low_walked _ c.args.key.now (c.in_ok-copy.ensures ∙ c.requires))))
    c.find_among.ensures
