use Rattle.std.proofs.Common.{ℕ, ◌+◌, ◌-◌, take, Option, Some, option_map, sym, ap, ◌∙◌}
use Rattle.std.proofs.lemmas.Option.{none-some}
use Rattle.semantics.specs.Texts.{Text}
use Rattle.join_eval.proofs.MovesLemmas.{moves_refl}
use Rattle.rank_layers.proofs.ValueLemmas.{read_alone, value_alone}
use Rattle.rank_layers.proofs.valuing.value_above.Goals as goal

pub returns-in_err-range-clause-moves : goal.returns-in_err-range-clause-moves
returns-in_err-range-clause-moves g c = moves_refl g.R.Reader.list g.R.Reader.floor (g.C.RangeCache.left (c.args.rank + 1)) c.args.reader.now (g.met.C.RangeCache.left_refl (c.args.rank + 1) c.args.reader.now)

pub returns-in-None-clause-value : goal.returns-in-None-clause-value
returns-in-None-clause-value g c =
    let h = g.R.Reader.list c.args.reader.now in
    let key = c.args.key.now in
    let pairs = c.in_ok-pairs.pairs.items in
    let read = read_alone h c.args.p (c.args.rank + 1) key c.in_ok-range.range pairs c.in_ok-pairs.ensures.exact c.in_ok-range.ensures in
    ap (option_map (λ (pair : Text × Text). pair.1)) (sym c.in-None.is) ∙ value_alone h c.args.p (c.args.rank + 1) key pairs c.pop.new.self.items c.pop.result read c.pop.ensures.items (λ none. c.in-None.ensures.rest ∙ ap (λ (n : ℕ). take (n - 1) pairs) c.in-None.ensures.cases.0)

pub returns-clause-value : goal.returns-clause-value
returns-clause-value g c =
    let h = g.R.Reader.list c.args.reader.now in
    let key = c.args.key.now in
    let pairs = c.in_ok-pairs.pairs.items in
    let read = read_alone h c.args.p (c.args.rank + 1) key c.in_ok-range.range pairs c.in_ok-pairs.ensures.exact c.in_ok-range.ensures in
    let value : Text × Text → Option Text = λ pair. Some pair.1 in
    ap value c.pair.view_is ∙ ap (option_map (λ (pair : Text × Text). pair.1)) (sym c.in-Some.is)
    ∙ value_alone h c.args.p (c.args.rank + 1) key pairs c.pop.new.self.items c.pop.result read c.pop.ensures.items (λ none. absurd (none-some c.in-Some.pair (sym none ∙ c.in-Some.is)))
