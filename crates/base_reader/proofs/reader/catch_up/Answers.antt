use Rattle.std.proofs.Common.{◌≡◌, ℕ, ◌-◌, length, take, drop, ap, ◌∙◌, arith}
use Rattle.std.proofs.lemmas.List.{take_all, length-drop}
use Rattle.semantics.specs.Histories.{History}
use Rattle.base_reader.proofs.ReadingLemmas.{caught_up}
use Rattle.base_reader.proofs.reader.catch_up.Goals as goal

rest_of : (es : History) (known position : ℕ) → known ≡ position → take (length es - known) (drop known es) ≡ drop position es
rest_of es known position same = take_all (length es - known) (drop known es) (omega (arith, length-drop known es)) ∙ ap (λ n. drop n es) same

pub returns-clause-versions : goal.returns-clause-versions
returns-clause-versions c =
    caught_up c.advance.result c.args.base.now c.advance.new.self c.args.entries.now (take (length c.args.entries.now - c.position-known.result) (drop c.position-known.result c.args.entries.now))
    (rest_of c.args.entries.now c.position-known.result c.args.base.now.position c.position-known.ensures.position) c.requires.reaches c.requires.versions c.advance.ensures.ok c.advance.ensures.position c.advance.ensures.err
