use Rattle.load_gen.proofs.PlanLemmas.{draws}
use Rattle.load_gen.proofs.acts.draw.Goals as goal

pub returns-clause-words : goal.returns-clause-words
returns-clause-words c =
    let one = draws c.next_word.result c.args.generator.now c.next_word.new.self c.next_word.ensures in
    let two = draws c.next_word-2.result c.next_word.new.self c.next_word-2.new.self c.next_word-2.ensures in
    let three = draws c.next_word-3.result c.next_word-2.new.self c.next_word-3.new.self c.next_word-3.ensures in
    let four = draws c.next_word-4.result c.next_word-3.new.self c.next_word-4.new.self c.next_word-4.ensures in
    cc

pub returns-clause-rest : goal.returns-clause-rest
returns-clause-rest c =
    let one = draws c.next_word.result c.args.generator.now c.next_word.new.self c.next_word.ensures in
    let two = draws c.next_word-2.result c.next_word.new.self c.next_word-2.new.self c.next_word-2.ensures in
    let three = draws c.next_word-3.result c.next_word-2.new.self c.next_word-3.new.self c.next_word-3.ensures in
    let four = draws c.next_word-4.result c.next_word-3.new.self c.next_word-4.new.self c.next_word-4.ensures in
    cc
