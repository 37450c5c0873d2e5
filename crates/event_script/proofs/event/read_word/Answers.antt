use Rattle.event_script.proofs.ItemLemmas.{four_items_form}
use Rattle.event_script.proofs.event.read_word.Goals as goal

pub returns-in_default-clause-fault : goal.returns-in_default-clause-fault
returns-in_default-clause-fault c = four_items_form c.args.word.now c.args.items.now c.in_default.len_at_least
