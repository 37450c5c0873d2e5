use Rattle.core_events.proofs.PrintedLemmas.{answers_print_text}
use Rattle.core_events.proofs.printed_laws.answers_print_text.Goals as goal

pub returns : goal.returns
returns c = answers_print_text
