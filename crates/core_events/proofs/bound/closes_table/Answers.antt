use Rattle.std.proofs.Common.{None, lit<, sym}
use Rattle.std.proofs.lemmas.Str.Pattern.{strip_suffix_char}
use Rattle.core_events.proofs.PlaceLemmas.{closes-other}
use Rattle.core_events.proofs.bound.closes_table.Goals as goal

pub returns-in-None : goal.returns-in-None
returns-in-None c = sym (closes-other c.args.text.now (strip_suffix_char 125 c.args.text.now None c.in-None.ensures.cases (lit< tt)))
