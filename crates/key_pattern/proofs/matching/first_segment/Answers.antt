use Rattle.std.proofs.Common.{None, Some, lit<}
use Rattle.std.proofs.lemmas.Str.Pattern.{split_parts}
use Rattle.key_pattern.proofs.CutLemmas.{cuts_none, cuts_at}
use Rattle.key_pattern.proofs.matching.first_segment.Goals as goal

pub returns-in-None : goal.returns-in-None
returns-in-None c = cuts_none c.args.text.now (split_parts 124 c.args.text.now None c.in-None.ensures.cases (lit< tt))

pub returns-in-Some : goal.returns-in-Some
returns-in-Some c = cuts_at c.args.text.now c.in-Some.first.now c.in-Some.rest (split_parts 124 c.args.text.now (Some (c.in-Some.first, c.in-Some.rest)) c.in-Some.ensures.cases (lit< tt))
