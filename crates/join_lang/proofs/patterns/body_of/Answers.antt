use Rattle.std.proofs.Common.{Some, None, lit<}
use Rattle.std.proofs.lemmas.Str.Pattern.{strip_prefix_char, strip_suffix_char}
use Rattle.join_lang.proofs.SegmentLemmas.{unbracketed_by_first, body_by}
use Rattle.join_lang.proofs.patterns.body_of.Goals as goal

pub returns-in-Some : goal.returns-in-Some
returns-in-Some c =
    body_by c.args.text.now c.in-Some.behind.now c.strip_suffix.result
    (strip_prefix_char 60 c.args.text.now (Some c.in-Some.behind) c.in-Some.ensures.cases (lit< tt))
    (strip_suffix_char 62 c.in-Some.behind.now c.strip_suffix.result c.strip_suffix.ensures.cases (lit< tt))

pub returns-in-None : goal.returns-in-None
returns-in-None c =
    unbracketed_by_first c.args.text.now (strip_prefix_char 60 c.args.text.now None c.in-None.ensures.cases (lit< tt))
