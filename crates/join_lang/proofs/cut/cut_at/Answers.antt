use Rattle.std.proofs.Common.{Some, None, refl}
use Rattle.std.proofs.lemmas.Str.Pattern.{split_parts}
use Rattle.join_lang.proofs.TokenLemmas.{lacks_by}
use Rattle.join_lang.proofs.cut.cut_at.Goals as goal

pub returns-in-Some : goal.returns-in-Some
returns-in-Some c =
    let parts = split_parts c.args.separator c.args.text.now (Some (c.in-Some.first, c.in-Some.rest)) c.in-Some.ensures.cases c.requires in
    (parts.0, lacks_by c.args.separator c.in-Some.first.now parts.1)

pub returns-in-None : goal.returns-in-None
returns-in-None c =
    let parts = split_parts c.args.separator c.args.text.now None c.in-None.ensures.cases c.requires in
    (refl, lacks_by c.args.separator c.args.text.now parts)
