use Rattle.std.proofs.Common.{◌≡◌, ◌∷◌, [], None, map, lit<, arith}
use Rattle.std.specs.Prelude.{string_bytes}
use Rattle.std.proofs.lemmas.Grind.{common_steps}
use Rattle.std.proofs.lemmas.Str.Pattern.{split_once_first}
use Rattle.key_space.proofs.NameLemmas.{absent_by}
use Rattle.command_words.specs.Arguments.{is_equals}
use Rattle.command_words.proofs.ArgumentLemmas.{option_last, option_next}
use Rattle.command_words.proofs.arguments.split_option.Goals as goal

pub returns-in-None-clause-arguments : goal.returns-in-None-clause-arguments
returns-in-None-clause-arguments c word e s =
    let none = absent_by is_equals c.args.body.now (split_once_first 61 c.args.body.now None c.in_default.ensures.cases (lit< tt)) in
    let ends : map string_bytes c.args.others.now ≡ [] = grind (arith, common_steps) in
    option_last word c.args.body.now _ e s none ends

pub returns-in-Some-split_first-clause-arguments : goal.returns-in-Some-split_first-clause-arguments
returns-in-Some-split_first-clause-arguments c word e s =
    let none = absent_by is_equals c.args.body.now (split_once_first 61 c.args.body.now None c.in_default.ensures.cases (lit< tt)) in
    let more : map string_bytes c.args.others.now ≡ c.as_str-value.result.now ∷ map string_bytes c.in-Some-split_first.behind.now = grind (arith, common_steps) in
    option_next word c.args.body.now c.as_str-value.result.now _ _ e s none more
