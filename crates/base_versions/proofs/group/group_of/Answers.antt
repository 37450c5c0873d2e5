use Rattle.std.proofs.Common.{None, sym, lit<}
use Rattle.std.proofs.lemmas.Str.Pattern.{split_once_first}
use Rattle.key_space.proofs.NameLemmas.{absent_by}
use Rattle.base_versions.proofs.GroupLemmas.{cut_at_bar, group_of-none, group_of-two, group_of-three}
use Rattle.base_versions.proofs.group.group_of.Goals as goal

pub returns-in-None : goal.returns-in-None
returns-in-None c = sym (group_of-none c.args.key.now (split_once_first 124 c.args.key.now None c.in-None.ensures.cases (lit< tt)))

pub returns-in-None-split_once : goal.returns-in-None-split_once
returns-in-None-split_once c =
    let key = c.args.key.now in
    let table = c.in-Some.field-0-0 in
    let behind = c.in-Some.behind in
    sym (group_of-two key table.now behind.now (cut_at_bar key (table, behind) c.in-Some.ensures.cases) (absent_by _ behind.now (split_once_first 124 behind.now None c.in-None-split_once.ensures.cases (lit< tt))))

pub returns-in-Some-split_once : goal.returns-in-Some-split_once
returns-in-Some-split_once c =
    let key = c.args.key.now in
    let table = c.in-Some.field-0-0 in
    let behind = c.in-Some.behind in
    let group = c.in-Some-split_once.group in
    let rest = c.in-Some-split_once.field-0-1 in
    sym (group_of-three key table.now behind.now group.now rest.now (cut_at_bar key (table, behind) c.in-Some.ensures.cases) (cut_at_bar behind.now (group, rest) c.in-Some-split_once.ensures.cases))
