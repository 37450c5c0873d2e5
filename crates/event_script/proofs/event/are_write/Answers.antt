use Rattle.std.proofs.Common.{sym, ◌∙◌}
use Rattle.event_script.proofs.ItemLemmas.{two_are_write, three_are_write, few_are_none, four_are_none}
use Rattle.event_script.proofs.event.are_write.Goals as goal

pub returns-in-len2 : goal.returns-in-len2
returns-in-len2 c =
    c.has_one_behind.ensures
    ∙ sym (two_are_write c.args.items.now c.word-item.result c.in-len2.len_at_least c.in-len2.len_below c.word-item.is)

pub returns-in-len3 : goal.returns-in-len3
returns-in-len3 c =
    c.is_word.ensures
    ∙ sym (three_are_write c.args.items.now c.word-item-then-items-lt4.result c.in-len3.len_at_least c.in-len3.len_below c.word-item-then-items-lt4.is)

pub returns-in_default : goal.returns-in_default
returns-in_default c = sym (four_are_none c.args.items.now c.in_default.len_at_least)

pub returns-in-len1 : goal.returns-in-len1
returns-in-len1 c = sym (few_are_none c.args.items.now c.in-len1.len_below)
