-- Runs that ask about earlier positions.
use Rattle.std.specs.Prelude.{List, [], ◌∷◌, ◌++◌, codes}
use Rattle.semantics.specs.Texts.{Text}
use Rattle.worked_runs.specs.Runs.{Replies, timeline}

-- a timeline with one post, and then another
abbrev posts : List Text
posts = timeline ∷ codes "[\"put\",\"s|ann|bob\",\"1\"]" ∷ codes "[\"put\",\"p|bob|100\",\"Hi\"]" ∷ codes "[\"put\",\"p|bob|120\",\"Yo\"]" ∷ []

abbrev posted : List Text
posted = codes "[\"ok\",1]" ∷ codes "[\"ok\",2]" ∷ codes "[\"ok\",3]" ∷ codes "[\"ok\",4]" ∷ []

-- a scan at a position has what stood there, and one at a position that there is not yet is told how many there are
abbrev pub ScansAt : Type 0
ScansAt = Replies
    (posts
    ++ codes "[\"scan\",\"t|ann|\",\"t|ann}\",3]"
    ∷ codes "[\"scan\",\"t|ann|\",\"t|ann}\",4]"
    ∷ codes "[\"scan\",\"t|ann|\",\"t|ann}\",0]"
    ∷ codes "[\"scan\",\"t|ann|\",\"t|ann}\",5]"
    ∷ codes "[\"scan\",\"t|ann|\",\"t|ann}\"]"
    ∷ [])
    (posted
    ++ codes "[\"pairs\",3,[[\"t|ann|100|bob\",\"Hi\"]]]"
    ∷ codes "[\"pairs\",4,[[\"t|ann|100|bob\",\"Hi\"],[\"t|ann|120|bob\",\"Yo\"]]]"
    ∷ codes "[\"pairs\",0,[]]"
    ∷ codes "[\"error\",\"ahead\",4]"
    ∷ codes "[\"pairs\",4,[[\"t|ann|100|bob\",\"Hi\"],[\"t|ann|120|bob\",\"Yo\"]]]"
    ∷ [])

-- what changed since a position is the keys that are new or have another value, with it
abbrev pub Feeds : Type 0
Feeds = Replies
    (posts
    ++ codes "[\"changes\",\"t|ann|\",\"t|ann}\",3]"
    ∷ codes "[\"changes\",\"t|ann|\",\"t|ann}\",2]"
    ∷ codes "[\"changes\",\"t|ann|\",\"t|ann}\",4]"
    ∷ codes "[\"changes\",\"t|ann|\",\"t|ann}\",5]"
    ∷ codes "[\"changes\",\"t|bob|\",\"t|bob}\",0]"
    ∷ [])
    (posted
    ++ codes "[\"changes\",3,4,[[\"t|ann|120|bob\",\"Yo\"]]]"
    ∷ codes "[\"changes\",2,4,[[\"t|ann|100|bob\",\"Hi\"],[\"t|ann|120|bob\",\"Yo\"]]]"
    ∷ codes "[\"changes\",4,4,[]]"
    ∷ codes "[\"error\",\"ahead\",4]"
    ∷ codes "[\"changes\",0,4,[]]"
    ∷ [])

-- a key that has gone is listed without a value, and one that came and went is not listed
abbrev pub FeedsOfGone : Type 0
FeedsOfGone = Replies
    (timeline
    ∷ codes "[\"put\",\"s|ann|bob\",\"1\"]"
    ∷ codes "[\"put\",\"p|bob|100\",\"Hi\"]"
    ∷ codes "[\"remove\",\"s|ann|bob\"]"
    ∷ codes "[\"put\",\"p|bob|130\",\"No\"]"
    ∷ codes "[\"changes\",\"t|ann|\",\"t|ann}\",3]"
    ∷ codes "[\"changes\",\"t|ann|\",\"t|ann}\",5]"
    ∷ codes "[\"changes\",\"t|ann|\",\"t|ann}\",1]"
    ∷ [])
    (posted
    ++ codes "[\"ok\",5]"
    ∷ codes "[\"changes\",3,5,[[\"t|ann|100|bob\"]]]"
    ∷ codes "[\"changes\",5,5,[]]"
    ∷ codes "[\"changes\",1,5,[]]"
    ∷ [])

-- a join that is declared or dropped between changes what it hides and what it makes
abbrev pub AcrossJoins : Type 0
AcrossJoins = Replies
    (codes "[\"put\",\"b|1\",\"base\"]"
    ∷ codes "[\"put\",\"a|1\",\"A\"]"
    ∷ codes "[\"join\",\"b|<x> = copy a|<x>\"]"
    ∷ codes "[\"changes\",\"b|\",\"b}\",2]"
    ∷ codes "[\"drop\",3]"
    ∷ codes "[\"changes\",\"b|\",\"b}\",3]"
    ∷ codes "[\"changes\",\"b|\",\"b}\",2]"
    ∷ codes "[\"scan\",\"b|\",\"b}\",3]"
    ∷ codes "[\"scan\",\"b|\",\"b}\",2]"
    ∷ [])
    (codes "[\"ok\",1]"
    ∷ codes "[\"ok\",2]"
    ∷ codes "[\"ok\",3]"
    ∷ codes "[\"changes\",2,3,[[\"b|1\",\"A\"]]]"
    ∷ codes "[\"ok\",4]"
    ∷ codes "[\"changes\",3,4,[[\"b|1\",\"base\"]]]"
    ∷ codes "[\"changes\",2,4,[]]"
    ∷ codes "[\"pairs\",3,[[\"b|1\",\"A\"]]]"
    ∷ codes "[\"pairs\",2,[[\"b|1\",\"base\"]]]"
    ∷ [])

-- a position is a whole number below 2^48, and is looked at before the range
abbrev pub BadPositions : Type 0
BadPositions = Replies
    (codes "[\"scan\",\"k|\",\"k}\",-1]"
    ∷ codes "[\"scan\",\"k|\",\"k}\",281474976710656]"
    ∷ codes "[\"scan\",\"k|\",\"k}\",281474976710655]"
    ∷ codes "[\"scan\",\"k|\",\"k}\",\"0\"]"
    ∷ codes "[\"scan\",\"k|\",\"k}\",null]"
    ∷ codes "[\"scan\",\"k|b\",\"k|a\",-1]"
    ∷ codes "[\"scan\",\"k|b\",\"k|a\",9]"
    ∷ codes "[\"scan\",\"k|\",\"k}\",0,0]"
    ∷ codes "[\"changes\",\"k|\",\"k}\"]"
    ∷ codes "[\"changes\",\"k|\",\"k}\",\"0\"]"
    ∷ codes "[\"changes\",\"k|b\",\"k|a\",9]"
    ∷ codes "[\"changes\",\"k|\",\"k}\",281474976710655]"
    ∷ codes "[\"get\",\"k|a\",0]"
    ∷ codes "[\"put\",\"k|a\",\"1\",0]"
    ∷ [])
    (codes "[\"error\",\"form\"]"
    ∷ codes "[\"error\",\"form\"]"
    ∷ codes "[\"error\",\"ahead\",0]"
    ∷ codes "[\"error\",\"form\"]"
    ∷ codes "[\"error\",\"form\"]"
    ∷ codes "[\"error\",\"form\"]"
    ∷ codes "[\"error\",\"range\"]"
    ∷ codes "[\"error\",\"form\"]"
    ∷ codes "[\"error\",\"form\"]"
    ∷ codes "[\"error\",\"form\"]"
    ∷ codes "[\"error\",\"range\"]"
    ∷ codes "[\"error\",\"ahead\",0]"
    ∷ codes "[\"error\",\"form\"]"
    ∷ codes "[\"error\",\"form\"]"
    ∷ [])

-- the entries after a position are listed as the requests that they are, and from the end on there is none
abbrev pub EntriesAfter : Type 0
EntriesAfter = Replies
    (codes "[\"join\",\"b|<x> = push copy a|<x>\"]"
    ∷ codes "[\"put\",\"a|1\",\"Hi\"]"
    ∷ codes "[\"feed\",0]"
    ∷ codes "[\"feed\",1]"
    ∷ codes "[\"feed\",2]"
    ∷ codes "[\"feed\",3]"
    ∷ codes "[\"feed\",-1]"
    ∷ codes "[\"feed\"]"
    ∷ [])
    (codes "[\"ok\",1]"
    ∷ codes "[\"ok\",2]"
    ∷ codes "[\"entries\",0,2,[[0,[\"join\",\"b|<x> = copy a|<x>\"]],[0,[\"put\",\"a|1\",\"Hi\"]]]]"
    ∷ codes "[\"entries\",1,2,[[0,[\"put\",\"a|1\",\"Hi\"]]]]"
    ∷ codes "[\"entries\",2,2,[]]"
    ∷ codes "[\"error\",\"ahead\",2]"
    ∷ codes "[\"error\",\"form\"]"
    ∷ codes "[\"error\",\"form\"]"
    ∷ [])
