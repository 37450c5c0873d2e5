-- Runs of copy joins.
use Rattle.std.specs.Prelude.{[], ◌∷◌, codes}
use Rattle.worked_runs.specs.Runs.{Replies, timeline}

-- a pair that is put shows in the output of a join
abbrev pub First : Type 0
First = Replies
    (codes "[\"join\",\"b|<x> = copy a|<x>\"]"
    ∷ codes "[\"put\",\"a|1\",\"Hi\"]"
    ∷ codes "[\"scan\",\"b|\",\"b}\"]"
    ∷ [])
    (codes "[\"ok\",1]"
    ∷ codes "[\"ok\",2]"
    ∷ codes "[\"pairs\",2,[[\"b|1\",\"Hi\"]]]"
    ∷ [])

-- a timeline has the posts of those whom the user follows
abbrev pub Timeline : Type 0
Timeline = Replies
    (timeline
    ∷ codes "[\"put\",\"s|ann|bob\",\"1\"]"
    ∷ codes "[\"put\",\"p|bob|100\",\"Hi\"]"
    ∷ codes "[\"scan\",\"t|ann|\",\"t|ann}\"]"
    ∷ [])
    (codes "[\"ok\",1]"
    ∷ codes "[\"ok\",2]"
    ∷ codes "[\"ok\",3]"
    ∷ codes "[\"pairs\",3,[[\"t|ann|100|bob\",\"Hi\"]]]"
    ∷ [])

-- a post of one who is not followed any more does not show
abbrev pub Leave : Type 0
Leave = Replies
    (timeline
    ∷ codes "[\"put\",\"s|ann|bob\",\"1\"]"
    ∷ codes "[\"put\",\"p|bob|100\",\"Hi\"]"
    ∷ codes "[\"scan\",\"t|ann|\",\"t|ann}\"]"
    ∷ codes "[\"remove\",\"s|ann|bob\"]"
    ∷ codes "[\"put\",\"p|bob|130\",\"No\"]"
    ∷ codes "[\"scan\",\"t|ann|\",\"t|ann}\"]"
    ∷ [])
    (codes "[\"ok\",1]"
    ∷ codes "[\"ok\",2]"
    ∷ codes "[\"ok\",3]"
    ∷ codes "[\"pairs\",3,[[\"t|ann|100|bob\",\"Hi\"]]]"
    ∷ codes "[\"ok\",4]"
    ∷ codes "[\"ok\",5]"
    ∷ codes "[\"pairs\",5,[]]"
    ∷ [])

-- a row with two supports stays while one of them stands
abbrev pub TwoSupports : Type 0
TwoSupports = Replies
    (codes "[\"join\",\"f|<user>|<post> = check m|<user>|<group> check g|<group>|<post> copy p|<post>\"]"
    ∷ codes "[\"put\",\"m|ann|a\",\"1\"]"
    ∷ codes "[\"put\",\"m|ann|b\",\"1\"]"
    ∷ codes "[\"put\",\"g|a|7\",\"1\"]"
    ∷ codes "[\"put\",\"g|b|7\",\"1\"]"
    ∷ codes "[\"put\",\"p|7\",\"Hi\"]"
    ∷ codes "[\"scan\",\"f|ann|\",\"f|ann}\"]"
    ∷ codes "[\"remove\",\"g|a|7\"]"
    ∷ codes "[\"scan\",\"f|ann|\",\"f|ann}\"]"
    ∷ codes "[\"remove\",\"g|b|7\"]"
    ∷ codes "[\"scan\",\"f|ann|\",\"f|ann}\"]"
    ∷ [])
    (codes "[\"ok\",1]"
    ∷ codes "[\"ok\",2]"
    ∷ codes "[\"ok\",3]"
    ∷ codes "[\"ok\",4]"
    ∷ codes "[\"ok\",5]"
    ∷ codes "[\"ok\",6]"
    ∷ codes "[\"pairs\",6,[[\"f|ann|7\",\"Hi\"]]]"
    ∷ codes "[\"ok\",7]"
    ∷ codes "[\"pairs\",7,[[\"f|ann|7\",\"Hi\"]]]"
    ∷ codes "[\"ok\",8]"
    ∷ codes "[\"pairs\",8,[]]"
    ∷ [])

-- keys are in byte order, which is not the order of slots
abbrev pub ByteOrder : Type 0
ByteOrder = Replies
    (codes "[\"join\",\"o|<n>|<k> = copy i|<k>|<n>\"]"
    ∷ codes "[\"put\",\"i|a|1\",\"A\"]"
    ∷ codes "[\"put\",\"i|a|10\",\"B\"]"
    ∷ codes "[\"scan\",\"o|\",\"o}\"]"
    ∷ codes "[\"scan\",\"o|1|\",\"o}\"]"
    ∷ codes "[\"scan\",\"o|1\",\"o|1|\"]"
    ∷ [])
    (codes "[\"ok\",1]"
    ∷ codes "[\"ok\",2]"
    ∷ codes "[\"ok\",3]"
    ∷ codes "[\"pairs\",3,[[\"o|10|a\",\"B\"],[\"o|1|a\",\"A\"]]]"
    ∷ codes "[\"pairs\",3,[[\"o|1|a\",\"A\"]]]"
    ∷ codes "[\"pairs\",3,[[\"o|10|a\",\"B\"]]]"
    ∷ [])

-- a join that is pulled shows the same
abbrev pub Pulled : Type 0
Pulled = Replies
    (codes "[\"join\",\"b|<x> = pull copy a|<x>\"]"
    ∷ codes "[\"put\",\"a|1\",\"Hi\"]"
    ∷ codes "[\"scan\",\"b|\",\"b}\"]"
    ∷ [])
    (codes "[\"ok\",1]"
    ∷ codes "[\"ok\",2]"
    ∷ codes "[\"pairs\",2,[[\"b|1\",\"Hi\"]]]"
    ∷ [])

-- a slot with a width takes texts of that many bytes alone
abbrev pub Widths : Type 0
Widths = Replies
    (codes "[\"join\",\"b|<x:2> = copy a|<x:2>\"]"
    ∷ codes "[\"put\",\"a|1\",\"A\"]"
    ∷ codes "[\"put\",\"a|12\",\"B\"]"
    ∷ codes "[\"put\",\"a|123\",\"C\"]"
    ∷ codes "[\"scan\",\"b|\",\"b}\"]"
    ∷ codes "[\"put\",\"b|1\",\"D\"]"
    ∷ codes "[\"put\",\"b|34\",\"E\"]"
    ∷ codes "[\"scan\",\"b|\",\"b}\"]"
    ∷ [])
    (codes "[\"ok\",1]"
    ∷ codes "[\"ok\",2]"
    ∷ codes "[\"ok\",3]"
    ∷ codes "[\"ok\",4]"
    ∷ codes "[\"pairs\",4,[[\"b|12\",\"B\"]]]"
    ∷ codes "[\"ok\",5]"
    ∷ codes "[\"error\",\"computed\",5,1]"
    ∷ codes "[\"pairs\",5,[[\"b|1\",\"D\"],[\"b|12\",\"B\"]]]"
    ∷ [])
