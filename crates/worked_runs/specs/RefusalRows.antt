-- Runs of refused writes and lines.
use Rattle.std.specs.Prelude.{[], ◌∷◌, ◌++◌, codes}
use Rattle.worked_runs.specs.Runs.{Replies, timeline}

-- a join that closes a cycle is refused with the shortest one
abbrev pub Cycles : Type 0
Cycles = Replies
    (codes "[\"join\",\"a|<x> = copy a|<x>\"]"
    ∷ codes "[\"join\",\"a|<x> = copy b|<x>\"]"
    ∷ codes "[\"join\",\"b|<x> = copy c|<x>\"]"
    ∷ codes "[\"join\",\"c|<x> = copy a|<x>\"]"
    ∷ [])
    (codes "[\"error\",\"cycle\",0,[1]]"
    ∷ codes "[\"ok\",1]"
    ∷ codes "[\"ok\",2]"
    ∷ codes "[\"error\",\"cycle\",2,[3,1,2]]"
    ∷ [])

-- a join whose output overlaps another one is refused
abbrev pub Clashes : Type 0
Clashes = Replies
    (codes "[\"join\",\"x|<a>|k = copy i|<a>\"]"
    ∷ codes "[\"join\",\"x|m|<b> = copy j|<b>\"]"
    ∷ codes "[\"join\",\"x|<a>|q = copy j|<a>\"]"
    ∷ [])
    (codes "[\"ok\",1]"
    ∷ codes "[\"error\",\"clash\",1,1]"
    ∷ codes "[\"ok\",2]"
    ∷ [])

-- a computed key is not written, and other keys of its table are
abbrev pub ComputedKeys : Type 0
ComputedKeys = Replies
    (timeline
    ∷ codes "[\"put\",\"t|ann|1|bob\",\"x\"]"
    ∷ codes "[\"get\",\"t|ann|9|bob\"]"
    ∷ codes "[\"put\",\"t|ann|1\",\"x\"]"
    ∷ codes "[\"scan\",\"t|\",\"t}\"]"
    ∷ codes "[\"remove\",\"q|1\"]"
    ∷ [])
    (codes "[\"ok\",1]"
    ∷ codes "[\"error\",\"computed\",1,1]"
    ∷ codes "[\"none\",1]"
    ∷ codes "[\"ok\",2]"
    ∷ codes "[\"pairs\",2,[[\"t|ann|1\",\"x\"]]]"
    ∷ codes "[\"ok\",3]"
    ∷ [])

-- each line that is no request is answered by the first rule that it breaks
abbrev pub BadLines : Type 0
BadLines = Replies
    ([]
    ∷ codes "{}"
    ∷ codes "[\"fetch\",\"k|a\"]"
    ∷ codes "[\"put\",\"k|a\",1]"
    ∷ codes "[\"get\",\"|a\"]"
    ∷ codes "[\"put\",\"k\",\"1\"]"
    ∷ codes "[\"join\",\"t|<u> = copy\"]"
    ∷ codes "[\"join\",\"t|<u> = check s|<u>\"]"
    ∷ codes "[\"join\",\"t|<u> = copy p|<w>\"]"
    ∷ codes "[\"join\",\"t|<u:3> = copy p|<u>\"]"
    ∷ codes "[\"put\",\"k|\\u00e9\",\"\\\"\"]"
    ∷ codes "[\"scan\",\"k|\",\"k}\"]"
    ∷ [])
    (codes "[\"error\",\"json\"]"
    ∷ codes "[\"error\",\"form\"]"
    ∷ codes "[\"error\",\"form\"]"
    ∷ codes "[\"error\",\"form\"]"
    ∷ codes "[\"error\",\"key\"]"
    ∷ codes "[\"error\",\"key\"]"
    ∷ codes "[\"error\",\"syntax\",12]"
    ∷ codes "[\"error\",\"sources\",0]"
    ∷ codes "[\"error\",\"slots\",0]"
    ∷ codes "[\"error\",\"slots\",0]"
    ∷ codes "[\"ok\",1]"
    ∷ (codes "[\"pairs\",1,[[\"k|" ++ (195 ∷ 169 ∷ []) ++ codes "\",\"\\\"\"]]]")
    ∷ [])

-- a join is declared after puts and hides them; once it is dropped they are back
abbrev pub Dropped : Type 0
Dropped = Replies
    (codes "[\"put\",\"b|1\",\"base\"]"
    ∷ codes "[\"put\",\"b|2\",\"two\"]"
    ∷ codes "[\"put\",\"a|1\",\"A\"]"
    ∷ codes "[\"join\",\"b|<x> = copy a|<x>\"]"
    ∷ codes "[\"scan\",\"b|\",\"b}\"]"
    ∷ codes "[\"put\",\"b|3\",\"x\"]"
    ∷ codes "[\"drop\",4]"
    ∷ codes "[\"scan\",\"b|\",\"b}\"]"
    ∷ codes "[\"drop\",4]"
    ∷ codes "[\"drop\",281474976710656]"
    ∷ codes "[\"drop\",\"4\"]"
    ∷ [])
    (codes "[\"ok\",1]"
    ∷ codes "[\"ok\",2]"
    ∷ codes "[\"ok\",3]"
    ∷ codes "[\"ok\",4]"
    ∷ codes "[\"pairs\",4,[[\"b|1\",\"A\"]]]"
    ∷ codes "[\"error\",\"computed\",4,4]"
    ∷ codes "[\"ok\",5]"
    ∷ codes "[\"pairs\",5,[[\"b|1\",\"base\"],[\"b|2\",\"two\"]]]"
    ∷ codes "[\"error\",\"nojoin\",5]"
    ∷ codes "[\"error\",\"form\"]"
    ∷ codes "[\"error\",\"form\"]"
    ∷ [])

-- two texts are a range where they bound keys of one table, in order
abbrev pub Ranges : Type 0
Ranges = Replies
    (codes "[\"put\",\"k|a\",\"1\"]"
    ∷ codes "[\"scan\",\"k|\",\"j}\"]"
    ∷ codes "[\"scan\",\"k|\",\"l}\"]"
    ∷ codes "[\"scan\",\"k|b\",\"k|a\"]"
    ∷ codes "[\"scan\",\"k\",\"k}\"]"
    ∷ codes "[\"scan\",\"k|\",\"k\"]"
    ∷ codes "[\"scan\",\"k|a\",\"k|a\"]"
    ∷ codes "[\"scan\",\"k|a\",\"k|b\"]"
    ∷ [])
    (codes "[\"ok\",1]"
    ∷ codes "[\"error\",\"range\"]"
    ∷ codes "[\"error\",\"range\"]"
    ∷ codes "[\"error\",\"range\"]"
    ∷ codes "[\"error\",\"range\"]"
    ∷ codes "[\"error\",\"range\"]"
    ∷ codes "[\"pairs\",1,[]]"
    ∷ codes "[\"pairs\",1,[[\"k|a\",\"1\"]]]"
    ∷ [])
