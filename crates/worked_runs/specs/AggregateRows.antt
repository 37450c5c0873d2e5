-- Runs of aggregates and joins on joins.
use Rattle.std.specs.Prelude.{[], ◌∷◌, codes}
use Rattle.worked_runs.specs.Runs.{Replies}

-- a count counts keys, and a group without a pair has none
abbrev pub Votes : Type 0
Votes = Replies
    (codes "[\"join\",\"karma|<a> = count vote|<a>|<id>|<voter>\"]"
    ∷ codes "[\"put\",\"vote|bob|1|ann\",\"1\"]"
    ∷ codes "[\"put\",\"vote|bob|1|cat\",\"1\"]"
    ∷ codes "[\"put\",\"vote|bob|1|ann\",\"2\"]"
    ∷ codes "[\"get\",\"karma|bob\"]"
    ∷ codes "[\"remove\",\"vote|bob|1|ann\"]"
    ∷ codes "[\"remove\",\"vote|bob|1|cat\"]"
    ∷ codes "[\"get\",\"karma|bob\"]"
    ∷ codes "[\"scan\",\"karma|\",\"karma}\"]"
    ∷ [])
    (codes "[\"ok\",1]"
    ∷ codes "[\"ok\",2]"
    ∷ codes "[\"ok\",3]"
    ∷ codes "[\"ok\",4]"
    ∷ codes "[\"value\",4,\"2\"]"
    ∷ codes "[\"ok\",5]"
    ∷ codes "[\"ok\",6]"
    ∷ codes "[\"none\",6]"
    ∷ codes "[\"pairs\",6,[]]"
    ∷ [])

-- a sum takes canonical decimals within 64 bits, and may be greater itself
abbrev pub Totals : Type 0
Totals = Replies
    (codes "[\"join\",\"total|<a> = sum n|<a>|<i>\"]"
    ∷ codes "[\"put\",\"n|x|1\",\"5\"]"
    ∷ codes "[\"put\",\"n|x|2\",\"-7\"]"
    ∷ codes "[\"put\",\"n|x|3\",\"05\"]"
    ∷ codes "[\"put\",\"n|x|4\",\"x\"]"
    ∷ codes "[\"get\",\"total|x\"]"
    ∷ codes "[\"put\",\"n|x|2\",\"z\"]"
    ∷ codes "[\"get\",\"total|x\"]"
    ∷ codes "[\"put\",\"n|y|1\",\"9223372036854775807\"]"
    ∷ codes "[\"put\",\"n|y|2\",\"9223372036854775807\"]"
    ∷ codes "[\"get\",\"total|y\"]"
    ∷ codes "[\"put\",\"n|y|3\",\"9223372036854775808\"]"
    ∷ codes "[\"get\",\"total|y\"]"
    ∷ codes "[\"put\",\"n|y|1\",\"-9223372036854775808\"]"
    ∷ codes "[\"get\",\"total|y\"]"
    ∷ [])
    (codes "[\"ok\",1]"
    ∷ codes "[\"ok\",2]"
    ∷ codes "[\"ok\",3]"
    ∷ codes "[\"ok\",4]"
    ∷ codes "[\"ok\",5]"
    ∷ codes "[\"value\",5,\"-2\"]"
    ∷ codes "[\"ok\",6]"
    ∷ codes "[\"value\",6,\"5\"]"
    ∷ codes "[\"ok\",7]"
    ∷ codes "[\"ok\",8]"
    ∷ codes "[\"value\",8,\"18446744073709551614\"]"
    ∷ codes "[\"ok\",9]"
    ∷ codes "[\"value\",9,\"18446744073709551614\"]"
    ∷ codes "[\"ok\",10]"
    ∷ codes "[\"value\",10,\"-1\"]"
    ∷ [])

-- a join reads what another makes
abbrev pub Page : Type 0
Page = Replies
    (codes "[\"join\",\"karma|<a> = count vote|<a>|<id>|<voter>\"]"
    ∷ codes "[\"join\",\"page|<a>|<id>|k = check art|<a>|<id> copy karma|<a>\"]"
    ∷ codes "[\"put\",\"art|bob|1\",\"T\"]"
    ∷ codes "[\"put\",\"vote|bob|1|ann\",\"1\"]"
    ∷ codes "[\"scan\",\"page|bob|\",\"page|bob}\"]"
    ∷ codes "[\"put\",\"vote|bob|1|cat\",\"1\"]"
    ∷ codes "[\"scan\",\"page|bob|\",\"page|bob}\"]"
    ∷ [])
    (codes "[\"ok\",1]"
    ∷ codes "[\"ok\",2]"
    ∷ codes "[\"ok\",3]"
    ∷ codes "[\"ok\",4]"
    ∷ codes "[\"pairs\",4,[[\"page|bob|1|k\",\"1\"]]]"
    ∷ codes "[\"ok\",5]"
    ∷ codes "[\"pairs\",5,[[\"page|bob|1|k\",\"2\"]]]"
    ∷ [])

-- a least and a greatest value are of canonical decimals within 64 bits
abbrev pub Bounds : Type 0
Bounds = Replies
    (codes "[\"join\",\"low|<a> = min n|<a>|<i>\"]"
    ∷ codes "[\"join\",\"high|<a> = max n|<a>|<i>\"]"
    ∷ codes "[\"put\",\"n|x|1\",\"5\"]"
    ∷ codes "[\"put\",\"n|x|2\",\"-7\"]"
    ∷ codes "[\"put\",\"n|x|3\",\"05\"]"
    ∷ codes "[\"put\",\"n|x|4\",\"9223372036854775808\"]"
    ∷ codes "[\"get\",\"low|x\"]"
    ∷ codes "[\"get\",\"high|x\"]"
    ∷ codes "[\"remove\",\"n|x|2\"]"
    ∷ codes "[\"get\",\"low|x\"]"
    ∷ codes "[\"put\",\"n|x|5\",\"10\"]"
    ∷ codes "[\"get\",\"high|x\"]"
    ∷ [])
    (codes "[\"ok\",1]"
    ∷ codes "[\"ok\",2]"
    ∷ codes "[\"ok\",3]"
    ∷ codes "[\"ok\",4]"
    ∷ codes "[\"ok\",5]"
    ∷ codes "[\"ok\",6]"
    ∷ codes "[\"value\",6,\"-7\"]"
    ∷ codes "[\"value\",6,\"5\"]"
    ∷ codes "[\"ok\",7]"
    ∷ codes "[\"value\",7,\"5\"]"
    ∷ codes "[\"ok\",8]"
    ∷ codes "[\"value\",8,\"10\"]"
    ∷ [])
