-- Worked rows: the slots that ranges share, the slots of ranges of one key, the containing ranges of a source, the needs of a join, and what the pairs of a table contribute to a total, each written out.
use Rattle.std.specs.Prelude.{◌≡◌, [], ◌∷◌, ◌++◌, slice_set, Some, None, option_map, codes}
use Rattle.semantics.specs.Texts.{Text, Table, Range}
use Rattle.semantics.specs.Patterns.{literal, slot, Pattern, Slots, no_slots}
use Rattle.semantics.specs.Joins.{check, copy, sum, pull, Join}
use Rattle.key_ranges.specs.Ranges.{just}
use Rattle.key_ranges.specs.Containing.{bind_range, range_slots, containing}
use Rattle.range_evaluation.specs.Trees.{tree}
use Rattle.range_evaluation.specs.Contributions.{Contribution, listed_contributions}

-- the range of two bounds
abbrev between : Text → Text → Range
between low high = record { low = low; high = high }

-- slots with a text at place 0 alone
abbrev first_is : Text → Slots
first_is t = slice_set no_slots 0 (Some t)

-- and with one at place 1 too
abbrev both_are : Text → Text → Slots
both_are t u = slice_set (first_is t) 1 (Some u)

-- ---- the slots that a range shares

-- `o|<n>|<k>`
abbrev output : Pattern
output = literal (codes "o") ∷ slot 0 0 ∷ slot 1 0 ∷ []

-- `o|<n:2>|<k>`
abbrev wide_output : Pattern
wide_output = literal (codes "o") ∷ slot 0 2 ∷ slot 1 0 ∷ []

-- the keys of a whole table share no text
abbrev pub WholeTable : Type 0
WholeTable = bind_range output (between (codes "o|") (codes "o}")) ≡ Some no_slots

-- the keys that begin with a segment share it
abbrev pub WholeSegment : Type 0
WholeSegment = bind_range output (between (codes "o|1|") (codes "o|1}")) ≡ Some (first_is (codes "1"))

-- bounds that only begin alike within a segment share none of it: `o|10|` lies between them
abbrev pub PartOfSegment : Type 0
PartOfSegment = bind_range output (between (codes "o|1") (codes "o|1|")) ≡ Some no_slots

-- the keys between two that begin with a segment share it
abbrev pub WithinSegment : Type 0
WithinSegment = bind_range output (between (codes "o|1|a") (codes "o|1|b")) ≡ Some (first_is (codes "1"))

-- no key of another table fits
abbrev pub OtherTable : Type 0
OtherTable = bind_range output (between (codes "x|") (codes "x}")) ≡ None

-- no key with more segments fits
abbrev pub MoreSegments : Type 0
MoreSegments = bind_range output (between (codes "o|1|a|") (codes "o|1|a}")) ≡ None

-- a slot takes no empty segment
abbrev pub EmptySegment : Type 0
EmptySegment = bind_range output (between (codes "o||") (codes "o|}")) ≡ None

-- nor one of another width
abbrev pub OtherWidth : Type 0
OtherWidth = bind_range wide_output (between (codes "o|1|") (codes "o|1}")) ≡ None

-- ---- the slots under which a range is filled

-- a range of one key has all slots that the key sets
abbrev pub OneKey : Type 0
OneKey = range_slots output (just (codes "o|1|a")) ≡ Some (both_are (codes "1") (codes "a"))

-- it has none where the key does not fit, though longer keys with its segments do
abbrev pub OneShortKey : Type 0
OneShortKey = range_slots output (just (codes "o|1")) ≡ None

-- any other range has the slots that its keys share
abbrev pub MoreKeys : Type 0
MoreKeys = range_slots output (between (codes "o|1|a") (codes "o|1|b")) ≡ Some (first_is (codes "1"))

-- ---- the containing ranges of a source

-- `s|<n>|<k>`
abbrev source : Pattern
source = literal (codes "s") ∷ slot 0 0 ∷ slot 1 0 ∷ []

-- the output keys that begin with `o|ann|`
abbrev of_ann : Range
of_ann = between (codes "o|ann|") (codes "o|ann}")

-- all output keys
abbrev all_outputs : Range
all_outputs = between (codes "o|") (codes "o}")

-- under no texts it is the whole table's
abbrev pub ContainingTable : Type 0
ContainingTable = containing source no_slots output all_outputs ≡ Some (between (codes "s|") (codes "s}"))

-- a text narrows it to the keys that begin with it
abbrev pub ContainingBeginning : Type 0
ContainingBeginning = containing source (first_is (codes "ann")) output of_ann ≡ Some (between (codes "s|ann|") (codes "s|ann}"))

-- a text behind a slot without one does not
abbrev pub ContainingGap : Type 0
ContainingGap = containing source (slice_set no_slots 1 (Some (codes "bob"))) output all_outputs ≡ Some (between (codes "s|") (codes "s}"))

-- under texts for all slots it is that of one key, which ends with the key and byte 0
abbrev pub ContainingKey : Type 0
ContainingKey = containing source (both_are (codes "ann") (codes "bob")) output of_ann ≡ Some (between (codes "s|ann|bob") (codes "s|ann|bob" ++ 0 ∷ []))

-- ---- the needs of a join

-- `t|<u>|<k>|<p> = copy p|<p>|<k> check s|<u>|<p>`, the check written last
abbrev timeline : Join
timeline = record {
  output = literal (codes "t") ∷ slot 0 0 ∷ slot 1 0 ∷ slot 2 0 ∷ [];
  kind = pull;
  sources = record { operator = copy; pattern = literal (codes "p") ∷ slot 2 0 ∷ slot 1 0 ∷ [] } ∷ record { operator = check; pattern = literal (codes "s") ∷ slot 0 0 ∷ slot 2 0 ∷ [] } ∷ [];
  names = codes "u" ∷ codes "k" ∷ codes "p" ∷ [];
}

-- a post, and who follows whom
abbrev stored : Table
stored = (codes "p|bob|100", codes "Hi") ∷ (codes "s|ann|bob", codes "1") ∷ (codes "s|ann|cat", codes "1") ∷ (codes "s|liz|bob", codes "1") ∷ []

-- the slots of `t|ann|` with a text for `<p>`
abbrev ann_and : Text → Slots
ann_and t = slice_set (first_is (codes "ann")) 2 (Some t)

-- to find `t|ann|` the check's keys of ann are read, and for each of them those of the one whom it names
abbrev pub TreeOfTimeline : Type 0
TreeOfTimeline = tree timeline (first_is (codes "ann")) (between (codes "t|ann|") (codes "t|ann}")) stored
    ≡ record { source = 1; slots = first_is (codes "ann"); by = []; range = between (codes "s|ann|") (codes "s|ann}") }
    ∷ record { source = 0; slots = ann_and (codes "bob"); by = codes "s|ann|bob" ∷ []; range = between (codes "p|bob|") (codes "p|bob}") }
    ∷ record { source = 0; slots = ann_and (codes "cat"); by = codes "s|ann|cat" ∷ []; range = between (codes "p|cat|") (codes "p|cat}") }
    ∷ []

-- ---- what is contributed to an aggregate

-- `total|<a> = sum n|<a>|<i>`
abbrev totals : Join
totals = record {
  output = literal (codes "total") ∷ slot 0 0 ∷ [];
  kind = pull;
  sources = record { operator = sum; pattern = literal (codes "n") ∷ slot 0 0 ∷ slot 1 0 ∷ [] } ∷ [];
  names = codes "a" ∷ codes "i" ∷ [];
}

-- numbers of x, of which one has a needless zero, what is no number, and a number of y
abbrev numbers : Table
numbers = (codes "n|x|1", codes "5") ∷ (codes "n|x|2", codes "-7") ∷ (codes "n|x|3", codes "05") ∷ (codes "n|x|4", codes "x") ∷ (codes "n|y|1", codes "5") ∷ []

-- the range of x's total alone
abbrev total_of_x : Range
total_of_x = just (codes "total|x")

-- to find it the numbers of x alone are read
abbrev pub TreeOfTotal : Type 0
TreeOfTotal = option_map (λ slots. tree totals slots total_of_x numbers) (range_slots totals.output total_of_x)
    ≡ Some (record { source = 0; slots = first_is (codes "x"); by = []; range = between (codes "n|x|") (codes "n|x}") } ∷ [])

-- what a pair gives to x's total
abbrev to_x : Text → Text → Contribution
to_x key value = record { output = codes "total|x"; source = key; value = value }

-- under the slots of the range each pair of x contributes, with its key, whether its value is a number or not, and no pair of y
abbrev pub ListedOfTotal : Type 0
ListedOfTotal = option_map (λ slots. listed_contributions totals slots total_of_x numbers) (range_slots totals.output total_of_x)
    ≡ Some (to_x (codes "n|x|1") (codes "5") ∷ to_x (codes "n|x|2") (codes "-7") ∷ to_x (codes "n|x|3") (codes "05") ∷ to_x (codes "n|x|4") (codes "x") ∷ [])
