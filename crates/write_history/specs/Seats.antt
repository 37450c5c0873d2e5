-- What the seats of a history know of their own entries, and how their numbers differ.
use Rattle.std.specs.Prelude.{◌≡◌, ◌≢◌, ℕ, ◌+◌, ◌<◌, ◌≤◌, List, [], get_or}
use Rattle.semantics.specs.Histories.{History}
use Rattle.write_history.specs.Entries.{written_by}
use Rattle.write_history.specs.Marks.{words_of, first_word, first_mark, IsMarked}
use Rattle.write_history.specs.declared.known.Kinds.{Kinds}
use Rattle.write_history.specs.declared.known.Mark.{Mark}
use Rattle.write_history.specs.declared.known.Mark.TheVariants.{Plain}
use Rattle.write_history.specs.declared.known.Role.{Role}
use Rattle.write_history.specs.declared.known.Role.TheVariants.{Deals, Numbered, Notes}

-- the seat has seen all entries of its number; while it deals the numbers, none of those to come has entries
abbrev pub HasOwn : History → History → Role → Type 0
HasOwn h seen (Deals next) = (number : ℕ) → next ≤ number → written_by number h ≡ []
HasOwn h seen (Numbered number) = written_by number h ≡ written_by number seen
HasOwn h seen Notes = Unit {0}

-- a seat that has a number, or deals them, knows how many passes there are of each kind
abbrev pub KnowsKinds : Kinds → Kinds → Role → Type 0
KnowsKinds kinds known (Deals next) = known ≡ kinds
KnowsKinds kinds known (Numbered number) = known ≡ kinds
KnowsKinds kinds known Notes = Unit {0}

-- the word of a seat's number is what the seat knows of it; while it deals the numbers, the words of those to come are as at the start
abbrev pub HasMark : Kinds → List ℕ → Role → Mark → Type 0
HasMark kinds words (Deals next) mark = (number : ℕ) → next ≤ number → number < words_of kinds → get_or words number 0 ≡ first_word kinds number
HasMark kinds words (Numbered number) mark = IsMarked kinds words number mark
HasMark kinds words Notes mark = Unit {0}

-- two seats have different numbers; one that deals them has given out the other's, and only one deals them
abbrev pub Apart : Role → Role → Type 0
Apart (Deals next) (Deals other) = ⊥
Apart (Deals next) (Numbered number) = number < next
Apart (Deals next) Notes = Unit {0}
Apart (Numbered number) (Deals next) = number < next
Apart (Numbered number) (Numbered other) = number ≢ other
Apart (Numbered number) Notes = Unit {0}
Apart Notes role = Unit {0}

-- the role of the seat that deals a number, and of the seat that is dealt it
abbrev pub role_left : Role → Role
role_left (Deals next) = Deals (next + 1)
role_left (Numbered number) = Numbered number
role_left Notes = Notes

abbrev pub role_dealt : Role → Role
role_dealt (Deals next) = Numbered next
role_dealt (Numbered number) = Notes
role_dealt Notes = Notes

-- what the seat that is dealt a number knows of its word
abbrev pub mark_dealt : Kinds → Role → Mark
mark_dealt kinds (Deals next) = first_mark kinds next
mark_dealt kinds (Numbered number) = Plain
mark_dealt kinds Notes = Plain
