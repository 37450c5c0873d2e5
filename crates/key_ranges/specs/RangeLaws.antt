-- Laws on ranges.
use Rattle.std.specs.Prelude.{◌≡◌, ◌&&◌, [], ◌∷◌, ◌++◌, true, false, nat_eq, IfSome, MatchOption}
use Rattle.std.specs.List.{starts_with}
use Rattle.semantics.specs.Texts.{Text, bar, same, is_key, is_range, Range, within}
use Rattle.key_ranges.specs.Ranges.{is_open, meets, later, cut, prefix_range, just, is_single}

-- the common part of two ranges holds the keys that both hold; there is none only where they hold none in common
abbrev pub CutIsCommonPart : Type 0
CutIsCommonPart = (r s : Range) → MatchOption (cut r s)
    ((key : Text) → (within r key && within s key) ≡ false)
    (λ c. (key : Text) → within c key ≡ (within r key && within s key))

-- the common part of two ranges is not empty; so there is one exactly where they hold a key in common
abbrev pub CutIsOpen : Type 0
CutIsOpen = (r s : Range) → IfSome (cut r s) (λ c. is_open c ≡ true)

-- two ranges that hold one key meet
abbrev pub HoldersMeet : Type 0
HoldersMeet = (r s : Range) (key : Text) → within r key ≡ true → within s key ≡ true → meets r s ≡ true

-- each of two ranges that meet holds the greater of their first bounds
abbrev pub MeetIsShared : Type 0
MeetIsShared = (r s : Range) → meets r s ≡ true → (within r (later r.low s.low) ≡ true) × (within s (later r.low s.low) ≡ true)

-- the common part of two ranges is a range
abbrev pub CutIsRange : Type 0
CutIsRange = (r s : Range) → is_range r.low r.high ≡ true → is_range s.low s.high ≡ true →
    IfSome (cut r s) (λ c. is_range c.low c.high ≡ true)

-- a prefix range holds the keys that begin with its text
abbrev pub PrefixRangeHolds : Type 0
PrefixRangeHolds = (t key : Text) → within (prefix_range (t ++ bar ∷ [])) key ≡ starts_with nat_eq key (t ++ bar ∷ [])

-- the prefix range of a key that ends with `|` is a range
abbrev pub PrefixRangeIsRange : Type 0
PrefixRangeIsRange = (t : Text) → is_key (t ++ bar ∷ []) ≡ true →
    is_range (prefix_range (t ++ bar ∷ [])).low (prefix_range (t ++ bar ∷ [])).high ≡ true

-- the range of one key holds it alone
abbrev pub JustHolds : Type 0
JustHolds = (key other : Text) → within (just key) other ≡ same key other

-- the range of one key is a range
abbrev pub JustIsRange : Type 0
JustIsRange = (key : Text) → is_key key ≡ true → is_range (just key).low (just key).high ≡ true

-- the ranges of one key alone are the single ones
abbrev pub JustIsSingle : Type 0
JustIsSingle = (key : Text) → is_single (just key) ≡ true

-- a single range holds its first bound alone
abbrev pub SingleHoldsFirst : Type 0
SingleHoldsFirst = (r : Range) (key : Text) → is_single r ≡ true → within r key ≡ same r.low key
