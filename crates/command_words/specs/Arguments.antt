-- The arguments that words form: options with their values, and positional words.
use Rattle.std.specs.Prelude.{ℕ, ◌&&◌, ◌==◌, List, [], ◌∷◌, length, drop, map, filter_map, codes, nat_eq, nat_le, slice_index, not, Bool, true, false, if◌then◌else◌, Option, Some, None, option_and_then}
use Rattle.std.specs.List.{list_all, list_any, starts_with, before_first, after_first}
use Rattle.semantics.specs.Texts.{Text, same}
use Rattle.semantics.specs.Outputs.{is_digit, digits_value}

-- ---- words

-- the byte `=`, which stands between the name and the value of an option of one word
abbrev pub is_equals : ℕ → Bool
is_equals b = b == 61

-- the word that ends the options, and with which the name of an option begins
abbrev pub dashes : Text
dashes = codes "--"

-- a word that begins with `--` is of an option
abbrev pub is_option : Text → Bool
is_option word = starts_with nat_eq word dashes

-- what stands behind the `--` of a word
abbrev pub behind_dashes : Text → Text
behind_dashes word = drop 2 word

-- whether the word of an option has its value too
abbrev pub has_value : Text → Bool
has_value word = list_any is_equals (behind_dashes word)

-- ---- arguments

-- an argument: an option with its value, an option without one, and a positional word
pub data Argument : Type 0 where
  option : Text → Text → Argument
  lone : Text → Argument
  positional : Text → Argument

-- the option of one word: what stands before its first `=`, and what stands behind
abbrev pub option_of_one : Text → Argument
option_of_one word = option (before_first is_equals (behind_dashes word)) (after_first is_equals (behind_dashes word))

-- the argument of one word that is not followed by another
abbrev pub last_argument : Text → List Argument
last_argument word =
    if same word dashes then []
    else (if not (is_option word) then positional word ∷ []
    else (if has_value word then option_of_one word ∷ [] else lone (behind_dashes word) ∷ []))

-- the arguments of words: an option is `--name value` or `--name=value`, and the words behind `--` are positional
abbrev pub arguments : List Text → List Argument
arguments [] = []
arguments (word ∷ []) = last_argument word
arguments (word ∷ next ∷ words) =
    if same word dashes then map positional (next ∷ words)
    else (if not (is_option word) then positional word ∷ arguments (next ∷ words)
    else (if has_value word then option_of_one word ∷ arguments (next ∷ words) else option (behind_dashes word) next ∷ arguments words))

-- ---- what is wanted of arguments

-- the positional words, or the values of an option
pub data Wanted : Type 0 where
  words : Wanted
  values : Text → Wanted

-- what an argument gives of that
abbrev pub given_by : Wanted → Argument → Option Text
given_by words (option name value) = None
given_by words (lone name) = None
given_by words (positional word) = Some word
given_by (values wanted) (option name value) = if same name wanted then Some value else None
given_by (values wanted) (lone name) = None
given_by (values wanted) (positional word) = None

-- of texts the one that there is, if there is one; none at all where there are more
abbrev pub at_most_one : List Text → Option (Option Text)
at_most_one [] = Some None
at_most_one (t ∷ []) = Some (Some t)
at_most_one (t ∷ u ∷ ts) = None

-- what the arguments give, which may stand once
abbrev pub given_once : Wanted → List Argument → Option (Option Text)
given_once wanted args = at_most_one (filter_map (given_by wanted) args)

-- ---- numbers and names

-- a number is 1 to 20 digits 0 to 9
abbrev pub is_number : Text → Bool
is_number t = nat_le 1 (length t) && nat_le (length t) 20 && list_all is_digit t

-- the number that a text is, within two limits
abbrev pub number_within : ℕ → ℕ → Text → Option ℕ
number_within least most t = if is_number t && nat_le least (digits_value t) && nat_le (digits_value t) most then Some (digits_value t) else None

-- the number of a value, or the one that stands for none
abbrev pub number_or : ℕ → ℕ → ℕ → Option Text → Option ℕ
number_or least most default None = Some default
number_or least most default (Some t) = number_within least most t

-- the number of an option, with its limits and its default
abbrev pub number_of : Text → ℕ → ℕ → ℕ → List Argument → Option ℕ
number_of name least most default args = option_and_then (number_or least most default) (given_once (values name) args)

-- the name of a file, or an address: 1 to 255 bytes, of which the first is not `-`
abbrev pub is_name : Text → Bool
is_name t = nat_le 1 (length t) && nat_le (length t) 255 && not (slice_index t 0 == 45)

-- the name, where the text is one
abbrev pub name_of_text : Text → Option Text
name_of_text t = if is_name t then Some t else None

-- the name that there has to be
abbrev pub name_or_none : Option Text → Option Text
name_or_none None = None
name_or_none (Some t) = name_of_text t

-- the name that there may be
abbrev pub name_if_given : Option Text → Option (Option Text)
name_if_given None = Some None
name_if_given (Some t) = if is_name t then Some (Some t) else None

-- the one positional word, which is a name
abbrev pub named : List Argument → Option Text
named args = option_and_then name_or_none (given_once words args)

-- no word is positional
abbrev pub is_unnamed : Option (Option Text) → Bool
is_unnamed None = false
is_unnamed (Some None) = true
is_unnamed (Some (Some t)) = false
