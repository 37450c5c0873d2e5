-- Laws on the words of the command line.
use Rattle.std.specs.Prelude.{◌≡◌, List, ◌∷◌, ◌++◌, false}
use Rattle.std.specs.List.{list_any}
use Rattle.semantics.specs.Texts.{Text, same}
use Rattle.command_words.specs.Arguments.{Argument, arguments, dashes, is_equals}
use Rattle.command_words.specs.Commands.{command_by}

-- an option of one word, `--name=value`, is the option of two words, `--name value`; a name is not empty and has no `=`
abbrev pub OneWordIsTwo : Type 0
OneWordIsTwo = (name value : Text) (words : List Text) → same (dashes ++ name) dashes ≡ false → list_any is_equals name ≡ false →
    arguments ((dashes ++ name ++ 61 ∷ value) ∷ words) ≡ arguments ((dashes ++ name) ∷ value ∷ words)

-- arguments may stand in any order: two that are side by side may change places
abbrev pub OrderIsFree : Type 0
OrderIsFree = (word : Text) (before : List Argument) (a b : Argument) (after : List Argument) →
    command_by word (before ++ a ∷ b ∷ after) ≡ command_by word (before ++ b ∷ a ∷ after)
