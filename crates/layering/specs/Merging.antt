-- Tables that are merged one after another.
use Rattle.std.specs.Prelude.{◌≡◌, List, fold, true, Some, None, is_some, IsTrue}
use Rattle.std.specs.List.{AllByRecursion}
use Rattle.std.specs.FinMap.Entries.{is_sorted}
use Rattle.semantics.specs.Texts.{Text, text_cmp, Table, value_at}
use Rattle.semantics.specs.States.{merged}

-- the keys of a table ascend, each once
abbrev pub Ascends : Table → Type 0
Ascends table = IsTrue (is_sorted text_cmp table)

-- no key stands in both tables
abbrev pub ShareNoKey : Table → Table → Type 0
ShareNoKey table other = (key : Text) → is_some (value_at key table) ≡ true → value_at key other ≡ None

-- where two tables both have a key, they have the same value there
abbrev pub Agree : Table → Table → Type 0
Agree table other = (key value different : Text) → value_at key table ≡ Some value → value_at key other ≡ Some different → value ≡ different

-- each two of the tables agree
abbrev pub AllAgree : List Table → Type 0
AllAgree tables = AllByRecursion (λ table. AllByRecursion (Agree table) tables) tables

-- a table with the pairs of others, one table after another
abbrev pub merged_all : Table → List Table → Table
merged_all table others = fold merged table others
