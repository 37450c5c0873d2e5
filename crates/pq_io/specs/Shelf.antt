-- Named files: what a shelf holds and what it gives.
use Rattle.std.specs.Prelude.{ℕ, ◌<◌, List, String, Vec, find, length, ⊤, MatchOption, Bool, true, false, Result, Ok, Err}
use Rattle.std.specs.Global.{Global}
use Rattle.std.specs.declared.option.Option.{Option}
use Rattle.std.specs.Option.{option_map}
use Rattle.std.specs.Str.{bytes_eq}
use Rattle.std.specs.String.{string_bytes}
use Rattle.pq_io.specs.CallLog.{CallLog}
use Rattle.pq_io.specs.declared.TheConstants.{MAX_FILE_BYTES}
use Rattle.pq_io.specs.declared.shelf.TakeFault.{TakeFault}
use Rattle.pq_io.specs.declared.shelf.TakeFault.TheVariants.{Failed, OutOfMemory}

-- a file: its name and its bytes
abbrev pub File : Type 0
File = List ℕ × List ℕ

-- the bytes of the first file of this name
abbrev pub bytes_under : List File → List ℕ → Option (List ℕ)
bytes_under files name = option_map (λ file. file.1) (find (λ file. bytes_eq file.0 name) files)

-- a file as it is held in memory
abbrev pub file_of : String Global × Vec ℕ Global → File
file_of file = (string_bytes file.0, file.1.items)

-- no file has this name, or the first that has it holds more bytes than a shelf gives
abbrev pub CannotGive : List File → List ℕ → Type 0
CannotGive files name = MatchOption (bytes_under files name) ⊤ (λ bytes. MAX_FILE_BYTES < length bytes)

-- the call failed, and not because it found no memory
abbrev pub has_failed : {T : Type 0} → Result T TakeFault → Bool
has_failed (Ok x) = false
has_failed (Err Failed) = true
has_failed (Err (OutOfMemory _)) = false

-- what contracts see of a shelf in memory: its files, and the calls
pub record ShelfState : Type 0 where
  pub files : List File
  pub log : CallLog
