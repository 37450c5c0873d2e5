-- What is heard of the home: lines.
use Rattle.std.specs.Prelude.{◌≡◌, ◌<◌, ◌≤◌, ◌⊎◌, [], ◌∷◌, ◌++◌, length, false, Option, Result, Ok, Err, ⊤}
use Rattle.std.specs.List.{list_any}
use Rattle.std.specs.Io.KnownBytes.{IsAtEnd}
use Rattle.protocol.specs.Lines.{Bytes, line_limit, long_mark, lines_of}
use Rattle.request_codec.specs.Feeding.{is_feed}
use Rattle.follow_node.specs.declared.pulled.Pulled.{Pulled}
use Rattle.follow_node.specs.declared.pulled.Pulled.TheVariants.{Level, HomeMemory, Gone, Ahead, Bad, Ended, Over, ReadFault, WriteFault, OutOfMemory}

-- bytes that may be a line, or its beginning: they have no byte 10, and are not too many
pub record IsShort (line : Bytes) : Type 0 where
  pub no_feed : list_any is_feed line ≡ false
  pub short : length line ≤ line_limit

-- a line was followed by a byte in the same read
pub record IsFollowed (bytes : Bytes) : Type 0 where
  pub line : Bytes
  pub more : Bytes
  pub short : IsShort line
  pub some : 0 < length more
  pub split : bytes ≡ line ++ 10 ∷ more

-- a line reached 1,048,577 bytes
abbrev pub IsLong : Bytes → Type 0
IsLong bytes = lines_of bytes false ≡ long_mark

-- what the bytes of the reads for one line come to
abbrev pub Hears : Option Bytes → Bytes → Bytes → Result ⊤ Pulled → Type 0
Hears left bytes line (Ok x) = (bytes ≡ line ++ 10 ∷ []) × IsShort line
Hears left bytes line (Err Level) = ⊥
Hears left bytes line (Err HomeMemory) = ⊥
Hears left bytes line (Err (Gone n)) = ⊥
Hears left bytes line (Err (Ahead n)) = ⊥
Hears left bytes line (Err Bad) = IsFollowed bytes ⊎ IsLong bytes
Hears left bytes line (Err Ended) = IsShort bytes × IsAtEnd left
Hears left bytes line (Err Over) = ⊥
Hears left bytes line (Err ReadFault) = IsShort bytes
Hears left bytes line (Err WriteFault) = ⊥
Hears left bytes line (Err (OutOfMemory memory)) = ⊥
