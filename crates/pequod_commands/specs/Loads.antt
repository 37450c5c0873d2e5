-- What the status of `load` says.
use Rattle.std.specs.Prelude.{◌≡◌, ℕ, [], Option}
use Rattle.semantics.specs.Texts.{Text}
use Rattle.load_gen.specs.Lines.{load_line}
use Rattle.pq_io.specs.Streams.{Took, TookProperPrefix}

-- how `load` ends: its line was written, or a part of it that is not the whole; or no memory was found
pub data Loading : Type 0 where
  written : Loading
  cut : Loading
  no_memory : Loading

-- what each end says of the status and of what the sink took
abbrev pub Loaded : Loading → ℕ → Text → Option Text → Option Text → Type 0
Loaded written status line taken taken_now = (status ≡ 0) × Took taken taken_now line
Loaded cut status line taken taken_now = (status ≡ 5) × TookProperPrefix taken taken_now line
Loaded no_memory status line taken taken_now = (status ≡ 6) × Took taken taken_now []

-- `load` of so many acts by so many users, drawn from a number, ended one of these ways; the line does not depend on how much is kept, nor on how many workers there are
pub record LoadsTo (status number steps users : ℕ) (taken taken_now : Option Text) : Type 0 where
  pub ending : Loading
  pub loaded : Loaded ending status (load_line number steps users) taken taken_now
