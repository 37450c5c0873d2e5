-- What a test of the verdict shows.
use Rattle.std.proofs.Common.{◌≡◌, false, Option, Some, None, option_map, is_some, true≢false, sym}

-- an answer that a failing test shows to be none
pub none_from_test : {X Y : Type 0} (f : X → Y) (found : Option X) (o : Option Y) → option_map f found ≡ o → is_some found ≡ false → o ≡ None
none_from_test f None o e none = sym e
none_from_test f (Some x) o e none = absurd (true≢false none)
