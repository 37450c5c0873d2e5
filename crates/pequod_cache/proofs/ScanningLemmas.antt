-- What a scan found.
use Rattle.std.proofs.Common.{◌≡◌, ℕ, [], map, Option, Some, None, Result, Ok, Err, IfOk, MatchOption}
use Rattle.std.specs.Prelude.{Vec}
use Rattle.std.specs.declared.alloc.Global.{Global}
use Rattle.json.specs.Written.{Written}
use Rattle.semantics.specs.Texts.{Text, Table}
use Rattle.protocol.specs.Replies.{pair_item}
use Rattle.request_codec.specs.Tokens.{Appends}
use Rattle.request_codec.specs.Written.{HasPairs}
use Rattle.request_codec.proofs.WrittenLemmas.{pairs_more}
use Rattle.pequod_cache.specs.Scanning.{HasFound}

-- where none were given, the pairs were written into a line that had none
pub has_found : {E : Type 0} (position : ℕ) (rows : Table) (begun line : Written) (found : Result (Option (Vec (Text × Text) Global)) E) → HasPairs position [] begun →
    IfOk found (λ given. MatchOption given (Appends begun line (map pair_item rows)) (λ those. those.items ≡ rows)) → IfOk found (λ given. HasFound position line given rows)
has_found position rows begun line (Ok None) had taken = pairs_more position begun line [] rows had taken
has_found position rows begun line (Ok (Some those)) had taken = taken
has_found position rows begun line (Err e) had taken = tt
