-- The cut of lines so far and one that is too long, and then what its lines compute to.
use Rattle.std.proofs.Common.{[], ◌∷◌, true, false, refl, inr, ap}
use Rattle.protocol.specs.Requests.{request_of}
use Rattle.protocol.specs.Transcript.{transcript_of_cut}
use Rattle.protocol.proofs.Cuts.{lines_of-next_long}
use Rattle.worked_runs.specs.Runs.{sent}
use Rattle.worked_runs.specs.InputRows.{put_line}
use Rattle.worked_runs.proofs.Computes.{definitions_on_literals}
use Rattle.worked_runs.proofs.input_rows.too_long.Goals as goal

pub returns : goal.returns
unfolding definitions_on_literals
returns c line rest none long =
    ap (transcript_of_cut (λ h l. request_of l) (λ n. false)) (lines_of-next_long (sent (put_line ∷ [])) line rest true (put_line ∷ []) (inr (put_line, refl)) refl none long)
