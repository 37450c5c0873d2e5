-- Events that are answered one after another.
use Rattle.std.proofs.Common.{◌≡◌, ◌∷◌, [], ◌++◌, List, refl, sym, ap, ◌∙◌, subst}
use Rattle.core_events.specs.Events.{Event, Done}
use Rattle.core_events.specs.Plain.{World, start, scan_of, step, world_after}
use Rattle.core_events.specs.PlainLaws.{AnswersAs, LookAlike}
use Rattle.core_events.proofs.PlainLemmas.{plain-is, world_after-is, one_more_answers_plainly, world_after_one_more}
use Rattle.core_events.proofs.WorldLemmas.{looks_decide}
use Rattle.scan_core.specs.Running.{RunsPlainly}

-- no events
pub runs_none : (w : World) → w ≡ start → RunsPlainly [] [] w
runs_none w is = record {
  plainly = record { each = refl; plainly = sym (plain-is []) };
  looks = subst (LookAlike w) (sym (world_after-is [])) (record { histories = ap (λ (x : World). x.history) is; scans = λ number. ap (λ (x : World). scan_of number x.scans) is });
}

looks_then : (a b c : World) → LookAlike a b → LookAlike b c → LookAlike a c
looks_then a b c first next = record { histories = first.histories ∙ next.histories; scans = λ number. first.scans number ∙ next.scans number }

-- one event more
pub runs_more : (events : List Event) (answers : List Done) (event : Event) (done : Done) (w after : World) → RunsPlainly events answers w → AnswersAs event w done → LookAlike after (step event w).world →
    RunsPlainly (events ++ event ∷ []) (answers ++ done ∷ []) after
runs_more events answers event done w after runs says goes =
    let same = looks_decide event w (world_after events) runs.looks in
    record {
      plainly = one_more_answers_plainly events answers event done runs.plainly (λ not_cell. sym same.0 ∙ says not_cell);
      looks = subst (LookAlike after) (sym (world_after_one_more events event)) (looks_then after (step event w).world (step event (world_after events)).world goes same.1);
    }
