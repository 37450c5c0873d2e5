use Rattle.std.proofs.Common.{◌∷◌, [], ◌++◌, map, sym, ap, ◌∙◌, subst}
use Rattle.std.proofs.lemmas.List.{map-append}
use Rattle.core_events.specs.PlainEvents.{plain_event, plain_done}
use Rattle.scan_core.specs.Running.{RunsPlainly}
use Rattle.scan_core.proofs.RunLemmas.{runs_none, runs_more}
use Rattle.scan_core.proofs.run.run_counted.Goals as goal

pub loop-event-init : goal.loop-event-init
loop-event-init g c =
    subst (λ answers. RunsPlainly [] (map plain_done answers) c.args.world.world) (sym c.in_ok-answers.ensures.items) (runs_none c.args.world.world c.requires.start)

pub loop-event-preserved : goal.loop-event-preserved
loop-event-preserved g c =
    let more = runs_more (map plain_event c.loop-event.yielded) (map plain_done c.loop-event.answers.items) (plain_event c.in-Some.event) (plain_done c.in_ok-done.done) c.loop-event.world.world c.step.new.self.world
    c.loop-event.invariant c.in_ok-done.ensures.answers c.in_ok-done.ensures.world in
    subst (λ events. RunsPlainly events (map plain_done c.push.new.self.items) c.step.new.self.world) (sym (map-append plain_event c.loop-event.yielded (c.in-Some.event ∷ [])))
    (subst (λ answers. RunsPlainly (map plain_event c.loop-event.yielded ++ plain_event c.in-Some.event ∷ []) answers c.step.new.self.world)
    (sym (ap (map plain_done) c.in_ok-push.ensures.items ∙ map-append plain_done c.loop-event.answers.items (c.in_ok-done.done ∷ []))) more)
