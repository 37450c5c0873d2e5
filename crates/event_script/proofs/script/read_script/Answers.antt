use Rattle.std.proofs.Common.{◌≡◌, ◌++◌, ◌∷◌, [], ◌∙◌, map, Err, sym, ap, arith}
use Rattle.std.proofs.lemmas.Grind.{common_steps}
use Rattle.core_events.specs.Scripts.{event_of}
use Rattle.core_events.specs.PlainEvents.{plain_event}
use Rattle.event_script.proofs.ScriptLemmas.{named_fault, reads_none, reads_more, reads_refused, reads_all}
use Rattle.event_script.proofs.script.read_script.Goals as goal

pub loop-line-init : goal.loop-line-init
loop-line-init c = record {
  read = rw c.new-events.ensures.items (reads_none c.args.bytes.now);
  few = omega arith;
}

pub returns-in-Err : goal.returns-in-Err
returns-in-Err c =
    let named = named_fault c.in-Err.fault c.in_ok-name-in-Err.name.now (event_of c.in-Some.line.now) c.in_ok-name-in-Err.ensures c.in-Err.ensures.fault in
    ap (λ n. Err (c.loop-line.number, n)) (sym named.2)
    ∙ reads_refused (map plain_event c.loop-line.events.items) c.loop-line.number c.loop-line.rest.now c.in-Some.line.now c.in-Some.others.now named.0 _ c.in-Some.ensures.lines named.1 c.loop-line.invariant.read

pub loop-line-preserved : goal.loop-line-preserved
loop-line-preserved c =
    let more : map plain_event c.push.new.self.items ≡ map plain_event c.loop-line.events.items ++ plain_event c.in-Ok.event ∷ [] = grind (arith, common_steps) in
    record {
      read = reads_more _ _ c.loop-line.number c.loop-line.rest.now c.in-Some.line.now c.in-Some.others.now (plain_event c.in-Ok.event) _ more c.in-Some.ensures.lines c.in-Ok.ensures.event c.loop-line.invariant.read;
      few = omega (arith, c.in-Some.ensures.shorter, c.loop-line.invariant.few);
    }

pub returns : goal.returns
returns c = reads_all _ c.loop-line.number c.loop-line.rest.now _ c.in_default.ensures.lines c.loop-line.invariant.read
