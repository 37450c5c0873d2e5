use Rattle.std.proofs.Common.{◌++◌, map, string_bytes, sym, ap, ◌∙◌, append_assoc, append-nil}
use Rattle.std.proofs.lemmas.List.{nil_from_length}
use Rattle.protocol.specs.JoinText.{segment_print, pattern_print}
use Rattle.key_pattern.specs.Plain.{plain_segment, plain_segments}
use Rattle.join_lang.specs.Printed.{segments_print}
use Rattle.join_lang.proofs.PrintLemmas.{pattern_print-cons}
use Rattle.join_lang.proofs.printer.push_pattern.Goals as goal
use Rattle.join_lang.proofs.printer.push_pattern.Goals.{in-Some+in_ok-push_segment+in_ok-push_segments, in_default}

pub returns : goal.returns
returns c =
    let names = map string_bytes c.args.names.now in
    elim c.match-split_first.branch [
      | in-Some+in_ok-push_segment+in_ok-push_segments w ↦
          let first = plain_segment w.in-Some.first.now in
          let others = plain_segments w.in-Some.others.now in
          let whole = sym (ap plain_segments w.in-Some.ensures.cases.0) ∙ c.segments.ensures.segments in
          ap string_bytes w.text-is ∙ w.in_ok-push_segments.ensures
          ∙ ap (λ t. t ++ segments_print names others) w.in_ok-push_segment.ensures
          ∙ append_assoc (string_bytes c.args.text.now) (segment_print names first) (segments_print names others)
          ∙ ap (λ t. string_bytes c.args.text.now ++ t) (sym (pattern_print-cons names first others) ∙ ap (pattern_print names) whole)
      | in_default w ↦
          let none = sym (ap plain_segments (nil_from_length c.segments.result.now w.in_default.ensures.cases)) ∙ c.segments.ensures.segments in
          ap string_bytes w.text-is ∙ sym (append-nil (string_bytes c.args.text.now)) ∙ ap (λ s. string_bytes c.args.text.now ++ pattern_print names s) none
    ]
