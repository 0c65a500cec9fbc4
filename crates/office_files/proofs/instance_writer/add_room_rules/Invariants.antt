use Rattle.std.proofs.Common.{◌≡◌, ◌++◌, length, string_bytes, take}
use Rattle.std.specs.List.{flat_map}
use Rattle.office_files.specs.CanonicalLines.{line_of, room_rule_text}
use Rattle.office_files.specs.CanonicalText.{header_text}
use Rattle.office_files.specs.Spelled.{room_rules_heading}
use Rattle.office_files.proofs.instance_writer.add_room_rules.Given as goal

abbrev pub invariant-loop-rule : goal.invariant-loop-rule
invariant-loop-rule l =
    string_bytes l.text
    ≡ string_bytes l.fn.text
    ++ line_of (header_text room_rules_heading (length l.instance.room_rules))
    ++ flat_map (λ x. line_of (room_rule_text x)) (take l.rule-index l.instance.room_rules)
