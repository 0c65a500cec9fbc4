use Rattle.std.proofs.Common.{length, string_bytes, ap, arith}
use Rattle.exam_lists.proofs.Maps.{flat_map_take_all}
use Rattle.office_files.specs.CanonicalLines.{line_of, period_rule_text}
use Rattle.office_files.specs.CanonicalText.{header_text}
use Rattle.office_files.specs.Spelled.{period_rules_heading}
use Rattle.office_files.proofs.instance_writer.add_period_rules.Goals as goal

pub returns : goal.returns
returns c =
    let rules = c.args.instance.now.period_rules in
    let all = ap length c.period_rules-rule-items.ensures.rules in
    flat_map_take_all (λ x. line_of (period_rule_text x)) (string_bytes c.args.text.now)
    (line_of (header_text period_rules_heading (length rules)))
    (string_bytes c.loop-rule.text) rules
    c.loop-rule.rule-index (omega (arith, c.loop-rule-test.false)) c.loop-rule.invariant
