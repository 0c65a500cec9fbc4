use Rattle.std.proofs.Common.{◌++◌, ◌∙◌, ap, sym, length, string_bytes}
use Rattle.std.specs.Prelude.{slice_get}
use Rattle.exam_lists.proofs.Maps.{flat_map_take_more}
use Rattle.office_files.specs.CanonicalLines.{line_of, period_text}
use Rattle.office_files.specs.CanonicalText.{header_text}
use Rattle.office_files.specs.Spelled.{periods_heading}
use Rattle.office_files.proofs.instance_writer.add_periods.Goals as goal

pub loop-number-preserved : goal.loop-number-preserved
loop-number-preserved c =
    flat_map_take_more (λ x. line_of (period_text x))
    (string_bytes c.args.text.now
    ++ line_of (header_text periods_heading (length c.args.instance.now.periods)))
    (string_bytes c.loop-number.text) _ c.args.instance.now.periods c.loop-number.number
    c.period-period.result
    (ap (slice_get c.args.instance.now.periods) (sym c.new.ensures) ∙ c.period-period.ensures)
    c.loop-number.invariant c.in_ok-add_period.ensures
