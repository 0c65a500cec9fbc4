use Rattle.office_files.specs.CanonicalLines.{field_before, date_text, time_text}
use Rattle.std.specs.Prelude.{decimal}
use Rattle.office_files.proofs.CanonicalSteps.{period_written}
use Rattle.office_files.proofs.line_writers.add_period.Goals as goal

pub returns : goal.returns
returns c =
    period_written _ _ _ _ _ _ (date_text c.args.period.now.date) (time_text c.args.period.now)
    (field_before (decimal c.args.period.now.length) (decimal c.args.period.now.penalty))
    c.in_ok-add_date.ensures c.in_ok-push_str.ensures.bytes c.in_ok-add_time.ensures
    c.in_ok-push_str-2.ensures.bytes c.in_ok-add_pair.ensures
