use Rattle.std.proofs.Common.{◌≡◌, ◌++◌, ◌∙◌, ap, ap₂, arith, codes, length}
use Rattle.std.specs.List.{flat_map, range_with_len}
use Rattle.exam_lists.proofs.Ranges.{range_flat_map_more}
use Rattle.office_reports.specs.Slots.{entry_lines}
use Rattle.office_reports.proofs.SlotLemmas.{report_lines}
use Rattle.office_reports.proofs.rooms.rooms_report.Goals as goal

pub loop-period-preserved : goal.loop-period-preserved
loop-period-preserved c =
    let lines = entry_lines c.args.instance.now c.in_ok-exams.exams.items c.in_ok-used.used.items in
    rw (c.deref.ensures.value, c.deref-in-loop-period.ensures.value) at c.in_ok-add_period.ensures
    ∙ ap₂ (λ a p. a ++ lines p) c.loop-period.invariant c.new.ensures
    ∙ range_flat_map_more lines (codes "per room    used     cap  exams\n") c.loop-period.period

pub returns : goal.returns
returns c =
    let lines = entry_lines c.args.instance.now c.in_ok-exams.exams.items c.in_ok-used.used.items in
    let all : c.loop-period.period ≡ length c.args.instance.now.periods = omega arith in
    c.loop-period.invariant
    ∙ ap (λ n. codes "per room    used     cap  exams\n" ++ flat_map lines (range_with_len 0 n)) all
    ∙ ap (λ xs. codes "per room    used     cap  exams\n" ++ xs)
    (report_lines c.args.timetable.now c.args.seats.now c.in_ok-exams.ensures c.in_ok-used.ensures)
