use Rattle.std.proofs.Common.{◌≡◌, ◌++◌, [], ◌∙◌, ap, ap₂, arith, length}
use Rattle.std.specs.List.{flat_map, range_with_len}
use Rattle.exam_lists.proofs.Ranges.{range_flat_map_more}
use Rattle.exam_places.specs.Unplaced.{rows_by}
use Rattle.exam_places.proofs.AnswerLemmas.{all_rows}
use Rattle.exam_places.proofs.listing.all_rows.Goals as goal

pub loop-period-preserved : goal.loop-period-preserved
loop-period-preserved c =
    let rows = rows_by c.args.unplaced.now c.total_without-total.result in
    c.in_ok-add_period.ensures
    ∙ ap₂ (λ xs p. xs ++ rows p) c.loop-period.invariant c.new-period.ensures
    ∙ range_flat_map_more rows [] c.loop-period.period

pub returns : goal.returns
returns c = λ scored.
    (let u = c.args.unplaced.now in
    let without = c.total_without-total.result in
    let all : c.loop-period.period ≡ length u.instance.now.periods = omega arith in
    c.loop-period.invariant
    ∙ ap (λ n. flat_map (rows_by u without) (range_with_len 0 n)) all
    ∙ all_rows u c.args.timetable.now without c.lemma_limits.ensures c.requires.unplaced
    c.requires.without.cleared (c.total_without-total.ensures.total scored))
