use Rattle.std.proofs.Common.{◌∙◌, length, true, arith}
use Rattle.std.proofs.lemmas.List.{length-set}
use Rattle.exam_places.proofs.TableLemmas.{keepers_more, line_exists}
use Rattle.exam_places.proofs.place_table.room_keepers.Goals as goal

pub lines-preserved : goal.lines-preserved
lines-preserved c =
    let exams = length c.args.instance.now.exams in
    let exists = line_exists c.args.instance.now c.room_rules-lines.ensures.kept
    c.room_rules-lines.result.now c.lines.line-index c.line-item.result
    c.room_rules-lines.ensures.rules c.lines-test.true c.line-item.is in
    record {
      count = length-set c.lines.keepers.items c.get.result true ∙ c.lines.invariant.count;
      each = keepers_more exams c.room_rules-lines.result.now c.lines.line-index c.get.result
          c.line-item.result c.lines.keepers.items c.lines.invariant.count
          (omega (arith, exists, c.get.ensures)) c.lines-test.true c.line-item.is c.get.ensures
          c.lines.invariant.each;
    }
