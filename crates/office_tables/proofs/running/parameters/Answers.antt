use Rattle.std.proofs.lemmas.Grind.{common_steps}
use Rattle.std.proofs.Common.{pos, arith}
use Rattle.std.proofs.lemmas.List.{length-set, map-append, take-map, take_more, take_more_set}
use Rattle.office_tables.proofs.running.parameters.Goals as goal

pub loop-i-preserved : goal.loop-i-preserved
loop-i-preserved c = grind (arith, common_steps, length-set, take-map, take_more_set, map-append, take_more, pos)
