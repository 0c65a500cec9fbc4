use Rattle.std.proofs.Common.{subst, sym}
use Rattle.std.specs.Iterator.{Drains}
use Rattle.std.specs.Vec.Iter.{into_iter_steps}
use Rattle.office_program.proofs.words.words_of.Goals as goal

pub returns-clause-all : goal.returns-clause-all
returns-clause-all c =
    let ran = c.in_ok-collect.ensures.ran in
    let end = ran.1.2 tt in
    subst (Drains into_iter_steps c.args.args) (sym ran.2.0) (end.0, (ran.1.0, ran.1.1, end.1))
