use Rattle.std.proofs.Common.{◌∙◌, ap, codes}
use Rattle.std.specs.Prelude.{is_some}
use Rattle.clap.specs.Words.{found_of}
use Rattle.clap.proofs.WalkLemmas.{first_value-rows}
use Rattle.office_program.proofs.check_words.has_student.Goals as goal

pub returns-in-Some : goal.returns-in-Some
returns-in-Some c = ap is_some
    (c.in-Some.ensures ∙ first_value-rows (found_of c.args.values.now) (codes "student"))

pub returns-in-None : goal.returns-in-None
returns-in-None c = ap is_some
    (c.in-None.ensures ∙ first_value-rows (found_of c.args.values.now) (codes "student"))
