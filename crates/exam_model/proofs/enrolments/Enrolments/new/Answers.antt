use Rattle.std.proofs.Common.{◌≡◌, ◌∙◌, ap, sym, arith}
use Rattle.exam_model.specs.Enrolments.{no_pairs}
use Rattle.exam_model.proofs.EnrolmentLemmas.{enrolments_none, pair_count-none}
use Rattle.exam_model.proofs.enrolments.Enrolments.new.Goals as goal

pub returns-clause-empty : goal.returns-clause-empty
returns-clause-empty c =
    let all : c.rolls.counter ≡ c.args.exams = omega arith in
    c.rolls.invariant ∙ ap no_pairs all

pub returns-clause-kept : goal.returns-clause-kept
returns-clause-kept c =
    rw (returns-clause-empty c)
    (enrolments_none c.args.exams c.requires.at_least c.requires.at_most)

pub invariant_of-result : goal.invariant_of-result
invariant_of-result c =
    ((returns-clause-kept c, rw (returns-clause-empty c) (sym (pair_count-none c.args.exams))), tt)
