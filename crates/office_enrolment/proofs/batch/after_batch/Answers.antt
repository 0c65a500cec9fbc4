use Rattle.std.proofs.lemmas.Grind.{common_steps}
use Rattle.std.proofs.Common.{arith}
use Rattle.office_enrolment.proofs.IdleLemmas.{copied_if, idle_acting, idle_batch, some_acting, unchanged_is}
use Rattle.office_enrolment.proofs.KeptLemmas.{they_ascend}
use Rattle.office_enrolment.proofs.batch.after_batch.Goals as goal

pub returns-then-not-any_acts-clause-ok : goal.returns-then-not-any_acts-clause-ok
returns-then-not-any_acts-clause-ok c =
    grind (arith, common_steps, idle_batch, unchanged_is, c.name_exams.ensures.kept, c.unchanged_result.ensures.counts, c.unchanged_result.ensures.enrolments)

pub returns-then-not-any_acts-clause-acting : goal.returns-then-not-any_acts-clause-acting
returns-then-not-any_acts-clause-acting c =
    grind (arith, common_steps, idle_acting, they_ascend, c.unchanged_result.ensures.acting, c.name_exams.ensures.kept)

pub returns-clause-copied : goal.returns-clause-copied
returns-clause-copied c =
    grind (arith, common_steps, copied_if, some_acting, they_ascend, c.carry_out_all.ensures.copied, c.carry_out_all.ensures.acting, c.name_exams.ensures.kept)
