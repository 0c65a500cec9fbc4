use Rattle.std.proofs.Common.{◌≡◌, ◌<◌, length, subst, arith}
use Rattle.std.specs.Prelude.{All}
use Rattle.exam_model.specs.Conflicts.{conflicts_of}
use Rattle.exam_model.specs.declared.conflicts.Conflict.{Conflict}
use Rattle.exam_model.proofs.ConflictLemmas.{conflicts_exist}
use Rattle.exam_rules.proofs.period_rules.clash_pairs.Goals as goal

pub listed_clashes-requires : goal.listed_clashes-requires
listed_clashes-requires c =
    let E = c.args.enrolments.now in
    let long : length E ≡ length c.args.timetable.now =
    omega (arith, c.requires.fits.enrolments, c.requires.fits.timetable) in
    record {
      exist = rw c.in-Some.ensures
          (subst (λ n. All (λ (x : Conflict). (x.exam < n) × (x.other < n)) (conflicts_of E)) long
          (conflicts_exist E));
    }

pub returns-in-Some : goal.returns-in-Some
returns-in-Some c =
    c.listed_clashes.ensures c.args.instance.now c.args.enrolments.now c.requires.fits
    c.in-Some.ensures
