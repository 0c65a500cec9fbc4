use Rattle.std.proofs.Common.{◌∙◌, ap}
use Rattle.exam_model.specs.Enrolments.{no_pairs}
use Rattle.office_files.specs.CanonicalText.{canonical_instance}
use Rattle.office_records.proofs.session.text_of.Goals as goal

pub returns-in-Ok-write_instance-clause-text : goal.returns-in-Ok-write_instance-clause-text
returns-in-Ok-write_instance-clause-text c =
    c.in-Ok-write_instance.ensures.text ∙ ap (canonical_instance c.args.instance.now)
    (c.in-Ok.ensures.empty ∙ ap no_pairs c.exams-exams.ensures.count)
