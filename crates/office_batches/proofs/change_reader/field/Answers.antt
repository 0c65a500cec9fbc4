use Rattle.std.proofs.Common.{◌∙◌, ap, sym}
use Rattle.csv.proofs.RecordFacts.{field-get}
use Rattle.exam_terms.specs.Texts.{trimmed_text}
use Rattle.office_batches.proofs.RecordLemmas.{absent}
use Rattle.office_batches.proofs.change_reader.field.Goals as goal

pub returns-in-Some : goal.returns-in-Some
returns-in-Some c =
    c.trimmed_text.ensures ∙ ap trimmed_text (sym (field-get _ _ _ (sym c.in-Some.ensures.value)))

pub returns-in-None : goal.returns-in-None
returns-in-None c = ap trimmed_text (sym (absent _ _ (sym c.in-None.ensures.value)))
