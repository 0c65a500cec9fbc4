use Rattle.office_files.proofs.FieldLemmas.{fields_test}
use Rattle.office_files.proofs.fields.Fields.is_empty.Goals as goal

pub returns : goal.returns
returns c =
    rw (← c.self.view_is) (fields_test c.self.inside.left.now c.is_empty.result c.is_empty.ensures)
