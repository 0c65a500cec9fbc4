use Rattle.office_model.proofs.PlaceEditLemmas.{line_is_edit}
use Rattle.office_model.proofs.laws.places_are_edits.Goals as goal

pub returns : goal.returns
returns c office caller I E T d e p r allowed there exam period room =
    line_is_edit office caller I E T d e p r allowed there exam period room
