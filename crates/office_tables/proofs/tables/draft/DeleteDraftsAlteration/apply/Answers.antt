use Rattle.office_tables.proofs.Inside.{changes_by_two}
use Rattle.office_tables.proofs.DraftLemmas.{all_gone}
use Rattle.office_tables.proofs.tables.draft.DeleteDraftsAlteration.apply.Goals as goal

pub returns-clause-makes : goal.returns-clause-makes
returns-clause-makes g c =
    changes_by_two _ _ _ _ _ _ (all_gone _ _ _) c.run-2.ensures.within
    c.in_ok-run.ensures.ran
    c.run-2.ensures.ran
