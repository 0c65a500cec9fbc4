use Rattle.office_tables.proofs.Inside.{changes_by_two}
use Rattle.office_tables.proofs.DraftLemmas.{added}
use Rattle.office_tables.proofs.tables.draft.InsertDraftAlteration.apply.Goals as goal

pub returns-clause-makes : goal.returns-clause-makes
returns-clause-makes g c =
    changes_by_two _ _ _ _ _ _ (added _ _ _ c.args.self.now.row) c.run-2.ensures.within
    (rw c.stored_columns.ensures at c.in_ok-run.ensures.ran)
    (rw c.night_columns.ensures at c.run-2.ensures.ran)
