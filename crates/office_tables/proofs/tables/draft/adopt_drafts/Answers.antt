use Rattle.office_tables.proofs.ListTexts.{draft_lists, night_draft_lists}
use Rattle.office_tables.proofs.Splitting.{draft_splits}
use Rattle.office_tables.proofs.tables.draft.adopt_drafts.Goals as goal

pub returns : goal.returns
returns g c =
    c.adopt_with_nights.ensures 4 15 (draft_lists c.args.version) night_draft_lists draft_splits
