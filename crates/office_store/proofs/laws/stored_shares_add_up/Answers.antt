use Rattle.office_store.proofs.PublishedReadLemmas.{stored_add_up}
use Rattle.office_store.proofs.laws.stored_shares_add_up.Goals as goal

pub returns : goal.returns
returns c db office kept = stored_add_up db office kept
