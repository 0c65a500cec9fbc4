use Rattle.office_tables.proofs.JoinLemmas.{AreJoinedTo}
use Rattle.office_tables.proofs.nights.with_nights.Given as goal

abbrev pub invariant-rows : goal.invariant-rows
invariant-rows g l =
    AreJoinedTo l.at g.R.HasNight.main_columns g.R.HasNight.side_columns
    g.R.HasNight.number_in l.rows l.nights l.made.items
