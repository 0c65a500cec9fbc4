use Rattle.std.specs.List.{AllByRecursion}
use Rattle.std.specs.Prelude.{map}
use Rattle.office_tables.specs.Tables.Draft.{AreAmounts}
use Rattle.office_store.proofs.FillingLemmas.{AreFirstRows}
use Rattle.office_store.proofs.rescoring.draft_inserts.Given as goal

abbrev pub invariant-numbers : goal.invariant-numbers
invariant-numbers l = record {
  rows : AreFirstRows l.drafts l.number (map (λ it. it.row) l.rows.items);
  small : AllByRecursion (λ it. AreAmounts it.row) l.rows.items;
}
