use Rattle.std.specs.Prelude.{◌≡◌, length, option_map}
use Rattle.office_records.specs.Memory.{AreSuited, draft_at}
use Rattle.office_store.specs.Memory.{AreScored, rescored_draft}
use Rattle.office_store.proofs.FillingLemmas.{AreMade}
use Rattle.office_store.proofs.rescoring.rescored_drafts.Given as goal

abbrev pub invariant-numbers : goal.invariant-numbers
invariant-numbers l = record {
  suited : AreSuited l.instance l.made;
  size : length l.made ≡ 9;
  made : AreScored l.instance l.before l.drafts
      → AreMade l.made l.number
      (λ d. option_map (rescored_draft l.instance l.after) (draft_at l.drafts d));
}
