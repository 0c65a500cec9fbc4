-- Facts of the lines about a task's work.
use Rattle.std.proofs.Common.{ℕ, Bool, List, Option, true}
use Rattle.std.specs.Prelude.{IsTrue, string_bytes}
use Rattle.office_program.specs.LongWork.{loading_line, making_line, opening_line, publishing_line}
use Rattle.office_program.specs.LongWork.{upgrading_line}
use Rattle.office_program.specs.Surroundings.{MayNoteOpening, MayNoteWork}
use Rattle.office_program.specs.declared.surroundings.Found.{Found}
use Rattle.office_program.specs.declared.words.Task.{Task}
use Rattle.office_program.specs.declared.words.Task.TheVariants.{Check, CheckAll, CheckAs, Compare, Explain, Export, Load, Places, Serve}

module _ (finds : List ℕ → Option Found → Type 0) (shows : Bool → Type 0)
    (allows : List ℕ → Bool) (all : (line : List ℕ) → shows true → IsTrue (allows line)) where
  opening : (database : List ℕ) → MayNoteOpening finds shows allows database
  opening database = (λ large. all (opening_line database), all (upgrading_line database))

  -- where a terminal takes any line, it takes those about the work of each task
  pub may_note_work : (task : Task) → MayNoteWork finds shows allows task
  may_note_work (Load database instance) = (
    λ large. all (loading_line (string_bytes instance)),
    opening (string_bytes database),
  )
  may_note_work (Serve database terms) = (
    λ new. all (making_line (string_bytes database)),
    opening (string_bytes database),
    λ large. all (publishing_line (string_bytes database)),
  )
  may_note_work (Export database) = opening (string_bytes database)
  may_note_work (Check instance solution) = tt
  may_note_work (CheckAs instance solution form) = tt
  may_note_work (CheckAll session solutions form) = tt
  may_note_work (Places instance solution exam) = tt
  may_note_work (Compare session before after) = tt
  may_note_work (Explain words) = tt
