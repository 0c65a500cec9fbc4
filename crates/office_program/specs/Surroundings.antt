-- The lines that may be written about a task's work, by what is found at its paths.
use Rattle.std.specs.Prelude.{◌<◌, ◌≤◌, ℕ, Bool, IfSome, IsTrue, List, None, Option, Some, string_bytes, true}
use Rattle.std.proofs.Props.{props}
use Rattle.office_program.specs.LongWork.{loading_line, making_line, opening_line, publishing_line}
use Rattle.office_program.specs.LongWork.{upgrading_line}
use Rattle.office_program.specs.declared.notices.TheConstants.{LARGE}
use Rattle.office_program.specs.declared.surroundings.Found.{Found}
use Rattle.office_program.specs.declared.words.Task.{Task}
use Rattle.office_program.specs.declared.words.Task.TheVariants.{Check, CheckAll, CheckAs, Compare, Explain, Export, Load, Places, Serve}

-- a large file may be found at the path
abbrev pub IsLarge : (List ℕ → Option Found → Type 0) → List ℕ → Type 0
IsLarge finds path = (found : Found) × finds path (Some found) × (LARGE ≤ found.size)

-- nothing, or a file that isn't large, may be found at the path
abbrev pub IsNotLarge : (List ℕ → Option Found → Type 0) → List ℕ → Type 0
IsNotLarge finds path = (found : Option Found) × finds path found × IfSome found (λ f. f.size < LARGE)

-- a line about a large file may be written on a terminal
abbrev pub MayNoteLarge : (List ℕ → Option Found → Type 0) → (Bool → Type 0) → (List ℕ → Bool)
    → (path line : List ℕ) → Type 0
MayNoteLarge finds shows allows path line = IsLarge finds path → shows true → IsTrue (allows line)

module _ (finds : List ℕ → Option Found → Type 0) (shows : Bool → Type 0)
    (allows : List ℕ → Bool) where
  -- lines about a database that is opened may be written on a terminal: that it is large, or that
  -- its tables have version 1
  abbrev pub MayNoteOpening : List ℕ → Type 0
  MayNoteOpening database =
      MayNoteLarge finds shows allows database (opening_line database)
      × (shows true → IsTrue (allows (upgrading_line database)))

  -- the lines about the work of a task may be written on a terminal: those about its database; that
  -- the instance of `load` is large; that the database of `serve` is new, or a large one in which a
  -- draft is published
  abbrev pub MayNoteWork : Task → Type 0
  MayNoteWork (Load database instance) =
      MayNoteLarge finds shows allows (string_bytes instance)
      (loading_line (string_bytes instance))
      × MayNoteOpening (string_bytes database)
  MayNoteWork (Serve database terms) =
      (finds (string_bytes database) None → shows true
      → IsTrue (allows (making_line (string_bytes database))))
      × MayNoteOpening (string_bytes database)
      × MayNoteLarge finds shows allows (string_bytes database)
      (publishing_line (string_bytes database))
  MayNoteWork (Export database) = MayNoteOpening (string_bytes database)
  MayNoteWork (Check instance solution) = Unit {0}
  MayNoteWork (CheckAs instance solution form) = Unit {0}
  MayNoteWork (CheckAll session solutions form) = Unit {0}
  MayNoteWork (Places instance solution exam) = Unit {0}
  MayNoteWork (Compare session before after) = Unit {0}
  MayNoteWork (Explain words) = Unit {0}

  -- that lines may be noted is a fact
  pub may_note_work_is_fact : (task : Task) → IsProp (MayNoteWork task)
  may_note_work_is_fact (Load database instance) = hlevel props
  may_note_work_is_fact (Serve database terms) = hlevel props
  may_note_work_is_fact (Export database) = hlevel props
  may_note_work_is_fact (Check instance solution) = hlevel props
  may_note_work_is_fact (CheckAs instance solution form) = hlevel props
  may_note_work_is_fact (CheckAll session solutions form) = hlevel props
  may_note_work_is_fact (Places instance solution exam) = hlevel props
  may_note_work_is_fact (Compare session before after) = hlevel props
  may_note_work_is_fact (Explain words) = hlevel props
