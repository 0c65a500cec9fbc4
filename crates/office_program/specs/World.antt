-- What is known of the machine that a run is on.
use Rattle.std.specs.Prelude.{List, Option, ℕ}
use Rattle.office_program.specs.Databases.{KnownBase}
use Rattle.office_program.specs.Sources.{Known}

-- what is known of a machine: its files and databases by their paths, what is left of standard
-- input, its ports, what was printed, and the writer of faults
pub record World (C N E : Type 0) : Type 0 where
  pub files : List ℕ → Known
  pub stdin : Option (List ℕ)
  pub databases : List ℕ → KnownBase C
  pub ports : N
  pub printed : Option (List ℕ)
  pub errors : E
