-- One database in memory.
use Rattle.std.specs.Prelude.{Err, List, None, Ok, Option, Result, Some, if◌then◌else◌, ℕ}
use Rattle.std.specs.Str.{bytes_eq}
use Rattle.sqlite.specs.declared.error.Error.{Error}
use Rattle.sqlite.specs.declared.error.Error.TheVariants.{SqliteFailure}
use Rattle.sqlite.specs.declared.error.ErrorCode.TheVariants.{CannotOpen}

-- the connection that is there, or the error if there is none
abbrev pub found_or_error : {C : Type 0} → Option C → Result C Error
found_or_error None = Err (SqliteFailure CannotOpen)
found_or_error (Some conn) = Ok conn

-- what is at a path: the connection, if it is there and this is its path
abbrev pub held_at : {C : Type 0} → List ℕ → Option C → List ℕ → Result C Error
held_at own conn path = found_or_error (if bytes_eq own path then conn else None)
