-- Which error comes if a database's file can't be opened.
use Rattle.std.specs.Prelude.{◌≡◌, ◌⊎◌, List, ℕ, codes, ◌++◌}
use Rattle.std.specs.IoError.{error_kind}
use Rattle.std.specs.declared.io.ErrorKind.{ErrorKind}
use Rattle.std.specs.declared.io.ErrorKind.TheVariants as kind
use Rattle.sqlite.specs.declared.error.Error.{Error}
use Rattle.sqlite.specs.declared.error.Error.TheVariants.{SqliteFailure}
use Rattle.sqlite.specs.declared.error.ErrorCode.{ErrorCode}
use Rattle.sqlite.specs.declared.error.ErrorCode.TheVariants as code
use Rattle.sqlite_std_file.specs.declared.OpenError.{OpenError}
use Rattle.sqlite_std_file.specs.declared.OpenError.TheVariants as path

-- a path that is a URI
abbrev pub IsUri : List ℕ → Type 0
IsUri at = (rest : List ℕ) × (at ≡ codes "file:" ++ rest)

-- the error of a call of the system that failed with an error of this kind
abbrev pub code_of : ErrorKind → ErrorCode
code_of kind.OutOfMemory = code.OutOfMemory
code_of _ = code.CannotOpen

-- the error of a path that isn't opened
abbrev pub error_of : OpenError → Error
error_of (path.Io error) = SqliteFailure (code_of (error_kind error))
error_of path.OutOfMemory = SqliteFailure code.OutOfMemory
error_of path.Busy = SqliteFailure code.DatabaseBusy
error_of path.HotJournal = SqliteFailure code.CannotOpen

-- one of the three errors of a path that isn't opened
abbrev pub IsOfPath : Error → Type 0
IsOfPath error =
    (error ≡ SqliteFailure code.CannotOpen)
    ⊎ ((error ≡ SqliteFailure code.OutOfMemory) ⊎ (error ≡ SqliteFailure code.DatabaseBusy))
