-- A store that a disk failure has closed.
use Rattle.std.specs.Prelude.{◌≡◌, false}
use Rattle.sqlite.specs.State.{State}

-- a disk failure has closed the store: nothing is read or written until it is opened again
abbrev pub IsShut : State → Type 0
IsShut s = s.is_open ≡ false
