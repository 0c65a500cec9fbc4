-- How checks follow one another: the first refusal is the result.
use Rattle.std.specs.Prelude.{Bool, true, false, Option, Some, None, Result, Ok, Err}

infixl 10 ◌>>=◌
-- the next check runs only if nothing was refused
abbrev pub ◌>>=◌ : {A B F : Type 0} → Result A F → (A → Result B F) → Result B F
(Ok x) >>= f = f x
(Err e) >>= f = Err e

-- refused with this fault, unless the condition holds
abbrev pub unless : {F : Type 0} → Bool → F → Result (Unit {0}) F
unless true fault = Ok tt
unless false fault = Err fault

-- the value if there is one, else refused with this fault
abbrev pub else_err : {A F : Type 0} → F → Option A → Result A F
else_err fault (Some x) = Ok x
else_err fault None = Err fault
