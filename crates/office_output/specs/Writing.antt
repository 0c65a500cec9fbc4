-- What a writer has after a text could not be written whole.
use Rattle.std.specs.Prelude.{◌≡◌, ℕ, List, ◌++◌, Option}
use Rattle.std.specs.Io.KnownBytes.{Appends}

-- a front of the text was written
pub record WritesFront (before after : Option (List ℕ)) (text : List ℕ) : Type 0 where
  pub sent : List ℕ
  pub unsent : List ℕ
  pub whole : text ≡ sent ++ unsent
  pub written : Appends before after sent
