use Rattle.std.proofs.Common.{ℕ, ◌+◌, ◌≤◌, List, ◌++◌, length, Option, arith}
use Rattle.std.proofs.Common.{length-append, length-take}
use Rattle.std.proofs.KnownBytes.{Consumes-trans}
use Rattle.std.specs.Io.KnownBytes.{Consumes}
use Rattle.office_files.specs.Inputs.{ReadsAtMost}
use Rattle.office_files.proofs.inputs.text_in.Goals as goal

-- a read took more of the input than what is kept
taken_more : (a b c : Option (List ℕ)) (text piece : List ℕ) (most : ℕ) → Consumes a b text
    → Consumes b c piece → length text + length piece ≤ most → ReadsAtMost most a c
taken_more a b c text piece most taken more few = record {
  bytes = text ++ piece;
  taken = Consumes-trans a b c text piece taken more;
  few = omega (arith, length-append text piece);
}

pub returns-in_err-append-in-Ok-clause-taken : goal.returns-in_err-append-in-Ok-clause-taken
returns-in_err-append-in-Ok-clause-taken g c =
    taken_more _ _ _ c.reads.text.items _ _ c.reads.invariant.taken c.in-Ok.ensures.bytes.0
    (grind (arith, length-take))
