use Rattle.std.proofs.Common.{ℕ, List, ◌++◌, take, Option, Result, Ok, Err, arith}
use Rattle.std.specs.Io.KnownBytes.{Consumes, ReadConsumes}
use Rattle.std.proofs.KnownBytes.{Consumes-trans, Consumes-kept}
use Rattle.office_messages.proofs.draining.drain.Goals as goal

-- one more read
read_on : {E : Type 0} (input now then : Option (List ℕ)) (taken buf : List ℕ) (r : Result ℕ E)
    → Consumes input now taken → ReadConsumes now then r buf
    → (bytes : List ℕ) × Consumes input then bytes
read_on input now then taken buf (Ok n) before x =
    (taken ++ take n buf, Consumes-trans input now then taken (take n buf) before x.0)
read_on input now then taken buf (Err e) before x =
    (taken, Consumes-kept input now then taken before x)

pub loop-turns-preserved : goal.loop-turns-preserved
loop-turns-preserved g c = record {
  taken = read_on _ _ _ c.loop-turns.invariant.taken.0 _ _ c.loop-turns.invariant.taken.1
      c.read.ensures.bytes;
  fewer = omega (arith, c.loop-turns.invariant.fewer);
}

pub loop-turns-preserved-in-Ok : goal.loop-turns-preserved-in-Ok
loop-turns-preserved-in-Ok g c = record {
  taken = read_on _ _ _ c.loop-turns.invariant.taken.0 _ _ c.loop-turns.invariant.taken.1
      c.read.ensures.bytes;
  fewer = omega (arith, c.loop-turns.invariant.fewer);
}
