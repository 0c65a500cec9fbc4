use Rattle.std.proofs.Common.{◌≡◌, length}
use Rattle.sqlite.specs.Held.{state}
use Rattle.sqlite.specs.Steps.{over_memory}
use Rattle.office_store.specs.Running.{Represents}
use Rattle.office_http.specs.TwoOffices.{office_of}
use Rattle.office_http.proofs.two_offices.office_of.Given as goal

-- the office after the requests so far
abbrev pub invariant-loop-request : goal.invariant-loop-request
invariant-loop-request l = record {
  led : Represents (state over_memory l.desk) (office_of l.missed.items l.requests);
  all : length l.missed.items ≡ l.request-index;
}
