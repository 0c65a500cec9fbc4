use Rattle.std.proofs.Common.{◌≡◌, ◌≤◌, drop}
use Rattle.office_files.specs.Numbers.{number}
use Rattle.office_files.proofs.DigitLemmas.{goes_on}
use Rattle.office_files.proofs.numbers.number.Given as goal

abbrev pub invariant-loop-byte : goal.invariant-loop-byte
invariant-loop-byte l = record {
  same : goes_on l.limit l.value (drop l.byte-index l.text) ≡ number l.limit l.text;
  small : l.value ≤ 4294967296;
}
