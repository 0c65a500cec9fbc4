use Rattle.office_files.specs.Digits.{HasDigits}
use Rattle.office_files.proofs.digits.digits.Given as goal

abbrev pub invariant-loop-i : goal.invariant-loop-i
invariant-loop-i l = HasDigits l.text l.value l.i
