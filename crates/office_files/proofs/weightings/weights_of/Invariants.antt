use Rattle.std.proofs.Common.{◌≡◌, drop}
use Rattle.office_files.specs.Weights.{with_weightings, no_weights}
use Rattle.office_files.proofs.weightings.weights_of.Given as goal

abbrev pub invariant-loop-one : goal.invariant-loop-one
invariant-loop-one l =
    with_weightings l.weights (drop l.one-index l.said) ≡ with_weightings no_weights l.said
