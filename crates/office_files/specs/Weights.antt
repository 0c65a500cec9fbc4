-- The weights of an instance, by the weightings of the last section.
use Rattle.std.specs.Prelude.{List, [], ◌∷◌}
use Rattle.exam_model.specs.declared.parts.Weights.{Weights}
use Rattle.office_files.specs.declared.weightings.Weighting.{Weighting}
use Rattle.office_files.specs.declared.weightings.Weighting.TheVariants as said

-- the weights with those of one line
abbrev pub with_weighting : Weights → Weighting → Weights
with_weighting w (said.Row n) = record w { row = n }
with_weighting w (said.Day n) = record w { day = n }
with_weighting w (said.Spread n) = record w { spread = n }
with_weighting w (said.Mixed n) = record w { mixed = n }
with_weighting w (said.Front n k v) = record w { front_exams = n; front_periods = k; front = v }
with_weighting w (said.Night n) = record w { night = n }

-- the weights with those of all lines
abbrev pub with_weightings : Weights → List Weighting → Weights
with_weightings w [] = w
with_weightings w (s ∷ ss) = with_weightings (with_weighting w s) ss

-- a weight without a line is 0
abbrev pub no_weights : Weights
no_weights = record {
  row = 0;
  day = 0;
  spread = 0;
  mixed = 0;
  front_exams = 0;
  front_periods = 0;
  front = 0;
  night = 0;
}
