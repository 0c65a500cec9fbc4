-- The word of a rule on two exams (ITC 2007, input format), and the rule of that word.
use Rattle.std.specs.Prelude.{ℕ, if◌then◌else◌, List, codes, Result, Ok, Err}
use Rattle.std.specs.Str.{str_eq_ignore_ascii_case}
use Rattle.exam_model.specs.declared.rules.PeriodRule.{PeriodRule}
use Rattle.exam_model.specs.declared.rules.PeriodRule.TheVariants.{After, Coincidence, Exclusion}
use Rattle.office_files.specs.declared.rule_word.RuleWord.{RuleWord}
use Rattle.office_files.specs.declared.rule_word.RuleWord.TheVariants as word
use Rattle.office_files.specs.declared.fault.FaultKind.{FaultKind}
use Rattle.office_files.specs.declared.fault.FaultKind.TheVariants.{BadWord}

-- the word of a rule on two exams
abbrev pub rule_word : List ℕ → Result RuleWord FaultKind
rule_word text =
    if str_eq_ignore_ascii_case text (codes "AFTER") then Ok word.After
    else (if str_eq_ignore_ascii_case text (codes "EXAM_COINCIDENCE") then Ok word.Coincidence
    else (if str_eq_ignore_ascii_case text (codes "EXCLUSION") then Ok word.Exclusion
    else Err BadWord))

-- the rule of that word on two exams
abbrev pub rule_by : RuleWord → ℕ → ℕ → PeriodRule
rule_by word.After a b = After a b
rule_by word.Coincidence a b = Coincidence a b
rule_by word.Exclusion a b = Exclusion a b
