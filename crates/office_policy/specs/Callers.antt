-- Whom the value of the header X-Caller names.
use Rattle.std.specs.Prelude.{ℕ, ◌==◌, ◌&&◌, nat_le, bytes_eq, if◌then◌else◌}
use Rattle.std.specs.Prelude.{List, [], ◌∷◌, codes, Option, Some, None}
use Rattle.std.specs.Prelude.{option_map, option_and_then}
use Rattle.exam_terms.specs.declared.limits.TheConstants.{MAX_DEPARTMENT}
use Rattle.office_policy.specs.Numbers.{number_of}
use Rattle.office_policy.specs.declared.callers.Caller.{Caller}
use Rattle.office_policy.specs.declared.callers.Caller.TheVariants.{Office, Dept, Cand}

-- the text after a word at the front of a text
abbrev pub text_after_word : List ℕ → List ℕ → Option (List ℕ)
text_after_word [] text = Some text
text_after_word (w ∷ word) [] = None
text_after_word (w ∷ word) (b ∷ text) = if w == b then text_after_word word text else None

-- the number after a word
abbrev pub number_after_word : List ℕ → List ℕ → Option ℕ
number_after_word word text = option_and_then number_of (text_after_word word text)

-- departments go from 1 to the greatest
abbrev pub as_dept : ℕ → Option Caller
as_dept n = if nat_le 1 n && nat_le n MAX_DEPARTMENT then Some (Dept n) else None

-- `dept:` and a department's number
abbrev pub dept_in : List ℕ → Option Caller
dept_in name = option_and_then as_dept (number_after_word (codes "dept:") name)

-- `cand:` and a candidate's number
abbrev pub candidate_in : List ℕ → Option Caller
candidate_in name = option_map Cand (number_after_word (codes "cand:") name)

-- the first of two, or else the second
abbrev pub or_else : Option Caller → Option Caller → Option Caller
or_else (Some caller) other = Some caller
or_else None other = other

-- the office, a department or a candidate, by its name
abbrev pub caller_of : List ℕ → Option Caller
caller_of name =
    if bytes_eq name (codes "office") then Some Office
    else or_else (dept_in name) (candidate_in name)
