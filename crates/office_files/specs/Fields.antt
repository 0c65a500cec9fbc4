-- How a text is cut into parts, and a line into fields.
use Rattle.std.specs.Prelude.{ℕ, ◌==◌, if◌then◌else◌, List, [], ◌∷◌, map}
use Rattle.std.specs.Prelude.{Option, Some, None, option_map, Result, Ok, Err}
use Rattle.std.specs.List.{onto_first}
use Rattle.exam_terms.specs.Texts.{trimmed_text}
use Rattle.office_files.specs.Bytes.{comma}
use Rattle.office_files.specs.declared.fault.FaultKind.{FaultKind}
use Rattle.office_files.specs.declared.fault.FaultKind.TheVariants.{StrayText}

-- the parts of a text that each end with the byte c, or with the end of the text
abbrev pub ended_parts : ℕ → List ℕ → List (List ℕ)
ended_parts c [] = []
ended_parts c (b ∷ bs) = if b == c then [] ∷ ended_parts c bs else onto_first b (ended_parts c bs)

-- a text up to the first byte c, and the rest after that byte
abbrev pub split_once : ℕ → List ℕ → Option (List ℕ × List ℕ)
split_once c [] = None
split_once c (b ∷ bs) =
    if b == c then Some ([], bs) else option_map (λ p. (b ∷ p.0, p.1)) (split_once c bs)

-- the fields of a line, trimmed; there is none after a comma at its end
abbrev pub fields_of : List ℕ → List (List ℕ)
fields_of line = map trimmed_text (ended_parts comma line)

-- the first of the fields; empty if there is none
abbrev pub first_field : List (List ℕ) → List ℕ
first_field [] = []
first_field (x ∷ xs) = x

-- the fields after the first
abbrev pub other_fields : List (List ℕ) → List (List ℕ)
other_fields [] = []
other_fields (x ∷ xs) = xs

-- no field is left
abbrev pub end_of_fields : List (List ℕ) → Result (Unit {0}) FaultKind
end_of_fields [] = Ok tt
end_of_fields (x ∷ xs) = Err StrayText
