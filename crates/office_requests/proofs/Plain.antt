-- Patterns in which each number ends its segment.
use Rattle.std.proofs.Common.{◌≡◌, ◌<◌, ◌⊎◌, ℕ, List, [], ◌∷◌, true}
use Rattle.matchit.specs.Rows.{RowsOf, param_token}
use Rattle.matchit.specs.Seek.{slash}
use Rattle.office_requests.specs.Patterns.{is_match}
use Rattle.office_requests.specs.Pages.{IsIn}

-- none of the rows takes the path
abbrev pub FindsNone : {K : Type 0} → RowsOf K → List ℕ → Type 0
FindsNone {K} rows path =
    (pattern : List ℕ) (k : K) → IsIn pattern k rows → is_match pattern path ≡ true → ⊥

-- the rest begins with a slash, or is nothing
abbrev pub EndsSegment : List ℕ → Type 0
EndsSegment [] = Unit {0}
EndsSegment (x ∷ rest) = x ≡ slash

-- a number ends its segment, and no parameter takes the whole rest
abbrev pub IsPlain : List ℕ → Type 0
IsPlain [] = Unit {0}
IsPlain (x ∷ rest) = ((x < param_token) ⊎ ((x ≡ param_token) × EndsSegment rest)) × IsPlain rest

abbrev pub ArePlain : {K : Type 0} → RowsOf K → Type 0
ArePlain [] = Unit {0}
ArePlain (row ∷ rows) = IsPlain row.0 × ArePlain rows
