-- The values of bodies: texts as they are, and JSON objects with exactly the required keys.
use Rattle.std.specs.Prelude.{ℕ, ◌+◌, ◌==◌, nat_le, nat_lt, if◌then◌else◌, List, length, codes}
use Rattle.std.specs.Prelude.{Option, Some, None, option_and_then, option_map}
use Rattle.std.specs.Str.{is_utf8}
use Rattle.serde_json.specs.Data.{Data, Members, no_members, member}
use Rattle.serde_json.specs.Read.{read}
use Rattle.serde_json.specs.Find.{get, as_number, as_u64, as_object}
use Rattle.exam_terms.specs.declared.limits.TheConstants.{MAX_NUMBER, MAX_DEPARTMENT, TEXT_BYTES}
use Rattle.exam_terms.specs.declared.place.Place.{Place}
use Rattle.office_policy.specs.declared.command.Body.{Body}
use Rattle.office_policy.specs.declared.command.Body.TheVariants.{Given, Bad, Long}

-- the JSON that the bytes are
abbrev pub json_in : List ℕ → Option Data
json_in bytes = if is_utf8 bytes then read bytes else None

-- the number of members in a row
abbrev pub count : Members → ℕ
count no_members = 0
count (member k d ms) = count ms + 1

-- the number of members of an object
abbrev pub members_count : Data → Option ℕ
members_count d = option_map count (as_object d)

-- a number that is not above another
abbrev pub at_most : ℕ → ℕ → Option ℕ
at_most most n = if nat_le n most then Some n else None

-- the number under a key, if it is a whole one of at most this much
abbrev pub number_at : List ℕ → ℕ → Data → Option ℕ
number_at key most d =
    option_and_then (at_most most)
    (option_and_then as_u64 (option_and_then as_number (get key d)))

-- the value of an object with this many members
abbrev pub of_members : {A : Type 0} → ℕ → Option A → Data → Option A
of_members size value d =
    option_and_then (λ n. if n == size then value else None) (members_count d)

-- an object with exactly the members period and room
abbrev pub place_in : Data → Option Place
place_in d =
    of_members 2
    (option_and_then (λ p. option_map (λ r. record { period = p; room = r })
    (number_at (codes "room") MAX_NUMBER d)) (number_at (codes "period") MAX_NUMBER d)) d

-- an object with exactly the member dept
abbrev pub dept_in : Data → Option ℕ
dept_in d = of_members 1 (number_at (codes "dept") MAX_DEPARTMENT d) d

-- the value found; without one, the body is bad
abbrev pub value_or_bad : {A : Type 0} → Option A → Body A
value_or_bad (Some x) = Given x
value_or_bad None = Bad

-- a body with more bytes than a text may have is too long, whatever its value
abbrev pub unless_long : {A : Type 0} → List ℕ → Body A → Body A
unless_long bytes body = if nat_lt TEXT_BYTES (length bytes) then Long else body

-- a body that is taken unchanged
abbrev pub text_body : List ℕ → Body (List ℕ)
text_body text = unless_long text (Given text)

-- a body with a place
abbrev pub place_body : List ℕ → Body Place
place_body bytes = unless_long bytes (value_or_bad (option_and_then place_in (json_in bytes)))

-- a body with a department
abbrev pub dept_body : List ℕ → Body ℕ
dept_body bytes = unless_long bytes (value_or_bad (option_and_then dept_in (json_in bytes)))
