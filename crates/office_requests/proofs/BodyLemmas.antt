-- The entries of a map as an object, and bytes that are no JSON.
use Rattle.std.proofs.Common.{◌≡◌, ℕ, Bool, List, [], ◌∷◌, length, String}
use Rattle.std.proofs.Common.{Some, None, refl, arith, IsUtf8}
use Rattle.std.specs.declared.alloc.Global.{Global}
use Rattle.std.proofs.lemmas.Str.{IsUtf8-from_is_utf8, is_utf8-from_IsUtf8}
use Rattle.serde_json.specs.Data.{Data}
use Rattle.serde_json.specs.Read.{read}
use Rattle.serde_json.specs.View.{members_view}
use Rattle.serde_json.specs.declared.value.Value.{Value}
use Rattle.office_requests.specs.Bodies.{count, json_in}

-- as many members as entries
pub count_view : (ms : List (String Global × Value)) → count (members_view ms) ≡ length ms
count_view [] = refl
count_view (m ∷ ms) = omega (arith, count_view ms)

-- text that reads as a value is that JSON
pub json_of_text : (bytes : List ℕ) (d : Data) → IsUtf8 bytes → read bytes ≡ Some d →
    json_in bytes ≡ Some d
json_of_text bytes d text reads = rw (is_utf8-from_IsUtf8 bytes text) reads

-- bytes are no JSON if they have no reading as a text
pub json_of_none : (bytes : List ℕ) → (IsUtf8 bytes → read bytes ≡ None) → json_in bytes ≡ None
json_of_none bytes none = grind (arith, IsUtf8-from_is_utf8)
