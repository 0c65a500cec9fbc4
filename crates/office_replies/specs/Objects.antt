-- Small objects of JSON as texts.
use Rattle.std.specs.Prelude.{ℕ, ◌≤◌, ◌++◌, List, length, codes, decimal}
use Rattle.std.specs.List.{flat_map}
use Rattle.office_replies.specs.declared.objects.Member.{Member}
use Rattle.office_replies.specs.declared.objects.Value.{Value}
use Rattle.office_replies.specs.declared.objects.Value.TheVariants.{Number, Word}
use Rattle.office_replies.specs.declared.objects.TheConstants.{WORD_BYTES}

-- a key, and the text of its value
pub record PlainMember : Type 0 where
  pub key : List ℕ
  pub value : List ℕ

-- a word between quotes
abbrev pub quoted_word : List ℕ → List ℕ
quoted_word word = codes "\"" ++ word ++ codes "\""

-- a member that is a number, or a word
abbrev pub number : List ℕ → ℕ → PlainMember
number key n = record { key = key; value = decimal n }

-- a member whose value is a word in quotes
abbrev pub word : List ℕ → List ℕ → PlainMember
word key w = record { key = key; value = quoted_word w }

-- a member in JSON: its key in quotes, a colon, its value
unfoldable pub member_text : PlainMember → List ℕ
member_text m = quoted_word m.key ++ codes ":" ++ m.value

-- one more member, after a comma
abbrev pub further_text : PlainMember → List ℕ
further_text m = codes "," ++ member_text m

-- an object of these members, in this order
abbrev pub object_text : PlainMember → List PlainMember → List ℕ
object_text first others =
    codes "{" ++ member_text first ++ flat_map further_text others ++ codes "}"

-- ---- as the program holds them

-- a member's value, as text
abbrev pub value_text : Value → List ℕ
value_text (Number n) = decimal n
value_text (Word w) = quoted_word w.now

-- a member as lists of bytes
abbrev pub plain_member : Member → PlainMember
plain_member m = record { key = m.key.now; value = value_text m.value }

-- a short word
abbrev pub IsShortValue : Value → Type 0
IsShortValue (Number n) = Unit {0}
IsShortValue (Word w) = length w.now ≤ WORD_BYTES

-- a member whose key and word are short
pub record IsShort (m : Member) : Type 0 where
  pub key : length m.key.now ≤ WORD_BYTES
  pub value : IsShortValue m.value
