-- The numbers that clap reads.
use Rattle.std.proofs.Common.{◌≡◌, ℕ, Option, None, Some, Result, Ok, refl, subst, sym, ◌∙◌}
use Rattle.std.specs.Str.Parse.{IsNumeral, ParsesUnsigned, digits_value, without_leading_plus}
use Rattle.clap.specs.Words.{Text}
use Rattle.clap.specs.Matches.{ReadsOne}

-- a number that was read is the one that the text spells
pub read_number : {E : Type 0} (CommandResult : Text → Result ℕ E → Type 0) (bits : ℕ)
    → ((t : Text) (r : Result ℕ E) → CommandResult t r → ParsesUnsigned bits 10 t r)
    → (found : Option Text) (read : Option ℕ) → (found ≡ None → read ≡ None)
    → ((t : Text) → found ≡ Some t → ReadsOne CommandResult t read) → (n : ℕ) → read ≡ Some n
    → (t : Text) × (found ≡ Some t) × IsNumeral 10 (without_leading_plus t)
    × (n ≡ digits_value 10 (without_leading_plus t))
read_number CommandResult bits parses None read none value n is =
    let never : None ≡ Some n = sym (none refl) ∙ is in cc
read_number CommandResult bits parses (Some t) read none value n is =
    let parsed = parses t (Ok n) (subst (ReadsOne CommandResult t) is (value t refl)) in
    (t, refl, parsed.0.0, parsed.1)
