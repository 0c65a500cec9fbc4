-- The first exam without a place, and the meaning of a refusal.
use Rattle.std.proofs.lemmas.Grind.{common_steps}
use Rattle.std.proofs.Common.{◌≡◌, ℕ, ◌<◌, ◌≤◌, not, Option, Some, None, length, refl, sym, ap, arith, lt-ltb, le-ltb, rules, IsSome, is_none}
use Rattle.std.specs.List.{position_or_len}
use Rattle.std.proofs.lemmas.Bool.{cases_lt, not-false}
use Rattle.std.proofs.lemmas.Option.{none-some}
use Rattle.std.proofs.lemmas.List.Sums.{position_or_len_is, fails_before_first}
use Rattle.exam_model.specs.Timetable.{Placing, place_of, IsFirstUnplaced}
use Rattle.exam_rules.specs.declared.breach.Breach.{Breach}
use Rattle.exam_publish.specs.declared.fault.PublishFault.TheVariants.{Broken, Unplaced}
use Rattle.exam_publish.specs.Permit.{first_unplaced, publish_fault}

first_is : (T : Placing) (e : ℕ) → e ≤ length T → ((k : ℕ) → k < e → IsSome (place_of T k))
    → (e < length T → place_of T e ≡ None) → position_or_len is_none T ≡ e
first_is T e within below here =
    position_or_len_is is_none T e None within (λ k l. ap not (below k l))
    (λ l. ap is_none (here l))

-- each exam has a place
pub none_unplaced : (T : Placing) → ((e : ℕ) → e < length T → IsSome (place_of T e))
    → first_unplaced T ≡ None
none_unplaced T all = grind (arith, common_steps, first_is, le-ltb)

-- some exam has no place
pub some_unplaced : (T : Placing) (e : ℕ) → IsFirstUnplaced T e → first_unplaced T ≡ Some e
some_unplaced T e h = search (rules, first_is, lt-ltb)

pub all_placed : (T : Placing) → first_unplaced T ≡ None → (e : ℕ) → e < length T
    → IsSome (place_of T e)
all_placed T none e within = grind (arith, common_steps, cases_lt, none-some, lt-ltb, not-false, fails_before_first)

-- without a refusal each exam has a place and no rule is broken
pub neither : (e : Option ℕ) (b : Option Breach) → publish_fault e b ≡ None
    → (e ≡ None) × (b ≡ None)
neither None None h = (refl, refl)
neither None (Some b) h = absurd (none-some (Broken b) (sym h))
neither (Some e) b h = absurd (none-some (Unplaced e) (sym h))
