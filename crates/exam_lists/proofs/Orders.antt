-- Orders of numbers and of pairs.
use Rattle.std.proofs.Common.{arith, is_lt, eqb, not, ℕ, ◌&&◌, ◌≡◌, Less, nat_cmp, ◌<◌, Ordering, ◌⊎◌, Equal, is_eq, refl, true, Greater, [], ◌∷◌, rules}
use Rattle.std.proofs.lemmas.Bool.Decides.{nat_tests}
use Rattle.std.specs.Ordering.{ordering_then}
use Rattle.std.proofs.lemmas.Cmp.{nat_cmp_total, on_total, then_total}
use Rattle.std.specs.Cmp.{IsTotalOrder}
use Rattle.std.specs.Cmp.Lexicographic.{slice_cmp}

pub neither_less : (s t : ℕ) → (not (is_lt (nat_cmp s t)) && not (is_lt (nat_cmp t s))) ≡ eqb t s
neither_less s t = grind (arith, nat_tests)

-- by one number
pub less_from_lt : (m n : ℕ) → m < n → nat_cmp m n ≡ Less
less_from_lt m n h = grind (arith, nat_tests)

-- by two numbers
abbrev pub pair_cmp : ℕ × ℕ → ℕ × ℕ → Ordering
pair_cmp x y = ordering_then (nat_cmp x.0 y.0) (nat_cmp x.1 y.1)

pub pair_total : IsTotalOrder pair_cmp
pair_total = search (rules, nat_cmp_total, on_total, then_total)

-- a smaller first number, or the same and a smaller second one
abbrev pub PairBefore : ℕ × ℕ → ℕ × ℕ → Type 0
PairBefore x y = (x.0 < y.0) ⊎ ((x.0 ≡ y.0) × (x.1 < y.1))

pub pair_less : (x y : ℕ × ℕ) → PairBefore x y → pair_cmp x y ≡ Less
pair_less x y h = grind (arith, nat_tests, h)

pub equal_from_test : (o : Ordering) → is_eq o ≡ true → o ≡ Equal
equal_from_test Equal h = refl
equal_from_test _ h = absurd (cc)

pub then_equal : (o : Ordering) → ordering_then o Equal ≡ o
then_equal Less = refl
then_equal Equal = refl
then_equal Greater = refl

pub single_less : (a b : ℕ) → a < b → slice_cmp nat_cmp (a ∷ []) (b ∷ []) ≡ Less
single_less a b low = grind (arith, nat_tests)
