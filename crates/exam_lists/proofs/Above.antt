-- Numbers that are all above another one.
use Rattle.std.proofs.Common.{List, length, ℕ, ◌<◌, arith, suc, zero, ◌∷◌}
use Rattle.std.specs.Prelude.{slice_index}

-- every member is greater than x
abbrev pub Above : ℕ → List ℕ → Type 0
Above x xs = (k : ℕ) → k < length xs → x < slice_index xs k

pub above_cons : (x y : ℕ) (ys : List ℕ) → x < y → Above x ys → Above x (y ∷ ys)
above_cons x y ys lt above zero within = lt
above_cons x y ys lt above (suc k) within = above k (omega arith)

pub above_tail : (x y : ℕ) (ys : List ℕ) → Above x (y ∷ ys) → Above x ys
above_tail x y ys above k within = above (suc k) (omega arith)

pub above_less : (x y : ℕ) (ys : List ℕ) → x < y → Above y ys → Above x ys
above_less x y ys lt above k within = omega (arith, above k within)
