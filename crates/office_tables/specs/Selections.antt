-- The order of the rows that readers return.
use Rattle.std.specs.Prelude.{◌≡◌, List, IsPermutation, None, Option, Some, Vec}
use Rattle.std.specs.List.{AllByRecursion}
use Rattle.std.specs.declared.alloc.Global.{Global}

-- if the rows can be put in this order, they are found in this order
abbrev pub IsInOrder : {R : Type 0} → (List R → Type 0) → List R → List R → Type 0
IsInOrder {R} order rows found =
    (ordered : List R) → IsPermutation rows ordered → order ordered → found ≡ ordered

-- the held rows are found, in this order if they can be put in it
pub record AreListed {R : Type 0} (order : List R → Type 0) (held found : List R) : Type 0 where
  pub rows : IsPermutation held found
  pub in_order : IsInOrder order held found

-- `Some`: the held rows are found so. `None`: one of them doesn't fit
abbrev pub AreListedIfFit : {R : Type 0} → (R → Type 0) → (List R → Type 0) → List R
    → Option (Vec R Global) → Type 0
AreListedIfFit fits order held (Some found) = AreListed order held found.items
AreListedIfFit fits order held None = AllByRecursion fits held → ⊥
