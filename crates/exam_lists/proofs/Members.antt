-- What a list contains.
use Rattle.std.proofs.lemmas.Grind.{common_steps}
use Rattle.std.proofs.Common.{Bool, Contains, List, [], ap, arith, cond, false, filter, inl, inr, length, refl, subst, suc, true, ◌<◌, ◌∷◌, ◌≡◌, ◌⊎◌}

pub contains_head : {X : Type 0} (x : X) (xs : List X) → Contains (x ∷ xs) x
contains_head x xs = (0, omega arith, refl)

pub contains_later : {X : Type 0} (x : X) (xs : List X) (y : X) → Contains xs y
    → Contains (x ∷ xs) y
contains_later x xs y h = (suc h.0, omega (arith, h.1), h.2)

pub none_in_nil : {X : Type 0} {y : X} → Contains [] y → ⊥
none_in_nil h = omega (arith, h.1)

pub not_in_nil : {X : Type 0} (xs : List X) (x : X) → xs ≡ [] → Contains xs x → ⊥
not_in_nil xs x none h = let l : h.0 < length xs = h.1 in let e = ap length none in omega arith

-- an element is the first one or a later one
pub first_or_later : {X : Type 0} (x : X) (xs : List X) (y : X) → Contains (x ∷ xs) y
    → (x ≡ y) ⊎ Contains xs y
first_or_later {X} x xs y h = grind (arith, common_steps)

-- an element that passes a test
pub contains_filter : {X : Type 0} (t : X → Bool) (xs : List X) (x : X) → Contains xs x → t x ≡ true
    → Contains (filter t xs) x
contains_filter t [] x h k = h
contains_filter {X} t (y ∷ ys) x h k = go (t y) refl (contains_filter t ys x)
  where
    go : (b : Bool) → t y ≡ b → (Contains ys x → t x ≡ true → Contains (filter t ys) x)
        → Contains (cond b (y ∷ filter t ys) (filter t ys)) x
    go true e more = elim (first_or_later y ys x h) as (λ _. Contains (y ∷ filter t ys) x) [
      | inl same ↦ subst (Contains (y ∷ filter t ys)) same (contains_head y (filter t ys))
      | inr later ↦ contains_later y (filter t ys) x (more later k)
    ]
    go false e more = grind (arith, common_steps, first_or_later)
