-- A fact of each element, along a list.
use Rattle.std.proofs.lemmas.Grind.{common_steps}
use Rattle.std.proofs.Common.{Bool, List, Option, [], cond, false, filter, filter_map, map, refl, suc, take, true, zero, ℕ, ◌++◌, ◌∷◌, ◌≡◌, arith}
use Rattle.std.proofs.lemmas.List.Elements.{recursion_from_All}
use Rattle.std.specs.List.{AllByRecursion}
use Rattle.std.specs.Prelude.{All, IfSome}

-- a weaker fact
pub each_weaker : {X : Type 0} (P Q : X → Type 0) → ((x : X) → P x → Q x) → (xs : List X)
    → AllByRecursion P xs → AllByRecursion Q xs
each_weaker P Q h [] a = tt
each_weaker P Q h (x ∷ xs) a = (h x a.0, each_weaker P Q h xs a.1)

-- a fact of every value
pub each_all : {X : Type 0} (P : X → Type 0) → ((x : X) → P x) → (xs : List X) → AllByRecursion P xs
each_all P h [] = tt
each_all P h (x ∷ xs) = (h x, each_all P h xs)

-- two facts
pub each_both : {X : Type 0} (P Q : X → Type 0) (xs : List X) → AllByRecursion P xs
    → AllByRecursion Q xs → AllByRecursion (λ x. P x × Q x) xs
each_both P Q [] a b = tt
each_both P Q (x ∷ xs) a b = ((a.0, b.0), each_both P Q xs a.1 b.1)

-- of the elements of two lists, one after the other
pub each_append : {X : Type 0} (P : X → Type 0) (xs ys : List X)
    → AllByRecursion P xs → AllByRecursion P ys → AllByRecursion P (xs ++ ys)
each_append P [] ys h k = k
each_append P (x ∷ xs) ys h k = (h.0, each_append P xs ys h.1 k)

pub each_append_right : {X : Type 0} (P : X → Type 0) (xs ys : List X) → AllByRecursion P (xs ++ ys)
    → AllByRecursion P ys
each_append_right P [] ys h = h
each_append_right P (x ∷ xs) ys h = each_append_right P xs ys h.1

pub each_append_parts : {X : Type 0} (P : X → Type 0) (xs ys : List X) → AllByRecursion P (xs ++ ys)
    → AllByRecursion P xs × AllByRecursion P ys
each_append_parts P [] ys h = (tt, h)
each_append_parts P (x ∷ xs) ys h = grind (arith, common_steps, each_append_parts P xs ys h.1)

pub each_push : {X : Type 0} (P : X → Type 0) (xs : List X) (y : X) → AllByRecursion P xs → P y
    → AllByRecursion P (xs ++ y ∷ [])
each_push P [] y h k = (k, tt)
each_push P (x ∷ xs) y h k = (h.0, each_push P xs y h.1 k)

-- an element with others before and after it
pub each_at_middle : {X : Type 0} (P : X → Type 0) (xs : List X) (x : X) (ys : List X)
    → AllByRecursion P (xs ++ x ∷ ys) → P x
each_at_middle P [] x ys all = all.0
each_at_middle P (y ∷ xs) x ys all = each_at_middle P xs x ys all.1

pub each_take : {X : Type 0} (P : X → Type 0) (n : ℕ) (xs : List X) → AllByRecursion P xs
    → AllByRecursion P (take n xs)
each_take P zero xs h = tt
each_take P (suc n) [] h = tt
each_take P (suc n) (x ∷ xs) h = (h.0, each_take P n xs h.1)

-- of the values of a function
pub each_map : {X Y : Type 0} (P : Y → Type 0) (f : X → Y) (xs : List X)
    → AllByRecursion (λ x. P (f x)) xs → AllByRecursion P (map f xs)
each_map P f [] h = tt
each_map P f (x ∷ xs) h = (h.0, each_map P f xs h.1)

pub each_unmap : {X Y : Type 0} (P : Y → Type 0) (f : X → Y) (xs : List X) → AllByRecursion P (map f xs)
    → AllByRecursion (λ x. P (f x)) xs
each_unmap P f [] h = tt
each_unmap P f (x ∷ xs) h = (h.0, each_unmap P f xs h.1)

-- of the elements that pass a test
pub each_filter : {X : Type 0} (P : X → Type 0) (t : X → Bool) (xs : List X) → AllByRecursion P xs
    → AllByRecursion P (filter t xs)
each_filter P t [] a = tt
each_filter P t (x ∷ xs) a = grind (arith, common_steps, each_filter P t xs a.1)

pub each_filter_passes : {X : Type 0} (t : X → Bool) (xs : List X)
    → AllByRecursion (λ x. t x ≡ true) (filter t xs)
each_filter_passes t [] = tt
each_filter_passes {X} t (x ∷ xs) = grind (arith, common_steps, each_filter_passes t xs)

pub each_filter_weaker : {X : Type 0} (P Q : X → Type 0) (t : X → Bool)
    → ((x : X) → P x → t x ≡ true → Q x) → (xs : List X) → AllByRecursion P xs → AllByRecursion Q (filter t xs)
each_filter_weaker P Q t h [] a = tt
each_filter_weaker {X} P Q t h (x ∷ xs) a =
    grind (arith, common_steps, each_filter_weaker P Q t h xs a.1)

pub each_from_filter : {X : Type 0} (P : X → Type 0) (q : X → Bool) (xs : List X)
    → AllByRecursion P (filter q xs) → AllByRecursion (λ x. q x ≡ true → P x) xs
each_from_filter P q [] all = tt
each_from_filter {X} P q (x ∷ xs) all = grind (arith, common_steps, each_from_filter P q xs)

-- if no element passes, a fact of those that fail
pub each_none_pass : {X : Type 0} (p : X → Bool) (P Q : X → Type 0) → ((x : X) → P x → p x ≡ false → Q x)
    → (xs : List X) → filter p xs ≡ [] → AllByRecursion P xs → AllByRecursion Q xs
each_none_pass p P Q h [] e a = tt
each_none_pass p P Q h (x ∷ xs) e a = go (p x) refl e (λ rest. each_none_pass p P Q h xs rest a.1)
  where
    go : (b : Bool) → p x ≡ b → cond b (x ∷ filter p xs) (filter p xs) ≡ []
        → (filter p xs ≡ [] → AllByRecursion Q xs) → AllByRecursion Q (x ∷ xs)
    go true f none more = absurd cc
    go false f none more = (h x a.0 f, more none)

pub each_filter_map : {X Y : Type 0} (P : Y → Type 0) (f : X → Option Y) (xs : List X)
    → AllByRecursion (λ x. IfSome (f x) P) xs → AllByRecursion P (filter_map f xs)
each_filter_map P f [] h = tt
each_filter_map P f (x ∷ xs) h = grind (arith, common_steps, each_filter_map P f xs h.1)

-- by index, and along the list
pub each_from_All : {X : Type 0} (P Q : X → Type 0) → ((x : X) → P x → Q x) → (xs : List X) → All P xs
    → AllByRecursion Q xs
each_from_All P Q weaker xs all = each_weaker P Q weaker xs (recursion_from_All P xs all)
