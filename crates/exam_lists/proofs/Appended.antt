-- Texts that are appended one after another.
use Rattle.std.proofs.lemmas.Grind.{common_steps}
use Rattle.std.proofs.Common.{List, [], ap, append-nil, append_assoc, length, length-append, ◌++◌, ◌+◌, ◌∙◌, ◌∷◌, ◌≡◌, arith}

-- one more text
pub appended : {X : Type 0} {s t u : List X} (xs : List X) → t ≡ s → u ≡ t ++ xs → u ≡ s ++ xs
appended xs first next = next ∙ ap (λ l. l ++ xs) first

-- two texts, one after another, are appended as one
pub appended_twice : {X : Type 0} {t u : List X} (s xs ys : List X) → t ≡ s ++ xs
    → u ≡ t ++ ys → u ≡ s ++ (xs ++ ys)
appended_twice s xs ys first next =
    next ∙ ap (λ l. l ++ ys) first ∙ append_assoc s xs ys

pub six_nested : {X : Type 0} (a b c d e f : List X)
    → a ++ b ++ c ++ d ++ e ++ f ≡ a ++ (b ++ (c ++ (d ++ (e ++ (f ++ [])))))
six_nested a b c d e f = rw (append-nil f) (simp append_assoc)

pub length_six : {X : Type 0} (a b c d e f : List X) → length (a ++ b ++ c ++ d ++ e ++ f)
    ≡ length a + length b + length c + length d + length e + length f
length_six a b c d e f = grind (arith, common_steps, length-append)

pub append_under_first : {X : Type 0} (a b c d e : List X)
    → (((a ++ b) ++ c) ++ d) ++ e ≡ a ++ (((b ++ c) ++ d) ++ e)
append_under_first a b c d e = simp append_assoc

pub append_nested : {X : Type 0} (a b c d : List X) → a ++ (b ++ (c ++ d)) ≡ ((a ++ b) ++ c) ++ d
append_nested a b c d = simp append_assoc

-- three texts with an element between them
append_between : {X : Type 0} (x : X) (a b c : List X)
    → a ++ (x ∷ (b ++ (x ∷ c))) ≡ a ++ (x ∷ []) ++ b ++ (x ∷ []) ++ c
append_between x a b c = simp append_assoc

-- the same, appended to an empty text
pub three_appended : {X : Type 0} (x : X) (empty a a2 b b2 c c2 : List X) → empty ≡ [] → a ≡ a2
    → b ≡ b2 → c ≡ c2
    → empty ++ (a ++ (x ∷ (b ++ (x ∷ c)))) ≡ a2 ++ (x ∷ []) ++ b2 ++ (x ∷ []) ++ c2
three_appended x empty a a2 b b2 c c2 none first second third =
    grind (arith, common_steps, append_between)

-- three texts with an element between them, one before and two after
pub append_around : {X : Type 0} (x : X) (a b c d e f : List X)
    → a ++ ((b ++ x ∷ (c ++ x ∷ d)) ++ (e ++ f)) ≡ ((((a ++ b) ++ x ∷ c) ++ x ∷ d) ++ e) ++ f
append_around {X} x a b c d e f = grind (arith, common_steps, append_assoc)
