-- Lists taken apart and put together.
use Rattle.std.proofs.lemmas.Grind.{common_steps}
use Rattle.std.proofs.Common.{Bool, List, [], add-one, ap, append_assoc, arith, drop, false, get_or, length, length-append, length-drop, refl, reverse, suc, sym, take, take-append-drop, true, zero, ℕ, ◌++◌, ◌+◌, ◌-◌, ◌<◌, ◌∙◌, ◌∷◌, ◌≡◌, ◌≤◌, nat_eq, true≢false, cond}
use Rattle.std.proofs.Math.Seq.{take-append_seam, drop-append_seam}
use Rattle.std.proofs.lemmas.Bool.Decides.{Decides-eqb}
use Rattle.std.proofs.lemmas.List.{reverse-append, take_all}
use Rattle.std.proofs.lemmas.Slice.Eq.{ends_is}
use Rattle.std.specs.List.{ends_with, onto_first, repeat}
use Rattle.std.specs.Prelude.{if◌then◌else◌, All, replicate}
use Rattle.std.proofs.lemmas.List.Elements.{All-cons, All-head, All-nil, All-tail}
use Rattle.std.specs.Cmp.Lexicographic.{pointwise}

-- after the first of the elements left is the rest
pub drop_next : {A : Type 0} (xs : List A) (n : ℕ) (y : A) (ys : List A) → drop n xs ≡ y ∷ ys →
    drop (n + 1) xs ≡ ys
drop_next [] zero y ys e = cc
drop_next [] (suc n) y ys e = cc
drop_next (x ∷ xs) zero y ys e = cc
drop_next (x ∷ xs) (suc n) y ys e = rw (add-one (suc n)) (rw (add-one n) at (drop_next xs n y ys e))

-- the rest of a list begins with the element at that index
pub drop_at_head : {X : Type 0} (xs : List X) (i : ℕ) (y d : X) (ys : List X) → drop i xs ≡ y ∷ ys
    → (i < length xs) × (get_or xs i d ≡ y)
drop_at_head [] zero y d ys e = absurd cc
drop_at_head [] (suc i) y d ys e = absurd cc
drop_at_head (x ∷ xs) zero y d ys e = (omega arith, cc)
drop_at_head (x ∷ xs) (suc i) y d ys e =
    let next = drop_at_head xs i y d ys e in (omega arith, next.1)

-- a list without its end
pub take_front : {X : Type 0} (front q : List X) (n : ℕ) → n ≡ length q
    → take (length (front ++ q) - n) (front ++ q) ≡ front
take_front front q n same = grind (arith, common_steps, length-append, take-append_seam)

-- a list with an element has a last one
pub last_of : {X : Type 0} (x : X) (xs : List X)
    → (front : List X) × (last : X) × (x ∷ xs ≡ front ++ last ∷ [])
last_of x [] = ([], x, refl)
last_of {X} x (y ∷ xs) =
    let rest = last_of y xs in (x ∷ rest.0, rest.1, ap (λ (l : List X). x ∷ l) rest.2)

pub nil_no_append : {X : Type 0} (xs : List X) (y : X) (ys : List X) → [] ≡ xs ++ y ∷ ys → ⊥
nil_no_append xs y ys e = omega (arith, ap length e, length-append xs (y ∷ ys))

-- the first part grows by the first n elements of the rest
pub append_take_more : {X : Type 0} (all first rest : List X) (n : ℕ) → all ≡ first ++ rest
    → all ≡ (first ++ take n rest) ++ take (length rest - n) (drop n rest)
append_take_more {X} all first rest n e =
    grind (arith, common_steps, append_assoc, length-drop, take-append-drop, take_all)

pub length_append_some : {X : Type 0} (xs ys : List X) → 0 < length ys → 0 < length (xs ++ ys)
length_append_some [] ys some = some
length_append_some (x ∷ xs) ys some = omega arith

-- one of two lists isn't longer than the longer one
pub length_choice-le : {X : Type 0} (b : Bool) (xs ys : List X) → length xs ≤ length ys
    → length (if b then xs else ys) ≤ length ys
length_choice-le true xs ys le = le
length_choice-le false xs ys le = omega arith

-- an element that comes before others comes last in their reverse
pub reverse_cons_append : {X : Type 0} (x : X) (xs ys : List X)
    → reverse xs ++ (x ∷ ys) ≡ reverse (x ∷ xs) ++ ys
reverse_cons_append x xs ys = grind (arith, common_steps, append_assoc, reverse-append)

-- an element put onto the first list
pub some_onto_first : {X : Type 0} (b : X) (xs : List (List X)) → 0 < length (onto_first b xs)
some_onto_first b [] = omega arith
some_onto_first b (x ∷ xs) = omega arith

pub length_onto_first-le : {X : Type 0} (b : X) (xs : List (List X))
    → length (onto_first b xs) ≤ length xs + 1
length_onto_first-le b [] = omega arith
length_onto_first-le b (x ∷ xs) = omega arith

pub same_head : {X : Type 0} {x y : X} {xs ys : List X} → x ∷ xs ≡ y ∷ ys → x ≡ y
same_head e = cc

-- a list that ends with another
pub ends_with_take : (xs p : List ℕ) → ends_with nat_eq xs p ≡ true
    → xs ≡ take (length xs - length p) xs ++ p
ends_with_take xs p e = (ends_is Decides-eqb xs p (ends_with nat_eq xs p) refl).0 e

pub ends_with_append : (front p : List ℕ) → ends_with nat_eq (front ++ p) p ≡ true
ends_with_append front p =
    (ends_is Decides-eqb (front ++ p) p (ends_with nat_eq (front ++ p) p) refl).1 front refl

-- a fact of all elements of two lists, one after the other
pub All-append_left : {X : Type 0} (P : X → Type 0) (xs ys : List X) → All P (xs ++ ys) → All P xs
All-append_left P [] ys all = All-nil P
All-append_left P (x ∷ xs) ys all =
    All-cons P x xs (All-head P x (xs ++ ys) all)
    (All-append_left P xs ys (All-tail P x (xs ++ ys) all))

pub All-append_right : {X : Type 0} (P : X → Type 0) (xs ys : List X) → All P (xs ++ ys) → All P ys
All-append_right P [] ys all = all
All-append_right P (x ∷ xs) ys all = All-append_right P xs ys (All-tail P x (xs ++ ys) all)

-- a list of one element, repeated
pub repeat_one : {X : Type 0} (x : X) (n : ℕ) → repeat n (x ∷ []) ≡ replicate n x
repeat_one x zero = refl
repeat_one {X} x (suc n) = ap (λ (xs : List X). x ∷ xs) (repeat_one x n)

pub drop_within : {X : Type 0} (source : List X) (at : ℕ) (b : X) (xs : List X)
    → drop at source ≡ b ∷ xs → at < length source
drop_within source at b xs e = let len = ap length e in omega (arith, length-drop at source)

-- the source has the text from this index on
pub record Lies (source : List ℕ) (start : ℕ) (text : List ℕ) : Type 0 where
  pub within : start ≤ length source
  pub tail : List ℕ
  pub here : drop start source ≡ text ++ tail

pub lies_front : (source : List ℕ) (start : ℕ) (text xs ys : List ℕ) → text ≡ xs ++ ys →
    Lies source start text → Lies source start xs
lies_front source start text xs ys e l = record {
  within = l.within;
  tail = ys ++ l.tail;
  here = l.here ∙ ap (λ (t : List ℕ). t ++ l.tail) e ∙ append_assoc xs ys l.tail;
}

pub lies_next : (source : List ℕ) (start b : ℕ) (bs : List ℕ) → Lies source start (b ∷ bs) →
    Lies source (start + 1) bs
lies_next source start b bs l =
    let inside = drop_within source start b (bs ++ l.tail) l.here in
    record {
      within = omega arith;
      tail = l.tail;
      here = drop_next source start b (bs ++ l.tail) l.here;
    }

-- the length of these parts, each with the byte after it
abbrev pub extent : {X : Type 0} → List (List X) → ℕ
extent [] = 0
extent (x ∷ xs) = length x + 1 + extent xs

pub extent_onto : {X : Type 0} (b : X) (xs : List (List X)) (n : ℕ) → extent xs ≤ n + 1 → (xs ≡ [] → 0 ≤ n) →
    extent (onto_first b xs) ≤ n + 2
extent_onto b [] n le e = omega arith
extent_onto b (x ∷ xs) n le e = omega arith

-- an empty list, and one that isn't
pub not_empty : {X : Type 0} (xs : List X) (is_known : Bool) → is_known ≡ nat_eq (length xs) 0
    → is_known ≡ false → xs ≡ [] → ⊥
not_empty xs is_known is untrue none =
    true≢false (sym (is ∙ ap (λ l. nat_eq (length l) 0) none) ∙ untrue)

-- a member of a list of at most one is the only one in it
pub append_only : {X : Type 0} (d x : X) (b : Bool) (xs ys : List X)
    → xs ++ x ∷ ys ≡ cond b [] (d ∷ []) → (xs ≡ []) × (x ≡ d) × (b ≡ false)
append_only d x true xs ys is =
    absurd (let long = ap length is in omega (arith, length-append xs (x ∷ ys)))
append_only d x false [] ys is = (refl, ap (λ l. get_or l 0 d) is, refl)
append_only d x false (z ∷ xs) ys is =
    absurd (let long = ap length is in omega (arith, length-append xs (x ∷ ys)))

-- the end of a text is compared with as many bytes
pub ends_with_same : (front p q : List ℕ) → length p ≡ length q
    → ends_with nat_eq (front ++ q) p ≡ pointwise nat_eq p q
ends_with_same front p q same = grind (arith, common_steps, drop-append_seam, length-append, nat_eq)
