-- The values of a function along a list, and its lists one after the other.
use Rattle.std.proofs.lemmas.Grind.{common_steps}
use Rattle.std.proofs.Common.{List, [], ap, append_assoc, ap₂, arith, length, length-append, map, refl, suc-mul, sym, take, ℕ, ◌*◌, ◌++◌, ◌+◌, ◌∙◌, ◌∷◌, ◌≡◌, ◌≤◌, rules}
use Rattle.std.proofs.lemmas.List.{append-nil, flat_map_more, map-append, take_all, take_more}
use Rattle.std.proofs.lemmas.List.Concat.{flat_map-cons}
use Rattle.std.proofs.lemmas.Option.{get_or_from_slice_get, slice_get_within}
use Rattle.std.specs.List.{AllByRecursion, flat_map}
use Rattle.std.specs.Prelude.{Some, slice_get}

-- equal values
pub map_agree : {X Y : Type 0} (f g : X → Y) → ((x : X) → f x ≡ g x) → (xs : List X)
    → map f xs ≡ map g xs
map_agree f g same [] = refl
map_agree f g same (x ∷ xs) = ap₂ (λ y ys. y ∷ ys) (same x) (map_agree f g same xs)

pub map_agree_each : {X Y : Type 0} (f g : X → Y) (xs : List X) → AllByRecursion (λ x. f x ≡ g x) xs
    → map f xs ≡ map g xs
map_agree_each f g [] h = refl
map_agree_each f g (x ∷ xs) h = ap₂ (λ y ys. y ∷ ys) h.0 (map_agree_each f g xs h.1)

-- each value is its argument
pub map_same : {X : Type 0} (f : X → X) → ((x : X) → f x ≡ x) → (xs : List X) → map f xs ≡ xs
map_same f same [] = refl
map_same f same (x ∷ xs) = ap₂ (λ y ys. y ∷ ys) (same x) (map_same f same xs)

-- a function and one that undoes it
pub map_back : {X Y : Type 0} (put : X → Y) (row : Y → X) → ((x : X) → row (put x) ≡ x)
    → (xs : List X) → map row (map put xs) ≡ xs
map_back put row is [] = refl
map_back {X} put row is (x ∷ xs) = grind (arith, common_steps, map_back put row is xs)

pub map_to_nil : {A B : Type 0} (f : A → B) (xs : List A) → map f xs ≡ [] → xs ≡ []
map_to_nil f [] e = refl
map_to_nil f (x ∷ xs) e = absurd cc

-- a function of values, and of the elements of lists
pub map-map : {X Y Z : Type 0} (g : Y → Z) (f : X → Y) (xs : List X)
    → map g (map f xs) ≡ map (λ x. g (f x)) xs
map-map g f [] = refl
map-map g f (x ∷ xs) = ap (λ ys. g (f x) ∷ ys) (map-map g f xs)

pub map-flat_map : {X Y Z : Type 0} (g : Y → Z) (f : X → List Y) (xs : List X)
    → map g (flat_map f xs) ≡ flat_map (λ x. map g (f x)) xs
map-flat_map g f [] = refl
map-flat_map g f (x ∷ xs) =
    map-append g (f x) (flat_map f xs) ∙ ap (λ ys. map g (f x) ++ ys) (map-flat_map g f xs)

pub flat_map_push : {X Y : Type 0} (f : X → List Y) (xs : List X) (x : X)
    → flat_map f (xs ++ x ∷ []) ≡ flat_map f xs ++ f x
flat_map_push f [] x = append-nil (f x)
flat_map_push f (y ∷ ys) x =
    ap (λ l. f y ++ l) (flat_map_push f ys x) ∙ sym (append_assoc (f y) (flat_map f ys) (f x))

-- lists of at most k elements each
pub length_flat_map-le : {X Y : Type 0} (f : X → List Y) (k : ℕ) (xs : List X)
    → AllByRecursion (λ x. length (f x) ≤ k) xs → length (flat_map f xs) ≤ length xs * k
length_flat_map-le f k [] short = omega arith
length_flat_map-le f k (x ∷ xs) short =
    search (rules, length_flat_map-le f k xs short.1, flat_map-cons, length-append, suc-mul)

-- the lists of the first elements, with one more
pub flat_map_take_more : {X Y : Type 0} (f : X → List Y) (start t t' : List Y) (xs : List X) (i : ℕ)
    (x : X)
    → slice_get xs i ≡ Some x → t ≡ start ++ flat_map f (take i xs) → t' ≡ t ++ f x
    → t' ≡ start ++ flat_map f (take (i + 1) xs)
flat_map_take_more f start t t' xs i x at was now =
    let more : take (i + 1) xs ≡ take i xs ++ x ∷ []
    = take_more xs i x (slice_get_within xs i x at)
    ∙ ap (λ y. take i xs ++ y ∷ []) (get_or_from_slice_get xs i x x at) in
    now ∙ ap (λ u. u ++ f x) was ∙ flat_map_more f start (take i xs) x
    ∙ ap (λ ys. start ++ flat_map f ys) (sym more)

-- and all of them
pub flat_map_take_all : {X Y : Type 0} (f : X → List Y) (s head t : List Y) (xs : List X) (n : ℕ)
    → length xs ≤ n → t ≡ (s ++ head) ++ flat_map f (take n xs)
    → t ≡ s ++ (head ++ flat_map f xs)
flat_map_take_all f s head t xs n all is = grind (arith, common_steps, append_assoc, take_all)

-- equal images are of equal elements, if an element is read back from its image
pub same_unmapped : {X Y : Type 0} (put : X → Y) (row : Y → X) → ((x : X) → row (put x) ≡ x)
    → (xs ys : List X) → map put xs ≡ map put ys → xs ≡ ys
same_unmapped put row back xs ys same =
    sym (map_back put row back xs) ∙ ap (map row) same ∙ map_back put row back ys
