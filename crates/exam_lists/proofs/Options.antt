-- Values that may be missing.
use Rattle.std.proofs.Common.{List, None, Option, Some, false, refl, subst, sym, ◌++◌, ◌∙◌, ◌≡◌}
use Rattle.std.specs.List.{AllByRecursion, cons_option}
use Rattle.std.specs.Option.{option_or}
use Rattle.std.specs.Prelude.{IfSome, is_some, option_and_then, option_map}

pub option_or_none : {X : Type 0} (o : Option X) → option_or o None ≡ o
option_or_none None = refl
option_or_none (Some x) = refl

-- a fact of a value's image
pub IfSome_map : {A B : Type 0} (P : A → Type 0) (Q : B → Type 0) (f : A → B) (o : Option A)
    → IfSome o P → ((x : A) → P x → Q (f x)) → IfSome (option_map f o) Q
IfSome_map P Q f None p more = tt
IfSome_map P Q f (Some x) p more = more x p

pub IfSome_and_then : {A B : Type 0} (P : A → Type 0) (Q : B → Type 0) (f : A → Option B) (o : Option A)
    → IfSome o P → ((x : A) → P x → IfSome (f x) Q) → IfSome (option_and_then f o) Q
IfSome_and_then P Q f None p more = tt
IfSome_and_then P Q f (Some x) p more = more x p

pub IfSome_any : {A : Type 0} (r : Option A) → IfSome r (λ x. Unit {0})
IfSome_any None = tt
IfSome_any (Some x) = tt

-- nothing is there
pub none_from_test : {X : Type 0} (o : Option X) → is_some o ≡ false → o ≡ None
none_from_test None e = refl
none_from_test (Some x) e = absurd cc

pub none_no_some : {X : Type 0} {x : X} {o : Option X} → o ≡ None → o ≡ Some x → ⊥
none_no_some none some = cc

-- a fact of a value that is as another one
pub IfSome_of_same : {A : Type 0} (P : A → Type 0) (o : Option A) (x y : A)
    → IfSome o (λ z. z ≡ x) → y ≡ x → P y → IfSome o P
IfSome_of_same P None x y same is holds = tt
IfSome_of_same P (Some z) x y same is holds = subst P (is ∙ sym same) holds

pub is_some-map : {X Y : Type 0} (f : X → Y) (x : Option X) → is_some (option_map f x) ≡ is_some x
is_some-map f None = refl
is_some-map f (Some x) = refl

-- ---- a value in front of a list, if it is there

pub cons_option-append : {Y : Type 0} (o : Option Y) (xs ys : List Y)
    → cons_option o (xs ++ ys) ≡ cons_option o xs ++ ys
cons_option-append None xs ys = refl
cons_option-append (Some y) xs ys = refl

pub each_cons_option : {Y : Type 0} (P : Y → Type 0) (o : Option Y) (ys : List Y) → IfSome o P
    → AllByRecursion P ys → AllByRecursion P (cons_option o ys)
each_cons_option P None ys h all = all
each_cons_option P (Some y) ys h all = (h, all)

pub each_of_cons_option : {Y : Type 0} (P : Y → Type 0) (o : Option Y) (ys : List Y)
    → AllByRecursion P (cons_option o ys) → IfSome o P × AllByRecursion P ys
each_of_cons_option P None ys all = (tt, all)
each_of_cons_option P (Some y) ys all = all
