-- Facts of an `Ok`, or of an `Err`.
use Rattle.std.proofs.lemmas.Grind.{common_steps}
use Rattle.std.proofs.Common.{Err, IfErr, IfOk, Ok, OnErr, OnOk, Result, refl, ◌≡◌, inl, inr, ◌⊎◌, arith}

-- what holds in any case holds after an error, or an `Ok`
pub OnErr_any : {T E P : Type 0} (r : Result T E) → P → OnErr r P
OnErr_any (Ok x) p = tt
OnErr_any (Err x) p = p

pub OnOk_any : {T E P : Type 0} (r : Result T E) → P → OnOk r P
OnOk_any (Ok x) p = p
OnOk_any (Err e) p = tt

-- a fact of every value
pub IfOk_any : {A F : Type 0} (P : A → Type 0) (m : Result A F) → ((x : A) → P x) → IfOk m P
IfOk_any P (Ok x) h = h x
IfOk_any P (Err f) h = tt

pub IfErr_any : {X E : Type 0} (r : Result X E) (P : E → Type 0) → ((e : E) → P e) → IfErr r P
IfErr_any (Ok x) P h = tt
IfErr_any (Err e) P h = h e

-- a fact of the value that it has
pub IfOk_given : {A F : Type 0} (P : A → Type 0) (m : Result A F) → ((x : A) → m ≡ Ok x → P x) → IfOk m P
IfOk_given P (Ok x) h = h x refl
IfOk_given P (Err f) h = tt

-- two facts give a third
pub IfOk_both : {A E : Type 0} (result : Result A E) (P Q T : A → Type 0)
    → ((a : A) → P a → Q a → T a) → IfOk result P → IfOk result Q → IfOk result T
IfOk_both (Ok a) P Q T follows p q = follows a p q
IfOk_both (Err e) P Q T follows p q = tt

pub IfErr_both : {A E : Type 0} (result : Result A E) (P Q T : E → Type 0)
    → ((e : E) → P e → Q e → T e) → IfErr result P → IfErr result Q → IfErr result T
IfErr_both (Ok a) P Q T follows p q = tt
IfErr_both (Err e) P Q T follows p q = follows e p q

pub IfOk_with_OnOk : {T E : Type 0} (r : Result T E) (Q : Type 0) (P R : T → Type 0) → OnOk r Q → IfOk r P
    → ((x : T) → Q → P x → R x) → IfOk r R
IfOk_with_OnOk (Ok x) Q P R q p f = f x q p
IfOk_with_OnOk (Err e) Q P R q p f = tt

pub OnOk_from_IfOk : {T E : Type 0} (r : Result T E) (P : T → Type 0) (Q : Type 0) → ((x : T) → P x → Q)
    → IfOk r P → OnOk r Q
OnOk_from_IfOk (Ok x) P Q f h = f x h
OnOk_from_IfOk (Err e) P Q f h = tt

-- a result has one value
pub ok_same : {A F : Type 0} (r : Result A F) (x y : A) → r ≡ Ok x → r ≡ Ok y → x ≡ y
ok_same r x y one other = cc

-- and one pair
pub same_pair : {A B F : Type 0} (r : Result (A × B) F) (x v : A) (y w : B) → r ≡ Ok (x, y) →
    r ≡ Ok (v, w) → (x ≡ v) × (y ≡ w)
same_pair r x v y w one other = grind (arith, common_steps, ok_same)

pub same_Ok : {B E : Type 0} {a b : B} → ◌≡◌ {A = Result B E} (Ok a) (Ok b) → a ≡ b
same_Ok e = cc

-- a step that returned a value did not stop
pub did_not_stop : {B E R : Type 0} {b : B} {Stops : E → Type 0}
    → ((stop : E) × Stops stop × (Ok b ≡ Err stop)) ⊎ R → R
did_not_stop (inl stopped) = absurd (let e = stopped.2 in cc)
did_not_stop (inr on) = on
