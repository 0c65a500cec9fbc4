-- An exam at two places of one period.
use Rattle.std.proofs.lemmas.Grind.{common_steps}
use Rattle.std.proofs.Common.{◌≡◌, ℕ, zero, suc, [], ◌∷◌, get_or, set, Option, Some, None, refl, arith}
use Rattle.exam_terms.specs.declared.place.Place.{Place}
use Rattle.exam_model.specs.Fits.{period_of}
use Rattle.exam_model.specs.Timetable.{Placing}

-- what a function sees of each exam's place, if it sees the same of two places of one exam
pub seen_same : {X : Type 0} (see : Option Place → X) (T : Placing) (e : ℕ) (a b : Option Place)
    → see a ≡ see b → (f : ℕ) → see (get_or (set T e a) f None) ≡ see (get_or (set T e b) f None)
seen_same see [] e a b same f = refl
seen_same see (x ∷ T) zero a b same zero = same
seen_same see (x ∷ T) zero a b same (suc f) = refl
seen_same see (x ∷ T) (suc e) a b same zero = refl
seen_same see (x ∷ T) (suc e) a b same (suc f) = seen_same see T e a b same f

-- the periods of all exams, if an exam is at either of two places of one period
pub periods_same : (T : Placing) (e : ℕ) (a b : Place) → a.period ≡ b.period
    → period_of (set T e (Some a)) ≡ period_of (set T e (Some b))
periods_same T e a b same = grind (arith, common_steps, seen_same)
