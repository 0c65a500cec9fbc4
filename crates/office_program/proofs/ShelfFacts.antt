-- Facts of a database in memory.
use Rattle.std.proofs.Common.{◌≡◌, ◌∙◌, Bool, List, None, Option, Some, cond, false, refl, sym, true, ℕ}
use Rattle.std.specs.Prelude.{IsTrue}
use Rattle.std.specs.Str.{bytes_eq}
use Rattle.std.proofs.lemmas.Slice.Eq.{bytes_eq-Decides}
use Rattle.office_program.specs.Databases.{KeepsOthers}
use Rattle.office_program.specs.Shelves.{found_or_error, held_at}

-- a shelf has no database but its own
pub others_on_shelf : {C : Type 0} (own path : List ℕ) → IsTrue (bytes_eq own path)
    → (before after : Option C)
    → KeepsOthers path (λ p. Some (held_at own before p)) (λ p. Some (held_at own after p))
others_on_shelf own path is before after other differs =
    none (bytes_eq own other) (λ same.
    let first = (bytes_eq-Decides own other).0 same in
    let second = (bytes_eq-Decides own path).0 is in
    differs (sym first ∙ second))
  where
    none : (b : Bool) → (b ≡ true → ⊥)
        → Some (found_or_error (cond b after None)) ≡ Some (found_or_error (cond b before None))
    none true never = absurd (never refl)
    none false never = refl
