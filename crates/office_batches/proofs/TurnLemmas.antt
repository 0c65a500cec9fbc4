-- A record takes at least one byte, so a text has at most one more record than bytes.
use Rattle.std.proofs.Common.{◌≡◌, ◌∙◌, ℕ, zero, suc, ◌+◌, ◌<◌, ◌≤◌, ◌⊎◌, inl, inr, Bool, true, false, List, [], ◌∷◌, length, Option, Some, None, refl, ap, sym, arith}
use Rattle.std.specs.Prelude.{if◌then◌else◌}
use Rattle.exam_lists.proofs.Parts.{length_choice-le}
use Rattle.csv.specs.Machine.{Read, ends_at_end, is_end, next_record, step}
use Rattle.csv.specs.Reading.{default_config, is_bom, records, records_from, records_next, strip_bom}
use Rattle.csv.specs.declared.parser.Config.{Config}
use Rattle.csv.specs.declared.parser.State.{State}
use Rattle.csv.specs.declared.parser.State.TheVariants as state

-- a choice whose result is a read
chosen : (b : Bool) (r p : Read) (other : Option Read) → (if b then Some r else other) ≡ Some p
    → (r ≡ p) ⊎ (other ≡ Some p)
chosen true r p other is = inl cc
chosen false r p other is = inr is

-- after a record there are fewer bytes, or none
left_after : (cfg : Config) (s : State) (fields : List (List ℕ)) (field xs : List ℕ) (p : Read)
    → next_record cfg s fields field xs ≡ Some p
    → (length p.2 < length xs) ⊎ ((p.2 ≡ []) × (p.1 ≡ state.StartRecord))
unfolding next_record
left_after cfg s fields field [] p is = elim (chosen (ends_at_end s) _ p None is) [
  | inl same ↦ inr (sym (ap (λ (q : Read). q.2) same), sym (ap (λ (q : Read). q.1) same))
  | inr none ↦ absurd cc
]
left_after cfg s fields field (c ∷ rest) p is = elim (chosen (is_end (step cfg s c).1) _ p _ is) [
  | inl same ↦
      let left : length rest ≡ length p.2 = ap (λ (q : Read). length q.2) same in
      inl (omega arith)
  | inr later ↦ elim (left_after cfg (step cfg s c).0 _ _ rest p later) [
    | inl fewer ↦ inl (omega arith)
    | inr nothing ↦ inr nothing
  ]
]

-- after the end of a text there is no record
none_left : (n : ℕ) → records_from default_config n state.StartRecord [] ≡ []
unfolding next_record records_from
none_left zero = refl
none_left (suc n) = refl

-- more turns than bytes find no further record
same_records : (m n : ℕ) (s : State) (xs : List ℕ) → n ≤ m → length xs < n
    → records_from default_config m s xs ≡ records_from default_config n s xs
unfolding records_from
same_records zero n s xs le short = absurd (omega arith)
same_records (suc m) zero s xs le short = absurd (omega arith)
same_records (suc m) (suc n) s xs le short =
    by (next_record default_config s [] [] xs) refl
    (λ t ys few. same_records m n t ys (omega arith) few)
  where
    by : (o : Option Read) → next_record default_config s [] [] xs ≡ o
        → ((t : State) (ys : List ℕ) → length ys < n
        → records_from default_config m t ys ≡ records_from default_config n t ys)
        → records_next (records_from default_config m) o
        ≡ records_next (records_from default_config n) o
    by None is later = refl
    by (Some p) is later =
        ap (λ (rs : List (List (List ℕ))). p.0 ∷ rs)
        (elim (left_after default_config s [] [] xs p is) [
          | inl fewer ↦ later p.1 p.2 (omega arith)
          | inr nothing ↦ rw (nothing.0, nothing.1) (none_left m ∙ sym (none_left n))
        ])

without_mark : (b : List ℕ) → length (strip_bom b) ≤ length b
unfolding strip_bom
without_mark [] = omega arith
without_mark (x ∷ []) = omega arith
without_mark (x ∷ y ∷ []) = omega arith
without_mark (x ∷ y ∷ z ∷ rest) =
    length_choice-le (is_bom x y z) rest (x ∷ y ∷ z ∷ rest) (omega arith)

-- one more turn than bytes finds all records
pub all_records : (b : List ℕ)
    → records_from default_config (length b + 1) state.StartRecord (strip_bom b)
    ≡ records default_config (strip_bom b)
all_records b =
    let within = without_mark b in
    same_records (length b + 1) (length (strip_bom b) + 1) state.StartRecord (strip_bom b)
    (omega (arith, within)) (omega arith)
