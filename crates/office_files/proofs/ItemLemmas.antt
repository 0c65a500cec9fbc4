-- The effect of one line on the reading of lines.
use Rattle.std.proofs.lemmas.Grind.{common_steps}
use Rattle.std.proofs.Common.{◌≡◌, ℕ, suc, ◌+◌, ◌-◌, ◌<◌, List, ◌∷◌, take, Result, Err, ap, sym, ◌∙◌, arith}
use Rattle.office_files.specs.Lines.{Located}
use Rattle.office_files.specs.Reading.{items_of}
use Rattle.office_files.specs.declared.fault.FaultKind.{FaultKind}
use Rattle.office_files.specs.declared.fault.FileFault.{FileFault}

module _ {A : Type 0} (read : List A → List (List ℕ) → Result A FaultKind) where
  -- the first of the lines, of which this many are left
  first_left : (before : List A) (line : Located) (now lines : List Located) (count counter : ℕ)
      → counter < count → now ≡ line ∷ lines
      → items_of read before (line ∷ take (count - (counter + 1)) lines)
      ≡ items_of read before (take (count - counter) now)
  first_left before line now lines count counter lt now_is =
      let n = count - (counter + 1) in
      let e : suc n ≡ count - counter = omega arith in
      ap (λ ls. items_of read before (take (suc n) ls)) (sym now_is)
      ∙ ap (λ k. items_of read before (take k now)) e

  -- one turn of a loop over this many lines
  pub line_step : (before after : List A) (line : Located) (now lines : List Located)
      (count counter : ℕ) (whole : Result (List A) FileFault)
      → counter < count → now ≡ line ∷ lines
      → ((rest : List Located) → items_of read before (line ∷ rest) ≡ items_of read after rest)
      → items_of read before (take (count - counter) now) ≡ whole
      → items_of read after (take (count - (counter + 1)) lines) ≡ whole
  line_step before after line now lines count counter whole lt now_is is so_far =
      grind (arith, common_steps, first_left)

  -- a faulty line ends the loop with its fault
  pub fault_step : (before : List A) (line : Located) (now lines : List Located) (count counter : ℕ)
      (whole : Result (List A) FileFault) (fault : FileFault)
      → counter < count → now ≡ line ∷ lines
      → ((rest : List Located) → items_of read before (line ∷ rest) ≡ Err fault)
      → items_of read before (take (count - counter) now) ≡ whole → whole ≡ Err fault
  fault_step before line now lines count counter whole fault lt now_is is so_far =
      grind (arith, common_steps, first_left)
