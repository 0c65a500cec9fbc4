use Rattle.std.proofs.Common.{[], ◌∷◌, ◌≡◌, ◌∙◌, ◌++◌, ◌⊎◌, List, Option, Some, ap, inl, inr, refl, subst, ℕ}
use Rattle.std.specs.Prelude.{codes}
use Rattle.std.specs.Io.KnownBytes.{Appends}
use Rattle.office_output.specs.Writing.{WritesFront}
use Rattle.office_output.proofs.FrontLemmas.{front_whole}
use Rattle.office_program.specs.Folders.{bytes_at}
use Rattle.office_program.specs.Sources.{Known}
use Rattle.worked_runs.specs.SmallSession.{check_words, session_text, solution_text, ten_lines}
use Rattle.worked_runs.proofs.SmallLoad.{one_is_not_0}
use Rattle.worked_runs.proofs.SmallRun.{ends_small}
use Rattle.worked_runs.proofs.clauses.check_small.Goals as goal

-- a front of the ten lines is in the place of nothing
printed_front : (status : ℕ) (before : List ℕ) (new : Option (List ℕ)) (Told : Type 0) → before ≡ []
    → ((status ≡ 0) × Appends (Some before) new ten_lines)
    ⊎ ((status ≡ 1) × WritesFront (Some before) new ten_lines × Told)
    → WritesFront (Some []) new ten_lines
printed_front status before new Told is (inl done) =
    subst (λ (b : List ℕ). WritesFront (Some b) new ten_lines) is
    (front_whole (Some before) new ten_lines done.1)
printed_front status before new Told is (inr failed) =
    subst (λ (b : List ℕ). WritesFront (Some b) new ten_lines) is failed.1

pub returns : goal.returns
returns c =
    let words : List (List ℕ) =
    c.in_ok-from_str.field-0.bytes.items ∷ c.in_ok-from_str-2.field-0.bytes.items
    ∷ c.in_ok-from_str-3.field-0.bytes.items ∷ c.in_ok-from_str-4.field-0.bytes.items ∷ [] in
    let are : words ≡ check_words = rw (
      c.in_ok-from_str.ensures.ok,
      c.in_ok-from_str-2.ensures.ok,
      c.in_ok-from_str-3.ensures.ok,
      c.in_ok-from_str-4.ensures.ok,
    ) refl in
    let files : List ℕ → Known = λ path. Some (bytes_at path c.args.files.now.files.now) in
    let session : files (codes "small.exam") ≡ Some (Some session_text) = ap Some c.requires.session in
    let solution : files (codes "small.sol") ≡ Some (Some solution_text) = ap Some c.requires.solution in
    let ends = ends_small _ _ _ _ _ _ _ words are session solution c.run_words-ending.ensures in
    record {
      status = elim ends [ inl done ↦ inl done.0 | inr failed ↦ inr failed.0 ];
      lines = λ zero. elim ends [
        | inl done ↦ done.1 ∙ ap (λ (a : List ℕ). a ++ ten_lines) c.new.ensures.items
        | inr failed ↦ absurd (one_is_not_0 _ failed.0 zero)
      ];
      front = printed_front _ _ _ _ c.new.ensures.items ends;
      fault = λ one is_written. elim ends [
        | inl done ↦ absurd (one_is_not_0 _ one done.0)
        | inr failed ↦ elim failed.2 [
          | inl told ↦ inl (told is_written
              ∙ ap (λ (a : List ℕ). a ++ codes "examoffice: no memory\n") c.new-2.ensures)
          | inr told ↦ inr (told is_written
              ∙ ap (λ (a : List ℕ). a ++ codes "examoffice: cannot write\n") c.new-2.ensures)
        ]
      ];
    }
