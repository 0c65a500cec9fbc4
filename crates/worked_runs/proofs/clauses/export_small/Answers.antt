use Rattle.std.proofs.Common.{[], ◌++◌, ◌∷◌, ◌≡◌, ◌≤◌, ◌∙◌, Bool, List, Option, Some, ap, refl, subst, sym, ℕ}
use Rattle.std.specs.Prelude.{IfSome, IsTrue, codes}
use Rattle.std.specs.Str.{bytes_eq}
use Rattle.office_program.specs.declared.surroundings.Found.{Found}
use Rattle.office_program.proofs.NoticeFacts.{may_note_work}
use Rattle.worked_runs.specs.SmallSession.{export_words}
use Rattle.worked_runs.proofs.SmallExport.{exported_small}
use Rattle.worked_runs.proofs.clauses.export_small.Goals as goal

pub run_words-ending-requires-clause-works : goal.run_words-ending-requires-clause-works
run_words-ending-requires-clause-works c = λ task is.
    let finds : List ℕ → Option Found → Type 0 = λ path found. IfSome found (λ (it : Found).
    500000 ≤ it.size → IsTrue (bytes_eq c.args.desktop.now.large.now path)) in
    let shows : Bool → Type 0 = λ is_terminal. is_terminal ≡ c.args.desktop.now.has_terminal in
    may_note_work finds shows (λ line. c.args.desktop.now.has_terminal) (λ line shown. sym shown) task

pub returns : goal.returns
returns c =
    let words : List (List ℕ) =
    c.in_ok-from_str.field-0.bytes.items ∷ c.in_ok-from_str-2.field-0.bytes.items
    ∷ c.in_ok-from_str-3.field-0.bytes.items ∷ c.in_ok-from_str-4.field-0.bytes.items ∷ [] in
    let are : words ≡ export_words = rw (
      c.in_ok-from_str.ensures.ok,
      c.in_ok-from_str-2.ensures.ok,
      c.in_ok-from_str-3.ensures.ok,
      c.in_ok-from_str-4.ensures.ok,
    ) refl in
    record {
      printed = λ zero.
          let run = exported_small _ _ _ _ _ _ words are (codes "term.db") c.args.conn refl
          c.run_words-ending.ensures zero in
          record {
            there = run.1.there;
            stood = run.1.stood;
            of = λ there holds.
                let exports = run.1.of there holds in
                exports.published ∙ ap Some (sym (exports.printed
                ∙ ap (λ (a : List ℕ). a ++ exports.text) c.new.ensures.items));
          };
    }
