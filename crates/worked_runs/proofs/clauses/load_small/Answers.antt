use Rattle.std.proofs.Common.{[], ◌∷◌, ◌≡◌, ◌≤◌, Bool, List, None, Option, Some, ap, refl, subst, sym, ℕ}
use Rattle.std.specs.Prelude.{IfSome, IsTrue, codes}
use Rattle.std.specs.Option.{IsSomeAnd}
use Rattle.std.specs.Str.{bytes_eq}
use Rattle.sqlite.specs.Held.{state}
use Rattle.sqlite.specs.Steps.{over_memory}
use Rattle.office_program.specs.Folders.{bytes_at}
use Rattle.office_program.specs.Load.{Loads}
use Rattle.office_program.specs.Sources.{Known}
use Rattle.office_program.specs.declared.surroundings.Found.{Found}
use Rattle.office_program.proofs.NoticeFacts.{may_note_work}
use Rattle.worked_runs.specs.SmallSession.{load_words, session_text}
use Rattle.worked_runs.proofs.SmallLoad.{loaded_small}
use Rattle.worked_runs.proofs.clauses.load_small.Goals as goal

pub run_words-ending-requires-clause-works : goal.run_words-ending-requires-clause-works
run_words-ending-requires-clause-works c = λ task is.
    let finds : List ℕ → Option Found → Type 0 = λ path found. IfSome found (λ (it : Found).
    500000 ≤ it.size → IsTrue (bytes_eq c.args.desktop.now.large.now path)) in
    let shows : Bool → Type 0 = λ is_terminal. is_terminal ≡ c.args.desktop.now.has_terminal in
    may_note_work finds shows (λ line. c.args.desktop.now.has_terminal) (λ line shown. sym shown) task

pub returns : goal.returns
returns c =
    let words : List (List ℕ) =
    c.in_ok-from_str.field-0.bytes.items ∷ c.in_ok-from_str-2.field-0.bytes.items
    ∷ c.in_ok-from_str-3.field-0.bytes.items ∷ c.in_ok-from_str-4.field-0.bytes.items
    ∷ c.in_ok-from_str-5.field-0.bytes.items ∷ [] in
    let are : words ≡ load_words = rw (
      c.in_ok-from_str.ensures.ok,
      c.in_ok-from_str-2.ensures.ok,
      c.in_ok-from_str-3.ensures.ok,
      c.in_ok-from_str-4.ensures.ok,
      c.in_ok-from_str-5.ensures.ok,
    ) refl in
    let files : List ℕ → Known = λ path. Some (bytes_at path c.args.files.now.files.now) in
    let session : files (codes "small.exam") ≡ Some (Some session_text) = ap Some c.requires.session in
    record {
      loaded = λ zero. subst (λ (a : List ℕ). IsSomeAnd c.run_words-ending.new.machine.databases.conn
          (λ after. Loads session_text None (state over_memory after) (Some a)
          (Some c.run_words-ending.new.machine.out.items)))
          c.new.ensures.items
          (loaded_small _ _ _ _ _ _ words are session (codes "term.db")
          c.run_words-ending.new.machine.databases.path.now c.in_ok-open_in_memory.field-0
          c.in_ok-open_in_memory.ensures.empty.2 c.run_words-ending.new.machine.databases.conn refl refl
          c.run_words-ending.ensures zero);
    }
