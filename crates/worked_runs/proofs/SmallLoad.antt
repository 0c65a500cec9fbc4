-- What the clause of a run says of `load` of the small session into a new database in memory.
use Rattle.std.proofs.Common.{[], ◌≡◌, ◌∙◌, Bool, ℕ, List, Option, Some, None, ap, arith, cond, false, inl, refl, subst, sym, true}
use Rattle.std.specs.Prelude.{codes, string_bytes}
use Rattle.std.specs.Option.{IsSomeAnd}
use Rattle.std.specs.Str.{bytes_eq}
use Rattle.clap.specs.Kinds.{HasKind}
use Rattle.clap.specs.Words.{Text, kind_of}
use Rattle.clap.specs.declared.error.Error.{Error}
use Rattle.clap.specs.declared.error.kind.ErrorKind.TheVariants as kind
use Rattle.sqlite_trees.specs.View.{doubt}
use Rattle.sqlite_trees.specs.declared.memory.MemStore.{MemStore}
use Rattle.sqlite.specs.Held.{Held, state}
use Rattle.sqlite.specs.State.{HasCleanDisk}
use Rattle.sqlite.specs.Steps.{over_memory}
use Rattle.office_messages.specs.Visits.{Visit}
use Rattle.office_tables.specs.Schema.{no_schema}
use Rattle.office_program.specs.Databases.{IsAt}
use Rattle.office_program.specs.Load.{Loads}
use Rattle.office_program.specs.Program.{IsTask, fault_of_words}
use Rattle.office_program.specs.Runs.{LoadsFile, Refuses, Runs, RunsTask, corrects, does, fails, fails_to_help, helps, refuses, runs_command, runs_out}
use Rattle.office_program.specs.Shelves.{found_or_error, held_at}
use Rattle.office_program.specs.Sources.{IsTextOf}
use Rattle.office_program.specs.World.{World}
use Rattle.office_program.specs.declared.ending.Ending.{Ending}
use Rattle.office_program.specs.declared.lines.Lines as lines
use Rattle.office_program.specs.declared.words.Task.TheVariants.{Load}
use Rattle.worked_runs.specs.SmallSession.{load_words, session_text}
use Rattle.worked_runs.proofs.SmallRun.{no_help, only_memory}
use Rattle.worked_runs.proofs.SmallWords.{no_mistake_to_load, task_of_load}

-- a connection that is at a path of the shelf is the shelf's
pub at_shelf : {C : Type 0} (x : C) (is_path : Bool) (conn : Option C)
    → IsAt (Some (found_or_error (cond is_path conn None))) x → conn ≡ Some x
at_shelf x true (Some known) is = ap Some is
at_shelf x true None never = absurd never
at_shelf x false conn never = absurd never

-- memory returns what was written
pub no_doubt : (conn : Held MemStore) → HasCleanDisk (state over_memory conn)
unfolding doubt
no_doubt conn = refl

-- a status is one number
pub one_is_not_0 : (n : ℕ) → n ≡ 1 → n ≡ 0 → ⊥
one_is_not_0 n one zero = let never : 1 ≡ 0 = sym one ∙ zero in absurd (omega (arith, never))

module _ {N E : Type 0} (AreOfPort : (old new : N) → ℕ → Bool → List Visit → Type 0)
    (told : lines.Ghosts E) (contents : E → Option (List ℕ)) (old new : World (Held MemStore) N E)
    (end : Ending) (words : List Text) (are : words ≡ load_words)
    (session : old.files (codes "small.exam") ≡ Some (Some session_text))
    (own own_after : List ℕ) (conn : Held MemStore) (empty : conn.schema ≡ no_schema)
    (loaded : Option (Held MemStore))
    (was : old.databases ≡ (λ path. Some (held_at own (Some conn) path)))
    (now : new.databases ≡ (λ path. Some (held_at own_after loaded path))) where
  abbrev IsLoadedSmall : Type 0
  IsLoadedSmall = IsSomeAnd loaded (λ after.
      Loads session_text None (state over_memory after) old.printed new.printed)

  of_load : (database instance : List ℕ) → instance ≡ codes "small.exam"
      → LoadsFile over_memory AreOfPort told contents old new database instance → IsLoadedSmall
  of_load database instance one run =
      let is_text : session_text ≡ run.text = subst (λ known. IsTextOf known run.text)
      (ap old.files one ∙ session) run.of in
      let used = run.stored in
      let at : Some conn ≡ Some used.before = at_shelf used.before (bytes_eq own database) (Some conn)
      (subst (λ d. IsAt (d database) used.before) was used.opened) in
      let same : conn ≡ used.before = cc in
      let there : loaded ≡ Some used.after =
      at_shelf used.after (bytes_eq own_after database) loaded
      (subst (λ d. IsAt (d database) used.after) now used.given_back) in
      let loads = (used.holds (no_doubt used.after)).of None
      (inl (ap (λ (held : Held MemStore). held.schema) (sym same) ∙ empty, refl)) in
      subst (λ at. IsSomeAnd at (λ after. Loads session_text None (state over_memory after)
      old.printed new.printed)) (sym there)
      (subst (λ t. Loads t None (state over_memory used.after) old.printed new.printed)
      (sym is_text) loads)

  of_task : (database instance : _) → string_bytes database ≡ codes "term.db"
      → string_bytes instance ≡ codes "small.exam"
      → RunsTask over_memory AreOfPort told contents old new (Load database instance) end
      → end.status ≡ 0 → IsLoadedSmall
  of_task database instance two one (does (done, run)) zero =
      of_load (string_bytes database) (string_bytes instance) one run
  of_task database instance two one (fails run) zero =
      absurd (one_is_not_0 _ run.complains.status zero)

  of_refusal : (error : Error) → kind_of error ≡ kind.OutOfMemory
      → Refuses over_memory AreOfPort told contents old new error end → end.status ≡ 0
      → IsLoadedSmall
  of_refusal error memory (runs_out of complains) zero =
      absurd (one_is_not_0 _ complains.status zero)
  of_refusal error memory (corrects mistake told_so) zero = absurd (mistake.0 memory)
  of_refusal error memory (helps help done) zero = absurd (no_help _ memory help)
  of_refusal error memory (fails_to_help help failed) zero = absurd (no_help _ memory help)

  -- if the status is 0, the session is loaded into the database, and the counts are printed
  pub loaded_small : Runs over_memory AreOfPort told contents old new words end → end.status ≡ 0
      → IsLoadedSmall
  loaded_small (refuses error kinds refused) zero =
      let none : fault_of_words words ≡ [] = ap fault_of_words are ∙ no_mistake_to_load in
      of_refusal error (only_memory error (subst (λ k. HasKind k error) none kinds)) refused zero
  loaded_small (runs_command task right named runs) zero =
      task_of_load (λ task. RunsTask over_memory AreOfPort told contents old new task end
      → end.status ≡ 0 → IsLoadedSmall) of_task task (subst (λ w. IsTask w task) are named) runs
      zero
