-- What the clause of a run says of `export` from a database in memory.
use Rattle.std.proofs.Common.{[], ◌≡◌, ◌∙◌, Bool, List, Option, Some, ap, inl, subst, ℕ}
use Rattle.std.specs.Prelude.{codes, string_bytes}
use Rattle.std.specs.Str.{bytes_eq}
use Rattle.clap.specs.Kinds.{HasKind}
use Rattle.clap.specs.Words.{Text, kind_of}
use Rattle.clap.specs.declared.error.Error.{Error}
use Rattle.clap.specs.declared.error.kind.ErrorKind.TheVariants as kind
use Rattle.sqlite_trees.specs.declared.memory.MemStore.{MemStore}
use Rattle.sqlite.specs.Held.{Held, state}
use Rattle.sqlite.specs.Steps.{over_memory}
use Rattle.office_messages.specs.Visits.{Visit}
use Rattle.office_store.specs.Opening.{HoldsOffice}
use Rattle.office_program.specs.Databases.{IsAt}
use Rattle.office_program.specs.Export.{Exports}
use Rattle.office_program.specs.Foreign.{OfOffice}
use Rattle.office_program.specs.Program.{IsTask, fault_of_words}
use Rattle.office_program.specs.Runs.{ExportsFrom, Refuses, Runs, RunsTask, corrects, does, fails, fails_to_help, helps, refuses, runs_command, runs_out}
use Rattle.office_program.specs.Shelves.{held_at}
use Rattle.office_program.specs.World.{World}
use Rattle.office_program.specs.declared.ending.Ending.{Ending}
use Rattle.office_program.specs.declared.lines.Lines as lines
use Rattle.office_program.specs.declared.words.Task.TheVariants.{Export}
use Rattle.worked_runs.specs.SmallSession.{export_words}
use Rattle.worked_runs.proofs.SmallLoad.{at_shelf, no_doubt, one_is_not_0}
use Rattle.worked_runs.proofs.SmallRun.{no_help, only_memory}
use Rattle.worked_runs.proofs.SmallWords.{no_mistake_to_export, task_of_export}

module _ {N E : Type 0} (AreOfPort : (old new : N) → ℕ → Bool → List Visit → Type 0)
    (told : lines.Ghosts E) (contents : E → Option (List ℕ)) (old new : World (Held MemStore) N E)
    (end : Ending) (words : List Text) (are : words ≡ export_words) (own : List ℕ)
    (conn : Held MemStore) (was : old.databases ≡ (λ path. Some (held_at own (Some conn) path)))
  where
    -- the database held an office, and its publication was printed
    abbrev pub IsExported : Type 0
    IsExported = (after : Held MemStore) × OfOffice (HoldsOffice (state over_memory conn).now)
        (λ there. Exports there (state over_memory after) old.printed new.printed)

    of_export : (database : List ℕ)
        → ExportsFrom over_memory AreOfPort told contents old new database → IsExported
    of_export database run =
        let used = run.used in
        let at : Some conn ≡ Some used.before = at_shelf used.before (bytes_eq own database) (Some conn)
        (subst (λ d. IsAt (d database) used.before) was used.opened) in
        let same : used.before ≡ conn = cc in (
          used.after,
          subst (λ (held : Held MemStore). OfOffice (HoldsOffice (state over_memory held).now)
              (λ there. Exports there (state over_memory used.after) old.printed new.printed)) same
              (used.holds (no_doubt used.after)),
        )

    of_task : (database : _) → string_bytes database ≡ codes "term.db"
        → RunsTask over_memory AreOfPort told contents old new (Export database) end
        → end.status ≡ 0 → IsExported
    of_task database is (does (done, run)) zero = of_export (string_bytes database) run
    of_task database is (fails run) zero = absurd (one_is_not_0 _ run.complains.status zero)

    of_refusal : (error : Error) → kind_of error ≡ kind.OutOfMemory
        → Refuses over_memory AreOfPort told contents old new error end → end.status ≡ 0
        → IsExported
    of_refusal error memory (runs_out of complains) zero =
        absurd (one_is_not_0 _ complains.status zero)
    of_refusal error memory (corrects mistake told_so) zero = absurd (mistake.0 memory)
    of_refusal error memory (helps help done) zero = absurd (no_help _ memory help)
    of_refusal error memory (fails_to_help help failed) zero = absurd (no_help _ memory help)

    -- if the status is 0, the publication of the office in the database is printed
    pub exported_small : Runs over_memory AreOfPort told contents old new words end
        → end.status ≡ 0 → IsExported
    exported_small (refuses error kinds refused) zero =
        let none : fault_of_words words ≡ [] = ap fault_of_words are ∙ no_mistake_to_export in
        of_refusal error (only_memory error (subst (λ k. HasKind k error) none kinds)) refused zero
    exported_small (runs_command task right named runs) zero =
        task_of_export (λ task. RunsTask over_memory AreOfPort told contents old new task end
        → end.status ≡ 0 → IsExported) of_task task (subst (λ w. IsTask w task) are named) runs zero
