-- Facts of words, from what clap found in them.
use Rattle.std.proofs.Common.{◌≡◌, List, [], ◌∷◌, Option, Result, Ok, Err, IfErr, IfOk}
use Rattle.std.proofs.Common.{inl, inr, refl}
use Rattle.std.specs.Prelude.{IsErrAnd}
use Rattle.clap.specs.Kinds.{FailsBy, HasKind, Kinds, or_else}
use Rattle.clap.specs.Words.{Row, Text, kind_of}
use Rattle.clap.specs.declared.error.Error.{Error}
use Rattle.clap.specs.declared.error.kind.ErrorKind.TheVariants.{OutOfMemory}
use Rattle.office_program.specs.Mistakes.{mistakes_in}
use Rattle.office_program.specs.Program.{IsTaskOf}
use Rattle.office_program.specs.declared.checking.CheckForm.TheVariants.{Json, Why, WhyFor}
use Rattle.office_program.specs.declared.words.Task.{Task}
use Rattle.office_program.specs.declared.words.Task.TheVariants.{Check, CheckAll, CheckAs, Compare, Explain, Export, Load, Places, Serve}

-- an error with a kind of `first` has one of `or_else first next`
pub comes_first : (first next : Kinds) (e : Error) → HasKind first e
    → HasKind (or_else first next) e
comes_first [] next e (inl memory) = inl memory
comes_first [] next e (inr none) = absurd none
comes_first (k ∷ ks) next e has = has

-- where memory ran out, that may come of any words
pub out_of_memory : {T : Type 0} (r : Result T Error) (kinds : Kinds)
    → IsErrAnd r (λ e. kind_of e ≡ OutOfMemory) → FailsBy kinds r
out_of_memory (Ok x) kinds failed = absurd failed
out_of_memory (Err e) kinds failed = inl failed

-- words that give a task have no such mistake
pub task_stands : (found : Option (Text × List Row)) (task : Task) → IsTaskOf found task
    → mistakes_in found ≡ []
task_stands found (Check instance solution) (rows, is, values) =
    let paths = values.0 in let form = values.1 in
    rw (is, paths.0, paths.1, paths.2, form.0, form.1, form.2) refl
task_stands found (CheckAs instance solution Why) (rows, is, values) =
    let paths = values.0 in let form = values.1 in
    rw (is, paths.0, paths.1, paths.2, form.0, form.1, form.2) refl
task_stands found (CheckAs instance solution (WhyFor student)) (rows, is, values) =
    let paths = values.0 in let form = values.1 in
    rw (is, paths.0, paths.1, paths.2, form.0, form.1.0, form.2) refl
task_stands found (CheckAs instance solution Json) (rows, is, values) =
    let paths = values.0 in let form = values.1 in
    rw (is, paths.0, paths.1, paths.2, form.0, form.1, form.2) refl
task_stands found (CheckAll session solutions form) (rows, is, values) =
    rw (is, values.0, values.1, values.3) refl
task_stands found (Places instance solution exam) (rows, is, values) =
    rw (is, values.0, values.1, values.4) refl
task_stands found (Compare session before after) (rows, is, values) =
    rw (is, values.0, values.1, values.2, values.3) refl
task_stands found (Load database instance) (rows, is, values) = rw is refl
task_stands found (Serve database terms) (rows, is, values) = rw is refl
task_stands found (Export database) (rows, is, values) = rw is refl
task_stands found (Explain words) (rows, is, values) = rw (is, values) refl

-- words without a mistake that clap finds fail only because they ask for help or the version
pub found_fails : (first : Kinds) (found there : Option (Text × List Row))
    (r : Result Task Error) → first ≡ [] → found ≡ there → IfOk r (IsTaskOf found)
    → IfErr r (HasKind (mistakes_in found))
    → FailsBy (or_else first (mistakes_in there)) r
found_fails first found there (Ok task) none same gives fails =
    rw (none, ← same) (task_stands found task gives)
found_fails first found there (Err e) none same gives fails = rw (none, ← same) fails
