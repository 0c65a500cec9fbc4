-- The effect of loading a session on the office, its refusals in their order.
use Rattle.std.specs.Prelude.{◌≡◌, ℕ, List, [], length, Some, None, is_none, Ok}
use Rattle.exam_model.specs.Enrolments.{Enrolled, pair_count}
use Rattle.exam_model.specs.Instance.{Session}
use Rattle.exam_terms.specs.Refusing.{◌>>=◌, unless}
use Rattle.office_files.specs.FirstFault.{first_fault}
use Rattle.office_files.specs.InstanceText.{instance_in}
use Rattle.office_files.specs.declared.fault.FileFault.{FileFault}
use Rattle.office_model.specs.Office.{OfficeState, Records}
use Rattle.office_model.specs.declared.counts.Loaded as counts
use Rattle.office_model.specs.declared.fault.Refusal.TheVariants as refusal
use Rattle.office_model.specs.declared.fault.StoreFault.{StoreFault}
use Rattle.office_model.specs.declared.fault.StoreFault.TheVariants.{Loaded, Refused}
use Rattle.office_model.specs.Commands.{CommandResult, renamed_fault}

-- a session with its enrolments, and nothing else
abbrev pub new_records : Session × Enrolled → Records
new_records s = record {
  session = s.0;
  owner_of = λ e. 0;
  enrolments = s.1;
  draft = λ d. None;
  published = None;
  batches = [];
}

-- the counts of a session
abbrev pub session_counts : Session × Enrolled → counts.Loaded
session_counts s = record {
  exams = length s.0.exams;
  pairs = pair_count s.1;
  periods = length s.0.periods;
  rooms = length s.0.rooms;
}

-- the text describes a session with these counts
abbrev pub SpellsSession : List ℕ → counts.Loaded → Type 0
SpellsSession bytes counts =
    (s : Session × Enrolled) × (instance_in bytes ≡ Ok s) × (counts ≡ session_counts s)

-- a refused text has this fault first
abbrev pub NamesFirstFault : List ℕ → StoreFault → Type 0
NamesFirstFault bytes fault =
    (f : FileFault) → fault ≡ Refused (refusal.File f) → first_fault bytes ≡ Some f

-- a session is loaded if there is none; the file's fault is judged first
abbrev pub load_session : List ℕ → OfficeState → CommandResult counts.Loaded
load_session bytes office = do
  s ← renamed_fault (λ f. Refused (refusal.File f)) (instance_in bytes)
  _ ← unless (is_none office) Loaded
  Ok (session_counts s, Some (new_records s))
