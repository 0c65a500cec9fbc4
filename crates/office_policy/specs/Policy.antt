-- The policy: which caller may run which command.
use Rattle.std.specs.Prelude.{ℕ, ◌==◌, ◌&&◌, Bool, true, false, Some, None, Result, Ok, Err}
use Rattle.office_policy.specs.declared.callers.Caller.{Caller}
use Rattle.office_policy.specs.declared.callers.Caller.TheVariants.{Office, Dept, Cand}
use Rattle.office_policy.specs.Commands.{PlainCommand, me, my_exam, my_penalty, draft}
use Rattle.office_policy.specs.Commands.{draft_penalty, draft_violations, draft_places, place}
use Rattle.office_policy.specs.Commands.{move, clear, swap}
use Rattle.office_policy.specs.declared.policy.Denial.{Denial}
use Rattle.office_policy.specs.declared.policy.Denial.TheVariants.{P1, P2, P3, P4}
use Rattle.office_policy.specs.declared.policy.Kind.{Kind}
use Rattle.office_policy.specs.declared.policy.Kind.TheVariants.{Personal, Official, Reading, Editing}

-- the kind of a command, by its callers; one that isn't listed is the office's
abbrev pub kind_of : PlainCommand → Kind
kind_of me = Personal
kind_of (my_exam e) = Personal
kind_of my_penalty = Personal
kind_of (draft d) = Reading
kind_of (draft_penalty d) = Reading
kind_of (draft_violations d) = Reading
kind_of (draft_places d e) = Editing e None
kind_of (place d e at) = Editing e None
kind_of (move d e to) = Editing e None
kind_of (clear d e) = Editing e None
kind_of (swap d a b) = Editing a (Some b)
kind_of _ = Official

-- permitted if the exams are owned, else P3
abbrev pub if_owned : Bool → Result (Unit {0}) Denial
if_owned true = Ok tt
if_owned false = Err P3

-- whether the caller may run commands of this kind; a department edits if it owns the exams
abbrev pub permits_kind : Caller → Kind → Bool → Result (Unit {0}) Denial
permits_kind (Cand c) Personal is_owner = Ok tt
permits_kind (Cand c) kind is_owner = Err P1
permits_kind caller Personal is_owner = Err P4
permits_kind Office kind is_owner = Ok tt
permits_kind (Dept d) Official is_owner = Err P2
permits_kind (Dept d) Reading is_owner = Ok tt
permits_kind (Dept d) (Editing a b) is_owner = if_owned is_owner

-- the caller is a department that owns each exam that is edited, by the owners of these exams
abbrev pub is_owner : Caller → Kind → ℕ → ℕ → Bool
is_owner (Dept d) (Editing a None) owner_a owner_b = owner_a == d
is_owner (Dept d) (Editing a (Some b)) owner_a owner_b = (owner_a == d) && (owner_b == d)
is_owner caller kind owner_a owner_b = false

-- whether the caller may run the command, by the owners of the exams that it edits
abbrev pub permits : Caller → PlainCommand → ℕ → ℕ → Result (Unit {0}) Denial
permits caller asked owner_a owner_b =
    permits_kind caller (kind_of asked) (is_owner caller (kind_of asked) owner_a owner_b)
