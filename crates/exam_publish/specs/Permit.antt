-- The timetables that may be published: each exam has a place, and no hard rule is broken.
use Rattle.std.specs.Prelude.{◌≡◌, ℕ, ◌<◌, true, length, Option, Some, None, IsSome, position, slice_get}
use Rattle.std.specs.Option.{is_none}
use Rattle.exam_model.specs.Instance.{Session}
use Rattle.exam_model.specs.Enrolments.{Enrolled}
use Rattle.exam_model.specs.Timetable.{Placing, place_of, IsFirstUnplaced}
use Rattle.exam_rules.specs.declared.breach.Breach.{Breach}
use Rattle.exam_rules.specs.Breaches.{breaches_of, is_breach}
use Rattle.exam_publish.specs.declared.fault.PublishFault.{PublishFault}
use Rattle.exam_publish.specs.declared.fault.PublishFault.TheVariants.{Unplaced, Broken, NoMemory}

-- the smallest exam without a place
abbrev pub first_unplaced : Placing → Option ℕ
first_unplaced T = position is_none T

-- the least breach: the first of all in their order
abbrev pub least_breach : Session → Enrolled → Placing → Option Breach
least_breach I E T = slice_get (breaches_of I E T) 0

-- an exam without a place is named before any breach
abbrev pub publish_fault : Option ℕ → Option Breach → Option PublishFault
publish_fault None None = None
publish_fault None (Some b) = Some (Broken b)
publish_fault (Some e) breach = Some (Unplaced e)

-- why a timetable may not be published, if it may not
abbrev pub publish_refusal : Session → Enrolled → Placing → Option PublishFault
publish_refusal I E T = publish_fault (first_unplaced T) (least_breach I E T)

-- the fault is that one, or memory was refused
abbrev pub RefusesPublication : Session → Enrolled → Placing → PublishFault → Type 0
RefusesPublication I E T (Unplaced e) = publish_refusal I E T ≡ Some (Unplaced e)
RefusesPublication I E T (Broken b) = publish_refusal I E T ≡ Some (Broken b)
RefusesPublication I E T NoMemory = first_unplaced T ≡ None

-- each exam has a place
abbrev pub IsComplete : Placing → Type 0
IsComplete T = (e : ℕ) → e < length T → IsSome (place_of T e)

-- the cause named by a refusal is true: the first exam without a place, or a breach if each exam
-- has one
abbrev pub NamesCause : Session → Enrolled → Placing → PublishFault → Type 0
NamesCause I E T (Unplaced e) = IsFirstUnplaced T e
NamesCause I E T (Broken b) = IsComplete T × (is_breach I E T b ≡ true)
NamesCause I E T NoMemory = IsComplete T
