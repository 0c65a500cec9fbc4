-- What an unplaced exam meets at each place, among the exams below a number.
use Rattle.std.specs.Prelude.{◌≡◌, ℕ, ◌+◌, ◌*◌, ◌<◌, Bool, true, false, ◌&&◌, ◌==◌, List, length, None, slice_get, slice_index_or}
use Rattle.std.specs.List.{list_any}
use Rattle.exam_terms.specs.declared.place.Place.{Place}
use Rattle.exam_model.specs.Enrolments.{size_of}
use Rattle.exam_model.specs.Fits.{slot_of}
use Rattle.exam_model.specs.Instance.{Session}
use Rattle.exam_model.specs.Timetable.{Placing, place_of}
use Rattle.exam_rules.specs.Lines.{is_exclusive}
use Rattle.exam_rules.specs.Places.{is_one_place, load_below, place_satisfies}
use Rattle.exam_score.specs.MixedDurations.{minutes_of}
use Rattle.exam_places.specs.declared.place_table.PlaceEntry.{PlaceEntry}
use Rattle.exam_places.specs.declared.unplaced_exam.UnplacedExam.{UnplacedExam}
use Rattle.exam_places.specs.Firsts.{first_below, found_or}

-- whether an exam is at a place
abbrev pub is_here : Placing → Place → ℕ → Bool
is_here T at f = place_satisfies (is_one_place at) (place_of T f)

-- whether two exams last equally long
abbrev pub lasts_as : Session → ℕ → ℕ → Bool
lasts_as I e f = minutes_of (slice_get I.exams f) == minutes_of (slice_get I.exams e)

-- whether an exam must have its room to itself
abbrev pub is_keeper : Session → ℕ → Bool
is_keeper I f = list_any (is_exclusive f) I.room_rules

-- the list has for each exam whether it must have its room to itself
pub record AreKeepers (I : Session) (flags : List Bool) : Type 0 where
  pub count : length flags ≡ length I.exams
  pub each : (f : ℕ) → f < length I.exams → slice_index_or flags f false ≡ is_keeper I f

-- the entry of a place with no exam
abbrev pub no_exams_at : PlaceEntry
no_exams_at = record { students = 0; first = None; as_long = None; keeper = None }

-- the entry of a place by the exams below i
abbrev pub place_entry : UnplacedExam → ℕ → Place → PlaceEntry
place_entry u i at = record {
  students = load_below u.enrolments.now u.timetable.now at i;
  first = first_below i (is_here u.timetable.now at);
  as_long = first_below i
      (λ f. is_here u.timetable.now at f && lasts_as u.instance.now u.exam f);
  keeper = first_below i (λ f. is_here u.timetable.now at f && is_keeper u.instance.now f);
}

-- an entry with one more exam
abbrev pub with_exam : UnplacedExam → ℕ → PlaceEntry → PlaceEntry
with_exam u f entry = record {
  students = entry.students + size_of u.enrolments.now f;
  first = found_or entry.first true f;
  as_long = found_or entry.as_long (lasts_as u.instance.now u.exam f) f;
  keeper = found_or entry.keeper (is_keeper u.instance.now f) f;
}

-- the table has the entry of each place by the exams below i
pub record IsPlaceTable (u : UnplacedExam) (i : ℕ) (table : List PlaceEntry) : Type 0 where
  pub count : length table ≡ length u.instance.now.periods * length u.instance.now.rooms
  pub each : (at : Place) → at.period < length u.instance.now.periods
      → at.room < length u.instance.now.rooms
      → slice_index_or table (slot_of (length u.instance.now.rooms) at) no_exams_at
      ≡ place_entry u i at
