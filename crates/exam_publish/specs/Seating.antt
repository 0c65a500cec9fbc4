-- How seats are assigned to the entrants one by one.
use Rattle.std.specs.Prelude.{◌≡◌, ℕ, ◌*◌, ◌<◌, ◌≤◌, Bool, true, false, ◌&&◌, ◌==◌, List, length, None, All, IfSome, slice_index, slice_index_or}
use Rattle.std.specs.List.{list_any}
use Rattle.std.specs.List.Sorted.{IsSorted}
use Rattle.std.specs.Ordering.{nat_cmp, ordering_then}
use Rattle.std.specs.declared.cmp.Ordering.{Ordering}
use Rattle.exam_terms.specs.declared.limits.TheConstants.{MAX_AMOUNT}
use Rattle.exam_terms.specs.declared.place.Place.{Place}
use Rattle.exam_model.specs.Enrolments.{has_number}
use Rattle.exam_model.specs.Fits.{slot_of}
use Rattle.exam_model.specs.Instance.{Session}
use Rattle.exam_publish.specs.declared.entrants.Entrant.{Entrant}
use Rattle.exam_publish.specs.declared.held.Held.{Held}
use Rattle.exam_publish.specs.declared.seat_row.SeatRow.{SeatRow}
use Rattle.exam_publish.specs.Entrants.{old_rows}
use Rattle.exam_publish.specs.Rows.{row_place}
use Rattle.exam_publish.specs.Seats.{seats_at}

-- an entrant's place exists
pub record EntrantExists (I : Session) (x : Entrant) : Type 0 where
  pub period : x.place.period < length I.periods
  pub room : x.place.room < length I.rooms

-- a kept row has a seat number that a room can have
abbrev pub KeepsSmallSeat : Entrant → Type 0
KeepsSmallSeat x = IfSome x.kept (λ row. row.seat ≤ MAX_AMOUNT)

-- a kept row is at the entrant's place
abbrev pub KeepsOwnPlace : Entrant → Type 0
KeepsOwnPlace x = IfSome x.kept (λ row. row_place row ≡ x.place)

-- whether a held seat is this one in this room and period
abbrev pub is_held : Place → ℕ → Held → Bool
is_held at n h = (h.period == at.period) && ((h.room == at.room) && (h.seat == n))

-- by period, then room, then seat
abbrev pub compare_held : Held → Held → Ordering
compare_held x y =
    ordering_then (nat_cmp x.period y.period)
    (ordering_then (nat_cmp x.room y.room) (nat_cmp x.seat y.seat))

-- the table is true for the place of each of the first i entrants who keeps no seat
pub record AreNeeded (periods rooms : ℕ) (xs : List Entrant) (i : ℕ) (needed : List Bool)
    : Type 0 where
  pub count : length needed ≡ periods * rooms
  pub each : (j : ℕ) (x : Entrant) → j < i → j < length xs → x ≡ slice_index_or xs j x
      → x.kept ≡ None
      → slice_index_or needed (slot_of rooms x.place) false ≡ true

-- the seats that entrants keep at the places of those who keep none, in order; others may be there
pub record AreHeld (xs : List Entrant) (held : List Held) : Type 0 where
  pub members : (j : ℕ) (x : Entrant) → j < length xs → x ≡ slice_index_or xs j x → x.kept ≡ None
      → (n : ℕ)
      → list_any (is_held x.place n) held ≡ has_number (seats_at x.place (old_rows xs)) n
  pub sorted : IsSorted compare_held held
  pub small : All (λ h. h.seat ≤ MAX_AMOUNT) held

-- the least seat from n on that is not held in a room and period
pub record IsNextFree (held : List Held) (at : Place) (from n : ℕ) : Type 0 where
  pub least : from ≤ n
  pub free : list_any (is_held at n) held ≡ false
  pub between : (k : ℕ) → from ≤ k → k < n → list_any (is_held at k) held ≡ true

-- all seats up to this one are taken, and beyond it only kept ones
pub record IsLast (kept current : List SeatRow) (at : Place) (n : ℕ) : Type 0 where
  pub all : (k : ℕ) → 1 ≤ k → k ≤ n → has_number (seats_at at current) k ≡ true
  pub beyond : (k : ℕ) → n < k
      → has_number (seats_at at current) k ≡ has_number (seats_at at kept) k

-- each place's entry is the last seat that was assigned there
pub record AreLast (kept current : List SeatRow) (periods rooms : ℕ) (last : List ℕ) : Type 0 where
  pub count : length last ≡ periods * rooms
  pub each : (at : Place) → at.period < periods → at.room < rooms
      → IsLast kept current at (slice_index last (slot_of rooms at))
