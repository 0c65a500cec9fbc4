-- Seats assigned to the entrants one by one: the rows so far, and those still to come.
use Rattle.std.proofs.lemmas.Grind.{common_steps}
use Rattle.std.proofs.Common.{◌≡◌, ℕ, ◌+◌, ◌*◌, ◌<◌, ◌≤◌, ◌⊎◌, inl, inr, cond, List, [], ◌∷◌, ◌++◌, length, drop, get_or, None, sym, ◌∙◌, ap, subst, arith, append_assoc, eqb-true, slice_set, slice_index, replicate, unwrap_or, is_some}
use Rattle.std.proofs.lemmas.Bool.{cases_eq, and_parts, false_from_ne_true}
use Rattle.std.proofs.lemmas.List.{at_drop_more, length-replicate, length-set, get_or-set_same, get_or-set_other}
use Rattle.std.proofs.lemmas.Nat.{same_from_place}
use Rattle.exam_lists.proofs.Searches.{get_or_same}
use Rattle.exam_lists.proofs.Filters.{length_filter_map-le}
use Rattle.exam_terms.specs.declared.place.Place.{Place}
use Rattle.exam_model.specs.Fits.{slot_of}
use Rattle.exam_model.proofs.PlaceLemmas.{slot_within}
use Rattle.exam_publish.specs.declared.entrants.Entrant.{Entrant}
use Rattle.exam_publish.specs.declared.held.Held.{Held}
use Rattle.exam_publish.specs.declared.seat_row.SeatRow.{SeatRow}
use Rattle.exam_publish.specs.Seating.{AreHeld, IsNextFree, IsLast, AreLast}
use Rattle.exam_publish.specs.Seats.{seats_at, least_free, new_row, rows_after_entrants, rows_for}
use Rattle.exam_publish.specs.Entrants.{old_rows}
use Rattle.exam_publish.proofs.FreeLemmas.{IsNext, is_next, last_here, last_there, le_taken, length_seats}
use Rattle.exam_publish.proofs.SeatLemmas.{same_place}

-- the rows of the first i entrants, and the rows that are present for the later ones
pub record AreGiven (xs : List Entrant) (periods rooms i : ℕ) (last : List ℕ)
    (rows : List SeatRow) : Type 0 where
  pub current : List SeatRow
  pub few : length current ≤ length (old_rows xs) + i
  pub seated : rows ++ rows_after_entrants current (drop i xs) ≡ rows_for xs
  pub table : AreLast (old_rows xs) current periods rooms last

pub none_given : (xs : List Entrant) (periods rooms n : ℕ) (last : List ℕ) (rows : List SeatRow)
    → last ≡ replicate n 0 → n ≡ periods * rooms → rows ≡ [] → AreGiven xs periods rooms 0 last rows
none_given xs periods rooms n last rows is same none = record {
  current = old_rows xs;
  few = omega arith;
  seated = ap (λ rs. rs ++ rows_after_entrants (old_rows xs) xs) none;
  table = grind (arith, common_steps, length-replicate, get_or_same);
}

left : (xs : List Entrant) (i : ℕ) (x : Entrant) → i < length xs → x ≡ get_or xs i x
    → drop i xs ≡ x ∷ drop (i + 1) xs
left xs i x lt is = at_drop_more (λ ys. ys) xs i x lt ∙ ap (λ y. y ∷ drop (i + 1) xs) (sym is)

length_there : (at : Place) (rows : List SeatRow) → length (seats_at at rows) ≤ length rows
length_there at [] = omega arith
length_there at (r ∷ rs) = grind (arith, common_steps, length_seats, length_there at rs)

pub last_small : (xs : List Entrant) (periods rooms i n : ℕ) (last : List ℕ)
    (rows : List SeatRow) (at : Place)
    → AreGiven xs periods rooms i last rows → at.period < periods → at.room < rooms
    → n ≡ slice_index last (slot_of rooms at) → n ≤ length xs + i
last_small xs periods rooms i n last rows at was hp hr is =
    let there = was.table.each at hp hr in
    let taken = le_taken (slice_index last (slot_of rooms at))
    (seats_at at was.current) there.all in
    let long = length_there at was.current in
    let few = was.few in
    let kept = length_filter_map-le (λ (x : Entrant). x.kept) xs in
    omega arith

abbrev with_seat : Entrant → ℕ → SeatRow
with_seat x k =
    record { student = x.student; exam = x.exam; period = x.place.period; room = x.place.room; seat = k }

pub new_given : (xs : List Entrant) (held : List Held) (periods rooms i n b : ℕ) (last : List ℕ)
    (rows more : List SeatRow) (x : Entrant)
    → AreGiven xs periods rooms i last rows
    → AreHeld xs held → i < length xs → x ≡ get_or xs i x → x.kept ≡ None
    → x.place.period < periods → x.place.room < rooms
    → n ≡ slice_index last (slot_of rooms x.place) → IsNextFree held x.place (n + 1) b
    → more ≡ rows
    ++ record { student = x.student; exam = x.exam; period = x.place.period; room = x.place.room; seat = b }
    ∷ []
    → AreGiven xs periods rooms (i + 1) (slice_set last (slot_of rooms x.place) b) more
new_given xs held periods rooms i n b last rows more x was seats lt is keeps hp hr at_n next added =
    record {
      current = (new_row was.current x) ∷ was.current;
      few = let h = was.few in omega arith;
      seated = ap (λ rs. rs ++ rows_after_entrants ((new_row was.current x) ∷ was.current)
          (drop (i + 1) xs))
          (added ∙ ap (λ k. rows ++ with_seat x k ∷ []) least)
          ∙ append_assoc rows ((new_row was.current x) ∷ [])
          (rows_after_entrants ((new_row was.current x) ∷ was.current) (drop (i + 1) xs))
          ∙ ap (λ rs. rows ++ rs) (sym (ap (rows_after_entrants was.current) (left xs i x lt is)
          ∙ ap (λ o. unwrap_or o (new_row was.current x)
          ∷ rows_after_entrants (cond (is_some o) was.current
          ((new_row was.current x) ∷ was.current))
          (drop (i + 1) xs))
          keeps))
          ∙ was.seated;
      table = record {
        count = length-set last (slot_of rooms x.place) b ∙ was.table.count;
        each = λ q qp qr. each q qp qr (cases_eq (slot_of rooms q) (slot_of rooms x.place));
      };
    }
  where
    there : IsLast (old_rows xs) was.current x.place n
    there = subst (IsLast (old_rows xs) was.current x.place) (sym at_n)
        (was.table.each x.place hp hr)

    next_is : IsNext (old_rows xs) x.place n b
    next_is = record {
      beyond = let h = next.least in omega arith;
      free = sym (seats.members i x lt is keeps b) ∙ next.free;
      between = λ k low high. sym (seats.members i x lt is keeps k) ∙ next.between k (omega arith) high;
    }

    least : b ≡ least_free (seats_at x.place was.current)
    least = is_next (old_rows xs) was.current x.place n b there next_is

    within : slot_of rooms x.place < length last
    within = omega (arith, slot_within periods rooms x.place hp hr, was.table.count)

    each : (q : Place) → q.period < periods → q.room < rooms
        → (slot_of rooms q ≡ slot_of rooms x.place) ⊎ (slot_of rooms q ≡ slot_of rooms x.place → ⊥)
        → IsLast (old_rows xs) ((new_row was.current x) ∷ was.current) q
        (get_or (slice_set last (slot_of rooms x.place) b) (slot_of rooms q) 0)
    each q qp qr (inl same) =
        let parts = same_from_place q.period q.room x.place.period x.place.room rooms qr hr same in
        let one : x.place ≡ q = (λ i. record { period = sym parts.0 i; room = sym parts.1 i }) in
        subst (IsLast (old_rows xs) ((new_row was.current x) ∷ was.current) q)
        (sym (ap (λ k. get_or (slice_set last (slot_of rooms x.place) b) k 0) same
        ∙ get_or-set_same last (slot_of rooms x.place) b 0 within))
        (subst (λ z. IsLast (old_rows xs) ((new_row was.current x) ∷ was.current) z b) one
        (last_here (old_rows xs) was.current x.place n b (new_row was.current x) there next_is
        (same_place x.place) (sym least)))
    each q qp qr (inr other) =
        grind (arith, common_steps, false_from_ne_true, and_parts, eqb-true, get_or-set_other, last_there)
