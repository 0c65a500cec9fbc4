-- The records after a command are records of an office again.
use Rattle.std.proofs.lemmas.Grind.{common_steps}
use Rattle.std.proofs.Common.{◌≡◌, ◌≢◌, ℕ, ◌<◌, ◌≤◌, Bool, true, false, cond, eqb, List, [], ◌∷◌, length, Option, Some, None, Ok, inl, inr, refl, sym, subst, ◌∙◌, arith, rules, ◌==◌, ◌&&◌, IsSome, slice_set}
use Rattle.std.proofs.lemmas.Bool.{cases_lt, ltb-true, and_parts}
use Rattle.std.proofs.lemmas.Bool.Decides.{nat_tests}
use Rattle.std.proofs.lemmas.List.{get_or_past, length-set}
use Rattle.std.proofs.lemmas.List.Elements.{All-get_or, All-set}
use Rattle.std.proofs.lemmas.Option.{same_Some}
use Rattle.exam_terms.specs.declared.place.Place.{Place}
use Rattle.exam_model.specs.Enrolments.{Enrolled, AreEnrolments}
use Rattle.exam_model.specs.Fits.{Fits, PlaceExists}
use Rattle.exam_model.specs.Instance.{Session, IsInstance}
use Rattle.exam_model.specs.Timetable.{Placing, place_of}
use Rattle.exam_draft.specs.Edits.{after_put, edit_result, exam_exists, if_unbroken, place_exists}
use Rattle.exam_draft.specs.declared.edit.Edit.{Edit}
use Rattle.exam_draft.specs.declared.edit.Edit.TheVariants as edit
use Rattle.exam_publish.specs.Permit.{first_unplaced, least_breach, publish_refusal}
use Rattle.exam_publish.specs.Published.{AreSeats}
use Rattle.exam_publish.specs.Seats.{AreSeated}
use Rattle.exam_publish.specs.Rows.{enrolled_in}
use Rattle.exam_publish.proofs.PermitLemmas.{neither}
use Rattle.exam_publish.proofs.PublishedLemmas.{same_enrolments}
use Rattle.exam_publish.proofs.SeatLemmas.{are_seats}
use Rattle.office_files.proofs.ReadingLaws.{bind_ok, unless_ok}
use Rattle.office_model.specs.Loading.{new_records}
use Rattle.office_model.specs.Office.{AreEnrolled, AreRecords, IsPublication, Publication, Records, set_at}
use Rattle.office_model.specs.Publishing.{published_as, publication_rows}

-- enrolments of the session's exams
pub are_enrolled : (I : Session) (E : Enrolled) → AreEnrolments E → length E ≡ length I.exams
    → AreEnrolled I E
are_enrolled I E set same = record {
  set = set;
  exams = same;
}

-- ---- load

pub fresh_records : (I : Session) (E : Enrolled) → IsInstance I → AreEnrolled I E
    → AreRecords (new_records (I, E))
fresh_records I E is are = record {
  session = is;
  enrolled = are;
  departments = λ e. omega arith;
  owned = λ e no. absurd (no refl);
  numbered = λ d no. absurd cc;
  drafts = λ d T no. absurd cc;
  publication = λ p no. absurd cc;
  batches = record {
    few = omega arith;
    within = λ k d none. absurd (omega (arith, none));
    numbers = λ i j d before none. absurd (omega (arith, none));
  };
}

-- ---- owners

pub owner_records : (r : Records) (e d : ℕ) → e < length r.session.exams → d ≤ 999 → AreRecords r
    → AreRecords (record r { owner_of = set_at e d r.owner_of })
owner_records r e d exists few h = record {
  session = h.session;
  enrolled = h.enrolled;
  departments = λ x. department x (eqb x e);
  owned = λ x. exam x (eqb x e) refl;
  numbered = h.numbered;
  drafts = h.drafts;
  publication = h.publication;
  batches = h.batches;
}
  where
    department : (x : ℕ) (b : Bool) → cond b d (r.owner_of x) ≤ 999
    department x true = few
    department x false = h.departments x

    exam : (x : ℕ) (b : Bool) → eqb x e ≡ b → cond b d (r.owner_of x) ≢ 0
        → x < length r.session.exams
    exam x true f has = grind (arith, nat_tests, f, exists)
    exam x false f has = h.owned x has

-- ---- drafts

pub made_records : (r : Records) (d : ℕ) (T : Placing) → 1 ≤ d → d ≤ 8
    → Fits r.session r.enrolments T
    → AreRecords r → AreRecords (record r { draft = set_at d (Some T) r.draft })
made_records r d T low high fits h = record {
  session = h.session;
  enrolled = h.enrolled;
  departments = h.departments;
  owned = h.owned;
  numbered = λ n. number n (eqb n d) refl;
  drafts = λ n S. fit n S (eqb n d);
  publication = h.publication;
  batches = h.batches;
}
  where
    number : (n : ℕ) (b : Bool) → eqb n d ≡ b → IsSome (cond b (Some T) (r.draft n))
        → (1 ≤ n) × (n ≤ 8)
    number n true e some = (grind (arith, nat_tests, e, low), grind (arith, nat_tests, e, high))
    number n false e some = h.numbered n some

    fit : (n : ℕ) (S : Placing) (b : Bool) → cond b (Some T) (r.draft n) ≡ Some S
        → Fits r.session r.enrolments S
    fit n S true e = subst (Fits r.session r.enrolments) (same_Some _ _ e) fits
    fit n S false e = h.drafts n S e

pub left_records : (r : Records) (d : ℕ) → AreRecords r
    → AreRecords (record r { draft = set_at d None r.draft })
left_records r d h = record {
  session = h.session;
  enrolled = h.enrolled;
  departments = h.departments;
  owned = h.owned;
  numbered = λ n. number n (eqb n d);
  drafts = λ n S. fit n S (eqb n d);
  publication = h.publication;
  batches = h.batches;
}
  where
    number : (n : ℕ) (b : Bool) → IsSome (cond b None (r.draft n)) → (1 ≤ n) × (n ≤ 8)
    number n true some = absurd cc
    number n false some = h.numbered n some

    fit : (n : ℕ) (S : Placing) (b : Bool) → cond b None (r.draft n) ≡ Some S
        → Fits r.session r.enrolments S
    fit n S true e = absurd cc
    fit n S false e = h.drafts n S e

-- ---- publication

pub old_seated : (r : Records) → AreRecords r → AreSeated r.session (publication_rows r.published)
old_seated r is = grind (arith, common_steps)

module _ (r : Records) (T : Placing) (is : AreRecords r) (fits : Fits r.session r.enrolments T)
    (permitted : publish_refusal r.session r.enrolments T ≡ None) where
  abbrev pub new_one : Publication
  new_one = published_as r T

  pub are : AreSeats r.session r.enrolments T new_one.rows
  are = search (rules, are_seats, old_seated)

  same : enrolled_in (length r.session.exams) new_one.rows ≡ r.enrolments
  same = search (rules, old_seated, same_enrolments)

  pub is_publication : IsPublication r.session new_one
  is_publication = record {
    rows = are.published;
    seated = are.seated;
    enrolled = subst (AreEnrolled r.session) (sym same) is.enrolled;
    unbroken = subst (λ E. least_breach r.session E T ≡ None) (sym same)
        (neither (first_unplaced T) (least_breach r.session r.enrolments T) permitted).1;
  }

  pub published_records : AreRecords (record r { published = Some new_one })
  published_records = record {
    session = is.session;
    enrolled = is.enrolled;
    departments = is.departments;
    owned = is.owned;
    numbered = is.numbered;
    drafts = is.drafts;
    publication = λ p e. subst (IsPublication r.session) (same_Some _ _ e) is_publication;
    batches = is.batches;
  }

-- ---- edits

-- a timetable that fits also fits with another place that exists, or with none
fits_set : (I : Session) (E : Enrolled) (T : Placing) (e : ℕ) (at : Option Place)
    → PlaceExists I at → Fits I E T → Fits I E (slice_set T e at)
fits_set I E T e at exists fits = record {
  enrolments = fits.enrolments;
  timetable = length-set T e at ∙ fits.timetable;
  places = All-set (PlaceExists I) T e at exists fits.places;
}

unbroken_is : (I : Session) (E : Enrolled) (exams : List ℕ) (T new : Placing)
    → if_unbroken I E exams T ≡ Ok new → T ≡ new
unbroken_is I E exams T new e = grind (arith)

module _ (I : Session) (E : Enrolled) (T : Placing) (fits : Fits I E T) where
  put_fits : (e : ℕ) (at : Place) (new : Placing) → (exam_exists I e && place_exists I at) ≡ true
      → after_put I E T e at ≡ Ok new → Fits I E new
  put_fits e at new exist is = grind (arith, and_parts, fits_set, ltb-true, unbroken_is)

  -- the place of an exam exists, if it has one
  each_exists : (e : ℕ) → PlaceExists I (place_of T e)
  each_exists e = elim (cases_lt e (length T)) as (λ _. PlaceExists I (place_of T e)) [
    | inl within ↦ All-get_or (PlaceExists I) T e None within fits.places
    | inr past ↦ subst (PlaceExists I) (sym (get_or_past T e None past)) tt
  ]

  pub edited_fits : (change : Edit) (new : Placing) → edit_result I E T change ≡ Ok new → Fits I E new
  edited_fits (edit.Place e at) new is = grind (arith, bind_ok, put_fits, unless_ok)
  edited_fits (edit.Move e at) new is = grind (arith, bind_ok, put_fits, unless_ok)
  edited_fits (edit.Swap a b) new is = grind (arith, bind_ok, each_exists, fits_set, unbroken_is)
  edited_fits (edit.Clear e) new is = grind (arith, bind_ok, fits_set)
