-- What is in memory fits together, whatever the disk returns.
use Rattle.std.proofs.Common.{◌≡◌, ℕ, ◌<◌, ◌≤◌, List, length, set, Option, Some, None, inl, inr, sym, ◌∙◌, ap, subst, arith}
use Rattle.std.specs.Prelude.{IfSome, Vec}
use Rattle.std.specs.declared.alloc.Global.{Global}
use Rattle.std.proofs.lemmas.Bool.{cases_eq, cases_lt}
use Rattle.std.proofs.lemmas.List.{get_or-set_same, get_or-set_other}
use Rattle.std.proofs.lemmas.Option.{same_Some}
use Rattle.exam_lists.proofs.Options.{none_no_some}
use Rattle.exam_model.specs.Enrolments.{Enrolled}
use Rattle.exam_model.specs.Fits.{Fits, Suits}
use Rattle.exam_model.specs.Instance.{Session}
use Rattle.exam_model.specs.Timetable.{Placing}
use Rattle.exam_rules.specs.Breaches.{breaches_of}
use Rattle.exam_rules.specs.declared.breach.Breach.{Breach}
use Rattle.exam_score.specs.Penalty.{Penalty}
use Rattle.exam_publish.specs.Seats.{AreSeated}
use Rattle.exam_publish.specs.declared.seat_row.SeatRow.{SeatRow}
use Rattle.office_model.specs.Office.{Publication}
use Rattle.office_model.specs.Publishing.{publication_rows}
use Rattle.office_records.specs.FoundPublications.{AreFound, publication_from}
use Rattle.office_records.specs.Memory.{AreSuited, AreConsistent, Memory, draft_at}
use Rattle.office_records.specs.declared.drafts.Draft.{Draft}
use Rattle.office_store.specs.Memory.{AreJudged, AreUnjudged, HasJudged, HasPublished, HasPut, IsBatchApplied, IsConsistent, judged_at}
use Rattle.office_store.specs.declared.memory.OfficeMemory.{OfficeMemory}

-- a timetable with its seats
abbrev Publishing : Type 0
Publishing = Placing × Vec SeatRow Global

-- the seats and places of what is published are those of this session
abbrev IsFoundIn : Session → Option Publishing → Type 0
IsFoundIn I published = AreFound I (publication_from published)

-- ---- there is no draft

pub none_suited : (I : Session) (drafts : List (Option Draft))
    → ((d : ℕ) → draft_at drafts d ≡ None) → AreSuited I drafts
none_suited I drafts none d draft at = absurd (none_no_some (none d) at)

-- one draft more
pub one_suited : (I : Session) (drafts : List (Option Draft)) (n : ℕ) (x : Option Draft)
    → AreSuited I drafts → n < length drafts → IfSome x (λ draft. Suits I draft.timetable)
    → AreSuited I (set drafts n x)
one_suited I drafts n x suited within suits d draft at = elim (cases_eq d n) [
  | inl here ↦ subst (λ y. IfSome y (λ draft. Suits I draft.timetable))
      (sym (get_or-set_same drafts n x None within) ∙ ap (draft_at (set drafts n x)) (sym here) ∙ at)
      suits
  | inr other ↦ suited d draft (sym (get_or-set_other drafts n d x None other) ∙ at)
]

pub fresh_together : {n : OfficeMemory} → AreConsistent n.kept → ((d : ℕ) → draft_at n.drafts d ≡ None)
    → n.published ≡ None → IsConsistent n
fresh_together exams none unpublished = record {
  exams = exams;
  drafts = λ I E _ d draft at. absurd (none_no_some (none d) at);
  published = λ I E _. subst (IsFoundIn I) (sym unpublished) tt;
  judged = λ I E _ d found there draft at. absurd (none_no_some (none d) at);
}

-- an office that is found
pub found_together : {n : OfficeMemory} → AreConsistent n.kept
    → IfSome n.kept (λ k. AreSuited k.0 n.drafts)
    → IfSome n.kept (λ k. AreFound k.0 (publication_from n.published)) → AreUnjudged n.judged
    → IsConsistent n
found_together {n = n} exams suited found unjudged = record {
  exams = exams;
  drafts = λ I E kept.
      subst (λ (k : Memory). IfSome k (λ k. AreSuited k.0 n.drafts)) kept suited;
  published = λ I E kept.
      subst (λ (k : Memory). IfSome k (λ k. AreFound k.0 (publication_from n.published))) kept found;
  judged = λ I E kept d v there draft at. absurd (none_no_some (unjudged d) there);
}

-- ---- the session and the enrolments stay

module _ {m : OfficeMemory} (together : IsConsistent m) where
  by_parts : {n : OfficeMemory} → n.kept ≡ m.kept
      → ((I : Session) (E : Enrolled) → m.kept ≡ Some (I, E) → AreSuited I n.drafts)
      → ((I : Session) (E : Enrolled) → m.kept ≡ Some (I, E) → IsFoundIn I n.published)
      → ((I : Session) (E : Enrolled) → m.kept ≡ Some (I, E) → AreJudged I E n.drafts n.judged)
      → IsConsistent n
  by_parts kept drafts published judged = record {
    exams = subst AreConsistent (sym kept) together.exams;
    drafts = λ I E is. drafts I E (sym kept ∙ is);
    published = λ I E is. published I E (sym kept ∙ is);
    judged = λ I E is. judged I E (sym kept ∙ is);
  }

  still_found : (n : OfficeMemory) → n.published ≡ m.published → (I : Session) (E : Enrolled) → m.kept ≡ Some (I, E)
      → IsFoundIn I n.published
  still_found n same I E is = subst (IsFoundIn I) (sym same) (together.published I E is)

  still_suited : (n : OfficeMemory) → n.drafts ≡ m.drafts → (I : Session) (E : Enrolled) → m.kept ≡ Some (I, E)
      → AreSuited I n.drafts
  still_suited n same I E is = subst (AreSuited I) (sym same) (together.drafts I E is)

  still_judged : (n : OfficeMemory) → n.drafts ≡ m.drafts → n.judged ≡ m.judged → (I : Session)
      (E : Enrolled) → m.kept ≡ Some (I, E) → AreJudged I E n.drafts n.judged
  still_judged n drafts judged I E is =
      subst (λ l. AreJudged I E l n.judged) (sym drafts)
      (subst (AreJudged I E m.drafts) (sym judged) (together.judged I E is))

  -- a draft, or none, is put under a number
  pub put_together : {n : OfficeMemory} {d : ℕ} {x : Option Draft}
      → ((I : Session) (E : Enrolled) → m.kept ≡ Some (I, E)
      → IfSome x (λ draft. Suits I draft.timetable)) → (d ≤ 8 → HasPut d x m n) → (8 < d → n ≡ m)
      → IsConsistent n
  put_together {n = n} {d = d} suits within beyond = elim (cases_lt 8 d) [
    | inl high ↦ subst IsConsistent (sym (beyond high)) together
    | inr low ↦
        let put = within low in
        by_parts put.kept
        (λ I E is e draft at. elim (cases_eq e d) [
          | inl here ↦ subst (λ y. IfSome y (λ draft. Suits I draft.timetable))
              (sym put.put ∙ ap (draft_at n.drafts) (sym here) ∙ at) (suits I E is)
          | inr other ↦ together.drafts I E is e draft (sym (put.others e other) ∙ at)
        ])
        (still_found n put.published)
        (λ I E is e found there draft at. elim (cases_eq e d) [
          | inl here ↦ absurd (none_no_some put.judged (ap (judged_at n.judged) (sym here) ∙ there))
          | inr other ↦ together.judged I E is e found (sym (put.others_judged e other) ∙ there)
              draft (sym (put.others e other) ∙ at)
        ])
  ]

  -- a publication
  pub published_together : {n : OfficeMemory} {new : Publishing} {penalty : Penalty} → HasPublished new penalty m n
      → ((I : Session) (E : Enrolled) → m.kept ≡ Some (I, E) → IsFoundIn I (Some new))
      → IsConsistent n
  published_together {n = n} has found =
      by_parts has.kept (still_suited n has.drafts)
      (λ I E is. subst (IsFoundIn I) (sym has.published) (found I E is))
      (still_judged n has.drafts has.judged)

  -- breaches of a draft are kept
  pub judged_together : {n : OfficeMemory} {d : ℕ} {found : Option (Vec Breach Global)} → ((I : Session) (E : Enrolled)
      → m.kept ≡ Some (I, E) → IfSome found (λ v. (draft : Draft)
      → draft_at m.drafts d ≡ Some draft → v.items ≡ breaches_of I E draft.timetable))
      → (d ≤ 8 → HasJudged d found m n) → (8 < d → n ≡ m) → IsConsistent n
  judged_together {n = n} {d = d} right within beyond = elim (cases_lt 8 d) [
    | inl high ↦ subst IsConsistent (sym (beyond high)) together
    | inr low ↦
        let has = within low in
        by_parts has.kept (still_suited n has.drafts) (still_found n has.published)
        (λ I E is. subst (λ l. AreJudged I E l n.judged) (sym has.drafts)
        (λ e v there draft at. elim (cases_eq e d) [
          | inl here ↦ subst (λ o. IfSome o (λ v. (draft : Draft) → draft_at m.drafts d ≡ Some draft
              → v.items ≡ breaches_of I E draft.timetable))
              (sym has.judged ∙ ap (judged_at n.judged) (sym here) ∙ there) (right I E is) draft
              (ap (draft_at m.drafts) (sym here) ∙ at)
          | inr other ↦ together.judged I E is e v (sym (has.others_judged e other) ∙ there) draft at
        ]))
  ]

  -- a batch
  pub renewed_together : {n : OfficeMemory} {I : Session} {E : Enrolled} → m.kept ≡ Some (I, E) → (F : Option Enrolled)
      (drafts : List (Option Draft)) → IsBatchApplied I E F drafts m n → n.published ≡ m.published
      → IfSome F (λ F. length F ≡ length I.exams) → AreSuited I drafts → IsConsistent n
  renewed_together {n = n} kept None drafts renewed stays exams suited =
      by_parts (renewed.0 ∙ sym kept) (still_suited n renewed.1) (still_found n stays)
      (still_judged n renewed.1 renewed.2)
  renewed_together {n = n} {I = I} {E = E} kept (Some F) drafts renewed stays exams suited = record {
    judged = λ J G is d found there draft at. absurd (none_no_some (renewed.2 d) there);
    exams = subst AreConsistent (sym renewed.0) exams;
    drafts = λ J G is. subst (λ K. AreSuited K n.drafts) (session J G is)
        (subst (AreSuited I) (sym renewed.1) suited);
    published = λ J G is. subst (λ K. IsFoundIn K n.published) (session J G is)
        (still_found n stays I E kept);
  }
    where
      session : (J : Session) (G : Enrolled) → n.kept ≡ Some (J, G) → I ≡ J
      session J G is = ap (λ (p : Session × Enrolled). p.0) (same_Some _ _ (sym renewed.0 ∙ is))

-- a timetable that fits these enrolments is one of the session
pub suits_of : {kept : Memory} {I : Session} {E : Enrolled} {T : Placing} → kept ≡ Some (I, E)
    → Fits I E T → (J : Session) (F : Enrolled) → kept ≡ Some (J, F) → Suits J T
suits_of {T = T} kept fits J F other =
    subst (λ (p : Session × Enrolled). Suits p.0 T) (same_Some _ _ (sym kept ∙ other))
    (record { exams = fits.timetable; places = fits.places })

-- the published rows have seats; also if nothing is published
pub published_seats : (I : Session) (p : Option Publication) → AreFound I p
    → AreSeated I (publication_rows p)
published_seats I None found = record {
  in_order = λ j k row before no. absurd (omega (arith, no));
  within = λ k row no. absurd (omega (arith, no));
  own = λ j k row before no. absurd (omega (arith, no));
}
published_seats I (Some p) found = found.seated

-- the breaches of a draft are its breaches, if they are kept
pub few_right : (m : OfficeMemory) (d : ℕ) {I : Session} {E : Enrolled} {draft : Draft}
    {list : List Breach} → m.kept ≡ Some (I, E) → draft_at m.drafts d ≡ Some draft
    → list ≡ breaches_of I E draft.timetable → (few : Option (Vec Breach Global))
    → IfSome few (λ v. v.items ≡ list) → (J : Session) (F : Enrolled) → m.kept ≡ Some (J, F)
    → IfSome few (λ v. (other : Draft) → draft_at m.drafts d ≡ Some other
    → v.items ≡ breaches_of J F other.timetable)
few_right m d kept at is None same J F also = tt
few_right m d kept at is (Some v) same J F also =
    λ other there.
    let both = same_Some _ _ (sym kept ∙ also) in
    let one = same_Some _ _ (sym at ∙ there) in
    same ∙ is ∙ (λ i. breaches_of (both i).0 (both i).1 (one i).timetable)

-- ---- a draft in memory

pub fits_in : {m : OfficeMemory} {I : Session} {E : Enrolled} {draft : Draft} → IsConsistent m
    → m.kept ≡ Some (I, E) → (d : ℕ) → draft_at m.drafts d ≡ Some draft → Fits I E draft.timetable
fits_in {I = I} {E = E} {draft = draft} together kept d at =
    let suits = together.drafts I E kept d draft at in
    record {
      enrolments = subst AreConsistent kept together.exams;
      timetable = suits.exams;
      places = suits.places;
    }
