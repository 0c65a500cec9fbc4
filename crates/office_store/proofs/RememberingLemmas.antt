-- What is in memory after a command.
use Rattle.std.proofs.Common.{◌≡◌, ℕ, ◌+◌, ◌<◌, ◌≤◌, inl, inr, subst, Bool, true, false, cond, eqb, eqb-true, List, length, Option, Some, None, Result, Ok, option_map, refl, sym, ◌∙◌, ap, arith}
use Rattle.std.specs.Prelude.{IfSome, Vec}
use Rattle.std.specs.declared.alloc.Global.{Global}
use Rattle.std.proofs.lemmas.Bool.{cases_lt}
use Rattle.std.proofs.lemmas.Bool.Decides.{nat_tests}
use Rattle.std.proofs.lemmas.Option.{same_Some}
use Rattle.exam_lists.proofs.Results.{same_Ok}
use Rattle.exam_rules.specs.declared.breach.Breach.{Breach}
use Rattle.exam_model.specs.Enrolments.{Enrolled}
use Rattle.exam_model.specs.Instance.{Session}
use Rattle.exam_model.specs.Timetable.{Placing}
use Rattle.exam_publish.specs.declared.seat_row.SeatRow.{SeatRow}
use Rattle.office_enrolment.specs.AfterBatch.{current_enrolments}
use Rattle.exam_score.specs.Penalty.{Penalty}
use Rattle.exam_score.specs.Track.{track}
use Rattle.office_model.specs.Office.{KeptBatch, OfficeState, Publication, Records, published_enrolments, set_at}
use Rattle.office_model.specs.declared.fault.StoreFault.{StoreFault}
use Rattle.office_records.specs.FoundPublications.{publication_from}
use Rattle.office_records.specs.Memory.{draft_at, with_penalty}
use Rattle.office_records.specs.declared.drafts.Draft.{Draft}
use Rattle.office_store.specs.Memory.{AreRescored, HasJudged, HasPublished, HasPut, IsMemoryOf, IsBatchApplied, rescored_draft}
use Rattle.office_store.specs.declared.memory.OfficeMemory.{OfficeMemory}

-- a command leads to only one office
pub next_is : {A : Type 0} {x y : A} {o p : OfficeState}
    {gives : Result (A × OfficeState) StoreFault}
    → gives ≡ Ok (x, o) → gives ≡ Ok (y, p) → p ≡ o
next_is {A} one other = ap (λ (p : A × OfficeState). p.1) (same_Ok (sym other ∙ one))

-- one draft replaces another
pub one_changed : (r : Records) (m n : OfficeMemory) (d : ℕ) (x : Option Placing)
    → IsMemoryOf (Some r) m → HasPut d (option_map (with_penalty r.session r.enrolments) x) m n
    → IsMemoryOf (Some (record r { draft = set_at d x r.draft })) n
one_changed r m n d x is put = record {
  session = is.session ∙ sym put.kept;
  batches = is.batches ∙ sym put.batches;
  drafts = λ e. go e (eqb e d) refl;
  published = is.published ∙ ap publication_from (sym put.published);
  priced = is.priced ∙ sym put.priced;
}
  where
    go : (e : ℕ) (b : Bool) → eqb e d ≡ b → draft_at n.drafts e
        ≡ option_map (with_penalty r.session r.enrolments) (cond b x (r.draft e))
    go e true same = ap (draft_at n.drafts) (eqb-true e d same) ∙ put.put
    go e false same =
        put.others e (λ here. let there : eqb e d ≡ true = grind (arith, nat_tests, here) in cc)
        ∙ is.drafts e

-- the memory is of the same office, whatever breaches are kept
pub still_memory : {o : OfficeState} {d : ℕ} {found : Option (Vec Breach Global)} {m n : OfficeMemory}
    → IsMemoryOf o m → (d ≤ 8 → HasJudged d found m n) → (8 < d → n ≡ m) → IsMemoryOf o n
still_memory {o = o} {d = d} is within beyond = elim (cases_lt 8 d) [
  | inl high ↦ subst (IsMemoryOf o) (sym (beyond high)) is
  | inr low ↦
      let has = within low in
      record {
        session = is.session ∙ sym has.kept;
        batches = is.batches ∙ sym has.batches;
        drafts = λ e. ap (λ l. draft_at l e) has.drafts ∙ is.drafts e;
        published = is.published ∙ ap publication_from (sym has.published);
        priced = is.priced ∙ sym has.priced;
      }
]

-- a publication replaces the one before
pub published_changed : (r : Records) (m n : OfficeMemory) (new : Placing × Vec SeatRow Global)
    (penalty : Penalty) (p : Publication) → IsMemoryOf (Some r) m → HasPublished new penalty m n
    → publication_from (Some new) ≡ Some p
    → track r.session (published_enrolments r.session p) p.timetable ≡ penalty
    → IsMemoryOf (Some (record r { published = Some p })) n
published_changed r m n new penalty p is has made costs = record {
  session = is.session ∙ sym has.kept;
  batches = is.batches ∙ sym has.batches;
  drafts = λ d. ap (λ l. draft_at l d) has.drafts ∙ is.drafts d;
  published = sym made ∙ ap publication_from (sym has.published);
  priced = ap Some costs ∙ sym has.priced;
}

-- ---- a batch

pub twice : (I J : Session) (E F : Enrolled) (x : Option Placing)
    → option_map (rescored_draft I F) (option_map (with_penalty J E) x) ≡ option_map (with_penalty I F) x
twice I J E F None = refl
twice I J E F (Some T) = refl

module _ {r : Records} {m : OfficeMemory} {I : Session} {E : Enrolled} (kept : m.kept ≡ Some (I, E))
    (is : IsMemoryOf (Some r) m) where
  both : ◌≡◌ {A = Session × Enrolled} (r.session, r.enrolments) (I, E)
  both = same_Some _ _ (is.session ∙ kept)

  pub after_lines : {n : OfficeMemory} (all : List KeptBatch) (drafts : List (Option Draft))
      → length all ≡ length r.batches + 1 → n.batches ≡ m.batches + 1 → n.published ≡ m.published
      → n.priced ≡ m.priced → (F : Option Enrolled) → IsBatchApplied I E F drafts m n
      → IfSome F (λ F. AreRescored I F m.drafts drafts)
      → IsMemoryOf (Some (record r { enrolments = current_enrolments F r.enrolments; batches = all })) n
  after_lines all drafts count batches stays priced None renewed scored = record {
    session = is.session ∙ kept ∙ sym renewed.0;
    batches = let old = is.batches in omega (arith, count, batches, old);
    drafts = λ d. ap (λ l. draft_at l d) renewed.1 ∙ is.drafts d;
    published = is.published ∙ ap publication_from (sym stays);
    priced = is.priced ∙ sym priced;
  }
  after_lines all drafts count batches stays priced (Some F) renewed scored = record {
    session = ap (λ (p : Session × Enrolled). Some (p.0, F)) both ∙ sym renewed.0;
    batches = let old = is.batches in omega (arith, count, batches, old);
    drafts = λ d. ap (λ l. draft_at l d) renewed.1 ∙ scored d
        ∙ ap (option_map (rescored_draft I F)) (is.drafts d)
        ∙ twice I r.session r.enrolments F (r.draft d)
        ∙ ap (λ (p : Session × Enrolled). option_map (with_penalty p.0 F) (r.draft d)) (sym both);
    published = is.published ∙ ap publication_from (sym stays);
    priced = is.priced ∙ sym priced;
  }
