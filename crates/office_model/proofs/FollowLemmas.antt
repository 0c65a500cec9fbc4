-- The effect of new changes to a candidate on the office, as far as their view goes.
use Rattle.std.proofs.Common.{◌≡◌, ℕ, Bool, true, false, List, [], ◌∷◌, ◌++◌, Option, Some, None, refl, sym, ◌∙◌, ap, subst, if◌then◌else◌}
use Rattle.std.specs.Prelude.{Result, Ok, Err, IfOk, ◌==◌, nat_le, nat_lt, length}
use Rattle.std.specs.List.{list_all}
use Rattle.exam_terms.specs.Refusing.{◌>>=◌, unless}
use Rattle.exam_model.specs.declared.change.Change.{Change}
use Rattle.exam_model.specs.Changes.{exams_sat}
use Rattle.exam_model.specs.Enrolments.{Enrolled, pair_count}
use Rattle.exam_draft.specs.Edits.{exam_exists}
use Rattle.exam_draft.specs.declared.fault.EditFault.TheVariants as edit
use Rattle.exam_publish.specs.Changed.{rows_of}
use Rattle.office_batches.specs.BatchText.{batch_in}
use Rattle.office_files.specs.declared.fault.FileFault.{FileFault}
use Rattle.office_model.specs.declared.counts.Counts.{Counts}
use Rattle.office_model.specs.declared.fault.StoreFault.TheVariants.{TooMany, Refused, BatchDiffers}
use Rattle.office_model.specs.declared.fault.Refusal.TheVariants as refusal
use Rattle.office_model.specs.Commands.{renamed_fault}
use Rattle.office_model.specs.BatchLines.{after_change, after_changes, enrolment_result, counts_after, no_counts}
use Rattle.office_model.specs.Batches.{changes_to, newly_enrolled, enrolled_by, batch_enrolled, lines_if_new, batch_of_number, batch_numbered, same_bytes}
use Rattle.office_model.specs.Office.{OfficeState, Records, KeptBatch}
use Rattle.office_model.specs.Publishing.{publication_rows}
use Rattle.office_model.specs.Views.{view_of, view_from}
use Rattle.office_model.proofs.CommandLemmas.{bind, bind_by, no_session}
use Rattle.office_model.proofs.SameLemmas.{AreSame, same_self, same_sat, line_same, lines_same, other_same, same_then, lines_both}

-- the session and the publication as before, and the candidate's exams after these changes
pub record Follows (s : ℕ) (changes : List Change) (old new : Records) : Type 0 where
  pub session : new.session ≡ old.session
  pub published : new.published ≡ old.published
  pub same : AreSame s new.enrolments (after_changes changes old.enrolments)

abbrev pub FollowsIn : ℕ → List Change → OfficeState → OfficeState → Type 0
FollowsIn s changes None new = new ≡ None
FollowsIn s changes (Some r) new = (r' : Records) × (new ≡ Some r') × Follows s changes r r'

-- only the lines that name the candidate change their exams
enrolled_own : (s : ℕ) (changes : List Change) (E F : Enrolled) (n : Counts) → AreSame s E F
    → IfOk (enrolment_result changes E n)
    (λ done. AreSame s done.1 (after_changes (changes_to s changes) F))
enrolled_own s [] E F n h = h
enrolled_own s (change ∷ changes) E F n h =
    bind _ (unless (nat_le (pair_count (after_change change E)) 200000) TooMany)
    (λ _. enrolment_result changes (after_change change E) (counts_after change E n))
    (λ _. go (change.student == s) refl
    (λ G k. enrolled_own s changes (after_change change E) G (counts_after change E n) k))
  where
    go : (b : Bool) → (change.student == s) ≡ b
        → ((G : Enrolled) → AreSame s (after_change change E) G
        → IfOk (enrolment_result changes (after_change change E) (counts_after change E n))
        (λ done. AreSame s done.1 (after_changes (changes_to s changes) G)))
        → IfOk (enrolment_result changes (after_change change E) (counts_after change E n))
        (λ done. AreSame s done.1
        (after_changes (if b then change ∷ changes_to s changes else changes_to s changes) F))
    go true e others = others (after_change change F) (line_same s change E F h)
    go false e others =
        others F (same_then s (after_change change E) E F (other_same s change E e) h)

pub follows_self : (s : ℕ) (old : OfficeState) → FollowsIn s [] old old
follows_self s None = refl
follows_self s (Some r) =
    (r, refl, record { session = refl; published = refl; same = same_self s r.enrolments })

new_follows : (s number : ℕ) (bytes : List ℕ) (changes : List Change) (r : Records)
    → IfOk (newly_enrolled number bytes changes r)
    (λ x. FollowsIn s (changes_to s changes) (Some r) x.1)
new_follows s number bytes changes r =
    bind (λ x. FollowsIn s (changes_to s changes) (Some r) x.1)
    (unless (list_all (λ change. exam_exists r.session change.exam) changes)
    (Refused (refusal.Edit edit.NoSuch))) _
    (λ _. bind_by
    (λ done. AreSame s done.1 (after_changes (changes_to s changes) r.enrolments))
    (λ x. FollowsIn s (changes_to s changes) (Some r) x.1)
    (enrolment_result changes r.enrolments no_counts) _
    (enrolled_own s changes r.enrolments r.enrolments no_counts (same_self s r.enrolments))
    (λ done h. bind (λ x. FollowsIn s (changes_to s changes) (Some r) x.1)
    (unless (nat_lt (length r.batches) 10000) TooMany) _
    (λ _. (
      record r {
        enrolments = done.1;
        batches = record { no = number; bytes = bytes; counts = done.0 } ∷ r.batches;
      },
      refl,
      record { session = refl; published = refl; same = h },
    ))))

kept_follows : (s number : ℕ) (bytes : List ℕ) (r : Records) (kept : Option KeptBatch)
    (read : Result (List Change) FileFault)
    → IfOk (renamed_fault (λ f. Refused (refusal.File f)) read
    >>= λ changes. enrolled_by kept number bytes changes r)
    (λ x. FollowsIn s (changes_to s (lines_if_new kept read)) (Some r) x.1)
kept_follows s number bytes r kept (Err fault) = tt
kept_follows s number bytes r None (Ok changes) = new_follows s number bytes changes r
kept_follows s number bytes r (Some kept) (Ok changes) =
    bind (λ x. FollowsIn s [] (Some r) x.1) (unless (same_bytes kept.bytes bytes) BatchDiffers)
    (λ _. Ok (kept.counts, Some r)) (λ _. follows_self s (Some r))

-- an accepted batch follows its new lines
pub batch_follows : (s number : ℕ) (bytes : List ℕ) (old : OfficeState)
    → IfOk (batch_enrolled number bytes old)
    (λ x. FollowsIn s (changes_to s (lines_if_new (batch_of_number old number) (batch_in bytes))) old x.1)
batch_follows s number bytes None =
    no_session _ (batch_in bytes)
    (λ changes r. enrolled_by (batch_numbered number r.batches) number bytes changes r)
batch_follows s number bytes (Some r) =
    kept_follows s number bytes r (batch_numbered number r.batches) (batch_in bytes)

-- ---- one after another, and side by side

follow_both : (s : ℕ) (xs ys : List Change) (a b c : Records) → Follows s xs a b → Follows s ys b c
    → Follows s (xs ++ ys) a c
follow_both s xs ys a b c h k = record {
  session = k.session ∙ h.session;
  published = k.published ∙ h.published;
  same = subst (AreSame s c.enrolments) (sym (lines_both xs ys a.enrolments))
      (same_then s c.enrolments (after_changes ys b.enrolments)
      (after_changes ys (after_changes xs a.enrolments)) k.same
      (lines_same s ys b.enrolments (after_changes xs a.enrolments) h.same));
}

from_some : (s : ℕ) (xs ys : List Change) (r b : Records) (mid new : OfficeState) → Follows s xs r b
    → mid ≡ Some b → FollowsIn s ys mid new → FollowsIn s (xs ++ ys) (Some r) new
from_some s xs ys r b mid new h is k =
    let there : FollowsIn s ys (Some b) new = subst (λ o. FollowsIn s ys o new) is k in
    (there.0, there.1, follow_both s xs ys r b there.0 h there.2)

pub follows_both : (s : ℕ) (xs ys : List Change) (old mid new : OfficeState)
    → FollowsIn s xs old mid → FollowsIn s ys mid new → FollowsIn s (xs ++ ys) old new
follows_both s xs ys None mid new h k = subst (λ o. FollowsIn s ys o new) h k
follows_both s xs ys (Some r) mid new h k = from_some s xs ys r h.0 mid new h.2 h.1 k

same_view : (s : ℕ) (one other : Records) → one.session ≡ other.session
    → one.published ≡ other.published
    → exams_sat one.enrolments s ≡ exams_sat other.enrolments s
    → view_of s (Some one) ≡ view_of s (Some other)
same_view s one other e f g = λ i. view_from (e i) (g i) (f i) (rows_of s (publication_rows (f i)))

-- two offices after the same changes show the candidate the same view
pub follows_alike : (s : ℕ) (xs : List Change) (old one other : OfficeState)
    → FollowsIn s xs old one
    → FollowsIn s xs old other → view_of s one ≡ view_of s other
follows_alike s xs None one other h k = ap (view_of s) (h ∙ sym k)
follows_alike s xs (Some r) one other h k =
    ap (view_of s) h.1
    ∙ same_view s h.0 k.0 ((h.2).session ∙ sym (k.2).session)
    ((h.2).published ∙ sym (k.2).published)
    (same_sat s (h.0).enrolments (after_changes xs r.enrolments) (h.2).same
    ∙ sym (same_sat s (k.0).enrolments (after_changes xs r.enrolments) (k.2).same))
    ∙ sym (ap (view_of s) k.1)
