-- An owner in place of another.
use Rattle.std.proofs.Common.{◌≡◌, ℕ, ◌<◌, ◌≤◌, Bool, true, false, cond, not, eqb, List, ◌∷◌, map, filter, refl, sym, ◌∙◌, ap, arith, subst, Ok, Err, Result, []}
use Rattle.std.proofs.lemmas.Bool.Decides.{nat_tests}
use Rattle.std.specs.Prelude.{Option, Some, None, length, IsPermutation}
use Rattle.exam_lists.proofs.Permutations.{few_read}
use Rattle.exam_lists.proofs.Keys.{key_removed, key_replaced}
use Rattle.sqlite.specs.Effect.{Database}
use Rattle.office_tables.specs.Alterations.{after_some}
use Rattle.office_tables.specs.Tables.{Tables, without_owner, with_owner}
use Rattle.office_tables.specs.TablesHeld.{HoldsTables}
use Rattle.office_tables.specs.Tables.Owner.{InsertOwner}
use Rattle.office_tables.specs.declared.tables.owner.OwnerRow.{OwnerRow}
use Rattle.office_store.specs.Changes.{new_owner, owner_put}
use Rattle.exam_model.specs.Enrolments.{Enrolled}
use Rattle.exam_model.specs.Instance.{Session}
use Rattle.office_model.specs.Office.{OfficeState, Records, set_at}
use Rattle.office_model.proofs.RecordLemmas.{owner_records}
use Rattle.office_store.specs.Memory.{IsMemoryOf}
use Rattle.office_store.specs.declared.memory.OfficeMemory.{OfficeMemory}
use Rattle.office_store.proofs.CommandLemmas.{Denies, MovesBy, Remembers, RowsChanged}
use Rattle.office_store.proofs.RememberingLemmas.{next_is}
use Rattle.office_store.proofs.RunLemmas.{remembered_of}
use Rattle.exam_draft.specs.Edits.{exam_exists}
use Rattle.exam_draft.specs.declared.fault.EditFault.TheVariants.{NoSuch}
use Rattle.office_model.specs.Commands.{set_owner_result, owner_in}
use Rattle.office_records.specs.Representation.{TablesRepresentOffice, TablesRepresentRecords, IsSound, RepresentsOffice}
use Rattle.office_records.specs.TableRows.{owners_at, some_dept}
use Rattle.office_model.specs.declared.fault.Refusal.TheVariants.{Edit}
use Rattle.office_model.specs.declared.fault.StoreFault.{StoreFault}
use Rattle.office_model.specs.declared.fault.StoreFault.TheVariants.{Refused}
use Rattle.office_store.specs.Running.{ReturnsValue}

-- the rows of the exam that is set, and of the others
module _ (t : Tables) (r : Records) (e d : ℕ) (h : TablesRepresentRecords t r) where
  abbrev pub left : List OwnerRow
  left = filter (λ o. not (eqb o.exam e)) t.owner

  none : (x : ℕ) (b : Bool) → eqb x e ≡ b
      → map (λ (o : OwnerRow). o.dept) (owners_at x left) ≡ some_dept (cond b 0 (r.owner_of x))
  none x true f = key_removed (λ (o : OwnerRow). o.exam) (λ o. o.dept) e x true f t.owner
  none x false f = key_removed (λ (o : OwnerRow). o.exam) (λ o. o.dept) e x false f t.owner ∙ h.owner x

  abbrev pub row : OwnerRow
  row = record { exam = e; dept = d }

  one : (x : ℕ) (b : Bool) → eqb x e ≡ b → eqb d 0 ≡ false
      → map (λ (o : OwnerRow). o.dept) (owners_at x (row ∷ left))
      ≡ some_dept (cond b d (r.owner_of x))
  one x true f is =
      key_replaced (λ (o : OwnerRow). o.exam) (λ o. o.dept) row x true f t.owner
      ∙ sym (ap (λ c. cond c [] (d ∷ [])) is)
  one x false f is =
      key_replaced (λ (o : OwnerRow). o.exam) (λ o. o.dept) row x false f t.owner ∙ h.owner x

  zero_is : eqb d 0 ≡ true → 0 ≡ d
  zero_is is = grind (arith, nat_tests, is)

  pub owner_represents : (b : Bool) → eqb d 0 ≡ b
      → TablesRepresentRecords (cond b (without_owner e t) (with_owner row (without_owner e t)))
      (record r { owner_of = set_at e d r.owner_of })
  owner_represents true is = record {
    meta = h.meta;
    owner = λ x. none x (eqb x e) refl
        ∙ ap (λ n. some_dept (cond (eqb x e) n (r.owner_of x))) (zero_is is);
    enrol = h.enrol;
    draft = h.draft;
    slot = h.slot;
    published = h.published;
    batches = h.batches;
  }
  owner_represents false is = record {
    meta = h.meta;
    owner = λ x. one x (eqb x e) refl is;
    enrol = h.enrol;
    draft = h.draft;
    slot = h.slot;
    published = h.published;
    batches = h.batches;
  }

-- the owner is inserted, or nothing
abbrev pub comes : Option InsertOwner → Tables → Tables
comes new t = after_some (λ (it : InsertOwner). with_owner it.row) new t

owner_made : (e d : ℕ) (t : Tables) → comes (new_owner e d) (without_owner e t) ≡ owner_put e d t
owner_made e d t = go (eqb d 0)
  where
    go : (b : Bool)
        → comes (cond b None (Some (record { row = record { exam = e; dept = d } })))
        (without_owner e t)
        ≡ cond b (without_owner e t)
        (with_owner (record { exam = e; dept = d }) (without_owner e t))
    go true = refl
    go false = refl

-- the stored rows of drafts are as before
owner_sound : (t : Tables) (r : Records) (e d : ℕ) (b : Bool) → IsSound t (Some r)
    → IsSound (cond b (without_owner e t)
    (with_owner (record { exam = e; dept = d }) (without_owner e t)))
    (Some (record r { owner_of = set_at e d r.owner_of }))
owner_sound t r e d true h = record { scored = h.scored; shared = h.shared }
owner_sound t r e d false h = record { scored = h.scored; shared = h.shared }

-- the database represents the office with that owner
pub owner_kept : (a b : Database) (r : Records) (e d : ℕ) → RepresentsOffice a (Some r)
    → ((t : Tables) → HoldsTables a t → HoldsTables b (owner_put e d t))
    → e < length r.session.exams → d ≤ 999
    → RepresentsOffice b (Some (record r { owner_of = set_at e d r.owner_of }))
owner_kept a b r e d kept makes exists few = record {
  held = owner_put e d kept.held;
  tables = makes kept.held kept.tables;
  represents = owner_represents kept.held r e d kept.represents (eqb d 0) refl;
  sound = owner_sound kept.held r e d (eqb d 0) kept.sound;
  office = owner_records r e d exists few kept.office;
}

-- what the command returns, by whether there is such an exam
pub owned_there : (r : Records) (e d : ℕ) → e < length r.session.exams
    → set_owner_result e d (Some r) ≡ Ok (tt, Some (record r { owner_of = set_at e d r.owner_of }))
owned_there r e d exists =
    let is : exam_exists r.session e ≡ true = grind (arith, nat_tests, exists) in
    rw is refl

pub owned_nowhere : (r : Records) (e d : ℕ) → length r.session.exams ≤ e
    → set_owner_result e d (Some r) ≡ Err (Refused (Edit NoSuch))
owned_nowhere r e d none =
    let is : exam_exists r.session e ≡ false = grind (arith, nat_tests, none) in
    rw is refl

-- ---- the command, by what is in memory

module _ {a : Database} {m : OfficeMemory} {I : Session} {E : Enrolled} (e d : ℕ)
    (at_hand : m.kept ≡ Some (I, E)) where
  pub no_exam_denied : length I.exams ≤ e → Denies (set_owner_result e d) (Refused (Edit NoSuch)) a m
  no_exam_denied none o kept is =
      let of = remembered_of o I E (is.session ∙ at_hand) in
      ap (set_owner_result e d) of.is
      ∙ owned_nowhere of.records e d (subst (λ I. length I.exams ≤ e) (sym of.session) none)

  module _ (exists : e < length I.exams) where
    pub owner_moves : {n : ℕ} {new : Option InsertOwner} → d ≤ 999 → n ≡ e → new ≡ new_owner n d
        → MovesBy (λ t. comes new (without_owner n t)) (set_owner_result e d) tt a m
    owner_moves {n = n} {new = new} few same is_new b comes_in o kept is =
        let makes : RowsChanged (owner_put n d) a b
        = λ t h. subst (HoldsTables b)
        (ap (λ x. comes x (without_owner n t)) is_new ∙ owner_made n d t) (comes_in t h) in
        let of = remembered_of o I E (is.session ∙ at_hand) in
        let there = subst (λ I. e < length I.exams) (sym of.session) exists in (
          _,
          ap (set_owner_result e d) of.is ∙ owned_there of.records e d there,
          owner_kept a b of.records e d (subst (RepresentsOffice a) of.is kept)
              (subst (λ n. RowsChanged (owner_put n d) a b) same makes) there few,
        )

    pub owner_remembers : Remembers (set_owner_result e d) tt a m m
    owner_remembers o kept is new gives =
        let of = remembered_of o I E (is.session ∙ at_hand) in
        let r = of.records in
        let there = subst (λ I. e < length I.exams) (sym of.session) exists in
        let was = subst (λ o. IsMemoryOf o m) of.is is in
        subst (λ o. IsMemoryOf o m)
        (next_is (ap (set_owner_result e d) (sym of.is) ∙ gives) (owned_there r e d there))
        (record {
          session = was.session;
          batches = was.batches;
          drafts = was.drafts;
          published = was.published;
          priced = was.priced;
        })

-- ---- the owner that is read

few_depts : (dept : ℕ) → length (some_dept dept) ≤ 1
few_depts dept =
    elim (eqb dept 0) as (λ b. length (cond b [] (dept ∷ [])) ≤ 1) [ true ↦ omega arith | false ↦ omega arith ]

pub owner_read : (t : Tables) (o : OfficeState) (e : ℕ) (rows : List OwnerRow)
    → TablesRepresentOffice t o
    → IsPermutation (filter (λ r. eqb r.exam e) t.owner) rows
    → map (λ r. r.dept) rows ≡ some_dept (owner_in e o)
owner_read t None e rows represents p =
    few_read (λ (r : OwnerRow). r.dept) _ rows [] p
    (ap (λ (t : Tables). map (λ (r : OwnerRow). r.dept) (filter (λ r. eqb r.exam e) t.owner)) represents)
    (omega arith)
owner_read t (Some r) e rows represents p =
    few_read (λ (r : OwnerRow). r.dept) _ rows _ p (represents.owner e) (few_depts (r.owner_of e))

pub owner_returned : (dept : ℕ) (r : Result ℕ StoreFault) → r ≡ Ok dept → ReturnsValue dept r
owner_returned dept r is = subst (ReturnsValue dept) (sym is) refl
