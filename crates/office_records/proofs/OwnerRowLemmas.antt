-- Rows of owners, one after another.
use Rattle.std.proofs.lemmas.Grind.{common_steps}
use Rattle.std.proofs.Common.{◌≡◌, ◌≢◌, ℕ, suc, ◌<◌, ◌≤◌, cond, eqb, List, [], ◌∷◌, ◌++◌, map, length, get_or, refl, sym, ◌∙◌, ap, arith, take, drop}
use Rattle.std.proofs.Math.Seq.{split_at}
use Rattle.std.proofs.lemmas.Bool.{eq-eqb, eqb-false}
use Rattle.std.proofs.lemmas.Bool.Decides.{nat_tests}
use Rattle.std.proofs.lemmas.List.{map-append}
use Rattle.std.proofs.lemmas.List.Elements.{filter-append}
use Rattle.exam_lists.proofs.Parts.{append_only}
use Rattle.exam_model.specs.Instance.{Session}
use Rattle.office_tables.specs.declared.tables.owner.OwnerRow.{OwnerRow}
use Rattle.office_records.specs.Found.{AreOwners}
use Rattle.office_records.specs.NextRow.{IsFirstOwner}
use Rattle.office_records.specs.TableRows.{owners_at, some_dept}

-- the departments that these rows name, for this many exams
pub record AreNamed (n : ℕ) (done : List OwnerRow) (noted : List ℕ) : Type 0 where
  pub exams : length noted ≡ n
  pub rows : (e : ℕ) → map (λ o. o.dept) (owners_at e done) ≡ some_dept (get_or noted e 0)
  pub departments : (e : ℕ) → get_or noted e 0 ≤ 999

-- an exam's departments in the rows before, in this row and in those after
split : (e : ℕ) (before : List OwnerRow) (row : OwnerRow) (after : List OwnerRow)
    → map (λ o. o.dept) (owners_at e (before ++ row ∷ after))
    ≡ map (λ o. o.dept) (owners_at e before) ++ map (λ o. o.dept) (owners_at e (row ∷ after))
split e before row after =
    ap (map (λ (o : OwnerRow). o.dept)) (filter-append (λ o. eqb o.exam e) before (row ∷ after))
    ∙ map-append (λ (o : OwnerRow). o.dept) (owners_at e before) (owners_at e (row ∷ after))

-- rows that name departments have these owners
pub owners_named : (I : Session) (rows : List OwnerRow) (departments : List ℕ)
    → AreNamed (length I.exams) rows departments → AreOwners I rows (λ e. get_or departments e 0)
owners_named I rows departments named = grind (arith, common_steps)

none_is : (d : ℕ) → some_dept d ≡ [] → d ≡ 0
none_is d is = grind (arith, nat_tests, is)

-- if rows have owners, each is a first one after those before it
pub owner_first : (I : Session) (rows : List OwnerRow) (i : ℕ) (d : OwnerRow)
    (departments : List ℕ) (owner_of : ℕ → ℕ) → i < length rows
    → AreNamed (length I.exams) (take i rows) departments → AreOwners I rows owner_of
    → IsFirstOwner departments (get_or rows i d)
owner_first I rows i d departments owner_of lt named owners =
    let row = get_or rows i d in
    let before = take i rows in
    let after = drop (suc i) rows in
    let whole = ap (λ b. map (λ (o : OwnerRow). o.dept) (owners_at row.exam before)
    ++ map (λ (o : OwnerRow). o.dept)
    (cond b (row ∷ owners_at row.exam after) (owners_at row.exam after)))
    (sym (eq-eqb row.exam row.exam refl))
    ∙ sym (split row.exam before row after)
    ∙ ap (λ l. map (λ (o : OwnerRow). o.dept) (owners_at row.exam l)) (sym (split_at rows i d lt))
    ∙ owners.rows row.exam in
    let one = append_only (owner_of row.exam) row.dept (eqb (owner_of row.exam) 0) _ _ whole in
    let some : owner_of row.exam ≢ 0 = eqb-false (owner_of row.exam) 0 one.2 in
    let few = owners.departments row.exam in
    record {
      exam = let exists = owners.owned row.exam some in
          let all = named.exams in omega arith;
      unowned = none_is (get_or departments row.exam 0) (sym (named.rows row.exam) ∙ one.0);
      department = let is = one.1 in (omega arith, omega arith);
    }
