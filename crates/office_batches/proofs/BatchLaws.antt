-- The reading of a batch and the relation of text and changes say the same.
use Rattle.std.proofs.Common.{◌≡◌, ℕ, ◌+◌, ◌≤◌, Bool, true, false, List, [], ◌∷◌, ◌++◌, length, map, Result, Ok, Err, Some, None, refl, sym, ap, ap₂, ◌∙◌, arith, append-nil}
use Rattle.std.specs.Prelude.{nat_le, if◌then◌else◌}
use Rattle.std.proofs.lemmas.Bool.{le-leb, leb-true, ne_eqb}
use Rattle.std.proofs.lemmas.List.{append_assoc}
use Rattle.exam_terms.specs.Refusing.{◌>>=◌, unless}
use Rattle.exam_model.specs.declared.change.Change.{Change}
use Rattle.office_files.specs.Reading.{fault_of}
use Rattle.office_files.specs.FirstFault.{at_line_or}
use Rattle.office_files.specs.Reading.{at_line}
use Rattle.office_files.specs.declared.fault.FaultKind.{FaultKind}
use Rattle.office_files.specs.declared.fault.FaultKind.TheVariants.{TooLong, BadHeader}
use Rattle.office_files.specs.declared.fault.FileFault.{FileFault}
use Rattle.office_batches.specs.Records.{Record, change_in, is_header}
use Rattle.office_batches.specs.BatchText.{BatchText, changes_from, records_in, batch_in}
use Rattle.office_batches.specs.FirstFault.{first_from, first_of, first_batch_fault}

-- ---- records after the first

-- the reading goes on after a record with its change
abbrev going_on : ℕ → List Change → List Record → Result Change FaultKind
    → Result (List Change) FileFault
going_on line before others c =
    at_line line (c >>= λ change. Ok (before ++ change ∷ [])) >>= λ now.
    changes_from (line + 1) now others

step : (line : ℕ) (before : List Change) (fields : Record) (others : List Record) → 2 ≤ line
    → changes_from line before (fields ∷ others) ≡ going_on line before others (change_in fields)
step line before fields others le =
    ap (λ b. at_line line (if b then (unless (is_header fields) BadHeader >>= λ _. Ok before)
    else (change_in fields >>= λ change. Ok (before ++ change ∷ []))) >>= λ now.
    changes_from (line + 1) now others)
    (ne_eqb line 1 (λ same. omega arith))

end : (line : ℕ) (before : List Change) → 2 ≤ line → changes_from line before [] ≡ Ok before
end line before le = ap (λ b. at_line 1 (unless b BadHeader) >>= λ _. Ok before) (le-leb 2 line le)

more : (before xs : List Change) (x : Change) → (before ++ x ∷ []) ++ xs ≡ before ++ x ∷ xs
more before xs x = rw append_assoc refl

read_from : (line : ℕ) (before : List Change) (rs : List Record) (xs : List Change) → 2 ≤ line
    → map change_in rs ≡ map Ok xs → changes_from line before rs ≡ Ok (before ++ xs)
read_from line before [] [] le is = end line before le ∙ ap Ok (sym (append-nil before))
read_from line before [] (x ∷ xs) le is = absurd (cc)
read_from line before (r ∷ rs) [] le is = absurd (cc)
read_from line before (r ∷ rs) (x ∷ xs) le is =
    let both : change_in r ∷ map change_in rs ≡ Ok x ∷ map Ok xs = is in
    let head : change_in r ≡ Ok x = cc in
    let tail : map change_in rs ≡ map Ok xs = cc in
    step line before r rs le
    ∙ ap (going_on line before rs) head
    ∙ read_from (line + 1) (before ++ x ∷ []) rs xs (omega arith) tail
    ∙ ap Ok (more before xs x)

-- the result of a reading is the list of its records' changes
abbrev GivesChanges : List Change → List Record → List Change → Type 0
GivesChanges before rs out = (xs : List Change) × (out ≡ before ++ xs)
    × (map change_in rs ≡ map Ok xs)

spelled_by : (line : ℕ) (before : List Change) (r : Record) (rs : List Record) (out : List Change)
    → 2 ≤ line
    → changes_from line before (r ∷ rs) ≡ Ok out → (c : Result Change FaultKind) → change_in r ≡ c
    → ((x : Change) → changes_from (line + 1) (before ++ x ∷ []) rs ≡ Ok out
    → GivesChanges (before ++ x ∷ []) rs out)
    → GivesChanges before (r ∷ rs) out
spelled_by line before r rs out le is (Err what) e later =
    let apart : Err (let f : FileFault = record { line = line; what = what } in f) ≡ Ok out
    = sym (step line before r rs le ∙ ap (going_on line before rs) e) ∙ is in
    absurd (cc)
spelled_by line before r rs out le is (Ok x) e later =
    let said = later x (sym (step line before r rs le ∙ ap (going_on line before rs) e) ∙ is) in
    (x ∷ said.0, said.1 ∙ more before said.0 x, ap₂ (λ y ys. y ∷ ys) e said.2)

spelled_from : (line : ℕ) (before : List Change) (rs : List Record) (out : List Change) → 2 ≤ line
    → changes_from line before rs ≡ Ok out → GivesChanges before rs out
spelled_from line before [] out le is =
    let same : Ok before ≡ Ok out = sym (end line before le) ∙ is in
    let equal : before ≡ out = cc in
    ([], sym equal ∙ sym (append-nil before), refl)
spelled_from line before (r ∷ rs) out le is =
    spelled_by line before r rs out le is (change_in r) refl
    (λ x read. spelled_from (line + 1) (before ++ x ∷ []) rs out (omega arith) read)

fault_as : (line : ℕ) (before : List Change) (r : Record) (rs : List Record) → 2 ≤ line
    → (c : Result Change FaultKind) → change_in r ≡ c
    → ((x : Change) → first_from (line + 1) rs
    ≡ fault_of (changes_from (line + 1) (before ++ x ∷ []) rs))
    → first_from line (r ∷ rs) ≡ fault_of (changes_from line before (r ∷ rs))
fault_as line before r rs le (Err what) e later =
    ap (λ d. at_line_or line (fault_of d) (first_from (line + 1) rs)) e
    ∙ sym (ap fault_of (step line before r rs le ∙ ap (going_on line before rs) e))
fault_as line before r rs le (Ok x) e later =
    ap (λ d. at_line_or line (fault_of d) (first_from (line + 1) rs)) e
    ∙ later x
    ∙ sym (ap fault_of (step line before r rs le ∙ ap (going_on line before rs) e))

fault_from : (line : ℕ) (before : List Change) (rs : List Record) → 2 ≤ line
    → first_from line rs ≡ fault_of (changes_from line before rs)
fault_from line before [] le = sym (ap fault_of (end line before le))
fault_from line before (r ∷ rs) le =
    fault_as line before r rs le (change_in r) refl
    (λ x. fault_from (line + 1) (before ++ x ∷ []) rs (omega arith))

-- ---- the whole

-- the reading, by whether the text is short enough, and by whether a record names the columns
abbrev sized : List ℕ → Bool → Result (List Change) FileFault
sized b t = at_line 0 (unless t TooLong) >>= λ _. changes_from 1 [] (records_in b)

abbrev headed : List Record → Bool → Result (List Change) FileFault
headed others t = at_line 1 (unless t BadHeader >>= λ _. Ok []) >>= λ now. changes_from 2 now others

pub batch_read : (b : List ℕ) (xs : List Change) → BatchText b xs → batch_in b ≡ Ok xs
batch_read b xs t =
    ap (sized b) (le-leb (length b) 1048576 t.within)
    ∙ ap (changes_from 1 []) t.records
    ∙ ap (headed t.others) t.columns
    ∙ read_from 2 [] t.others xs (omega arith) t.say

pub batch_spelled : (b : List ℕ) (xs : List Change) → batch_in b ≡ Ok xs → BatchText b xs
batch_spelled b xs is = by_size (nat_le (length b) 1048576) refl
  where
    by_header : (h : Record) (others : List Record) → length b ≤ 1048576 → records_in b ≡ h ∷ others
        → (t : Bool) → is_header h ≡ t → headed others t ≡ Ok xs → BatchText b xs
    by_header h others le are false e read = absurd (cc)
    by_header h others le are true e read =
        let said = spelled_from 2 [] others xs (omega arith) read in
        record {
          within = le;
          header = h;
          others = others;
          records = are;
          columns = e;
          say = said.2 ∙ ap (map Ok) (sym said.1);
        }

    by_records : length b ≤ 1048576 → (rs : List Record) → records_in b ≡ rs
        → changes_from 1 [] rs ≡ Ok xs → BatchText b xs
    by_records le [] are read = absurd (cc)
    by_records le (h ∷ others) are read = by_header h others le are (is_header h) refl read

    by_size : (t : Bool) → nat_le (length b) 1048576 ≡ t → BatchText b xs
    by_size false e =
        let apart : sized b false ≡ Ok xs = sym (ap (sized b) e) ∙ is in
        absurd (cc)
    by_size true e =
        by_records (leb-true (length b) 1048576 e) (records_in b) refl (sym (ap (sized b) e) ∙ is)

pub batch_fault : (b : List ℕ) → first_batch_fault b ≡ fault_of (batch_in b)
batch_fault b = by_size (nat_le (length b) 1048576)
  where
    by_header : (others : List Record) (t : Bool)
        → at_line_or 1 (if t then None else Some BadHeader) (first_from 2 others)
        ≡ fault_of (headed others t)
    by_header others true = fault_from 2 [] others (omega arith)
    by_header others false = refl

    by_records : (rs : List Record) → first_of rs ≡ fault_of (changes_from 1 [] rs)
    by_records [] = refl
    by_records (h ∷ others) = by_header others (is_header h)

    by_size : (t : Bool)
        → (if t then first_of (records_in b)
        else Some (let f : FileFault = record { line = 0; what = TooLong } in f))
        ≡ fault_of (sized b t)
    by_size true = by_records (records_in b)
    by_size false = refl

pub batch_once : (b : List ℕ) (xs ys : List Change) → BatchText b xs → BatchText b ys → xs ≡ ys
batch_once b xs ys t u =
    let same : Ok xs ≡ Ok ys = sym (batch_read b xs t) ∙ batch_read b ys u in cc
