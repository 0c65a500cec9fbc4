-- The progress of the reading of a batch, record by record.
use Rattle.std.proofs.Common.{◌≡◌, ◌∙◌, ℕ, zero, suc, ◌+◌, ◌<◌, ◌≤◌, List, [], ◌∷◌, length, Bor, Option, Some, None, Result, Ok, Err, refl, ap, ap₂, sym, true, false, arith, slice_index_or}
use Rattle.std.proofs.lemmas.Bool.{le-leb}
use Rattle.csv.specs.Machine.{Read, next_record}
use Rattle.csv.specs.Records.{field_at}
use Rattle.csv.specs.Reading.{ReadRecord, Reached, Ready, default_config, records_from, records_next, source_of, strip_bom}
use Rattle.csv.specs.declared.parser.State.{State}
use Rattle.csv.specs.declared.parser.State.TheVariants as state
use Rattle.csv.specs.declared.reader.Reader.{Reader}
use Rattle.csv.specs.declared.reader.Trim.TheVariants as trim
use Rattle.csv.proofs.ReadFacts.{rows-end, rows-more}
use Rattle.exam_terms.specs.Refusing.{◌>>=◌}
use Rattle.exam_model.specs.declared.change.Change.{Change}
use Rattle.office_files.specs.Reading.{at_line}
use Rattle.office_files.specs.declared.fault.FaultKind.TheVariants.{BadHeader}
use Rattle.office_files.specs.declared.fault.FileFault.{FileFault}
use Rattle.office_batches.proofs.TurnLemmas.{all_records}
use Rattle.office_batches.specs.Records.{Record}
use Rattle.office_batches.specs.BatchText.{with_record, changes_from, records_in}

-- the bytes of a slice as a reader
abbrev pub bytes_of : Bor (List ℕ) → Option (List ℕ)
bytes_of s = Some s.now

-- after this many records of a text, with these changes: the rest is read from here
pub record IsAfterRecords (text : List ℕ) (reader : Reader (Bor (List ℕ)))
    (changes : List Change) (before : ℕ)
    : Type 0 where
  pub left : List ℕ
  pub turns : ℕ
  pub source : source_of bytes_of reader ≡ Some left
  pub config : reader.config ≡ default_config
  pub trim : reader.trim ≡ trim.None
  pub ready : Ready reader
  pub counted : before + turns ≡ length text + 1
  pub whole : changes_from 1 [] (records_in text)
      ≡ changes_from (before + 1) changes (records_from default_config turns reader.state left)

-- a record that was read, followed by the others
step_from : (n : ℕ) (s t : State) (y z : List ℕ) (f : Record) (p : Read)
    → next_record default_config s [] [] y ≡ Some p → f ≡ p.0 → p.1 ≡ t → p.2 ≡ z
    → records_from default_config (suc n) s y ≡ f ∷ records_from default_config n t z
unfolding records_from
step_from n s t y z f p is first state left =
    ap (records_next (records_from default_config n)) is
    ∙ ap₂ (λ (x : Record) (xs : List Record). x ∷ xs) (sym first)
    (ap₂ (records_from default_config n) state left)

-- if no record is found, there is none
none_from : (n : ℕ) (s : State) (y : List ℕ) → next_record default_config s [] [] y ≡ None
    → records_from default_config n s y ≡ []
unfolding records_from
none_from zero s y is = refl
none_from (suc n) s y is = ap (records_next (records_from default_config n)) is

-- one more record
one_more : (a b : Reader (Bor (List ℕ))) (f : Record) (y : List ℕ) → a.config ≡ default_config
    → source_of bytes_of a ≡ Some y → ReadRecord bytes_of a b true f
    → (z : List ℕ) × (source_of bytes_of b ≡ Some z) × ((n : ℕ)
    → records_from default_config (suc n) a.state y ≡ f ∷ records_from default_config n b.state z)
unfolding Reached
one_more a b f y config source reads =
    let m = rows-more bytes_of a b f default_config a.state y y [] config source
    (refl, refl) reads in
    (m.0, m.1, λ n. step_from n a.state b.state y m.0 f m.2.0 m.2.1 m.2.2 m.2.3.0 m.2.3.1)

-- a turn that is left
one_turn : (t : ℕ) → 0 < t → (n : ℕ) × (t ≡ suc n)
one_turn zero h = absurd (omega arith)
one_turn (suc n) h = (n, refl)

-- the start of the reading
pub started : (text : List ℕ) (reader : Reader (Bor (List ℕ)))
    → source_of bytes_of reader ≡ Some (strip_bom text) → reader.config ≡ default_config
    → reader.trim ≡ trim.None → Ready reader → reader.state ≡ state.StartRecord
    → IsAfterRecords text reader [] 0
started text reader source config trim ready begins = record {
  left = strip_bom text;
  turns = length text + 1;
  source = source;
  config = config;
  trim = trim;
  ready = ready;
  counted = omega arith;
  whole = ap (changes_from 1 []) (sym (all_records text))
      ∙ ap (λ (s : State).
      changes_from 1 [] (records_from default_config (length text + 1) s (strip_bom text)))
      (sym begins);
}

module _ (text : List ℕ) (a b : Reader (Bor (List ℕ))) (changes : List Change) (before : ℕ)
    (f : Record) (at : IsAfterRecords text a changes before) where
  -- the changes after the next record
  read_on : before < length text + 1 → ReadRecord bytes_of a b true f
      → (left : List ℕ) × (n : ℕ) × (source_of bytes_of b ≡ Some left)
      × (before + 1 + n ≡ length text + 1)
      × (changes_from 1 [] (records_in text)
      ≡ (at_line (before + 1) (with_record (before + 1) changes f) >>= λ now.
      changes_from (before + 1 + 1) now (records_from default_config n b.state left)))
  read_on within reads =
      let more = one_more a b f at.left at.config at.source reads in
      let some : 0 < at.turns = omega (arith, at.counted) in
      let turn = one_turn at.turns some in
      let counted : before + 1 + turn.0 ≡ length text + 1 = omega (arith, turn.1, at.counted) in (
        more.0,
        turn.0,
        more.1,
        counted,
        at.whole
            ∙ ap (λ (t : ℕ). changes_from (before + 1) changes
            (records_from default_config t a.state at.left))
            turn.1
            ∙ ap (changes_from (before + 1) changes) (more.2 turn.0),
      )

  -- one more record that is accepted
  pub advanced : (new : List Change) → before < length text + 1 → ReadRecord bytes_of a b true f
      → Ready b → at_line (before + 1) (with_record (before + 1) changes f) ≡ Ok new
      → IsAfterRecords text b new (before + 1)
  advanced new within reads ready result_is =
      let on = read_on within reads in
      record {
        left = on.0;
        turns = on.1;
        source = on.2;
        config = reads.2 ∙ at.config;
        trim = reads.3 ∙ at.trim;
        ready = ready;
        counted = on.3;
        whole = on.4 ∙ ap (λ (r : Result (List Change) FileFault). r >>= λ now.
            changes_from (before + 1 + 1) now
            (records_from default_config on.1 b.state on.0)) result_is;
      }

  -- one more record that is refused
  pub refused : (fault : FileFault) → before < length text + 1 → ReadRecord bytes_of a b true f
      → at_line (before + 1) (with_record (before + 1) changes f) ≡ Err fault
      → changes_from 1 [] (records_in text) ≡ Err fault
  refused fault within reads result_is =
      let on = read_on within reads in
      on.4 ∙ ap (λ (r : Result (List Change) FileFault). r >>= λ now.
      changes_from (before + 1 + 1) now (records_from default_config on.1 b.state on.0)) result_is

  -- no further record
  pub ended : ReadRecord bytes_of a b false f
      → changes_from 1 [] (records_in text) ≡ changes_from (before + 1) changes []
  ended reads =
      at.whole
      ∙ ap (changes_from (before + 1) changes) (none_from at.turns a.state at.left
      (rows-end bytes_of a b f default_config at.left at.config at.source reads))

-- no turn is left
pub spent : (text : List ℕ) (a : Reader (Bor (List ℕ))) (changes : List Change) (before : ℕ)
    → IsAfterRecords text a changes before → length text + 1 ≤ before
    → changes_from 1 [] (records_in text) ≡ changes_from (before + 1) changes []
unfolding records_from
spent text a changes before at all =
    let none : at.turns ≡ 0 = omega (arith, at.counted) in
    at.whole
    ∙ ap (λ (t : ℕ). changes_from (before + 1) changes
    (records_from default_config t a.state at.left))
    none

-- after a header the changes are complete
pub all_changes : (n : ℕ) (changes : List Change) → 1 ≤ n
    → changes_from (n + 1) changes [] ≡ Ok changes
all_changes n changes some =
    let header : 2 ≤ n + 1 = omega arith in
    rw (le-leb 2 (n + 1) header) refl

-- without a record there is no header
pub no_header : (n : ℕ) (changes : List Change) → n ≡ 0
    → changes_from (n + 1) changes [] ≡ Err (record { line = 1; what = BadHeader })
no_header n changes none = rw none refl

-- a field that is missing
pub absent : (fields : Record) (i : ℕ) → field_at fields i ≡ None → slice_index_or fields i [] ≡ []
unfolding field_at
absent [] i none = refl
absent (f ∷ fs) zero none = cc
absent (f ∷ fs) (suc i) none = absent fs i none
