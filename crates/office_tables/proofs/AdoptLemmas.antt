-- The tables according to the rows found, and the effect of readers one after another.
use Rattle.std.proofs.lemmas.Grind.{common_steps}
use Rattle.std.proofs.Common.{◌≡◌, map, length, Option, Some, None, Result, Ok, Err, refl, ap, subst, arith}
use Rattle.std.proofs.lemmas.Result.{IfOk-weaker, on_ok_weaker}
use Rattle.std.specs.Result.{IsErrAnd}
use Rattle.sqlite.specs.Effect.{Database}
use Rattle.sqlite.specs.declared.error.Error.{Error}
use Rattle.sqlite.specs.Held.{Held, state}
use Rattle.sqlite.specs.Store.{Ghosts}
use Rattle.sqlite.specs.State.{State, HasCleanDisk, IsUnchanged}
use Rattle.sqlite.proofs.StateLemmas.{survives_then}
use Rattle.office_tables.specs.Adopting.{AdoptsRows, HaveDrafts, HaveShares, IsAdopted, IsForeign, IsForeignIn, found_or_fault}
use Rattle.office_tables.specs.Tables.Batches.{IsFoundBatches}
use Rattle.office_tables.specs.declared.adopting.AdoptFault.{AdoptFault}
use Rattle.office_tables.specs.declared.adopting.AdoptFault.TheVariants.{Foreign, Failed}
use Rattle.office_tables.specs.declared.tables.Found.{Found}
use Rattle.office_tables.specs.Finders.{ReadsUnknownFile, HasTables, ReadEffect}
use Rattle.office_tables.specs.Tables.Metadata.{IsFoundMeta}
use Rattle.office_tables.specs.Tables.Owner.{owner_columns}
use Rattle.office_tables.specs.Tables.Enrol.{enrol_columns}
use Rattle.office_tables.specs.Tables.Slot.{slot_columns}
use Rattle.office_tables.specs.Tables.Placed.{placed_columns}
use Rattle.office_tables.specs.Tables.Seat.{seat_columns}
use Rattle.office_tables.specs.Tables.SharePart.{share_part_columns}
use Rattle.sqlite_schema.specs.declared.schema.Schema.{Schema}
use Rattle.office_tables.specs.Tables.{office_schema, schema_before}
use Rattle.office_tables.specs.declared.version.Version.{Version}
use Rattle.office_tables.specs.declared.version.Version.TheVariants.{One, Two}
use Rattle.office_tables.specs.Versions.{schema_of}
use Rattle.office_tables.specs.Stored.{Holds, keyed_columns, keyless_columns}
use Rattle.office_tables.proofs.Reading.{keeps_after}

-- ---- readers one after another

pub unchanged_then : (a b c : State) → IsUnchanged a b → IsUnchanged b c → IsUnchanged a c
unchanged_then a b c p q = grind (arith, common_steps)

module _ (version : Version) where
  clean_before : (a b : State) → ReadEffect version a b → HasCleanDisk b → HasCleanDisk a
  clean_before a b looks clean = omega (arith, looks.survives.clean)

-- a reader that failed
pub failed_first : {S Y : Type 0} {version : Version} {store : Ghosts S} {js : Database → Y → Type 0}
    {a b : Held S} {r : Result Y Error} (e : Error)
    → ReadEffect version (state store a) (state store b) → IsErrAnd r (λ y. y ≡ e)
    → ReadsUnknownFile version store js a b r
failed_first {r = Ok y} e looks err = absurd err
failed_first {r = Err d} e looks err =
    record { found = λ _ _. tt; same = λ _ _. tt; looks = looks }

module _ {S X : Type 0} {version : Version} {store : Ghosts S} {is : Database → X → Type 0}
    {a b : Held S} {x : X} (first : ReadsUnknownFile version store is a b (Ok x)) where
  mid_is : (c : Held S) → ReadEffect version (state store b) (state store c)
      → HasCleanDisk (state store c) → HasTables version (state store a)
      → IsUnchanged (state store a) (state store b) × HasTables version (state store b)
  mid_is c looks clean tables = grind (arith, common_steps)

  pub looks_then : (c : Held S) → ReadEffect version (state store b) (state store c)
      → ReadEffect version (state store a) (state store c)
  looks_then c looks = record {
    kept = λ clean tables. let mid = mid_is c looks clean tables in
        keeps_after (state store a) (state store b) (state store c) mid.0
        (looks.kept clean mid.1);
    mode = λ rests. looks.mode (first.looks.mode rests);
    survives = survives_then (state store a) (state store b) (state store c) _ _ _
        (λ clean db h. h) (λ clean db h tables. h (mid_is c looks clean tables).1)
        first.looks.survives looks.survives;
  }

  -- a second reader: both find what the first database has
  pub both_found : {Y : Type 0} {js ks : Database → Y → Type 0} {c : Held S} {r : Result Y Error}
      → ReadsUnknownFile version store js b c r
      → ((db : Database) (y : Y) → is db x → js db y → ks db y) → ReadsUnknownFile version store ks a c r
  both_found {js = js} {c = c} {r = r} second more = record {
    found = λ clean tables. let mid = mid_is c second.looks clean tables in
        IfOk-weaker r _ _ (λ y found. more (state store a).now y
        (first.found (clean_before version (state store b) (state store c) second.looks clean)
        tables) (subst (λ db. js db y) mid.0.0.now_is found)) (second.found clean mid.1);
    same = λ clean tables. let mid = mid_is c second.looks clean tables in
        on_ok_weaker r (λ last. unchanged_then _ _ _ mid.0 last) (second.same clean mid.1);
    looks = looks_then c second.looks;
  }

  pub both : {Y : Type 0} {js : Database → Y → Type 0} {c : Held S} {r : Result Y Error}
      → ReadsUnknownFile version store js b c r → ReadsUnknownFile version store (λ db y. is db x × js db y) a c r
  both second = both_found second (λ db y p q. (p, q))

-- ---- any version

pub one_version : (v w : Version) → schema_of v ≡ schema_of w → v ≡ w
one_version One One same = refl
one_version Two Two same = refl
one_version One Two same =
    let long : length schema_before.tables ≡ length office_schema.tables =
    ap (λ (s : Schema). length s.tables) same in absurd (omega (long, arith))
one_version Two One same =
    let long : length office_schema.tables ≡ length schema_before.tables =
    ap (λ (s : Schema). length s.tables) same in absurd (omega (long, arith))

-- a database has one version
in_no_version : (version : Version) (db : Database) → db.schema ≡ schema_of version
    → IsForeignIn version db → IsForeign db
in_no_version version db is foreign v t plain represents = grind (arith, common_steps, one_version)

-- ---- the rows found, or a fault

-- a reader that found rows
pub found_rows : {S X : Type 0} {version : Version} {store : Ghosts S}
    {js : Database → Option X → Type 0} {a c : Held S} {given : Result (Option X) Error} {x : X}
    → ReadsUnknownFile version store js a c given → Ok x ≡ found_or_fault given
    → ReadsUnknownFile version store (λ db y. js db (Some y)) a c (Ok x)
found_rows {version = version} {store = store} {js = js} {a = a} {c = c} {given = Ok (Some y)}
    {x = x} read is = grind (arith, common_steps)
found_rows {given = Ok None} read is = absurd cc
found_rows {given = Err e} read is = absurd cc

-- one more reader that found rows
pub both_rows : {S X Y : Type 0} {version : Version} {store : Ghosts S} {is : Database → X → Type 0}
    {js : Database → Option Y → Type 0} {a b c : Held S} {x : X} {given : Result (Option Y) Error}
    {y : Y} → ReadsUnknownFile version store is a b (Ok x) → ReadsUnknownFile version store js b c given
    → Ok y ≡ found_or_fault given
    → ReadsUnknownFile version store (λ db y. is db x × js db (Some y)) a c (Ok y)
both_rows first read is = both first (found_rows read is)

-- a reader that found none, or failed
pub refused : {S X : Type 0} {version : Version} {store : Ghosts S}
    {js : Database → Option X → Type 0} {a c : Held S} {given : Result (Option X) Error}
    {e : AdoptFault} {r : Result Found AdoptFault}
    → ReadsUnknownFile version store js a c given → Err e ≡ found_or_fault given → IsErrAnd r (λ d. d ≡ e)
    → ((db : Database) → js db None → IsForeignIn version db) → AdoptsRows version store a c r
refused {given = Ok (Some y)} read is err foreign = absurd cc
refused {given = Ok None} {r = Ok found} read is err foreign = absurd err
refused {version = version} {store = store} {a = a} {given = Ok None} {r = Err Foreign}
    read is err foreign = record {
      found = λ clean tables. in_no_version version (state store a).now tables.schema
          (foreign (state store a).now (read.found clean tables));
      same = read.same;
      looks = read.looks;
    }
refused {given = Ok None} {r = Err Failed} read is err foreign =
    record { found = λ _ _. tt; same = λ _ _. tt; looks = read.looks }
refused {given = Err d} {r = Ok found} read is err foreign = absurd err
refused {given = Err d} {r = Err Foreign} read is err foreign = absurd cc
refused {given = Err d} {r = Err Failed} read is err foreign =
    record { found = λ _ _. tt; same = λ _ _. tt; looks = read.looks }

-- all tables hold the rows found
pub rows_found : (db : Database) (found : Found) → db.schema ≡ schema_of found.version
    → IsFoundMeta found.version (db.trees 0) (Some found.meta)
    → Holds keyed_columns (map owner_columns found.owners.items) (db.trees 1)
    → Holds keyless_columns (map enrol_columns found.enrols.items) (db.trees 2)
    → HaveDrafts found.version db found.drafts.items
    → Holds keyless_columns (map slot_columns found.slots.items) (db.trees 5)
    → Holds keyed_columns (map placed_columns found.placements.items) (db.trees 7)
    → Holds keyless_columns (map seat_columns found.seats.items) (db.trees 8)
    → HaveShares found.version db found.student_shares.items
    → Holds keyless_columns (map share_part_columns found.part_shares.items) (db.trees 12)
    → IsFoundBatches db (Some found.batches) → IsAdopted db (Ok found)
rows_found db found schema meta owner enrol drafts slot placed seat shares part batches = (
  batches.0,
  batches.1,
  record {
    schema = schema;
    rows = (meta, (owner, (enrol, (drafts.first, (slot, (placed, (seat, (shares.first, (part, (batches.2, tt))))))))));
    night_draft = drafts.second;
    night_share = shares.second;
  },
)
