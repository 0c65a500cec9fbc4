use Rattle.std.proofs.Common.{rules, IsTrue}
use Rattle.exam_lists.proofs.Results.{OnErr_any}
use Rattle.sqlite.specs.Held.{state}
use Rattle.sqlite.specs.State.{HasCleanDisk, IsUnchanged}
use Rattle.office_tables.specs.Readers.{Keeps}
use Rattle.office_tables.specs.Tables.{Tables}
use Rattle.office_tables.specs.TablesHeld.{HoldsTables}
use Rattle.office_tables.proofs.LookLemmas.{look_text, look_plain, look_plain_in, was_open}
use Rattle.office_tables.proofs.Reading.{commits_nothing, kept_failed, kept_unchanged, shown_same}
use Rattle.office_tables.proofs.looking.check_open.Goals as goal

pub returns : goal.returns
returns g c =
    let old = state g.S.Store c.args.conn.now in
    let new = state g.S.Store c.query_all.new.self in
    let opened : HasCleanDisk new → IsTrue old.is_open =
    λ clean. was_open look_text _ old new _ (c.in_ok-_rows.ensures.ok clean) in
    let same : HasCleanDisk new → (t : Tables) → HoldsTables old.now t → IsUnchanged old new =
    λ clean t represents. shown_same look_text _ old new _ (look_plain_in old t represents)
    (c.in_ok-_rows.ensures.ok clean) in
    record {
      tables = record {
        open_on_ok = opened;
        was_open = λ clean _. opened clean;
        same = same;
        kept = λ clean t represents. kept_unchanged old new (same clean t represents);
        mode = c.query_all.ensures.mode;
        survives = commits_nothing look_text _ old new look_plain c.query_all.ensures.survives;
      };
      failed = λ clean. tt;
    }

pub returns-in_err-_rows : goal.returns-in_err-_rows
returns-in_err-_rows g c =
    let old = state g.S.Store c.args.conn.now in
    let new = state g.S.Store c.query_all.new.self in
    let kept : HasCleanDisk new → Keeps old new =
    λ clean. kept_failed look_text _ old new _ (c.in_err-_rows.ensures.err clean) in
    record {
      tables = record {
        open_on_ok = λ clean. search rules;
        was_open = λ clean. (kept clean).was_open;
        same = λ clean t represents. search rules;
        kept = λ clean t represents. kept clean;
        mode = c.query_all.ensures.mode;
        survives = commits_nothing look_text _ old new look_plain c.query_all.ensures.survives;
      };
      failed = λ clean. OnErr_any c.from_residual.result (kept clean);
    }
