use Rattle.std.proofs.Common.{◌+◌, ◌++◌, ◌∙◌, Vec, Global, drop, false, true, sym, ap}
use Rattle.std.proofs.lemmas.List.{append-nil}
use Rattle.std.proofs.Math.ListN.{drop_of_length-le}
use Rattle.office_tables.specs.declared.tables.placed.PlacedRow.{PlacedRow}
use Rattle.office_store.specs.ChangedPlacements.{changed_rows}
use Rattle.office_store.proofs.ChangedPlacementLemmas.{next_changed}
use Rattle.office_store.proofs.rewritten_places.changed_rows.Goals as goal
use Rattle.office_store.proofs.rewritten_places.changed_rows.Goals.{then-not-is_there+in_ok-push, else-not-is_there}

pub rows-preserved : goal.rows-preserved
rows-preserved c =
    let rows = c.args.rows.now in
    let others = c.args.others.now in
    let i = c.rows.index in
    let rest = changed_rows (drop (i + 1) rows) (drop (i + 1) others) in
    elim c.if-not-is_there.branch [
      | then-not-is_there+in_ok-push w ↦
          ap (λ (changed : Vec PlacedRow Global). changed.items ++ rest) w.changed-is
          ∙ ap (λ l. l ++ rest) w.in_ok-push.ensures.items
          ∙ next_changed rows others c.rows.changed.items i _ c.rows-test.true c.rows.invariant
          false (sym c.is_there.ensures ∙ w.if-not-is_there.true)
      | else-not-is_there w ↦
          ap (λ (changed : Vec PlacedRow Global). changed.items ++ rest) w.changed-is
          ∙ ap (λ l. l ++ rest) (sym (append-nil c.rows.changed.items))
          ∙ next_changed rows others c.rows.changed.items i _ c.rows-test.true c.rows.invariant
          true (sym c.is_there.ensures ∙ w.if-not-is_there.false)
    ]

pub returns : goal.returns
returns c =
    let changed = c.rows.changed.items in
    sym (append-nil changed)
    ∙ ap (λ l. changed ++ changed_rows l (drop c.rows.index c.args.others.now))
    (sym (drop_of_length-le c.args.rows.now c.rows-test.false))
    ∙ c.rows.invariant
