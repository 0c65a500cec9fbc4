use Rattle.std.proofs.lemmas.Grind.{common_steps}
use Rattle.std.proofs.Common.{◌≡◌, ◌+◌, ◌∷◌, ◌++◌, [], None, arith, take, sym, ap, ap₂, refl, subst, ◌∙◌, to_z, of_z, to_z-of_z, w64}
use Rattle.std.proofs.lemmas.List.{map-append, map_more, take_all, take_more}
use Rattle.sqlite_value.specs.declared.value.Value.TheVariants.{Int}
use Rattle.sqlite_value.specs.Order.{column}
use Rattle.office_tables.specs.Readings.{IsNext, ColumnRises}
use Rattle.office_tables.proofs.Rising.{none_more, one_more, rising-take}
use Rattle.office_tables.proofs.listing.numbers_rise.Goals as goal

pub loop-row-init : goal.loop-row-init
loop-row-init c = ([], refl, tt, refl)

pub loop-row-preserved : goal.loop-row-preserved
loop-row-preserved c =
    let at = c.args.at in
    let rows = c.args.rows.now in
    let was = c.loop-row.invariant in
    let n = c.in-Some.number in
    let here = rw c.in-Some.is at c.next_number.ensures in
    let more = map_more (λ r. column r at) rows c.loop-row.row-index c.row-item.result
    c.loop-row-test.true
    ∙ ap₂ (λ vs v. vs ++ v ∷ []) was.1
    (sym (ap (λ r. column r at) c.row-item.is) ∙ here.0)
    ∙ sym (map-append Int was.0 (n ∷ [])) in
    let kept : to_z w64 (of_z w64 n) ≡ n = grind (arith, to_z-of_z) in
    rw kept (was.0 ++ n ∷ [], more, one_more was.0 _ n was.2 was.3 here.1, (was.0, refl))

pub returns-in_default : goal.returns-in_default
returns-in_default c =
    let at = c.args.at in
    let rows = c.args.rows.now in
    let i = c.loop-row.row-index in
    let was = c.loop-row.invariant in
    let next = rw c.in_default.is at c.next_number.ensures in
    let none = subst (λ r. IsNext (column r at) c.loop-row.last None) c.row-item.is next in (
      λ yes. absurd (cc),
      λ rise. absurd (none_more at (take i rows) _ was.0 c.loop-row.last was.1 was.3 none
          (subst (ColumnRises at) (take_more rows i c.row-item.result c.loop-row-test.true)
          (rising-take at (i + 1) rows rise))),
    )

pub returns : goal.returns
returns c = grind (arith, common_steps, take_all)
