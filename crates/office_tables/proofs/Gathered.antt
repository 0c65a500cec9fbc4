-- Rows that are read one at a time.
use Rattle.std.proofs.lemmas.Grind.{common_steps}
use Rattle.std.proofs.Common.{◌≡◌, ℕ, List, [], ◌∷◌, ◌++◌, map, Option, Some, None, refl, sym, subst, arith}
use Rattle.std.specs.Prelude.{Vec}
use Rattle.std.specs.declared.alloc.Global.{Global}
use Rattle.std.proofs.lemmas.List.{map-append}
use Rattle.std.proofs.lemmas.List.Elements.{Contains-append_left, Contains-append_right}
use Rattle.sqlite_value.specs.Order.{Row}
use Rattle.office_tables.specs.Readings.{IsGathered, IsRead, IsUnread}
use Rattle.office_tables.specs.Records.{columns_from}
use Rattle.office_tables.proofs.ListedTables.{unread}

module _ {X : Type 0} (fits : X → Type 0) (row_of : X → Row) (width : ℕ) (rows : List Row) where
  pub gathered_read : (found : Option (Vec X Global)) → IsGathered fits row_of width rows found
      → IsRead fits row_of width rows found
  gathered_read (Some made) is = is
  gathered_read None (row, has, none) = λ wide made fit same.
      unread fits row_of width rows has.0 row has.1
      (subst (IsUnread fits row_of width) (sym has.2) none) wide made fit same

  -- a row of no record stays one among more rows
  pub still_unread : (row : Row) → IsGathered fits row_of width rows None
      → IsGathered fits row_of width (rows ++ row ∷ []) None
  still_unread row (other, has, none) =
      (other, Contains-append_left rows (row ∷ []) other has, none)

  pub now_unread : (row : Row) → IsUnread fits row_of width row
      → IsGathered fits row_of width (rows ++ row ∷ []) None
  now_unread row none =
      (row, Contains-append_right rows (row ∷ []) row (0, omega arith, refl), none)

  pub one_gathered : (row : Row) (made more : List X) (x : X)
      → map row_of made ≡ map (columns_from 0 width) rows → more ≡ made ++ x ∷ []
      → row_of x ≡ columns_from 0 width row
      → map row_of more ≡ map (columns_from 0 width) (rows ++ row ∷ [])
  one_gathered row made more x before is one = grind (arith, common_steps, map-append)
