-- Tables represent one publication.
use Rattle.std.proofs.Common.{◌≡◌, true, Option, Some, None, refl, sym, ◌∙◌, ap, subst}
use Rattle.std.specs.Prelude.{is_some}
use Rattle.exam_lists.proofs.Parts.{same_head}
use Rattle.office_tables.specs.Tables.Metadata.{Meta}
use Rattle.office_tables.specs.Tables.{Tables}
use Rattle.office_model.specs.Office.{AreRecords, IsPublication, Publication, Records}
use Rattle.office_records.specs.Publications.{RowsRepresentPublication}
use Rattle.office_records.specs.Representation.{TablesRepresentRecords}
use Rattle.office_records.proofs.FoundLemmas.{only_one, places_are}
use Rattle.office_records.proofs.SeatRowLemmas.{one_in_order}

module _ (t : Tables) (r s : Records) (a : TablesRepresentRecords t r)
    (b : TablesRepresentRecords t s)
    (of : AreRecords r) (also : AreRecords s) (session : r.session ≡ s.session) where
  pub same_published : r.published ≡ s.published
  same_published =
      go r.published s.published
      (ap (λ (m : Meta). m.published) (same_head (sym a.meta ∙ b.meta)))
      (λ p is. subst (λ I. IsPublication I p) session (of.publication p is)) also.publication
      a.published b.published
    where
      go : (x y : Option Publication) → is_some x ≡ is_some y
          → ((p : Publication) → x ≡ Some p → IsPublication s.session p)
          → ((p : Publication) → y ≡ Some p → IsPublication s.session p)
          → RowsRepresentPublication t.placed t.seat x
          → RowsRepresentPublication t.placed t.seat y → x ≡ y
      go None None e is other rows more = refl
      go None (Some q) e is other rows more = absurd cc
      go (Some p) None e is other rows more = absurd cc
      go (Some p) (Some q) e is other rows more =
          let known = is p refl in
          only_one s.session true t.placed t.seat refl p.timetable p.rows
          (places_are s.session true t.placed t.seat refl p
          (record { marked = refl; represents = rows }) known)
          (λ own order. one_in_order t.seat p.rows own known.rows.in_order order rows.seat)
          (Some q) (record { marked = refl; represents = more }) (other q refl)
