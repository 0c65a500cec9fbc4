use Rattle.std.proofs.Common.{refl}
use Rattle.sqlite.specs.Listing.{understood}
use Rattle.sqlite_tied.specs.Compute.{everything}
use Rattle.office_tables.proofs.Rows.{placements}
use Rattle.office_tables.proofs.tables.placed.PlacedRowTable316.inserts.Goals as goal

pub returns : goal.returns
unfolding understood everything
returns c = record {
  stores = placements;
  listed = λ _. refl;
  changed = λ _ _. refl;
  same = λ _. refl;
  read = λ _ _. refl;
  over = λ _ _ _. refl;
  one = record { is = refl; plain = (refl, refl); many = refl };
  several = record { is = refl; plain = (refl, refl); many = refl };
}
