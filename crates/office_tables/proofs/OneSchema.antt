-- Trees that list one schema list no other.
use Rattle.std.proofs.lemmas.Grind.{common_steps}
use Rattle.std.proofs.Common.{◌≡◌, arith}
use Rattle.sqlite.specs.Effect.{Database, IsDatabase}
use Rattle.sqlite_catalog.proofs.ReadLemmas.{lists_once}

-- two databases with the same trees, which list the schemas that they obey, are one
pub one_database : (a b : Database) → IsDatabase a → IsDatabase b → a.trees ≡ b.trees → a ≡ b
one_database a b first second same = grind (arith, common_steps, lists_once)
