-- Why a database isn't opened as an office.
use Rattle.std.specs.Prelude.{◌≡◌, ◌⊎◌}
use Rattle.office_model.specs.declared.fault.StoreFault.{StoreFault}
use Rattle.office_model.specs.declared.fault.StoreFault.TheVariants.{Store, BadSchema}

-- a statement failed or memory ran out, or the tables are not those of an office
abbrev pub IsOfDatabase : StoreFault → Type 0
IsOfDatabase fault = (fault ≡ Store) ⊎ (fault ≡ BadSchema)
