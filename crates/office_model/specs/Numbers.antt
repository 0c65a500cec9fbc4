-- The printed numbers of faults.
use Rattle.std.specs.Prelude.{ℕ}
use Rattle.office_files.specs.declared.fault.FaultKind.{FaultKind}
use Rattle.office_files.specs.declared.fault.FaultKind.TheVariants as kind
use Rattle.office_model.specs.declared.fault.StoreFault.{StoreFault}
use Rattle.office_model.specs.declared.fault.StoreFault.TheVariants as store

-- of a file's fault
abbrev pub kind_number : FaultKind → ℕ
kind_number kind.TooLong = 1
kind_number kind.MissingSection = 2
kind_number kind.CountMismatch = 3
kind_number kind.BadNumber = 4
kind_number kind.BadDate = 5
kind_number kind.BadTime = 6
kind_number kind.BadWord = 7
kind_number kind.OutOfRange = 8
kind_number kind.Repeated = 9
kind_number kind.StrayText = 10
kind_number kind.BadHeader = 11
kind_number kind.Incomplete = 12
kind_number kind.NoMemory = 13

-- of a refusal of the office
abbrev pub store_number : StoreFault → ℕ
store_number store.Loaded = 1
store_number store.NotLoaded = 2
store_number store.NoDraft = 3
store_number store.DraftTaken = 4
store_number store.BatchDiffers = 5
store_number store.TooMany = 6
store_number (store.Refused why) = 7
store_number store.Store = 8
store_number store.BadSchema = 9
