-- Faults of a whole file.
use Rattle.std.specs.Prelude.{◌≡◌}
use Rattle.office_files.specs.declared.fault.FaultKind.TheVariants.{NoMemory}
use Rattle.office_files.specs.declared.fault.FileFault.{FileFault}

-- out of memory has line 0
abbrev pub HasNoLine : FileFault → Type 0
HasNoLine fault = fault.what ≡ NoMemory → fault.line ≡ 0
