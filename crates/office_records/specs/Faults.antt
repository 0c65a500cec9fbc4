-- Why rows are refused, and the office's fault for it.
use Rattle.office_files.specs.declared.fault.FaultKind.{FaultKind}
use Rattle.office_files.specs.declared.fault.FaultKind.TheVariants as kind
use Rattle.office_model.specs.declared.fault.StoreFault.{StoreFault}
use Rattle.office_model.specs.declared.fault.StoreFault.TheVariants.{Store, BadSchema}
use Rattle.office_records.specs.declared.fault.RecordFault.{RecordFault}
use Rattle.office_records.specs.declared.fault.RecordFault.TheVariants.{NoMemory, BadRows}

-- out of memory is `Store`; rows without records are a wrong schema
abbrev pub store_fault : RecordFault → StoreFault
store_fault NoMemory = Store
store_fault BadRows = BadSchema

-- a faulty stored text is a wrong row; out of memory is not
abbrev pub text_fault : FaultKind → RecordFault
text_fault kind.NoMemory = NoMemory
text_fault fault = BadRows
