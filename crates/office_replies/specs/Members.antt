-- Members of an object of JSON as they are sent.
use Rattle.std.specs.Prelude.{ℕ, List}
use Rattle.serde.specs.Event.{Log, Logs, field_key}
use Rattle.serde.specs.declared.name.Case.TheVariants.{AsIs}
use Rattle.serde_json.specs.Data.{Data}
use Rattle.serde_json.specs.Events.{SendsValue}

-- a key is sent, and then a value
abbrev pub SendsMember : List ℕ → Data → Log → Log → Type 0
SendsMember key value old new =
    (named : Log) × Logs old named (field_key key AsIs) × SendsValue value named new
