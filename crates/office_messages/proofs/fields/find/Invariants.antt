use Rattle.std.proofs.Common.{map, take}
use Rattle.httparse.specs.Spans.{header_bytes}
use Rattle.office_messages.specs.Fields.{values_named}
use Rattle.office_messages.specs.Heads.{Sees}
use Rattle.office_messages.proofs.fields.find.Given as goal

abbrev pub invariant-loop-header : goal.invariant-loop-header
invariant-loop-header l =
    Sees l.bytes
    (values_named l.name (map (header_bytes l.bytes) (take l.header-index l.headers))) l.seen
