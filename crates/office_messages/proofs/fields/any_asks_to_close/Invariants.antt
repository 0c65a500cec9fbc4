use Rattle.std.proofs.Common.{◌≡◌, false, map, take}
use Rattle.std.specs.List.{list_any}
use Rattle.httparse.specs.Spans.{header_bytes}
use Rattle.office_messages.specs.Fields.{asks_to_close}
use Rattle.office_messages.proofs.fields.any_asks_to_close.Given as goal

abbrev pub invariant-loop-header : goal.invariant-loop-header
invariant-loop-header l =
    list_any asks_to_close (map (header_bytes l.bytes) (take l.header-index l.headers)) ≡ false
