-- Lemmas on the fields of a head.
use Rattle.std.proofs.Common.{◌≡◌, ℕ, ◌<◌, true, List, length, map, get_or, sym, ap, ◌∙◌, arith}
use Rattle.std.specs.List.{list_any}
use Rattle.std.proofs.lemmas.List.{get_or-map, length-map}
use Rattle.std.proofs.lemmas.List.Folds.{list_any_at}
use Rattle.httparse.specs.Spans.{header_bytes}
use Rattle.httparse.specs.declared.spans.HeaderSpan.{HeaderSpan}
use Rattle.office_messages.specs.Fields.{asks_to_close}

-- one field with `close` settles the question
pub field_settles : (bytes : List ℕ) (headers : List HeaderSpan) (i : ℕ) (d : HeaderSpan)
    → i < length headers
    → asks_to_close (header_bytes bytes (get_or headers i d)) ≡ true
    → true ≡ list_any asks_to_close (map (header_bytes bytes) headers)
field_settles bytes headers i d inside asks =
    let here = header_bytes bytes d in
    sym (list_any_at asks_to_close (map (header_bytes bytes) headers) i here
    (omega (arith, inside, length-map headers (header_bytes bytes)))
    (ap asks_to_close (get_or-map (header_bytes bytes) headers i d here inside) ∙ asks))
