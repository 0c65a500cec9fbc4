use Rattle.std.proofs.Common.{◌≡◌, ◌∙◌, ap, sym, subst, List, ◌++◌, ℕ, map, take, get_or, length}
use Rattle.std.proofs.Common.{append-nil, ◌<◌, ◌+◌}
use Rattle.std.proofs.lemmas.List.{map_more}
use Rattle.std.proofs.lemmas.List.Concat.{flat_map-append}
use Rattle.httparse.specs.Spans.{header_bytes}
use Rattle.httparse.specs.declared.spans.HeaderSpan.{HeaderSpan}
use Rattle.office_messages.specs.Fields.{value_if_named, values_named}
use Rattle.office_messages.specs.Heads.{Sees}
use Rattle.office_messages.proofs.fields.find.Goals as goal

-- one more header
values_more : (bytes name : List ℕ) (headers : List HeaderSpan) (i : ℕ) (d : HeaderSpan)
    → i < length headers
    → values_named name (map (header_bytes bytes) (take (i + 1) headers))
    ≡ values_named name (map (header_bytes bytes) (take i headers)) ++ value_if_named name
    (header_bytes bytes (get_or headers i d))
values_more bytes name headers i d h =
    ap (values_named name) (map_more (header_bytes bytes) headers i d h)
    ∙ flat_map-append (value_if_named name) _ _
    ∙ ap (λ l. values_named name (map (header_bytes bytes) (take i headers)) ++ l) (append-nil _)

pub loop-header-preserved : goal.loop-header-preserved
loop-header-preserved c =
    let P : List (List ℕ) → Type 0 =
    λ values. Sees c.args.bytes.now values c.with_header-seen.result in
    subst P (sym
    (values_more c.args.bytes.now c.args.name.now c.args.headers.now c.loop-header.header-index
    _ c.loop-header-test.true))
    (c.with_header-seen.ensures _ c.loop-header.invariant)
