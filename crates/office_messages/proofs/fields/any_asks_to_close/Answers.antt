use Rattle.std.proofs.Common.{◌∙◌, sym}
use Rattle.office_messages.proofs.FieldLemmas.{field_settles}
use Rattle.office_messages.proofs.fields.any_asks_to_close.Goals as goal

pub returns-then-asks_to_close : goal.returns-then-asks_to_close
returns-then-asks_to_close c =
    field_settles c.args.bytes.now c.args.headers.now c.loop-header.header-index _
    c.loop-header-test.true
    (sym c.asks_to_close.ensures ∙ c.if-asks_to_close.true)
