use Rattle.std.proofs.Common.{ap, arith, length, ◌≡◌}
use Rattle.std.proofs.lemmas.List.{nil_from_length}
use Rattle.std.proofs.lemmas.Bool.Decides.{nat_tests}
use Rattle.office_store.proofs.BatchPuttingLemmas.{batch_made, idle_made}
use Rattle.office_store.proofs.LeavingLemmas.{same_altered}
use Rattle.office_store.proofs.new_batch.put_batch.Goals as goal

pub returns-then-is_empty : goal.returns-then-is_empty
returns-then-is_empty g c =
    let long : length c.args.new.now.lines.items ≡ 0
    = grind (arith, nat_tests, c.if-is_empty.ensures, c.args.new.now.lines.ok.0) in
    same_altered c.put.ensures
    (idle_made c.args.number c.args.text.now c.args.new.now
    (nil_from_length c.args.new.now.lines.items long))

pub returns : goal.returns
returns g c =
    same_altered c.put-2.ensures
    (batch_made c.args.number c.args.text.now c.args.new.now _ _ c.deref-2.ensures.value
    c.deref.ensures.value (λ none. grind (arith, nat_tests, c.if-is_empty.ensures, ap length none)))
