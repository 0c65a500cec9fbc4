use Rattle.std.proofs.Common.{◌≤◌, ℕ, List, arith, length, drop, length-take, subst, inl, inr, refl}
use Rattle.std.proofs.Common.{ap}
use Rattle.httparse.specs.Grammar.{ReadsRequest, HasNoRequest, MayBecomeRequest}
use Rattle.httparse.specs.Spans.{RequestOverflows}
use Rattle.office_messages.proofs.HeadLemmas.{head_at_front, head_of_front}
use Rattle.office_messages.proofs.HeadLemmas.{overflows_of_front, count_fields}
use Rattle.office_messages.proofs.EndLemmas.{end_is_final}
use Rattle.office_messages.proofs.look.parse.Goals as goal

pub head_of-requires-clause-small : goal.head_of-requires-clause-small
head_of-requires-clause-small c =
    omega (arith, ap length c.first-front.ensures.front, length-take 16384 c.args.bytes.now)

pub with_head-requires : goal.with_head-requires
with_head-requires c =
    let e = rw c.in-Ok-Complete.field-0-is at c.in-Ok-Complete.ensures in
    let h = e.complete.0 in
    let at = e.complete.1 in
    let room : length h.fields ≤ 32 =
    omega (arith, count_fields _ _ _ _ at, c.parse_request.auto.headers) in
    head_at_front c.args.bytes.now _ c.in-Ok.head h _ c.first-front.ensures.front at.len room
    at.reads (c.in-Ok.ensures h at)

pub without_head-requires : goal.without_head-requires
without_head-requires c =
    let e = rw c.in-Ok-Partial.field-0-is at c.in-Ok-Partial.ensures in
    λ ended. end_is_final c.args.bytes.now ended
    (subst MayBecomeRequest c.first-front.ensures.front e.unfinished)
    (subst HasNoRequest c.first-front.ensures.front e.partial)

pub returns-in-Err-head_of : goal.returns-in-Err-head_of
returns-in-Err-head_of c =
    let e = rw c.in-Ok-Complete.field-0-is at c.in-Ok-Complete.ensures in
    let h = e.complete.0 in
    let at = e.complete.1 in
    let bad = c.in-Err-head_of.ensures h at in
    let P : List ℕ → Type 0 = λ l. ReadsRequest l h (drop c.in-Ok-Complete.spans.len l) in
    let room : length h.fields ≤ 32 =
    omega (arith, count_fields _ _ _ _ at, c.parse_request.auto.headers) in
    inr record {
      head = h;
      after = drop c.in-Ok-Complete.spans.len c.args.bytes.now;
      has_head =
          head_of_front c.args.bytes.now 16384 h _ at.len room (omega arith)
          (subst P c.first-front.ensures.front at.reads);
      framed = bad.framed;
      form_is = bad.form_is;
    }

pub returns-in-Err : goal.returns-in-Err
returns-in-Err c =
    let P : List ℕ → Type 0 = λ l. RequestOverflows 32 l in
    inl (
      refl,
      refl,
      (
        c.requires.some,
        inr
            (overflows_of_front c.args.bytes.now 16384 32
            (subst P c.first-front.ensures.front c.in-Err.ensures.no_room)),
      ),
    )
