use Rattle.std.proofs.Common.{ℕ, Bool, false, List, [], ◌++◌, drop, refl, sym, subst, ◌∙◌, arith}
use Rattle.std.proofs.KnownBytes.{Consumes-trans, Consumes-nil}
use Rattle.std.proofs.lemmas.Result.{err_from_is_err_and}
use Rattle.std.proofs.lemmas.List.{nil_from_length}
use Rattle.office_messages.specs.Heads.{plain_request}
use Rattle.office_messages.specs.Looks.{Knows}
use Rattle.office_messages.specs.Stream.{RequestAt}
use Rattle.office_messages.specs.StreamFaults.{FaultAt, Unfinished}
use Rattle.office_messages.proofs.ServeLemmas.{Progress, start, grown, answered, asked, refused}
use Rattle.office_messages.proofs.ServeLemmas.{limit, closed, cut, front, unsent, unrefused}
use Rattle.office_messages.proofs.ServeLemmas.{knows_more, knows_nothing}
use Rattle.office_messages.proofs.connection.serve.Goals as goal

pub loop-answered-init : goal.loop-answered-init
loop-answered-init g c =
    let P : List ℕ → Type 0 =
    λ l. Progress g.M.Machine.Answers (g.R.Read.remaining c.args.reader.now)
    (g.R.Read.remaining c.args.reader.now)
    (g.W.Write.contents c.args.writer.now)
    (g.W.Write.contents c.args.writer.now) c.args.machine.now c.args.machine.now 0 l in
    record {
      progress = subst P (sym c.new-buffer.ensures.items) (start g.M.Machine.Answers _ _ _);
      known = knows_nothing c.new-buffer.result.items;
      room = omega (arith, c.in-Ok.ensures.exact);
      turns = omega arith;
    }

pub returns-in_err-answer-in-Whole-clause-err : goal.returns-in_err-answer-in-Whole-clause-err
returns-in_err-answer-in-Whole-clause-err g c =
    let p = err_from_is_err_and c.from_residual.result c.from_residual.ensures.1 in
    let at = subst
    (λ (l : List ℕ). RequestAt (plain_request c.request.result) c.in-Whole.head.closes l
    (drop c.in-Whole.head.body.end l)) c.deref-in-Whole.ensures.value c.request.ensures in
    let failed = c.in_err-answer-in-Whole.ensures.step.3 in
    rw (p.1, p.2, failed.0)
    (unsent g.M.Machine.Answers _ _ _ _ _ _ _ _ c.loop-answered.invariant.progress _ _ _ _ _ _
    c.loop-answered-test.true at c.in_err-answer-in-Whole.ensures.step.1 failed.1)

pub returns-then-head-clause-ok : goal.returns-then-head-clause-ok
returns-then-head-clause-ok g c =
    let at = subst
    (λ (l : List ℕ). RequestAt (plain_request c.request.result) c.in-Whole.head.closes l
    (drop c.in-Whole.head.body.end l)) c.deref-in-Whole.ensures.value c.request.ensures in
    let last =
    subst (λ (b : Bool). RequestAt
    (plain_request c.request.result) b c.loop-answered.buffer.items
    (drop c.in-Whole.head.body.end c.loop-answered.buffer.items)) c.if-head.true at in
    rw c.at.ensures
    (asked g.M.Machine.Answers _ _ _ _ _ _ _ _ c.loop-answered.invariant.progress _ _ _ _ _ _
    c.loop-answered-test.true last
    c.in_ok-answer-in-Whole.ensures.step.1 c.in_ok-answer-in-Whole.ensures.step.2 refl refl)

pub loop-answered-preserved-in-Whole : goal.loop-answered-preserved-in-Whole
loop-answered-preserved-in-Whole g c =
    let at = subst
    (λ (l : List ℕ). RequestAt (plain_request c.request.result) c.in-Whole.head.closes l
    (drop c.in-Whole.head.body.end l)) c.deref-in-Whole.ensures.value c.request.ensures in
    let open_still =
    subst (λ (b : Bool). RequestAt
    (plain_request c.request.result) b c.loop-answered.buffer.items
    (drop c.in-Whole.head.body.end c.loop-answered.buffer.items)) c.if-head.false at in
    let left =
    subst (λ (l : List ℕ). RequestAt
    (plain_request c.request.result) false c.loop-answered.buffer.items l)
    (sym c.drop_front.ensures) open_still in
    record {
      progress =
          answered g.M.Machine.Answers _ _ _ _ _ _ _ _ c.loop-answered.invariant.progress _ _ _ _ _
          c.loop-answered-test.true left
          c.in_ok-answer-in-Whole.ensures.step.1 c.in_ok-answer-in-Whole.ensures.step.2;
      known = knows_nothing c.drop_front.new.buffer.items;
      room = c.in_ok-answer-in-Whole.ensures.room;
      turns = c.loop-answered.invariant.turns;
    }

pub returns-in_err-send-in-Faulty-clause-err : goal.returns-in_err-send-in-Faulty-clause-err
returns-in_err-send-in-Faulty-clause-err g c =
    let p = err_from_is_err_and c.from_residual-in_err-send-in-Faulty.result
    c.from_residual-in_err-send-in-Faulty.ensures.1 in
    let failed = c.in_err-send-in-Faulty.ensures.err in
    rw (p.1, p.2, failed.0)
    (unrefused g.M.Machine.Answers _ _ _ _ _ _ _ _ c.loop-answered.invariant.progress
    c.in-Faulty.bad.fault c.in-Faulty.bad.form _ c.loop-answered-test.true
    (subst (FaultAt c.in-Faulty.bad.fault c.in-Faulty.bad.form) c.deref.ensures.value
    c.in-Faulty.ensures)
    (rw (← c.fault_reply.ensures) failed.1))

pub returns-in-Faulty-clause-ok : goal.returns-in-Faulty-clause-ok
returns-in-Faulty-clause-ok g c =
    rw c.at-in-Faulty.ensures
    (refused g.M.Machine.Answers _ _ _ _ _ _ _ _ c.loop-answered.invariant.progress
    c.in-Faulty.bad.fault c.in-Faulty.bad.form _ _ c.loop-answered-test.true
    (subst (FaultAt c.in-Faulty.bad.fault c.in-Faulty.bad.form) c.deref.ensures.value
    c.in-Faulty.ensures)
    (rw (← c.fault_reply.ensures) c.in_ok-send-in-Faulty.ensures.ok) refl refl)

pub returns-in_err-receive-in-More-clause-err : goal.returns-in_err-receive-in-More-clause-err
returns-in_err-receive-in-More-clause-err g c =
    let p = err_from_is_err_and c.from_residual-in_err-receive-in-More.result
    c.from_residual-in_err-receive-in-More.ensures.1 in
    let t = c.receive.ensures.taken in
    rw (p.1, p.2)
    (front g.M.Machine.Answers _ _ _ _ _ _ _ _
    (grown g.M.Machine.Answers _ _ _ _ _ _ _ _ c.loop-answered.invariant.progress _ t.0 _ t.1
    t.2) _ c.in_err-receive-in-More.ensures.err)

pub loop-answered-preserved : goal.loop-answered-preserved
loop-answered-preserved g c =
    let t = c.receive.ensures.taken in
    let known =
    subst (λ (l : List ℕ). Knows l c.in-More.known) c.deref.ensures.value c.in-More.ensures.1 in
    record {
      progress =
          grown g.M.Machine.Answers _ _ _ _ _ _ _ _ c.loop-answered.invariant.progress _ t.0 _ t.1
          t.2;
      known = subst (λ (l : List ℕ). Knows l c.in-More.known) (sym t.2)
          (knows_more c.in-More.known c.loop-answered.buffer.items t.0 known);
      room = c.loop-answered.invariant.room;
      turns = omega (arith, c.loop-answered.invariant.turns, c.receive.ensures.kept);
    }

pub returns-then-is_empty-clause-ok : goal.returns-then-is_empty-clause-ok
returns-then-is_empty-clause-ok g c =
    let t = c.receive.ensures.taken in
    rw c.at-then-is_empty.ensures
    (closed g.M.Machine.Answers _ _ _ _ _ _ _ _
    (grown g.M.Machine.Answers _ _ _ _ _ _ _ _ c.loop-answered.invariant.progress _ t.0 _ t.1
    t.2)
    _ c.loop-answered-test.true (c.in_ok-receive-in-More.ensures.end c.in-End.is).0
    (nil_from_length _ (grind arith)) refl refl)

pub returns-in-End-clause-ok : goal.returns-in-End-clause-ok
returns-in-End-clause-ok g c =
    let t = c.receive.ensures.taken in
    rw c.at-in-End.ensures
    (cut g.M.Machine.Answers _ _ _ _ _ _ _ _
    (grown g.M.Machine.Answers _ _ _ _ _ _ _ _ c.loop-answered.invariant.progress _ t.0 _ t.1
    t.2)
    _ c.loop-answered-test.true (c.in_ok-receive-in-More.ensures.end c.in-End.is).0 (grind arith)
    (subst Unfinished
    (c.deref.ensures.value
    ∙ sym (c.in_ok-receive-in-More.ensures.end c.in-End.is).1) c.in-More.ensures.0) refl refl)

pub returns-clause-ok : goal.returns-clause-ok
returns-clause-ok g c =
    rw c.at-2.ensures
    (limit g.M.Machine.Answers _ _ _ _ _ _ _ _ c.loop-answered.invariant.progress _
    (omega (arith, c.loop-answered.invariant.progress.small, c.loop-answered-test.false)) refl refl)

-- the bytes read from the reader
pub returns-in_err-answer-in-Whole-clause-taken : goal.returns-in_err-answer-in-Whole-clause-taken
returns-in_err-answer-in-Whole-clause-taken g c =
    (c.loop-answered.invariant.progress.taken, c.loop-answered.invariant.progress.consumed)

pub returns-then-head-clause-taken : goal.returns-then-head-clause-taken
returns-then-head-clause-taken g c =
    (c.loop-answered.invariant.progress.taken, c.loop-answered.invariant.progress.consumed)

pub returns-in_err-send-in-Faulty-clause-taken : goal.returns-in_err-send-in-Faulty-clause-taken
returns-in_err-send-in-Faulty-clause-taken g c =
    (c.loop-answered.invariant.progress.taken, c.loop-answered.invariant.progress.consumed)

pub returns-in-Faulty-clause-taken : goal.returns-in-Faulty-clause-taken
returns-in-Faulty-clause-taken g c =
    (c.loop-answered.invariant.progress.taken, c.loop-answered.invariant.progress.consumed)

pub returns-clause-taken : goal.returns-clause-taken
returns-clause-taken g c =
    (c.loop-answered.invariant.progress.taken, c.loop-answered.invariant.progress.consumed)

pub returns-in_err-receive-in-More-clause-taken : goal.returns-in_err-receive-in-More-clause-taken
returns-in_err-receive-in-More-clause-taken g c =
    let t = c.receive.ensures.taken in
    let p = c.loop-answered.invariant.progress in
    (p.taken ++ t.0, Consumes-trans _ _ _ p.taken t.0 p.consumed t.1)

pub returns-then-is_empty-clause-taken : goal.returns-then-is_empty-clause-taken
returns-then-is_empty-clause-taken g c =
    let t = c.receive.ensures.taken in
    let p = c.loop-answered.invariant.progress in
    (p.taken ++ t.0, Consumes-trans _ _ _ p.taken t.0 p.consumed t.1)

pub returns-in-End-clause-taken : goal.returns-in-End-clause-taken
returns-in-End-clause-taken g c =
    let t = c.receive.ensures.taken in
    let p = c.loop-answered.invariant.progress in
    (p.taken ++ t.0, Consumes-trans _ _ _ p.taken t.0 p.consumed t.1)

pub returns-in-Err-clause-taken : goal.returns-in-Err-clause-taken
returns-in-Err-clause-taken g c = ([], Consumes-nil _)
