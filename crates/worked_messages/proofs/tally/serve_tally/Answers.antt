use Rattle.std.proofs.Common.{◌≡◌, ℕ, ◌≤◌, List, Option, Result, Ok, Err, IfOk, IfErr, arith}
use Rattle.office_messages.specs.declared.connection.Served.{Served}
use Rattle.office_messages.specs.declared.connection.ServeFault.{ServeFault}
use Rattle.office_messages.specs.Messages.{Item}
use Rattle.office_messages.specs.Serve.{AnswersItems, Serves, ServesFront}
use Rattle.office_messages.proofs.RunLemmas.{lent_serves, lent_serves_front, trace_keeps}
use Rattle.worked_messages.specs.declared.tally.Tally.{Tally}
use Rattle.worked_messages.specs.Tallies.{Tallies}
use Rattle.worked_messages.proofs.tally.serve_tally.Goals as goal

-- answers never lower the count
trace_grows : (items : List Item) (old : Tally) (output : List ℕ) (new : Tally)
    → AnswersItems Tallies items old output new → old.answered ≤ 4294967295
    → old.answered ≤ new.answered
trace_grows items old output new t fits =
    trace_keeps Tallies (λ tally. old.answered ≤ tally.answered)
    (λ o r reply n x h. omega (arith, x.0, h, fits)) items old output new t (omega arith)

grows : (result : Result Served ServeFault) (input before after : Option (List ℕ)) (old new : Tally)
    → IfOk result (λ served. Serves Tallies input before after old new served)
    → IfErr result (λ fault. ServesFront Tallies input before after old new fault)
    → old.answered ≤ 4294967295 → old.answered ≤ new.answered
grows (Ok served) input before after old new x y fits =
    trace_grows x.items old x.output new x.trace fits
grows (Err fault) input before after old new x y fits =
    trace_grows y.items old y.output new y.trace fits

pub returns-clause-ok : goal.returns-clause-ok
returns-clause-ok g c =
    lent_serves (λ m. m.tally.ghost_name) (λ m. m.tally.now) Tallies _ _ _ _ _ _ c.tally-1.given.1
    c.serve.result c.serve.ensures.ok

pub returns-clause-err : goal.returns-clause-err
returns-clause-err g c =
    lent_serves_front (λ m. m.tally.ghost_name) (λ m. m.tally.now) Tallies _ _ _ _ _ _
    c.tally-1.given.1 c.serve.result c.serve.ensures.err

pub returns-clause-kept : goal.returns-clause-kept
returns-clause-kept g c =
    grows c.serve.result _ _ _ _ _
    (lent_serves (λ m. m.tally.ghost_name) (λ m. m.tally.now) Tallies _ _ _ _ _ _
    c.tally-1.given.1 c.serve.result c.serve.ensures.ok)
    (lent_serves_front (λ m. m.tally.ghost_name) (λ m. m.tally.now) Tallies _ _ _ _ _ _
    c.tally-1.given.1 c.serve.result c.serve.ensures.err)
