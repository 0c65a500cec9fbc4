use Rattle.std.proofs.Common.{◌∙◌, ◌+◌, ◌≤◌, length, arith, inl, inr, sym, ap, Err}
use Rattle.std.proofs.lemmas.Result.{err_from_is_err_and}
use Rattle.office_batches.proofs.RecordLemmas.{advanced, all_changes, ended, no_header, refused, spent, started}
use Rattle.office_batches.proofs.batch_reader.changes_in.Goals as goal

pub records-init : goal.records-init
records-init c =
    let made = c.from_reader-reader.ensures in
    let headers = c.has_headers.ensures in
    let flexible = c.flexible.ensures in
    rw c.new-changes.ensures.items (
    started c.args.text.now c.from_reader-reader.result made.source
    (rw (flexible, headers) at made.config ∙ c.new.ensures.config)
    (rw (flexible, headers) at made.trim ∙ c.new.ensures.trim)
    (inr (inr (rw (flexible, headers) at made.has_headers, made.headers))) made.state
    )

pub records-preserved : goal.records-preserved
records-preserved c =
    let at = c.records.invariant in
    let found = c.in-Ok-true.ensures in
    let reads = rw c.in-Ok-true.field-0-test at (found.reads at.trim at.ready) in
    advanced _ _ c.read_byte_record.new.self _ _ _ at _
    (omega (arith, c.records-test.true, c.requires)) reads
    (inl (found.ready at.trim)) c.in_ok-add_record-in-Ok-true.ensures.exact

pub returns-in_err-add_record-in-Ok-true-clause-exact :
    goal.returns-in_err-add_record-in-Ok-true-clause-exact
returns-in_err-add_record-in-Ok-true-clause-exact c =
    let at = c.records.invariant in
    let found = c.in-Ok-true.ensures in
    let reads = rw c.in-Ok-true.field-0-test at (found.reads at.trim at.ready) in
    let p = err_from_is_err_and c.from_residual.result c.from_residual.ensures.1 in
    rw (p.1, p.2) (λ other.
    refused _ _ c.read_byte_record.new.self _ _ _ at _
    (omega (arith, c.records-test.true, c.requires)) reads
    (c.in_err-add_record-in-Ok-true.ensures.exact other))

pub returns-in-Ok-false-clause-exact : goal.returns-in-Ok-false-clause-exact
returns-in-Ok-false-clause-exact c kind =
    let at = c.records.invariant in
    let reads = rw c.in-Ok-false.field-0-test at (c.in-Ok-false.ensures.reads at.trim at.ready) in
    ended _ _ c.read_byte_record.new.self _ _ _ at reads ∙ no_header _ _ c.if-before-eq0.true
    ∙ ap Err (sym (c.at.ensures.place (λ e. cc)))

pub returns-in-Ok-false-2-clause-exact : goal.returns-in-Ok-false-2-clause-exact
returns-in-Ok-false-2-clause-exact c =
    let at = c.records.invariant in
    let reads = rw c.in-Ok-false.field-0-test at (c.in-Ok-false.ensures.reads at.trim at.ready) in
    ended _ _ c.read_byte_record.new.self _ _ _ at reads
    ∙ all_changes _ _ (omega (arith, c.if-before-eq0.false))

pub returns-clause-exact : goal.returns-clause-exact
returns-clause-exact c =
    let all : length c.args.text.now + 1 ≤ c.records.before =
    omega (arith, c.records-test.false, c.requires) in
    spent _ _ _ _ c.records.invariant all ∙ all_changes _ _ (omega (arith, all))
