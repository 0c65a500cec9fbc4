use Rattle.std.proofs.Common.{◌∙◌, sym}
use Rattle.std.proofs.lemmas.Result.{IfErr-weaker, IfOk-weaker}
use Rattle.exam_lists.proofs.Results.{IfErr_both}
use Rattle.office_program.proofs.CompareSources.{of_three, of_three_front, three_refused}
use Rattle.office_program.proofs.SourceFacts.{file_reader, stdin_reader}
use Rattle.office_program.proofs.comparing.compare_sources.Goals as goal

-- the session is that of standard input
pub returns-then-is_stdin-clause-compared : goal.returns-then-is_stdin-clause-compared
returns-then-is_stdin-clause-compared g c =
    let stdin = g.I.Read.remaining c.args.stdin.now in
    let files = g.T.Texts.known c.args.files.now in
    IfOk-weaker c.compare_readers.result _ _ (λ done from. of_three _ _ _ _ _ _ _ _
    (stdin_reader stdin files c.args.session.now (sym c.is_stdin.ensures ∙ c.if-is_stdin.true))
    (file_reader stdin files c.args.before.now c.in_ok-before_file.ensures.named _
    c.in_ok-before_file.ensures.opened)
    (file_reader stdin files c.args.after.now c.in_ok-after_file.ensures.named _
    c.in_ok-after_file.ensures.opened) from)
    c.compare_readers.ensures.from

pub returns-then-is_stdin-clause-front : goal.returns-then-is_stdin-clause-front
returns-then-is_stdin-clause-front g c =
    let stdin = g.I.Read.remaining c.args.stdin.now in
    let files = g.T.Texts.known c.args.files.now in
    IfErr-weaker c.compare_readers.result _ _ (λ fault front is. of_three_front _ _ _ _ _ _ _ _
    (stdin_reader stdin files c.args.session.now (sym c.is_stdin.ensures ∙ c.if-is_stdin.true))
    (file_reader stdin files c.args.before.now c.in_ok-before_file.ensures.named _
    c.in_ok-before_file.ensures.opened)
    (file_reader stdin files c.args.after.now c.in_ok-after_file.ensures.named _
    c.in_ok-after_file.ensures.opened) (front is))
    c.compare_readers.ensures.front

pub returns-then-is_stdin-clause-refused : goal.returns-then-is_stdin-clause-refused
returns-then-is_stdin-clause-refused g c =
    let stdin = g.I.Read.remaining c.args.stdin.now in
    let files = g.T.Texts.known c.args.files.now in
    IfErr_both c.compare_readers.result _ _ _ (λ fault refuses may shared. three_refused _ _ _ _ _ _
    (stdin_reader stdin files c.args.session.now (sym c.is_stdin.ensures ∙ c.if-is_stdin.true))
    (file_reader stdin files c.args.before.now c.in_ok-before_file.ensures.named _
    c.in_ok-before_file.ensures.opened)
    (file_reader stdin files c.args.after.now c.in_ok-after_file.ensures.named _
    c.in_ok-after_file.ensures.opened) fault refuses may)
    c.compare_readers.ensures.refused c.compare_readers.ensures.unread

-- the first solution is that of standard input
pub returns-then-is_stdin-2-clause-compared : goal.returns-then-is_stdin-2-clause-compared
returns-then-is_stdin-2-clause-compared g c =
    let stdin = g.I.Read.remaining c.args.stdin.now in
    let files = g.T.Texts.known c.args.files.now in
    IfOk-weaker c.compare_readers-then-is_stdin-2.result _ _ (λ done from. of_three _ _ _ _ _ _ _ _
    (file_reader stdin files c.args.session.now c.in_ok-session_file.ensures.named _
    c.in_ok-session_file.ensures.opened)
    (stdin_reader stdin files c.args.before.now (sym c.is_stdin-2.ensures ∙ c.if-is_stdin-2.true))
    (file_reader stdin files c.args.after.now c.in_ok-after_file-2.ensures.named _
    c.in_ok-after_file-2.ensures.opened) from)
    c.compare_readers-then-is_stdin-2.ensures.from

pub returns-then-is_stdin-2-clause-front : goal.returns-then-is_stdin-2-clause-front
returns-then-is_stdin-2-clause-front g c =
    let stdin = g.I.Read.remaining c.args.stdin.now in
    let files = g.T.Texts.known c.args.files.now in
    IfErr-weaker c.compare_readers-then-is_stdin-2.result _ _ (λ fault front is. of_three_front _ _ _ _ _ _ _ _
    (file_reader stdin files c.args.session.now c.in_ok-session_file.ensures.named _
    c.in_ok-session_file.ensures.opened)
    (stdin_reader stdin files c.args.before.now (sym c.is_stdin-2.ensures ∙ c.if-is_stdin-2.true))
    (file_reader stdin files c.args.after.now c.in_ok-after_file-2.ensures.named _
    c.in_ok-after_file-2.ensures.opened) (front is))
    c.compare_readers-then-is_stdin-2.ensures.front

pub returns-then-is_stdin-2-clause-refused : goal.returns-then-is_stdin-2-clause-refused
returns-then-is_stdin-2-clause-refused g c =
    let stdin = g.I.Read.remaining c.args.stdin.now in
    let files = g.T.Texts.known c.args.files.now in
    IfErr_both c.compare_readers-then-is_stdin-2.result _ _ _ (λ fault refuses may shared. three_refused _ _ _ _ _ _
    (file_reader stdin files c.args.session.now c.in_ok-session_file.ensures.named _
    c.in_ok-session_file.ensures.opened)
    (stdin_reader stdin files c.args.before.now (sym c.is_stdin-2.ensures ∙ c.if-is_stdin-2.true))
    (file_reader stdin files c.args.after.now c.in_ok-after_file-2.ensures.named _
    c.in_ok-after_file-2.ensures.opened) fault refuses may)
    c.compare_readers-then-is_stdin-2.ensures.refused c.compare_readers-then-is_stdin-2.ensures.unread

-- the second solution is that of standard input
pub returns-then-is_stdin-3-clause-compared : goal.returns-then-is_stdin-3-clause-compared
returns-then-is_stdin-3-clause-compared g c =
    let stdin = g.I.Read.remaining c.args.stdin.now in
    let files = g.T.Texts.known c.args.files.now in
    IfOk-weaker c.compare_readers-then-is_stdin-3.result _ _ (λ done from. of_three _ _ _ _ _ _ _ _
    (file_reader stdin files c.args.session.now c.in_ok-session_file.ensures.named _
    c.in_ok-session_file.ensures.opened)
    (file_reader stdin files c.args.before.now c.in_ok-before_file-2.ensures.named _
    c.in_ok-before_file-2.ensures.opened)
    (stdin_reader stdin files c.args.after.now (sym c.is_stdin-3.ensures ∙ c.if-is_stdin-3.true)) from)
    c.compare_readers-then-is_stdin-3.ensures.from

pub returns-then-is_stdin-3-clause-front : goal.returns-then-is_stdin-3-clause-front
returns-then-is_stdin-3-clause-front g c =
    let stdin = g.I.Read.remaining c.args.stdin.now in
    let files = g.T.Texts.known c.args.files.now in
    IfErr-weaker c.compare_readers-then-is_stdin-3.result _ _ (λ fault front is. of_three_front _ _ _ _ _ _ _ _
    (file_reader stdin files c.args.session.now c.in_ok-session_file.ensures.named _
    c.in_ok-session_file.ensures.opened)
    (file_reader stdin files c.args.before.now c.in_ok-before_file-2.ensures.named _
    c.in_ok-before_file-2.ensures.opened)
    (stdin_reader stdin files c.args.after.now (sym c.is_stdin-3.ensures ∙ c.if-is_stdin-3.true)) (front is))
    c.compare_readers-then-is_stdin-3.ensures.front

pub returns-then-is_stdin-3-clause-refused : goal.returns-then-is_stdin-3-clause-refused
returns-then-is_stdin-3-clause-refused g c =
    let stdin = g.I.Read.remaining c.args.stdin.now in
    let files = g.T.Texts.known c.args.files.now in
    IfErr_both c.compare_readers-then-is_stdin-3.result _ _ _ (λ fault refuses may shared. three_refused _ _ _ _ _ _
    (file_reader stdin files c.args.session.now c.in_ok-session_file.ensures.named _
    c.in_ok-session_file.ensures.opened)
    (file_reader stdin files c.args.before.now c.in_ok-before_file-2.ensures.named _
    c.in_ok-before_file-2.ensures.opened)
    (stdin_reader stdin files c.args.after.now (sym c.is_stdin-3.ensures ∙ c.if-is_stdin-3.true)) fault refuses may)
    c.compare_readers-then-is_stdin-3.ensures.refused c.compare_readers-then-is_stdin-3.ensures.unread

-- all are files
pub returns-clause-compared : goal.returns-clause-compared
returns-clause-compared g c =
    let stdin = g.I.Read.remaining c.args.stdin.now in
    let files = g.T.Texts.known c.args.files.now in
    IfOk-weaker c.compare_readers-2.result _ _ (λ done from. of_three _ _ _ _ _ _ _ _
    (file_reader stdin files c.args.session.now c.in_ok-session_file.ensures.named _
    c.in_ok-session_file.ensures.opened)
    (file_reader stdin files c.args.before.now c.in_ok-before_file-2.ensures.named _
    c.in_ok-before_file-2.ensures.opened)
    (file_reader stdin files c.args.after.now c.in_ok-after_file-3.ensures.named _
    c.in_ok-after_file-3.ensures.opened) from)
    c.compare_readers-2.ensures.from

pub returns-clause-front : goal.returns-clause-front
returns-clause-front g c =
    let stdin = g.I.Read.remaining c.args.stdin.now in
    let files = g.T.Texts.known c.args.files.now in
    IfErr-weaker c.compare_readers-2.result _ _ (λ fault front is. of_three_front _ _ _ _ _ _ _ _
    (file_reader stdin files c.args.session.now c.in_ok-session_file.ensures.named _
    c.in_ok-session_file.ensures.opened)
    (file_reader stdin files c.args.before.now c.in_ok-before_file-2.ensures.named _
    c.in_ok-before_file-2.ensures.opened)
    (file_reader stdin files c.args.after.now c.in_ok-after_file-3.ensures.named _
    c.in_ok-after_file-3.ensures.opened) (front is))
    c.compare_readers-2.ensures.front

pub returns-clause-refused : goal.returns-clause-refused
returns-clause-refused g c =
    let stdin = g.I.Read.remaining c.args.stdin.now in
    let files = g.T.Texts.known c.args.files.now in
    IfErr_both c.compare_readers-2.result _ _ _ (λ fault refuses may shared. three_refused _ _ _ _ _ _
    (file_reader stdin files c.args.session.now c.in_ok-session_file.ensures.named _
    c.in_ok-session_file.ensures.opened)
    (file_reader stdin files c.args.before.now c.in_ok-before_file-2.ensures.named _
    c.in_ok-before_file-2.ensures.opened)
    (file_reader stdin files c.args.after.now c.in_ok-after_file-3.ensures.named _
    c.in_ok-after_file-3.ensures.opened) fault refuses may)
    c.compare_readers-2.ensures.refused c.compare_readers-2.ensures.unread
