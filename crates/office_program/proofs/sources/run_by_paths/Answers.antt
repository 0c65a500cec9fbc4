use Rattle.std.proofs.Common.{◌∙◌, sym}
use Rattle.std.proofs.lemmas.Result.{IfErr-weaker, IfOk-weaker}
use Rattle.exam_lists.proofs.Results.{IfErr_both}
use Rattle.office_program.proofs.SourceFacts.{file_reader, of_files, stdin_reader, two_refused}
use Rattle.office_program.proofs.sources.run_by_paths.Goals as goal

-- the instance is that of standard input
pub returns-then-is_stdin-clause-done : goal.returns-then-is_stdin-clause-done
returns-then-is_stdin-clause-done g c =
    let stdin = g.I.Read.remaining c.args.stdin.now in
    let files = g.T.Texts.known c.args.files.now in
    IfOk-weaker c.answer_of.result _ _ (λ answer from. of_files _ _ _ _
    (stdin_reader stdin files c.args.instance.now (sym c.is_stdin.ensures ∙ c.if-is_stdin.true))
    (file_reader stdin files c.args.solution.now c.in_ok-solution_file.ensures.named _
    c.in_ok-solution_file.ensures.opened) _ from)
    c.answer_of.ensures.from

pub returns-then-is_stdin-clause-front : goal.returns-then-is_stdin-clause-front
returns-then-is_stdin-clause-front g c =
    let stdin = g.I.Read.remaining c.args.stdin.now in
    let files = g.T.Texts.known c.args.files.now in
    IfErr-weaker c.answer_of.result _ _ (λ fault front is. of_files _ _ _ _
    (stdin_reader stdin files c.args.instance.now (sym c.is_stdin.ensures ∙ c.if-is_stdin.true))
    (file_reader stdin files c.args.solution.now c.in_ok-solution_file.ensures.named _
    c.in_ok-solution_file.ensures.opened) _ (front is))
    c.answer_of.ensures.front

pub returns-then-is_stdin-clause-refused : goal.returns-then-is_stdin-clause-refused
returns-then-is_stdin-clause-refused g c =
    let stdin = g.I.Read.remaining c.args.stdin.now in
    let files = g.T.Texts.known c.args.files.now in
    IfErr_both c.answer_of.result _ _ _ (λ fault refuses may shared. two_refused _ _ _ _
    (stdin_reader stdin files c.args.instance.now (sym c.is_stdin.ensures ∙ c.if-is_stdin.true))
    (file_reader stdin files c.args.solution.now c.in_ok-solution_file.ensures.named _
    c.in_ok-solution_file.ensures.opened) fault refuses may)
    c.answer_of.ensures.refused c.answer_of.ensures.unread

-- the solution is that of standard input
pub returns-then-is_stdin-2-clause-done : goal.returns-then-is_stdin-2-clause-done
returns-then-is_stdin-2-clause-done g c =
    let stdin = g.I.Read.remaining c.args.stdin.now in
    let files = g.T.Texts.known c.args.files.now in
    IfOk-weaker c.answer_of-then-is_stdin-2.result _ _ (λ answer from. of_files _ _ _ _
    (file_reader stdin files c.args.instance.now c.in_ok-instance_file.ensures.named _
    c.in_ok-instance_file.ensures.opened)
    (stdin_reader stdin files c.args.solution.now (sym c.is_stdin-2.ensures ∙ c.if-is_stdin-2.true))
    _ from)
    c.answer_of-then-is_stdin-2.ensures.from

pub returns-then-is_stdin-2-clause-front : goal.returns-then-is_stdin-2-clause-front
returns-then-is_stdin-2-clause-front g c =
    let stdin = g.I.Read.remaining c.args.stdin.now in
    let files = g.T.Texts.known c.args.files.now in
    IfErr-weaker c.answer_of-then-is_stdin-2.result _ _ (λ fault front is. of_files _ _ _ _
    (file_reader stdin files c.args.instance.now c.in_ok-instance_file.ensures.named _
    c.in_ok-instance_file.ensures.opened)
    (stdin_reader stdin files c.args.solution.now (sym c.is_stdin-2.ensures ∙ c.if-is_stdin-2.true))
    _ (front is))
    c.answer_of-then-is_stdin-2.ensures.front

pub returns-then-is_stdin-2-clause-refused : goal.returns-then-is_stdin-2-clause-refused
returns-then-is_stdin-2-clause-refused g c =
    let stdin = g.I.Read.remaining c.args.stdin.now in
    let files = g.T.Texts.known c.args.files.now in
    IfErr_both c.answer_of-then-is_stdin-2.result _ _ _ (λ fault refuses may shared. two_refused _ _ _ _
    (file_reader stdin files c.args.instance.now c.in_ok-instance_file.ensures.named _
    c.in_ok-instance_file.ensures.opened)
    (stdin_reader stdin files c.args.solution.now (sym c.is_stdin-2.ensures ∙ c.if-is_stdin-2.true))
    fault refuses may)
    c.answer_of-then-is_stdin-2.ensures.refused c.answer_of-then-is_stdin-2.ensures.unread

-- both are files
pub returns-clause-done : goal.returns-clause-done
returns-clause-done g c =
    let stdin = g.I.Read.remaining c.args.stdin.now in
    let files = g.T.Texts.known c.args.files.now in
    IfOk-weaker c.answer_of-2.result _ _ (λ answer from. of_files _ _ _ _
    (file_reader stdin files c.args.instance.now c.in_ok-instance_file.ensures.named _
    c.in_ok-instance_file.ensures.opened)
    (file_reader stdin files c.args.solution.now c.in_ok-solution_file-2.ensures.named _
    c.in_ok-solution_file-2.ensures.opened) _ from)
    c.answer_of-2.ensures.from

pub returns-clause-front : goal.returns-clause-front
returns-clause-front g c =
    let stdin = g.I.Read.remaining c.args.stdin.now in
    let files = g.T.Texts.known c.args.files.now in
    IfErr-weaker c.answer_of-2.result _ _ (λ fault front is. of_files _ _ _ _
    (file_reader stdin files c.args.instance.now c.in_ok-instance_file.ensures.named _
    c.in_ok-instance_file.ensures.opened)
    (file_reader stdin files c.args.solution.now c.in_ok-solution_file-2.ensures.named _
    c.in_ok-solution_file-2.ensures.opened) _ (front is))
    c.answer_of-2.ensures.front

pub returns-clause-refused : goal.returns-clause-refused
returns-clause-refused g c =
    let stdin = g.I.Read.remaining c.args.stdin.now in
    let files = g.T.Texts.known c.args.files.now in
    IfErr_both c.answer_of-2.result _ _ _ (λ fault refuses may shared. two_refused _ _ _ _
    (file_reader stdin files c.args.instance.now c.in_ok-instance_file.ensures.named _
    c.in_ok-instance_file.ensures.opened)
    (file_reader stdin files c.args.solution.now c.in_ok-solution_file-2.ensures.named _
    c.in_ok-solution_file-2.ensures.opened) fault refuses may)
    c.answer_of-2.ensures.refused c.answer_of-2.ensures.unread
