use Rattle.std.proofs.Common.{◌∙◌, sym}
use Rattle.exam_lists.proofs.Results.{IfOk_both}
use Rattle.office_program.proofs.SourceFacts.{file_reader, some_text, stdin_reader}
use Rattle.office_program.proofs.judging.judge_at.Goals as goal

-- the session is that of standard input
pub returns-then-is_stdin-clause-spelled : goal.returns-then-is_stdin-clause-spelled
returns-then-is_stdin-clause-spelled g c =
    let stdin = g.I.Read.remaining c.args.stdin.now in
    let files = g.T.Texts.known c.args.files.now in
    IfOk_both c.judge_of.result _ _ _ (λ judge known some. some_text _ stdin
    (stdin_reader stdin files c.args.path.now (sym c.is_stdin.ensures ∙ c.if-is_stdin.true))
    _ known some) c.judge_of.ensures.reading c.judge_of.ensures.spelled

-- or that of a file
pub returns-clause-spelled : goal.returns-clause-spelled
returns-clause-spelled g c =
    let stdin = g.I.Read.remaining c.args.stdin.now in
    let files = g.T.Texts.known c.args.files.now in
    IfOk_both c.judge_of-2.result _ _ _ (λ judge known some. some_text _ _
    (file_reader stdin files c.args.path.now (sym c.is_stdin.ensures ∙ c.if-is_stdin.false) _
    c.in-Ok.ensures.opened) _ known some) c.judge_of-2.ensures.reading c.judge_of-2.ensures.spelled
