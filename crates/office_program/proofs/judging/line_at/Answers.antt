use Rattle.std.proofs.Common.{◌∙◌, sym}
use Rattle.std.proofs.lemmas.Result.{IfOk-weaker}
use Rattle.office_program.proofs.SourceFacts.{file_reader, line_less, own_text, stdin_reader}
use Rattle.office_program.proofs.judging.line_at.Goals as goal

-- the solution is that of standard input
pub returns-then-is_stdin-clause-ok : goal.returns-then-is_stdin-clause-ok
returns-then-is_stdin-clause-ok g c =
    let stdin = g.I.Read.remaining c.args.stdin.now in
    IfOk-weaker c.line_by.result _ _ (λ line of. line_less _ _ _ _ _ _ line
    (own_text _ stdin (stdin_reader stdin (g.T.Texts.known c.args.files.now) c.args.path.now
    (sym c.is_stdin.ensures ∙ c.if-is_stdin.true))) of)
    c.line_by.ensures.ok

-- or that of a file
pub returns-clause-ok : goal.returns-clause-ok
returns-clause-ok g c =
    IfOk-weaker c.line_by-2.result _ _ (λ line of. line_less _ _ _ _ _ _ line
    (own_text _ _ (file_reader (g.I.Read.remaining c.args.stdin.now)
    (g.T.Texts.known c.args.files.now) c.args.path.now
    (sym c.is_stdin.ensures ∙ c.if-is_stdin.false) _ c.in-Ok.ensures.opened)) of)
    c.line_by-2.ensures.ok
