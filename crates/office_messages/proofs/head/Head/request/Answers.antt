use Rattle.std.proofs.Common.{sym, subst}
use Rattle.std.specs.Prelude.{IsUtf8}
use Rattle.office_messages.proofs.HeadLemmas.{token_text}
use Rattle.office_messages.proofs.head.Head.request.Goals as goal

-- a method is a name
pub text-requires-clause-text : goal.text-requires-clause-text
text-requires-clause-text c =
    let at = c.requires.at in
    subst IsUtf8 (sym at.parts.method.covered)
    (token_text at.head.method at.has_head.reads.0.method)

pub text-requires-2-clause-text : goal.text-requires-2-clause-text
text-requires-2-clause-text c =
    let at = c.requires.at in
    subst IsUtf8 (sym at.parts.target.covered) at.has_head.reads.0.target_text
