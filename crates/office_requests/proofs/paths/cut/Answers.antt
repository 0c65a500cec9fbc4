use Rattle.std.proofs.Common.{sym, arith, rules}
use Rattle.std.proofs.lemmas.List.{take_rest}
use Rattle.office_requests.proofs.PathLemmas.{rest_at}
use Rattle.office_requests.proofs.paths.cut.Goals as goal

-- the rest is after the first slash
pub returns-then-byte-eq-SLASH-clause-rest : goal.returns-then-byte-eq-SLASH-clause-rest
returns-then-byte-eq-SLASH-clause-rest c =
    rw take_rest
    (sym (rest_at c.args.path.now c.loop-i.i (omega arith) (search rules) c.loop-i.invariant))
