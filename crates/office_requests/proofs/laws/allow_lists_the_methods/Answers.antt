use Rattle.office_requests.specs.Methods.{verb_of}
use Rattle.office_requests.proofs.MethodLemmas.{listed, path_first}
use Rattle.office_requests.proofs.laws.allow_lists_the_methods.Goals as goal

pub returns-clause-listed : goal.returns-clause-listed
returns-clause-listed c = λ page path method body is known. listed page path method body is known

pub returns-clause-path_first : goal.returns-clause-path_first
returns-clause-path_first c =
    λ path method other body text e. path_first path (verb_of method) (verb_of other) body text e
