use Rattle.std.proofs.Common.{◌≡◌, ◌∙◌, sym, true, false}
use Rattle.serde_json.specs.View.{view}
use Rattle.office_requests.proofs.BodyLemmas.{json_of_text, json_of_none}
use Rattle.office_requests.proofs.bodies.json_in.Goals as goal

pub returns-in-Ok : goal.returns-in-Ok
returns-in-Ok c =
    let reads = c.in-Ok.ensures.ok in
    sym (json_of_text c.args.bytes.now (view c.in-Ok.value) reads.0 reads.1)

-- a fault other than out of memory means that the text has no reading
pub returns-else-is_memory : goal.returns-else-is_memory
returns-else-is_memory c =
    sym (json_of_none c.args.bytes.now (c.in-Err.ensures.err (λ memory.
    let both : true ≡ false = sym (c.is_memory.ensures.1 memory) ∙ c.if-is_memory.false in cc)))
