use Rattle.std.proofs.Common.{◌++◌, take}
use Rattle.std.proofs.KnownBytes.{Appends-trans}
use Rattle.exam_lists.proofs.Parts.{append_take_more}
use Rattle.office_output.proofs.writing.write_text.Goals as goal

pub loop-rest-preserved-in-Ok : goal.loop-rest-preserved-in-Ok
loop-rest-preserved-in-Ok g c =
    let part = c.loop-rest.invariant.part in
    record {
      part = (
        part.0 ++ take c.in-Ok.n c.loop-rest.rest.now,
        append_take_more _ part.0 c.loop-rest.rest.now c.in-Ok.n part.1,
        Appends-trans _ _ _ part.0 (take c.in-Ok.n c.loop-rest.rest.now) part.2
            c.in-Ok.ensures.bytes,
      );
      few = c.loop-rest.invariant.few;
    }
