use Rattle.office_files.proofs.FirstFaultLaws.{instance_first, instance_faultless}
use Rattle.office_files.proofs.ReaderLaws.{instance_reading, instance_only, instance_one, instance_fits}
use Rattle.office_files.proofs.instance_reader.read_instance.Goals as goal

pub returns-clause-reading : goal.returns-clause-reading
returns-clause-reading c =
    instance_reading (λ r. (r.0, r.1)) c.args.source.now c.instance_in.result
    c.instance_in.ensures.exact

pub returns-clause-only : goal.returns-clause-only
returns-clause-only c =
    instance_only (λ r. (r.0, r.1)) c.args.source.now c.instance_in.result
    c.instance_in.ensures.exact

pub returns-clause-one : goal.returns-clause-one
returns-clause-one c =
    instance_one (λ r. (r.0, r.1)) c.args.source.now c.instance_in.result
    c.instance_in.ensures.exact

pub returns-clause-first : goal.returns-clause-first
returns-clause-first c =
    instance_first (λ r. (r.0, r.1)) c.args.source.now c.instance_in.result
    c.instance_in.ensures.exact

pub returns-clause-faultless : goal.returns-clause-faultless
returns-clause-faultless c =
    instance_faultless (λ r. (r.0, r.1)) c.args.source.now c.instance_in.result
    c.instance_in.ensures.exact

pub returns-clause-fits : goal.returns-clause-fits
returns-clause-fits c =
    instance_fits (λ r. (r.0, r.1)) c.args.source.now c.instance_in.result
    c.instance_in.ensures.exact
