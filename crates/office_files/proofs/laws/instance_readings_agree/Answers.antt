use Rattle.office_files.proofs.FirstFaultLaws.{instance_fault}
use Rattle.office_files.proofs.InstanceLaws.{read_is_text, text_is_read}
use Rattle.office_files.proofs.laws.instance_readings_agree.Goals as goal

pub returns-clause-spelled : goal.returns-clause-spelled
returns-clause-spelled c b I E is = read_is_text b I E is

pub returns-clause-read : goal.returns-clause-read
returns-clause-read c b I E spelled = text_is_read b I E spelled

pub returns-clause-first : goal.returns-clause-first
returns-clause-first c b = instance_fault b
