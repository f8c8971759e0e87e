use Rattle.onfi_cert.proofs.Whole.{no_fault, one_certificate, one_fault}
use Rattle.onfi_cert.proofs.laws.one_reading.Goals as goal

pub returns-clause-tokens : goal.returns-clause-tokens
returns-clause-tokens c = one_certificate

pub returns-clause-either : goal.returns-clause-either
returns-clause-either c = no_fault

pub returns-clause-fault : goal.returns-clause-fault
returns-clause-fault c = one_fault
