-- What is accepted is refused for no cause but memory.
use Rattle.std.proofs.Common.{◌≡◌, ℕ, List}
use Rattle.onfi_problem.specs.Problem.{Problem}
use Rattle.onfi_schedule.specs.Schedule.{Schedule, Legal, finish}
use Rattle.onfi_cert.specs.declared.fault.CertTextFault.{CertTextFault}
use Rattle.onfi_cert.specs.declared.token.Token.{Token}
use Rattle.onfi_cert.specs.Reading.{IsFaultOf}
use Rattle.onfi_cert.specs.Text.{IsCertificate}
use Rattle.onfi_cert.proofs.Whole.{no_fault, one_certificate}
use Rattle.onfi_check.specs.declared.fault.CertFault.{CertFault}
use Rattle.onfi_check.specs.declared.fault.CertFault.TheVariants.{Memory}
use Rattle.onfi_check.specs.declared.fault.TextFault.{TextFault}
use Rattle.onfi_check.specs.declared.fault.TextFault.TheVariants.{Cert}
use Rattle.onfi_check.specs.Faults.{IsCertFault, IsTextFault}
use Rattle.onfi_check.specs.Tree.{AcceptsTokens}
use Rattle.onfi_check.proofs.Causes.{memory_left, memory_left_of_text}

pub memory_alone : (p : Problem) (s : Schedule) (tokens : List Token) (fault : CertFault) → Legal p s → AcceptsTokens tokens p (finish p s) → IsCertFault p s tokens fault → fault ≡ Memory
memory_alone p s tokens fault legal accepted is = memory_left (Legal p s) fault (λ illegal. illegal legal) (λ told. told.1 accepted) is

pub memory_alone_of_text : (p : Problem) (s : Schedule) (text : List ℕ) (tokens : List Token) (fault : TextFault CertFault CertTextFault) → IsCertificate text p.rules.strict tokens → Legal p s → AcceptsTokens tokens p (finish p s) → IsTextFault p s text fault → fault ≡ Cert Memory
memory_alone_of_text p s text tokens fault certificate legal accepted is =
    memory_left_of_text (IsCertificate text) (IsFaultOf text) (IsCertFault p s) p.rules.strict tokens Memory fault certificate (λ f wrong. no_fault text p.rules.strict tokens f certificate wrong)
    (λ strict others other. one_certificate text strict p.rules.strict others tokens other certificate) (λ f told. memory_alone p s tokens f legal accepted told) is
