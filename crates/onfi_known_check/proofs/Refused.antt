-- What is reported of tokens that are to show that none ends before a number.
use Rattle.std.proofs.Common.{◌≡◌, ℕ, ◌≤◌, Bool, List, [], sym, ap, subst, arith}
use Rattle.std.specs.Prelude.{◌↔◌, IfErr, OnOk, IfOk, Result, Ok, Err}
use Rattle.onfi_request.specs.declared.want.Want.{Want}
use Rattle.onfi_problem.specs.Problem.{Problem}
use Rattle.onfi_schedule.specs.Schedule.{Schedule, Legal, finish}
use Rattle.onfi_check.specs.declared.fault.CertFault.TheVariants.{Illegal, Memory}
use Rattle.onfi_check.specs.declared.fault.TextFault.{TextFault}
use Rattle.onfi_check.specs.declared.fault.TextFault.TheVariants.{Cert as InTokens}
use Rattle.onfi_check.proofs.Causes.{memory_left_of_text}
use Rattle.onfi_known_check.specs.declared.fault.KnownFault.{KnownFault}
use Rattle.onfi_known_check.specs.declared.fault.KnownFault.TheVariants.{Cert, Above}
use Rattle.onfi_known_check.specs.declared.fault.KnownTextFault.{KnownTextFault}
use Rattle.onfi_known_check.specs.declared.fault.KnownTextFault.TheVariants.{Header, BadToken}
use Rattle.onfi_known_check.specs.declared.token.Token.{Token}
use Rattle.onfi_known_check.specs.Faults.{EndsBefore, IsFaultOf, IsKnownFault, IsTextFault, IsTokenFault, OfTokens}
use Rattle.onfi_known_check.specs.Proves.{ProvesTokens}
use Rattle.onfi_known_check.specs.Text.{IsCertificate}
use Rattle.onfi_known_check.proofs.Causes.{above_left, cause_so, illegal_left, memory_left}
use Rattle.onfi_known_check.proofs.Reading.{no_bad_token, no_certificate, one_certificate}

pub known_fault : (all : List Want) (p : Problem) (s : Schedule) (below : ℕ) (tokens : List Token) (f : KnownFault) → Legal p s → below ≤ finish p s → OfTokens f (ProvesTokens all tokens p below → ⊥) → IsTokenFault all p below tokens [] f → IsKnownFault all p s below tokens f
known_fault all p s below tokens f legal le refused kind = cause_so f (λ never. absurd never) (λ _. (legal, le)) (λ never. absurd never) (λ none. (legal, le, none, kind)) refused

-- what is accepted is refused for no cause but memory
pub memory_alone : (all : List Want) (p : Problem) (s : Schedule) (below : ℕ) (tokens : List Token) (fault : KnownFault) → Legal p s → below ≤ finish p s → ProvesTokens all tokens p below → IsKnownFault all p s below tokens fault → fault ≡ Cert Memory
memory_alone all p s below tokens fault legal le accepted is =
    memory_left (Legal p s × (below ≤ finish p s)) fault (λ illegal. illegal legal) (λ ends. let sooner = ends.1 in omega arith) (λ told. told.2 accepted) is

right : (text : List ℕ) (strict : Bool) (tokens : List Token) → IsCertificate text strict tokens → (f : KnownTextFault) → IsFaultOf text f → ⊥
right text strict tokens certificate Header is = no_certificate text strict tokens is certificate
right text strict tokens certificate (BadToken place) is = no_bad_token text place strict tokens is certificate

pub memory_alone_of_text : (all : List Want) (p : Problem) (s : Schedule) (below : ℕ) (text : List ℕ) (tokens : List Token) (fault : TextFault KnownFault KnownTextFault) → IsCertificate text p.rules.strict tokens → Legal p s → below ≤ finish p s → ProvesTokens all tokens p below → IsTextFault all p s below text fault → fault ≡ InTokens (Cert Memory)
memory_alone_of_text all p s below text tokens fault certificate legal le accepted is =
    memory_left_of_text (IsCertificate text) (IsFaultOf text) (IsKnownFault all p s below) p.rules.strict tokens (Cert Memory) fault certificate (right text p.rules.strict tokens certificate)
    (λ strict others other. one_certificate text strict p.rules.strict others tokens other certificate) (λ f told. memory_alone all p s below tokens f legal le accepted told) is

-- a certificate with the problem's option is refused for its tokens or the schedule alone
module _ (all : List Want) (p : Problem) (s : Schedule) (below : ℕ) (text : List ℕ) (tokens : List Token)
    (certificate : IsCertificate text p.rules.strict tokens) where
  alone : (cause : KnownFault) (fault : TextFault KnownFault KnownTextFault) → ((f : KnownFault) → IsKnownFault all p s below tokens f → f ≡ cause)
      → IsTextFault all p s below text fault → fault ≡ InTokens cause
  alone cause fault one is =
      memory_left_of_text (IsCertificate text) (IsFaultOf text) (IsKnownFault all p s below) p.rules.strict tokens cause fault certificate
      (right text p.rules.strict tokens certificate)
      (λ strict others other. one_certificate text strict p.rules.strict others tokens other certificate) one is

  -- .. as illegal exactly where it is
  pub illegal_told : (answer : Result ℕ (TextFault KnownFault KnownTextFault)) → OnOk answer (Legal p s) → IfErr answer (IsTextFault all p s below text)
      → (answer ≡ Err (InTokens (Cert Illegal))) ↔ (Legal p s → ⊥)
  illegal_told (Ok e) legal told = (λ same. absurd (subst (λ z. IfOk z (λ _. ⊥)) (sym same) tt), λ no. absurd (no legal))
  illegal_told (Err fault) legal told = (
    λ same. (subst (λ z. IfErr z (IsTextFault all p s below text)) same told).2,
    λ no. ap Err (alone (Cert Illegal) fault (λ f is. illegal_left (Legal p s → ⊥) f (λ m. no m.0) (λ a. no a.0) (λ o. no o.0) is) told),
  )

  -- .. as ending before the number exactly where it does
  pub above_told : (answer : Result ℕ (TextFault KnownFault KnownTextFault)) → IfOk answer (λ e. finish p s ≡ e) → IfOk answer (λ e. below ≤ e)
      → IfErr answer (IsTextFault all p s below text) → (answer ≡ Err (InTokens Above)) ↔ EndsBefore p s below
  above_told (Ok e) is late told = (λ same. absurd (subst (λ z. IfOk z (λ _. ⊥)) (sym same) tt), λ ends. let sooner = ends.1 in absurd (omega arith))
  above_told (Err fault) is late told = (
    λ same. (subst (λ z. IfErr z (IsTextFault all p s below text)) same told).2,
    λ ends. let sooner = ends.1 in ap Err (alone Above fault (λ f is. above_left (EndsBefore p s below) f (λ illegal. illegal ends.0)
        (λ m. let late = m.1 in omega arith) (λ o. let late = o.1 in omega arith) is) told),
  )
