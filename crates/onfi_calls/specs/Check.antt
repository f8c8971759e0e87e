-- What a caller is answered of a schedule with its certificate.
use Rattle.std.specs.Prelude.{◌≡◌, ◌⊎◌, ◌==◌, ◌<◌, ◌≤◌, ℕ, if◌then◌else◌, Bool, true, false, List}
use Rattle.onfi_problem.specs.Problem.{Problem}
use Rattle.onfi_schedule.specs.Schedule.{Schedule, Legal, finish}
use Rattle.onfi_cert.specs.declared.fault.CertTextFault.{CertTextFault}
use Rattle.onfi_cert.specs.declared.fault.CertTextFault.TheVariants.{Header}
use Rattle.onfi_cert.specs.declared.token.Token.{Token}
use Rattle.onfi_cert.specs.Text.{IsCertificate}
use Rattle.onfi_check.specs.Faults.{IsTextFault}
use Rattle.onfi_check.specs.Tree.{AcceptsTokens}
use Rattle.onfi_check.specs.declared.fault.CertFault.{CertFault}
use Rattle.onfi_check.specs.declared.fault.TextFault.{TextFault}
use Rattle.onfi_check.specs.declared.fault.TextFault.TheVariants.{Text}
use Rattle.onfi_known_check.specs.Faults.{IsTextFault as IsKnownTextFault}
use Rattle.onfi_known_check.specs.Laws.{NoneBefore}
use Rattle.onfi_known_check.specs.Proves.{ProvesTokens}
use Rattle.onfi_known_check.specs.Text.{IsCertificate as IsKnownCertificate}
use Rattle.onfi_known_check.specs.declared.fault.KnownFault.{KnownFault}
use Rattle.onfi_known_check.specs.declared.fault.KnownTextFault.{KnownTextFault}
use Rattle.onfi_known_check.specs.declared.token.Token.{Token as KnownToken}
use Rattle.onfi_calls.specs.declared.channel.PlainChannel.{PlainChannel}
use Rattle.onfi_calls.specs.declared.channel.PlainWant.{PlainWant}
use Rattle.onfi_calls.specs.declared.refusal.Refusal.{Refusal}
use Rattle.onfi_calls.specs.declared.schedule.PlainSchedule.{PlainSchedule}
use Rattle.onfi_calls.specs.declared.schedule.PlainVerdict.{PlainVerdict}
use Rattle.onfi_calls.specs.declared.status.Status.{Status}
use Rattle.onfi_calls.specs.declared.status.Status.TheVariants.{EndsBefore}
use Rattle.onfi_calls.specs.Refusal.{whole, text_refusal, known_text_refusal}
use Rattle.onfi_calls.specs.Stand.{IsNoSchedule, IsScheduleSaid}
use Rattle.onfi_calls.specs.Status.{number_of}

-- the time that is asked about: the schedule's own finish where none is named
abbrev pub asked : Problem → Schedule → ℕ → ℕ
asked p s below = if below == 0 then finish p s else below

-- tokens of either kind are accepted for this time
abbrev pub Certifies : Problem → ℕ → List ℕ → Type 0
Certifies p shown text = ((tokens : List Token) × IsCertificate text p.rules.strict tokens × AcceptsTokens tokens p shown)
    ⊎ ((tokens : List KnownToken) × IsKnownCertificate text p.rules.strict tokens × ProvesTokens p.wants tokens p shown)

-- a legal schedule, and the text of a certificate that nothing ends before a time, which is no sooner than the one that is asked
-- about; the schedule doesn't end before that either
pub record IsShown (p : Problem) (s : Schedule) (below : ℕ) (text : List ℕ) : Type 0 where
  pub legal : Legal p s
  pub shown : ℕ
  pub certificate : Certifies p shown text
  pub none_before : NoneBefore p shown
  pub reaches : asked p s below ≤ shown
  pub least : shown ≤ finish p s

-- its header line is none of a plain certificate
abbrev pub is_header : TextFault CertFault CertTextFault → Bool
is_header (Text Header) = true
is_header _ = false

abbrev pub IsOtherKind : Problem → Schedule → List ℕ → Type 0
IsOtherKind p s text = (fault : TextFault CertFault CertTextFault) × IsTextFault p s text fault × (is_header fault ≡ true)

-- why it isn't shown: what is wrong with a certificate whose header is the plain one, or else with one that remembers states; or a plain
-- one shows that none ends sooner than the schedule, which ends before the time that is named
pub data IsUnshown (p : Problem) (s : Schedule) (below : ℕ) (text : List ℕ) (refusal : Refusal) : Type 0 where
  is_plain : (fault : TextFault CertFault CertTextFault) → IsTextFault p s text fault → is_header fault ≡ false → refusal ≡ text_refusal fault → IsUnshown p s below text refusal
  is_known : (fault : TextFault KnownFault KnownTextFault) → IsOtherKind p s text → IsKnownTextFault p.wants p s (asked p s below) text fault
      → refusal ≡ known_text_refusal fault → IsUnshown p s below text refusal
  is_sooner : (tokens : List Token) → IsCertificate text p.rules.strict tokens → AcceptsTokens tokens p (finish p s) → finish p s < below → refusal ≡ whole EndsBefore
      → IsUnshown p s below text refusal

-- a number and a place say why
pub record IsRefusedBy (refusal : Refusal) (verdict : PlainVerdict) (result : ℕ) : Type 0 where
  pub finish : verdict.finish ≡ 0
  pub place : verdict.place ≡ refusal.place
  pub number : result ≡ number_of refusal.status

-- a caller is given when the schedule ends that he says, where its certificate shows what is asked; or by a number and a place why it
-- is refused, or why there is no such schedule
pub data GivesVerdict (channel : PlainChannel) (wants : List PlainWant) (schedule : PlainSchedule) (below : ℕ) (certificate : List ℕ) (verdict : PlainVerdict) (result : ℕ) : Type 0 where
  accepts : (p : Problem) (s : Schedule) → IsScheduleSaid channel wants schedule p s → IsShown p s below certificate → finish p s ≡ verdict.finish
      → verdict.place ≡ 0 → result ≡ 0 → GivesVerdict channel wants schedule below certificate verdict result
  refuses : (p : Problem) (s : Schedule) → IsScheduleSaid channel wants schedule p s → (refusal : Refusal) → IsUnshown p s below certificate refusal
      → IsRefusedBy refusal verdict result → GivesVerdict channel wants schedule below certificate verdict result
  is_unsaid : (status : Status) → IsNoSchedule channel wants schedule status → IsRefusedBy (whole status) verdict result
      → GivesVerdict channel wants schedule below certificate verdict result
