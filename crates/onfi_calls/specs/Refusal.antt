-- The refusals for faults of certificates.
use Rattle.onfi_cert.specs.declared.fault.CertTextFault.{CertTextFault}
use Rattle.onfi_cert.specs.declared.fault.CertTextFault.TheVariants as cert_text
use Rattle.onfi_check.specs.declared.fault.CertFault.{CertFault}
use Rattle.onfi_check.specs.declared.fault.CertFault.TheVariants as cert
use Rattle.onfi_check.specs.declared.fault.TextFault.{TextFault}
use Rattle.onfi_check.specs.declared.fault.TextFault.TheVariants as in_text
use Rattle.onfi_known_check.specs.declared.fault.KnownFault.{KnownFault}
use Rattle.onfi_known_check.specs.declared.fault.KnownFault.TheVariants as known
use Rattle.onfi_known_check.specs.declared.fault.KnownTextFault.{KnownTextFault}
use Rattle.onfi_known_check.specs.declared.fault.KnownTextFault.TheVariants as in_known
use Rattle.onfi_calls.specs.declared.status.Status.{Status}
use Rattle.onfi_calls.specs.declared.status.Status.TheVariants as status
use Rattle.onfi_calls.specs.declared.refusal.Refusal.{Refusal}

-- of no place
abbrev pub whole : Status → Refusal
whole s = record { status = s; place = 0 }

abbrev pub cert_refusal : CertFault → Refusal
cert_refusal cert.Illegal = whole status.Illegal
cert_refusal cert.Short = whole status.Short
cert_refusal (cert.Trailing place) = record { status = status.Trailing; place = place }
cert_refusal (cert.Width place) = record { status = status.Width; place = place }
cert_refusal (cert.BoundLow place) = record { status = status.BoundLow; place = place }
cert_refusal (cert.YieldNoFit place) = record { status = status.YieldNoFit; place = place }
cert_refusal (cert.YieldLoop place) = record { status = status.YieldLoop; place = place }
cert_refusal (cert.NotEnd place) = record { status = status.NotEnd; place = place }
cert_refusal cert.Memory = whole status.Memory

abbrev pub cert_text_refusal : CertTextFault → Refusal
cert_text_refusal cert_text.Header = whole status.BadHeader
cert_text_refusal (cert_text.BadToken place) = record { status = status.BadToken; place = place }
cert_text_refusal cert_text.TooLong = whole status.TooManyTokens
cert_text_refusal cert_text.Memory = whole status.Memory

abbrev pub text_refusal : TextFault CertFault CertTextFault → Refusal
text_refusal (in_text.Text fault) = cert_text_refusal fault
text_refusal (in_text.Cert fault) = cert_refusal fault
text_refusal in_text.Option = whole status.OtherOption

-- the same of certificates that remember states, and of a schedule that ends before the number before which none is to end
abbrev pub known_refusal : KnownFault → Refusal
known_refusal (known.Cert fault) = cert_refusal fault
known_refusal (known.Unknown place) = record { status = status.UnknownNode; place = place }
known_refusal (known.OtherLeft place) = record { status = status.OtherLeft; place = place }
known_refusal (known.Sooner place) = record { status = status.Sooner; place = place }
known_refusal (known.TooMany place) = record { status = status.TooManyNodes; place = place }
known_refusal known.Above = whole status.EndsBefore

abbrev pub known_text_refusal : TextFault KnownFault KnownTextFault → Refusal
known_text_refusal (in_text.Text in_known.Header) = whole status.BadHeader
known_text_refusal (in_text.Text (in_known.BadToken place)) = record { status = status.BadToken; place = place }
known_text_refusal (in_text.Cert fault) = known_refusal fault
known_text_refusal in_text.Option = whole status.OtherOption
