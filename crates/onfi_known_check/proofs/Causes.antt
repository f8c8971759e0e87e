-- What a fault says by its cause.
use Rattle.std.proofs.Common.{◌≡◌, refl, ap, subst}
use Rattle.onfi_check.proofs.Causes as plain
use Rattle.onfi_check.specs.Faults as plain_of
use Rattle.onfi_check.specs.declared.fault.CertFault.{CertFault}
use Rattle.onfi_check.specs.declared.fault.CertFault.TheVariants.{Illegal, Short, Trailing, Width, BoundLow, YieldNoFit, YieldLoop, NotEnd, Memory}
use Rattle.onfi_known_check.specs.declared.fault.KnownFault.{KnownFault}
use Rattle.onfi_known_check.specs.declared.fault.KnownFault.TheVariants.{Cert, Unknown, OtherLeft, Sooner, TooMany, Above}
use Rattle.onfi_known_check.specs.Faults.{ByCause}

-- what follows of each cause follows of the fault
pub cause_so : {I M A O J N B Q : Type 0} (f : KnownFault) → (I → J) → (M → N) → (A → B) → (O → Q) → ByCause I M A O f → ByCause J N B Q f
cause_so (Cert f) i m a o h = plain.cause_so f i m o h
cause_so (Unknown place) i m a o h = o h
cause_so (OtherLeft place) i m a o h = o h
cause_so (Sooner place) i m a o h = o h
cause_so (TooMany place) i m a o h = o h
cause_so Above i m a o h = a h

-- .. and so does what is known of each
pub cause_all : {I M A O : Type 0} (f : KnownFault) → (f ≡ Cert Illegal → I) → M → (f ≡ Above → A) → O → ByCause I M A O f
cause_all (Cert f) i m a o = plain.cause_all f (λ e. i (ap Cert e)) m o
cause_all (Unknown place) i m a o = o
cause_all (OtherLeft place) i m a o = o
cause_all (Sooner place) i m a o = o
cause_all (TooMany place) i m a o = o
cause_all Above i m a o = a refl

-- no other cause is left but memory
pub memory_left : {I A O : Type 0} (M : Type 0) (f : KnownFault) → (I → ⊥) → (A → ⊥) → (O → ⊥) → ByCause I M A O f → f ≡ Cert Memory
memory_left M (Cert f) i a o h = ap Cert (plain.memory_left M f i o h)
memory_left M (Unknown place) i a o h = absurd (o h)
memory_left M (OtherLeft place) i a o h = absurd (o h)
memory_left M (Sooner place) i a o h = absurd (o h)
memory_left M (TooMany place) i a o h = absurd (o h)
memory_left M Above i a o h = absurd (a h)

illegal_left_of_plain : {M O : Type 0} (I : Type 0) (f : CertFault) → (M → ⊥) → (O → ⊥) → plain_of.ByCause I M O f → f ≡ Illegal
illegal_left_of_plain I Illegal m o h = refl
illegal_left_of_plain I Short m o h = absurd (o h)
illegal_left_of_plain I (Trailing place) m o h = absurd (o h)
illegal_left_of_plain I (Width place) m o h = absurd (o h)
illegal_left_of_plain I (BoundLow place) m o h = absurd (o h)
illegal_left_of_plain I (YieldNoFit place) m o h = absurd (o h)
illegal_left_of_plain I (YieldLoop place) m o h = absurd (o h)
illegal_left_of_plain I (NotEnd place) m o h = absurd (o h)
illegal_left_of_plain I Memory m o h = absurd (m h)

-- .. but an illegal schedule
pub illegal_left : {M A O : Type 0} (I : Type 0) (f : KnownFault) → (M → ⊥) → (A → ⊥) → (O → ⊥) → ByCause I M A O f → f ≡ Cert Illegal
illegal_left I (Cert f) m a o h = ap Cert (illegal_left_of_plain I f m o h)
illegal_left I (Unknown place) m a o h = absurd (o h)
illegal_left I (OtherLeft place) m a o h = absurd (o h)
illegal_left I (Sooner place) m a o h = absurd (o h)
illegal_left I (TooMany place) m a o h = absurd (o h)
illegal_left I Above m a o h = absurd (a h)

-- .. but one that ends before the number
pub above_left : {I M O : Type 0} (A : Type 0) (f : KnownFault) → (I → ⊥) → (M → ⊥) → (O → ⊥) → ByCause I M A O f → f ≡ Above
above_left {I} {M} {O} A (Cert f) i m o h = absurd (m (subst (plain_of.ByCause I M O) (plain.memory_left M f i o h) h))
above_left A (Unknown place) i m o h = absurd (o h)
above_left A (OtherLeft place) i m o h = absurd (o h)
above_left A (Sooner place) i m o h = absurd (o h)
above_left A (TooMany place) i m o h = absurd (o h)
above_left A Above i m o h = refl
