-- What a fault says by its cause.
use Rattle.std.proofs.Common.{◌≡◌, ℕ, List, refl, ap, subst}
use Rattle.std.specs.Prelude.{Bool}
use Rattle.onfi_check.specs.declared.fault.CertFault.{CertFault}
use Rattle.onfi_check.specs.declared.fault.CertFault.TheVariants.{Illegal, Short, Trailing, Width, BoundLow, YieldNoFit, YieldLoop, NotEnd, Memory}
use Rattle.onfi_check.specs.declared.fault.TextFault.{TextFault}
use Rattle.onfi_check.specs.declared.fault.TextFault.TheVariants.{Text, Option as OtherOption, Cert}
use Rattle.onfi_check.specs.Faults.{ByCause, IsTextFaultBy, OrTrailing}

-- a fault that names no token after the tree says the rest
pub none_trails : {said : Type 0} (Trails : ℕ → Type 0) (f : CertFault) → ((place : ℕ) → f ≡ Trailing place → ⊥) → said → OrTrailing Trails said f
none_trails Trails Illegal none h = h
none_trails Trails Short none h = h
none_trails Trails (Trailing place) none h = absurd (none place refl)
none_trails Trails (Width place) none h = h
none_trails Trails (BoundLow place) none h = h
none_trails Trails (YieldNoFit place) none h = h
none_trails Trails (YieldLoop place) none h = h
none_trails Trails (NotEnd place) none h = h
none_trails Trails Memory none h = h

-- what follows of each cause follows of the fault
pub cause_so : {I M O J N Q : Type 0} (f : CertFault) → (I → J) → (M → N) → (O → Q) → ByCause I M O f → ByCause J N Q f
cause_so Illegal i m o h = i h
cause_so Short i m o h = o h
cause_so (Trailing place) i m o h = o h
cause_so (Width place) i m o h = o h
cause_so (BoundLow place) i m o h = o h
cause_so (YieldNoFit place) i m o h = o h
cause_so (YieldLoop place) i m o h = o h
cause_so (NotEnd place) i m o h = o h
cause_so Memory i m o h = m h

-- .. and so does what is known of each
pub cause_all : {I M O : Type 0} (f : CertFault) → (f ≡ Illegal → I) → M → O → ByCause I M O f
cause_all Illegal i m o = i refl
cause_all Short i m o = o
cause_all (Trailing place) i m o = o
cause_all (Width place) i m o = o
cause_all (BoundLow place) i m o = o
cause_all (YieldNoFit place) i m o = o
cause_all (YieldLoop place) i m o = o
cause_all (NotEnd place) i m o = o
cause_all Memory i m o = m

-- no other cause is left but memory
pub memory_left : {I O : Type 0} (M : Type 0) (f : CertFault) → (I → ⊥) → (O → ⊥) → ByCause I M O f → f ≡ Memory
memory_left M Illegal i o h = absurd (i h)
memory_left M Short i o h = absurd (o h)
memory_left M (Trailing place) i o h = absurd (o h)
memory_left M (Width place) i o h = absurd (o h)
memory_left M (BoundLow place) i o h = absurd (o h)
memory_left M (YieldNoFit place) i o h = absurd (o h)
memory_left M (YieldLoop place) i o h = absurd (o h)
memory_left M (NotEnd place) i o h = absurd (o h)
memory_left M Memory i o h = refl

-- .. nor for the text of these tokens under this option, which is that of no others
module _ {T F G : Type 0} (Holds : Bool → List T → Type 0) (Wrong : G → Type 0) (Unshown : List T → F → Type 0) (strict : Bool) (tokens : List T) (memory : F) where
  pub memory_left_of_text : (fault : TextFault F G) → Holds strict tokens → ((g : G) → Wrong g → ⊥) → ((other : Bool) (others : List T) → Holds other others → (other ≡ strict) × (others ≡ tokens)) → ((f : F) → Unshown tokens f → f ≡ memory) → IsTextFaultBy Holds Wrong Unshown strict fault → fault ≡ Cert memory
  memory_left_of_text (Text g) holds right one alone is = absurd (right g is)
  memory_left_of_text OtherOption holds right one alone (others, other, held, differs) = absurd (differs (one other others held).0)
  memory_left_of_text (Cert f) holds right one alone (others, held, is) = ap Cert (alone f (subst (λ z. Unshown z f) (one strict others held).1 is))
