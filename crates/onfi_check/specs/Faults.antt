-- What a fault says.
use Rattle.std.specs.Prelude.{◌≡◌, ◌≢◌, ℕ, ◌+◌, ◌⊎◌, Bool, true, List, [], ◌∷◌, ◌++◌, length}
use Rattle.onfi_problem.specs.Problem.{Problem}
use Rattle.onfi_schedule.specs.Schedule.{Schedule, Legal, finish}
use Rattle.onfi_cert.specs.declared.fault.CertTextFault.{CertTextFault}
use Rattle.onfi_cert.specs.declared.token.Token.{Token}
use Rattle.onfi_cert.specs.declared.token.Token.TheVariants.{Branch, Bus, Lead, Trail, Die, Yield, End}
use Rattle.onfi_cert.specs.Text.{IsCertificate}
use Rattle.onfi_cert.specs.Reading.{IsFaultOf}
use Rattle.onfi_check.specs.Tree.{Tree, preorder, Accepts, AcceptsTokens}
use Rattle.onfi_check.specs.Reading.{marked}
use Rattle.onfi_check.specs.declared.yields.Standing.{Standing}
use Rattle.onfi_check.specs.declared.fault.CertFault.{CertFault}
use Rattle.onfi_check.specs.declared.fault.CertFault.TheVariants.{Illegal, Short, Trailing, Width, BoundLow, YieldNoFit, YieldLoop, NotEnd, Memory}
use Rattle.onfi_check.specs.declared.fault.TextFault.{TextFault}
use Rattle.onfi_check.specs.declared.fault.TextFault.TheVariants.{Text, Option as OtherOption, Cert}

abbrev pub IsBranch : Token → Type 0
IsBranch token = (width : ℕ) × (token ≡ Branch width)

abbrev pub IsBound : Token → Type 0
IsBound token = (token ≡ Bus) ⊎ (token ≡ Lead) ⊎ (token ≡ Trail) ⊎ ((lun : ℕ) × (token ≡ Die lun))

abbrev pub IsToYield : Token → Type 0
IsToYield token = (lun : ℕ) × (token ≡ Yield lun)

-- such a token stands at this place, where the first of the tokens has the place `first`
pub record IsAt {T : Type 0} (first place : ℕ) (tokens : List T) (Such : T → Type 0) : Type 0 where
  pub before : List T
  pub token : T
  pub behind : List T
  pub tokens_are : tokens ≡ before ++ token ∷ behind
  pub place_is : place ≡ first + length before
  pub such : Such token

-- the first fault of a tree is of the kind of the token at its place: a branch, a bound, what yields and doesn't fit or goes
-- round, or the end; tokens end too soon only where none is left
abbrev pub FitsKind : {T : Type 0} → (T → Type 0) → (T → Type 0) → (T → Type 0) → (T → Type 0) → (T → Type 0) → Type 0 → ℕ → List T → List T → CertFault → Type 0
FitsKind Branches Bounds Unfit Loops Ends memory first tokens left Short = left ≡ []
FitsKind Branches Bounds Unfit Loops Ends memory first tokens left (Width place) = IsAt first place tokens Branches
FitsKind Branches Bounds Unfit Loops Ends memory first tokens left (BoundLow place) = IsAt first place tokens Bounds
FitsKind Branches Bounds Unfit Loops Ends memory first tokens left (YieldNoFit place) = IsAt first place tokens Unfit
FitsKind Branches Bounds Unfit Loops Ends memory first tokens left (YieldLoop place) = IsAt first place tokens Loops
FitsKind Branches Bounds Unfit Loops Ends memory first tokens left (NotEnd place) = IsAt first place tokens Ends
FitsKind Branches Bounds Unfit Loops Ends memory first tokens left (Trailing place) = ⊥
FitsKind Branches Bounds Unfit Loops Ends memory first tokens left Illegal = ⊥
FitsKind Branches Bounds Unfit Loops Ends memory first tokens left Memory = memory

abbrev pub FaultFits : ℕ → List Token → List Token → CertFault → Type 0
FaultFits first tokens left fault = FitsKind IsBranch IsBound IsToYield IsToYield (λ token. token ≡ End) ⊥ first tokens left fault

-- a yield of LUN j to LUN l goes round, where some LUNs were yielded to and some have children that yield
abbrev pub GoesRound : Standing → ℕ → ℕ → Type 0
GoesRound standing j l = (l ≡ j) ⊎ (marked standing.awaited j ≡ true) ⊎ (marked standing.leaving l ≡ true)

-- why a yield at this place isn't taken: it goes round, or else doesn't fit
abbrev pub IsYieldFaultBy : Type 0 → ℕ → CertFault → Type 0
IsYieldFaultBy round place (YieldLoop told) = (told ≡ place) × round
IsYieldFaultBy round place (YieldNoFit told) = (told ≡ place) × (round → ⊥)
IsYieldFaultBy round place _ = ⊥

abbrev pub IsYieldFault : Standing → ℕ → ℕ → ℕ → CertFault → Type 0
IsYieldFault standing j l place fault = IsYieldFaultBy (GoesRound standing j l) place fault

-- no accepted tree stands in front
abbrev pub NoTree : Problem → ℕ → List Token → Type 0
NoTree p e tokens = (tree : Tree) (rest : List Token) → Accepts tree p e → tokens ≢ preorder tree ++ rest

-- an accepted tree stands in front, and after it the token at this place
pub record IsTrailing (p : Problem) (e : ℕ) (tokens : List Token) (place : ℕ) : Type 0 where
  pub tree : Tree
  pub accepted : Accepts tree p e
  pub token : Token
  pub behind : List Token
  pub tokens_are : tokens ≡ preorder tree ++ token ∷ behind
  pub place_is : place ≡ length (preorder tree)

-- a fault says this of the place of a token after the tree, and every other one that
abbrev pub OrTrailing : (ℕ → Type 0) → Type 0 → CertFault → Type 0
OrTrailing Trails said (Trailing place) = Trails place
OrTrailing Trails said _ = said

-- what a fault of tokens says of them, where `left` are not read
abbrev pub IsTokenFault : Problem → ℕ → List Token → List Token → CertFault → Type 0
IsTokenFault p e tokens left fault = OrTrailing (IsTrailing p e tokens) (NoTree p e tokens × FaultFits 0 tokens left fault) fault

-- what a fault says by its cause: an illegal schedule, refused memory, or else the tokens
abbrev pub ByCause : Type 0 → Type 0 → Type 0 → CertFault → Type 0
ByCause illegal memory tokens Illegal = illegal
ByCause illegal memory tokens Memory = memory
ByCause illegal memory tokens _ = tokens

-- why the tokens don't show that the schedule ends first; out of memory says nothing of them
abbrev pub IsCertFault : Problem → Schedule → List Token → CertFault → Type 0
IsCertFault p s tokens fault =
    ByCause (Legal p s → ⊥) (Legal p s) (Legal p s × (AcceptsTokens tokens p (finish p s) → ⊥) × IsTokenFault p (finish p s) tokens [] fault) fault

-- why a text doesn't show what is asked of its tokens: it is none of tokens, is one with another option, or its tokens don't
-- show it
abbrev pub IsTextFaultBy : {T F G : Type 0} → (Bool → List T → Type 0) → (G → Type 0) → (List T → F → Type 0) → Bool → TextFault F G → Type 0
IsTextFaultBy {T} Holds Wrong Unshown strict (Text fault) = Wrong fault
IsTextFaultBy {T} Holds Wrong Unshown strict OtherOption = (tokens : List T) × (other : Bool) × Holds other tokens × (other ≢ strict)
IsTextFaultBy {T} Holds Wrong Unshown strict (Cert fault) = (tokens : List T) × Holds strict tokens × Unshown tokens fault

-- why the text of a certificate doesn't show it
abbrev pub IsTextFault : Problem → Schedule → List ℕ → TextFault CertFault CertTextFault → Type 0
IsTextFault p s text fault = IsTextFaultBy (IsCertificate text) (IsFaultOf text) (IsCertFault p s) p.rules.strict fault
