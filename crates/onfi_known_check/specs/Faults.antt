-- What a fault says.
use Rattle.std.specs.Prelude.{◌≡◌, ◌≢◌, ℕ, ◌+◌, ◌≤◌, ◌<◌, ◌⊎◌, Bool, List, [], ◌∷◌, Some, None, length}
use Rattle.std.specs.List.{AllByRecursion as Each}
use Rattle.onfi_request.specs.declared.want.Want.{Want}
use Rattle.onfi_problem.specs.Problem.{Problem}
use Rattle.onfi_schedule.specs.Schedule.{Schedule, Legal, finish}
use Rattle.onfi_cert.specs.declared.fault.LineFault.TheVariants as of
use Rattle.onfi_check.specs.declared.fault.TextFault.{TextFault}
use Rattle.onfi_check.specs.Faults as plain
use Rattle.onfi_cert.specs.Reading.{BeginsWithNeither, Line}
use Rattle.onfi_demand.specs.declared.demand.Demand.{Demand as Kept}
use Rattle.onfi_known_check.specs.declared.fault.KnownFault.{KnownFault}
use Rattle.onfi_known_check.specs.declared.fault.KnownFault.TheVariants.{Cert, Unknown, OtherLeft, Sooner, TooMany, Above}
use Rattle.onfi_known_check.specs.declared.fault.KnownTextFault.{KnownTextFault}
use Rattle.onfi_known_check.specs.declared.fault.KnownTextFault.TheVariants.{Header, BadToken}
use Rattle.onfi_known_check.specs.declared.given.Given.{Given}
use Rattle.onfi_known_check.specs.declared.known.Known.{Known}
use Rattle.onfi_known_check.specs.declared.token.Token.{Token}
use Rattle.onfi_known_check.specs.declared.token.Token.TheVariants as tk
use Rattle.onfi_known_check.specs.declared.token.TheConstants.{MOST_KNOWN}
use Rattle.onfi_known_check.specs.Proves.{Proves, ProvesTokens}
use Rattle.onfi_known_check.specs.Text.{Holds, IsCertificate, header}
pub use Rattle.onfi_check.specs.Reading.{ReadOn}
pub use Rattle.onfi_check.specs.Faults.{IsAt}

-- the text begins with neither header
abbrev pub NoHeader : List ℕ → Type 0
NoHeader text = BeginsWithNeither header text

-- what a fault says by its cause: an illegal schedule, refused memory, one that ends before the number, or else the tokens
abbrev pub ByCause : Type 0 → Type 0 → Type 0 → Type 0 → KnownFault → Type 0
ByCause illegal memory above tokens (Cert fault) = plain.ByCause illegal memory tokens fault
ByCause illegal memory above tokens Above = above
ByCause illegal memory above tokens _ = tokens

-- what a fault of tokens says; out of memory says nothing of them
abbrev pub OfTokens : KnownFault → Type 0 → Type 0
OfTokens fault said = ByCause ⊥ (Unit {0}) ⊥ said fault

abbrev pub IsBranch : Token → Type 0
IsBranch token = (width : ℕ) × (token ≡ tk.Branch width)

abbrev pub IsBound : Token → Type 0
IsBound token = (token ≡ tk.Bus) ⊎ (token ≡ tk.Lead) ⊎ (token ≡ tk.Trail) ⊎ ((lun : ℕ) × (token ≡ tk.Die lun)) ⊎ ((start tail : ℕ) × (token ≡ tk.Window start tail))

abbrev pub IsToYield : Token → Type 0
IsToYield token = (lun : ℕ) × (token ≡ tk.Yield lun)

-- it names a node that was read
abbrev pub NamesNode : Token → Type 0
NamesNode token = (number : ℕ) × (token ≡ tk.Again number)

-- the first fault of a tree is of the kind of the token at its place; tokens end too soon only where none is left. A
-- branch may be reported for its yields, whose times are too great, or as one node too many.
abbrev pub FaultFits : ℕ → List Token → List Token → KnownFault → Type 0
FaultFits first tokens left (Cert fault) =
    plain.FitsKind IsBranch IsBound (λ token. IsToYield token ⊎ IsBranch token) IsToYield (λ token. token ≡ tk.End) (Unit {0}) first tokens left fault
FaultFits first tokens left (Unknown place) = IsAt first place tokens NamesNode
FaultFits first tokens left (OtherLeft place) = IsAt first place tokens NamesNode
FaultFits first tokens left (Sooner place) = IsAt first place tokens NamesNode
FaultFits first tokens left (TooMany place) = IsAt first place tokens IsBranch
FaultFits first tokens left Above = ⊥

-- a yield of LUN j to LUN l goes round with those before it
abbrev pub GoesRound : List Given → ℕ → ℕ → Type 0
GoesRound given j l = (l ≡ j) ⊎ (Each (λ g. g.lun ≢ j) given × Each (λ g. g.own ≢ l) given → ⊥)

-- why a yield at this place isn't taken
abbrev pub IsYieldFault : List Given → ℕ → ℕ → ℕ → KnownFault → Type 0
IsYieldFault given j l place (Cert fault) = plain.IsYieldFaultBy (GoesRound given j l) place fault
IsYieldFault given j l place _ = ⊥

-- why the name of a node at this place closes nothing
abbrev pub IsNameFault : ℕ → KnownFault → Type 0
IsNameFault place fault = (fault ≡ Unknown place) ⊎ (fault ≡ OtherLeft place) ⊎ (fault ≡ Sooner place)

-- no accepted tree stands in front
abbrev pub NoTree : List Want → Problem → ℕ → List Token → Type 0
NoTree all p e tokens = (d : Kept) (known : List Known) (rest : List Token) → Proves e all p [] tokens d known rest → length known ≤ MOST_KNOWN → ⊥

-- an accepted tree stands in front, and after it the token at this place
pub record IsTrailing (all : List Want) (p : Problem) (e : ℕ) (tokens : List Token) (place : ℕ) : Type 0 where
  pub demand : Kept
  pub known : List Known
  pub token : Token
  pub behind : List Token
  pub proves : Proves e all p [] tokens demand known (token ∷ behind)
  pub place_is : length tokens ≡ place + length (token ∷ behind)

-- what a fault of tokens says of them, where `left` are not read
abbrev pub IsTokenFault : List Want → Problem → ℕ → List Token → List Token → KnownFault → Type 0
IsTokenFault all p e tokens left (Cert fault) =
    plain.OrTrailing (IsTrailing all p e tokens) (OfTokens (Cert fault) (NoTree all p e tokens) × FaultFits 0 tokens left (Cert fault)) fault
IsTokenFault all p e tokens left fault = NoTree all p e tokens × FaultFits 0 tokens left fault

-- the schedule is legal, and ends before `below`
abbrev pub EndsBefore : Problem → Schedule → ℕ → Type 0
EndsBefore p s below = Legal p s × (finish p s < below)

-- why the tokens don't show that the schedule is legal and ends at `below` or later, and that none ends before; out of memory
-- says nothing of them
abbrev pub IsKnownFault : List Want → Problem → Schedule → ℕ → List Token → KnownFault → Type 0
IsKnownFault all p s below tokens fault =
    ByCause (Legal p s → ⊥) (Legal p s × (below ≤ finish p s)) (EndsBefore p s below)
    (Legal p s × (below ≤ finish p s) × (ProvesTokens all tokens p below → ⊥) × IsTokenFault all p below tokens [] fault) fault

-- a line has no token at this place, or goes wrong after that many; one without tokens has none at place 0
abbrev pub IsWrongAt : ℕ → Line Token → Type 0
IsWrongAt place line = (line.fault ≡ Some (of.BadToken place)) ⊎ ((line.fault ≡ None) × (line.tokens ≡ []) × (place ≡ 0))

-- .. the line after the text's header
abbrev pub HasNoToken : List ℕ → ℕ → Type 0
HasNoToken text place = (strict : Bool) × (line : Line Token) × Holds text strict line × IsWrongAt place line

-- why the text is no certificate
abbrev pub IsFaultOf : List ℕ → KnownTextFault → Type 0
IsFaultOf text Header = NoHeader text
IsFaultOf text (BadToken place) = HasNoToken text place

-- why the text doesn't show it: it is no certificate, has the other option, or its tokens don't show it
abbrev pub IsTextFault : List Want → Problem → Schedule → ℕ → List ℕ → TextFault KnownFault KnownTextFault → Type 0
IsTextFault all p s below text fault = plain.IsTextFaultBy (IsCertificate text) (IsFaultOf text) (IsKnownFault all p s below) p.rules.strict fault

-- what is reported of the text where it is a certificate with the option of the problem's rules: else its own fault is reported before
abbrev pub OfCertificate : List ℕ → Problem → Type 0 → Type 0
OfCertificate text p said = (tokens : List Token) → IsCertificate text p.rules.strict tokens → said
