-- Where the tokens stand that a fault names.
use Rattle.std.proofs.Common.{◌≡◌, ◌≢◌, ℕ, ◌+◌, ◌⊎◌, inl, inr, List, [], ◌∷◌, length, refl, sym, ap, ◌∙◌, subst, arith, length-append}
use Rattle.std.specs.Prelude.{Result, Ok, Err, IfErr}
use Rattle.onfi_request.specs.declared.want.Want.{Want}
use Rattle.onfi_problem.specs.Problem.{Problem}
use Rattle.onfi_demand.specs.declared.demand.Demand.{Demand as Kept}
use Rattle.onfi_known_check.specs.declared.token.Token.{Token}
use Rattle.onfi_known_check.specs.declared.token.Token.TheVariants.{Branch, Bus, Lead, Trail, Die, Yield, End, Window, Again}
use Rattle.onfi_known_check.specs.declared.fault.KnownFault.{KnownFault}
use Rattle.onfi_known_check.specs.declared.fault.KnownFault.TheVariants.{Cert, Unknown, OtherLeft, Sooner, TooMany, Above}
use Rattle.onfi_known_check.specs.declared.given.Given.{Given}
use Rattle.onfi_known_check.specs.declared.known.Known.{Known}
use Rattle.onfi_known_check.specs.Proves.{Proves}
use Rattle.onfi_known_check.specs.Refused.{Refuses}
use Rattle.onfi_known_check.specs.Faults.{FaultFits, GoesRound, IsBound, IsBranch, IsNameFault, IsTokenFault, NamesNode, IsToYield, IsTrailing, IsYieldFault, NoTree, OfTokens, ReadOn}
use Rattle.onfi_known_check.proofs.Refusing.{none_refuses}
use Rattle.onfi_check.specs.declared.fault.CertFault.TheVariants.{Memory}
use Rattle.onfi_check.proofs.Causes.{none_trails}
use Rattle.onfi_check.proofs.Placing.{kind_behind, yield_fits as unfit}
pub use Rattle.onfi_check.proofs.Placing.{read_none, read_one, read_more, few_on, here, at_behind}

-- no token was read, where none is left
pub read_end : (first next : ℕ) (tokens left : List Token) → next ≡ first → tokens ≡ [] → left ≡ [] → ReadOn first next tokens left
read_end first next tokens left n t l = record { taken = []; tokens_are = t ∙ sym l; next_is = omega arith }

-- the tokens read and those left are all
pub counted : (first next : ℕ) (tokens left : List Token) → ReadOn first next tokens left → next + length left ≡ first + length tokens
counted first next tokens left r =
    let long = ap length r.tokens_are ∙ length-append r.taken left in
    let n = r.next_is in
    omega arith

-- no other tokens are left but those of bounds
pub bound_of : (token : Token) → ((width : ℕ) → token ≢ Branch width) → ((lun : ℕ) → token ≢ Yield lun) → ((number : ℕ) → token ≢ Again number) → token ≢ End → IsBound token
bound_of (Branch width) nb ny na ne = absurd (nb width refl)
bound_of Bus nb ny na ne = inl refl
bound_of Lead nb ny na ne = inr (inl refl)
bound_of Trail nb ny na ne = inr (inr (inl refl))
bound_of (Die lun) nb ny na ne = inr (inr (inr (inl (lun, refl))))
bound_of (Yield lun) nb ny na ne = absurd (ny lun refl)
bound_of End nb ny na ne = absurd (ne refl)
bound_of (Window start tail) nb ny na ne = inr (inr (inr (inr (start, tail, refl))))
bound_of (Again number) nb ny na ne = absurd (na number refl)

-- what fits the tokens after some fits the whole
pub fits_behind : (first next : ℕ) (tokens left rest : List Token) (f : KnownFault) → ReadOn first next tokens left → FaultFits next left rest f → FaultFits first tokens rest f
fits_behind first next tokens left rest (Cert f) r h = kind_behind IsBranch IsBound (λ token. IsToYield token ⊎ IsBranch token) IsToYield (λ token. token ≡ End) (Unit {0}) first next tokens left rest f r h
fits_behind first next tokens left rest (Unknown place) r h = at_behind first next place tokens left _ r h
fits_behind first next tokens left rest (OtherLeft place) r h = at_behind first next place tokens left _ r h
fits_behind first next tokens left rest (Sooner place) r h = at_behind first next place tokens left _ r h
fits_behind first next tokens left rest (TooMany place) r h = at_behind first next place tokens left _ r h
fits_behind first next tokens left rest Above r h = h

-- why a yield isn't taken, reported at its place
yield_fits : (given : List Given) (j l place told lun : ℕ) (token : Token) (behind left : List Token) (f : KnownFault) → told ≡ place → token ≡ Yield lun → IsYieldFault given j l told f → FaultFits place (token ∷ behind) left f
yield_fits given j l place told lun token behind left (Cert f) n t h = unfit IsBranch IsBound (λ token. IsToYield token ⊎ IsBranch token) IsToYield (λ token. token ≡ End) (Unit {0}) (GoesRound given j l) place told token behind left f n (inl (lun, t)) (lun, t) h
yield_fits given j l place told lun token behind left (Unknown at) n t h = absurd h
yield_fits given j l place told lun token behind left (OtherLeft at) n t h = absurd h
yield_fits given j l place told lun token behind left (Sooner at) n t h = absurd h
yield_fits given j l place told lun token behind left (TooMany at) n t h = absurd h
yield_fits given j l place told lun token behind left Above n t h = h

pub err_yield : {A : Type 0} (result : Result A KnownFault) (given : List Given) (j l place told lun : ℕ) (token : Token) (tokens behind left : List Token) → tokens ≡ token ∷ behind → told ≡ place → token ≡ Yield lun → IfErr result (IsYieldFault given j l told) → IfErr result (FaultFits place tokens left)
err_yield (Ok x) given j l place told lun token tokens behind left ts n t h = tt
err_yield (Err f) given j l place told lun token tokens behind left ts n t h = subst (λ z. FaultFits place z left f) (sym ts) (yield_fits given j l place told lun token behind left f n t h)

pub err_here : {A : Type 0} (result : Result A KnownFault) (place told : ℕ) (token : Token) (tokens behind left : List Token) → tokens ≡ token ∷ behind → told ≡ place → IfErr result (FaultFits told (token ∷ behind) left) → IfErr result (FaultFits place tokens left)
err_here (Ok x) place told token tokens behind left ts n h = tt
err_here (Err f) place told token tokens behind left ts n h = subst (λ z. FaultFits place z left f) (sym ts) (subst (λ z. FaultFits z (token ∷ behind) left f) n h)

pub err_each : {A : Type 0} (result : Result A KnownFault) (place : ℕ) (token : Token) (behind left : List Token) → IfErr result (λ fault. (behind left : List Token) → FaultFits place (token ∷ behind) left fault) → IfErr result (FaultFits place (token ∷ behind) left)
err_each (Ok x) place token behind left h = tt
err_each (Err f) place token behind left h = h behind left

pub err_branch : {A : Type 0} (result : Result A KnownFault) (place width : ℕ) (behind left : List Token) → IfErr result (λ f. (f ≡ TooMany place) ⊎ (f ≡ Cert Memory)) → IfErr result (FaultFits place (Branch width ∷ behind) left)
err_branch (Ok x) place width behind left h = tt
err_branch (Err f) place width behind left (inl e) = subst (FaultFits place (Branch width ∷ behind) left) (sym e) (here place (Branch width) behind IsBranch (width, refl))
err_branch (Err f) place width behind left (inr e) = subst (FaultFits place (Branch width ∷ behind) left) (sym e) tt

pub err_name : {A : Type 0} (result : Result A KnownFault) (place number : ℕ) (behind left : List Token) → IfErr result (IsNameFault place) → IfErr result (FaultFits place (Again number ∷ behind) left)
err_name (Ok x) place number behind left h = tt
err_name (Err f) place number behind left (inl e) = subst (FaultFits place (Again number ∷ behind) left) (sym e) (here place (Again number) behind NamesNode (number, refl))
err_name (Err f) place number behind left (inr (inl e)) = subst (FaultFits place (Again number ∷ behind) left) (sym e) (here place (Again number) behind NamesNode (number, refl))
err_name (Err f) place number behind left (inr (inr e)) = subst (FaultFits place (Again number ∷ behind) left) (sym e) (here place (Again number) behind NamesNode (number, refl))

pub fits_whole : (place : ℕ) (tokens left rest : List Token) (token : Token) (f : KnownFault) → tokens ≡ token ∷ left → place ≡ 0 → FaultFits place (token ∷ left) rest f → FaultFits 0 tokens rest f
fits_whole place tokens left rest token f t n h = subst (λ z. FaultFits 0 z rest f) (sym t) (subst (λ z. FaultFits z (token ∷ left) rest f) n h)

module _ (e : ℕ) (all : List Want) where
  -- the whole
  pub no_tree : (p : Problem) (tokens : List Token) → Refuses e all p [] tokens → NoTree all p e tokens
  no_tree p tokens none d known rest proves few = none [] d known rest tt proves few

  pub nothing_front : (p : Problem) (tokens : List Token) → tokens ≡ [] → NoTree all p e tokens
  nothing_front p tokens n = subst (NoTree all p e) (sym n) (no_tree p [] (none_refuses e all p []))

  pub no_tree_behind : (p : Problem) (known : List Known) (tokens left : List Token) (token : Token) → tokens ≡ token ∷ left → known ≡ [] → Refuses e all p known (token ∷ left) → NoTree all p e tokens
  no_tree_behind p known tokens left token t k none = subst (NoTree all p e) (sym t) (no_tree p (token ∷ left) (subst (λ z. Refuses e all p z (token ∷ left)) k none))

  pub fault_of : (p : Problem) (tokens left : List Token) (f : KnownFault) → OfTokens f (NoTree all p e tokens) → FaultFits 0 tokens left f → IsTokenFault all p e tokens left f
  fault_of p tokens left (Cert f) none h = none_trails (IsTrailing all p e tokens) f (λ place q. subst (λ z. FaultFits 0 tokens left (Cert z)) q h) (none, h)
  fault_of p tokens left (Unknown place) none h = (none, h)
  fault_of p tokens left (OtherLeft place) none h = (none, h)
  fault_of p tokens left (Sooner place) none h = (none, h)
  fault_of p tokens left (TooMany place) none h = (none, h)
  fault_of p tokens left Above none h = absurd h

  pub trailing_at : (p : Problem) (first next place : ℕ) (tokens begun left more : List Token) (token last : Token) (d : Kept) (known : List Known) → first ≡ 1 → tokens ≡ token ∷ begun → ReadOn first next begun left → left ≡ last ∷ more → place ≡ next → Proves e all p [] tokens d known left → IsTrailing all p e tokens place
  trailing_at p first next place tokens begun left more token last d known f t r l q proves =
      let a = ap length t in
      let b = counted first next begun left r in
      let c = ap length l in
      record { demand = d; known = known; token = last; behind = more; proves = subst (Proves e all p [] tokens d known) l proves; place_is = omega arith }
