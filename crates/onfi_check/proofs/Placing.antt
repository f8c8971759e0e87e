-- Where the tokens stand that a fault names.
use Rattle.std.proofs.Common.{◌≡◌, ◌≢◌, ℕ, ◌+◌, ◌<◌, ◌⊎◌, inl, inr, List, [], ◌∷◌, ◌++◌, length, refl, sym, ap, ◌∙◌, subst, arith, append_assoc, length-append}
use Rattle.std.specs.Prelude.{Result, Ok, Err, OnOk, IfErr}
use Rattle.onfi_problem.specs.Problem.{Problem}
use Rattle.onfi_cert.specs.declared.token.Token.{Token}
use Rattle.onfi_cert.specs.declared.token.Token.TheVariants.{Branch, Bus, Lead, Trail, Die, Yield, End}
use Rattle.onfi_check.specs.declared.fault.CertFault.{CertFault}
use Rattle.onfi_check.specs.declared.fault.CertFault.TheVariants.{Illegal, Short, Trailing, Width, BoundLow, YieldNoFit, YieldLoop, NotEnd, Memory}
use Rattle.onfi_check.specs.declared.yields.Standing.{Standing}
use Rattle.onfi_check.specs.Tree.{preorder}
use Rattle.onfi_check.specs.Reading.{Begins, ReadOn}
use Rattle.onfi_check.proofs.OneList.{nothing_begins}
use Rattle.onfi_check.specs.Faults.{FaultFits, FitsKind, GoesRound, IsAt, IsBound, IsBranch, IsTokenFault, IsToYield, IsTrailing, IsYieldFault, IsYieldFaultBy, NoTree}
use Rattle.onfi_check.proofs.Causes.{none_trails}

-- no token was read
pub read_none : {T : Type 0} (first : ℕ) (tokens : List T) → ReadOn first first tokens tokens
read_none first tokens = record { taken = []; tokens_are = refl; next_is = omega arith }

-- .. and one
pub read_one : {T : Type 0} (first next : ℕ) (tokens left : List T) (token : T) → tokens ≡ token ∷ left → next ≡ first + 1 → ReadOn first next tokens left
read_one first next tokens left token t n = record { taken = token ∷ []; tokens_are = t; next_is = n }

-- .. and some after these
pub read_more : {T : Type 0} (first next last : ℕ) (tokens left rest : List T) → ReadOn first next tokens left → ReadOn next last left rest → ReadOn first last tokens rest
read_more first next last tokens left rest a b =
    let long = length-append a.taken b.taken in
    let m = a.next_is in
    let n = b.next_is in
    record { taken = a.taken ++ b.taken; tokens_are = a.tokens_are ∙ (ap (λ z. a.taken ++ z) b.tokens_are ∙ sym (append_assoc a.taken b.taken rest)); next_is = omega arith }

-- places stay small
pub few_on : {T : Type 0} (first next limit : ℕ) (tokens left : List T) → ReadOn first next tokens left → first + length tokens < limit → next + length left < limit
few_on first next limit tokens left r few =
    let long = ap length r.tokens_are ∙ length-append r.taken left in
    let n = r.next_is in
    omega arith

pub here : {T : Type 0} (place : ℕ) (token : T) (behind : List T) (Such : T → Type 0) → Such token → IsAt place place (token ∷ behind) Such
here place token behind Such such = record { before = []; token = token; behind = behind; tokens_are = refl; place_is = omega arith; such = such }

-- no other tokens are left but those of bounds
pub bound_of : (token : Token) → ((width : ℕ) → token ≢ Branch width) → ((lun : ℕ) → token ≢ Yield lun) → token ≢ End → IsBound token
bound_of (Branch width) nb ny ne = absurd (nb width refl)
bound_of Bus nb ny ne = inl refl
bound_of Lead nb ny ne = inr (inl refl)
bound_of Trail nb ny ne = inr (inr (inl refl))
bound_of (Die lun) nb ny ne = inr (inr (inr (lun, refl)))
bound_of (Yield lun) nb ny ne = absurd (ny lun refl)
bound_of End nb ny ne = absurd (ne refl)

-- a bus or a trail token is that of a bound, and no yield or branch
pub leaf_bound : (token : Token) → (token ≡ Bus) ⊎ (token ≡ Trail) → IsBound token
leaf_bound token (inl e) = inl e
leaf_bound token (inr e) = inr (inr (inl e))

pub leaf_closes : (token : Token) → (token ≡ Bus) ⊎ (token ≡ Trail) → ((lun : ℕ) → token ≢ Yield lun) × ((width : ℕ) → token ≢ Branch width)
leaf_closes token (inl e) = ((λ lun q. cc), λ width q. cc)
leaf_closes token (inr e) = ((λ lun q. cc), λ width q. cc)

pub ok_more : {A : Type 0} (result : Result A CertFault) (first next last : ℕ) (tokens left rest : List Token) → ReadOn first next tokens left → OnOk result (ReadOn next last left rest) → OnOk result (ReadOn first last tokens rest)
ok_more (Ok x) first next last tokens left rest a b = read_more first next last tokens left rest a b
ok_more (Err f) first next last tokens left rest a b = tt

pub at_behind : {T : Type 0} (first next place : ℕ) (tokens left : List T) (Such : T → Type 0) → ReadOn first next tokens left → IsAt next place left Such → IsAt first place tokens Such
at_behind first next place tokens left Such r a =
    let long = length-append r.taken a.before in
    let n = r.next_is in
    let m = a.place_is in
    record {
      before = r.taken ++ a.before;
      token = a.token;
      behind = a.behind;
      tokens_are = r.tokens_are ∙ (ap (λ z. r.taken ++ z) a.tokens_are ∙ sym (append_assoc r.taken a.before (a.token ∷ a.behind)));
      place_is = omega arith;
      such = a.such;
    }

-- what fits the tokens after some fits the whole
module _ {T : Type 0} (Branches Bounds Unfit Loops Ends : T → Type 0) (memory : Type 0) where
  pub kind_behind : (first next : ℕ) (tokens left rest : List T) (f : CertFault) → ReadOn first next tokens left → FitsKind Branches Bounds Unfit Loops Ends memory next left rest f → FitsKind Branches Bounds Unfit Loops Ends memory first tokens rest f
  kind_behind first next tokens left rest Illegal r h = h
  kind_behind first next tokens left rest Short r h = h
  kind_behind first next tokens left rest (Trailing place) r h = h
  kind_behind first next tokens left rest (Width place) r h = at_behind first next place tokens left _ r h
  kind_behind first next tokens left rest (BoundLow place) r h = at_behind first next place tokens left _ r h
  kind_behind first next tokens left rest (YieldNoFit place) r h = at_behind first next place tokens left _ r h
  kind_behind first next tokens left rest (YieldLoop place) r h = at_behind first next place tokens left _ r h
  kind_behind first next tokens left rest (NotEnd place) r h = at_behind first next place tokens left _ r h
  kind_behind first next tokens left rest Memory r h = h

  -- why a yield isn't taken, reported at its place
  pub yield_fits : (round : Type 0) (place told : ℕ) (token : T) (behind left : List T) (f : CertFault) → told ≡ place → Unfit token → Loops token → IsYieldFaultBy round told f → FitsKind Branches Bounds Unfit Loops Ends memory place (token ∷ behind) left f
  yield_fits round place told token behind left Illegal n u l h = h
  yield_fits round place told token behind left Short n u l h = absurd h
  yield_fits round place told token behind left (Trailing at) n u l h = h
  yield_fits round place told token behind left (Width at) n u l h = absurd h
  yield_fits round place told token behind left (BoundLow at) n u l h = absurd h
  yield_fits round place told token behind left (YieldNoFit at) n u l h = subst (λ z. IsAt place z (token ∷ behind) Unfit) (sym (h.0 ∙ n)) (here place token behind Unfit u)
  yield_fits round place told token behind left (YieldLoop at) n u l h = subst (λ z. IsAt place z (token ∷ behind) Loops) (sym (h.0 ∙ n)) (here place token behind Loops l)
  yield_fits round place told token behind left (NotEnd at) n u l h = absurd h
  yield_fits round place told token behind left Memory n u l h = absurd h

pub fits_behind : (first next : ℕ) (tokens left rest : List Token) (f : CertFault) → ReadOn first next tokens left → FaultFits next left rest f → FaultFits first tokens rest f
fits_behind first next tokens left rest f r h = kind_behind IsBranch IsBound IsToYield IsToYield (λ token. token ≡ End) ⊥ first next tokens left rest f r h

pub err_behind : {A : Type 0} (result : Result A CertFault) (first next : ℕ) (tokens left rest : List Token) → ReadOn first next tokens left → IfErr result (FaultFits next left rest) → IfErr result (FaultFits first tokens rest)
err_behind (Ok x) first next tokens left rest r h = tt
err_behind (Err f) first next tokens left rest r h = fits_behind first next tokens left rest f r h

pub err_yield : {A : Type 0} (result : Result A CertFault) (standing : Standing) (j l place told lun : ℕ) (token : Token) (tokens behind left : List Token) → tokens ≡ token ∷ behind → told ≡ place → token ≡ Yield lun → IfErr result (IsYieldFault standing j l told) → IfErr result (FaultFits place tokens left)
err_yield (Ok x) standing j l place told lun token tokens behind left ts n t h = tt
err_yield (Err f) standing j l place told lun token tokens behind left ts n t h = subst (λ z. FaultFits place z left f) (sym ts) (yield_fits IsBranch IsBound IsToYield IsToYield (λ token. token ≡ End) ⊥ (GoesRound standing j l) place told token behind left f n (lun, t) (lun, t) h)

-- the whole
pub no_tree : (p : Problem) (e : ℕ) (tokens : List Token) → ((rest : List Token) → Begins p e tokens rest → ⊥) → NoTree p e tokens
no_tree p e tokens none tree rest accepted t = none rest (tree, t, accepted)

pub nothing_front : (p : Problem) (e : ℕ) (tokens : List Token) → tokens ≡ [] → NoTree p e tokens
nothing_front p e tokens n = no_tree p e tokens (λ rest b. nothing_begins p e rest (subst (λ z. Begins p e z rest) n b))

pub no_tree_behind : (p : Problem) (e : ℕ) (tokens left : List Token) (token : Token) → tokens ≡ token ∷ left → ((rest : List Token) → Begins p e (token ∷ left) rest → ⊥) → NoTree p e tokens
no_tree_behind p e tokens left token t none = no_tree p e tokens (λ rest b. none rest (subst (λ z. Begins p e z rest) t b))

pub fits_whole : (place : ℕ) (tokens left rest : List Token) (token : Token) (f : CertFault) → tokens ≡ token ∷ left → place ≡ 0 → FaultFits place (token ∷ left) rest f → FaultFits 0 tokens rest f
fits_whole place tokens left rest token f t n h = subst (λ z. FaultFits 0 z rest f) (sym t) (subst (λ z. FaultFits z (token ∷ left) rest f) n h)

pub fault_of : (p : Problem) (e : ℕ) (tokens left : List Token) (f : CertFault) → NoTree p e tokens → FaultFits 0 tokens left f → IsTokenFault p e tokens left f
fault_of p e tokens left f none h = none_trails (IsTrailing p e tokens) f (λ place q. subst (FaultFits 0 tokens left) q h) (none, h)

pub trailing_at : (p : Problem) (e first next place : ℕ) (tokens begun left more : List Token) (token last : Token) → first ≡ 1 → tokens ≡ token ∷ begun → ReadOn first next begun left → left ≡ last ∷ more → place ≡ next → Begins p e tokens left → IsTrailing p e tokens place
trailing_at p e first next place tokens begun left more token last f t r l q (tree, s, accepted) =
    let a = ap length (sym t ∙ s) ∙ length-append (preorder tree) left in
    let b = ap length r.tokens_are ∙ length-append r.taken left in
    let n = r.next_is in
    record { tree = tree; accepted = accepted; token = last; behind = more; tokens_are = s ∙ ap (λ z. preorder tree ++ z) l; place_is = omega arith }
