-- What LUNs do, if open groups get members more.
use Rattle.std.proofs.Common.{◌≡◌, ◌≢◌, ℕ, zero, suc, List, [], ◌∷◌, length, map, Some, refl, ap, ◌∙◌}
use Rattle.std.specs.Prelude.{slice_get, slice_set}
use Rattle.onfi_request.specs.declared.want.Want.{Want}
use Rattle.onfi_problem.specs.declared.lun_state.LunState.{LunState}
use Rattle.onfi_problem.specs.declared.lun_state.LunState.TheVariants.{Free, Running}
use Rattle.onfi_audit.specs.declared.stage.LunStage.{LunStage}
use Rattle.onfi_audit.specs.Audit.{stage_of}
use Rattle.onfi_audit.specs.Legal.{state_at, states_at}

pub states_same : (luns : List LunStage) (f g : ℕ → List Want) → ((n : ℕ) → f n ≡ g n) → states_at luns f ≡ states_at luns g
states_same [] f g h = refl
states_same (x ∷ luns) f g h = ap (λ l. state_at x l ∷ states_at luns (λ n. f (suc n))) (h 0) ∙ ap (λ ss. state_at x (g 0) ∷ ss) (states_same luns (λ n. f (suc n)) (λ n. g (suc n)) (λ n. h (suc n)))

pub states_length : (luns : List LunStage) (f : ℕ → List Want) → length (states_at luns f) ≡ length luns
states_length [] f = refl
states_length (x ∷ luns) f = ap suc (states_length luns (λ n. f (suc n)))

pub states_get : (luns : List LunStage) (f : ℕ → List Want) (l : ℕ) (x : LunStage) → slice_get luns l ≡ Some x → slice_get (states_at luns f) l ≡ Some (state_at x (f l))
states_get [] f l x h = cc
states_get (y ∷ luns) f zero x h = let e : y ≡ x = cc in ap (λ z. Some (state_at z (f 0))) e
states_get (y ∷ luns) f (suc l) x h = states_get luns (λ n. f (suc n)) l x h

-- the stage of a state that is there
pub record StageOf (luns : List LunStage) (f : ℕ → List Want) (l : ℕ) (s : LunState) : Type 0 where
  pub stage : LunStage
  pub there : slice_get luns l ≡ Some stage
  pub is : s ≡ state_at stage (f l)

pub states_back : (luns : List LunStage) (f : ℕ → List Want) (l : ℕ) (s : LunState) → slice_get (states_at luns f) l ≡ Some s → StageOf luns f l s
states_back [] f l s h = cc
states_back (y ∷ luns) f zero s h = record { stage = y; there = refl; is = cc }
states_back (y ∷ luns) f (suc l) s h = let r = states_back luns (λ n. f (suc n)) l s h in record { stage = r.stage; there = r.there; is = r.is }

-- where one LUN changes
pub states_set : (luns : List LunStage) (l : ℕ) (y : LunStage) (f g : ℕ → List Want) → ((n : ℕ) → n ≢ l → g n ≡ f n) → states_at (slice_set luns l y) g ≡ slice_set (states_at luns f) l (state_at y (g l))
states_set [] l y f g h = refl
states_set (x ∷ luns) zero y f g h = ap (λ ss. state_at y (g 0) ∷ ss) (states_same luns (λ n. g (suc n)) (λ n. f (suc n)) (λ n. h (suc n) (λ e. cc)))
states_set (x ∷ luns) (suc l) y f g h =
    ap (λ m. state_at x m ∷ states_at (slice_set luns l y) (λ n. g (suc n))) (h 0 (λ e. cc))
    ∙ ap (λ ss. state_at x (f 0) ∷ ss) (states_set luns l y (λ n. f (suc n)) (λ n. g (suc n)) (λ n d. h (suc n) (λ e. d (cc))))

pub state_of_stage : (s : LunState) (later : List Want) → state_at (stage_of s) later ≡ s
state_of_stage (Free since) later = refl
state_of_stage (Running group next ready) later = refl

pub opening_states : (luns : List LunState) (f : ℕ → List Want) → states_at (map stage_of luns) f ≡ luns
opening_states [] f = refl
opening_states (s ∷ luns) f = ap (λ t. t ∷ states_at (map stage_of luns) (λ n. f (suc n))) (state_of_stage s (f 0)) ∙ ap (λ ss. s ∷ ss) (opening_states luns (λ n. f (suc n)))
