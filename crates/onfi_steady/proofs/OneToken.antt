-- A certificate of one token, which remembers no state.
use Rattle.std.proofs.Common.{◌≡◌, ℕ, zero, suc, ◌<◌, ◌≤◌, List, [], ◌∷◌, ◌++◌, Vec, Global, refl, arith}
use Rattle.std.specs.Prelude.{slice_index}
use Rattle.std.specs.List.{AllByRecursion as Each}
use Rattle.std.proofs.lemmas.List.Elements.{All-from_recursion}
use Rattle.onfi_problem.specs.Problem.{Problem}
use Rattle.onfi_problem.specs.Left.{InLimits}
use Rattle.onfi_problem.specs.Position.{Position}
use Rattle.onfi_bound.specs.declared.bound.Bound.{Bound}
use Rattle.onfi_bound.specs.declared.bound.Bound.TheVariants.{Bus, Lead, Trail, Die}
use Rattle.onfi_bound.specs.Reaching.{Reaches}
use Rattle.onfi_demand.specs.Demand.{Demand}
use Rattle.onfi_demand.specs.Kept.{IsKept}
use Rattle.onfi_demand.specs.declared.demand.Demand.{Demand as Kept}
use Rattle.onfi_known_check.specs.Closing.{Closes, closing_demand}
use Rattle.onfi_known_check.specs.Proves.{ProvesTokens, closed}
use Rattle.onfi_known_check.specs.Text.{InRange, header, line}
use Rattle.onfi_plan.specs.Certificate.{ShowsBelow}
use Rattle.onfi_plan.specs.declared.plan.Certificate.TheVariants.{Text}
use Rattle.onfi_steady.specs.Below.{token_by}

abbrev kept : Demand → Kept
kept d = record { bus = d.bus; luns = d.lun 0 ∷ d.lun 1 ∷ d.lun 2 ∷ d.lun 3 ∷ d.lun 4 ∷ d.lun 5 ∷ d.lun 6 ∷ d.lun 7 ∷ [] }

kept_lun : (d : Demand) (lun : ℕ) → lun < 8 → slice_index (kept d).luns lun ≡ d.lun lun
kept_lun d zero h = refl
kept_lun d (suc zero) h = refl
kept_lun d (suc (suc zero)) h = refl
kept_lun d (suc (suc (suc zero))) h = refl
kept_lun d (suc (suc (suc (suc zero)))) h = refl
kept_lun d (suc (suc (suc (suc (suc zero))))) h = refl
kept_lun d (suc (suc (suc (suc (suc (suc zero)))))) h = refl
kept_lun d (suc (suc (suc (suc (suc (suc (suc zero))))))) h = refl
kept_lun d (suc (suc (suc (suc (suc (suc (suc (suc n)))))))) h = absurd (omega arith)

is_kept : (d : Demand) → IsKept (kept d) d
is_kept d = record { bus = refl; luns = kept_lun d }

closes : (p : Problem) (e : ℕ) (b : Bound) → Reaches p e b → Closes p e (token_by b)
closes p e Bus h = h
closes p e Lead h = h
closes p e Trail h = h
closes p e (Die lun) h = h

in_range : (p : Problem) (e : ℕ) (b : Bound) → InLimits p → Reaches p e b → InRange (token_by b)
in_range p e Bus limits h = tt
in_range p e Lead limits h = tt
in_range p e Trail limits h = tt
in_range p e (Die lun) limits h = let few = limits.small.few_luns in let there = h.0 in omega arith

proves : (x : Position) (e : ℕ) (b : Bound) → Reaches x.problem e b → ProvesTokens x.all (token_by b ∷ []) x.problem e
proves x e b h =
    let d = closing_demand x.problem e (token_by b) in
    (kept d, [], closed x.problem [] (token_by b) (kept d) [] (closes x.problem e b h) (is_kept d), omega arith)

-- the text of the one token of a bound that reaches e
pub one_token_text : (x : Position) (e : ℕ) (b : Bound) (text : Vec ℕ Global) → InLimits x.problem → Reaches x.problem e b
    → text.items ≡ header x.problem.rules.strict ++ line (token_by b ∷ []) → ShowsBelow (Text text) x.all x.problem e
one_token_text x e b text limits h spelled =
    let each : Each InRange (token_by b ∷ []) = (in_range x.problem e b limits h, tt) in
    (token_by b ∷ [], record { some = omega arith; in_range = All-from_recursion InRange (token_by b ∷ []) each; spelled = spelled }, proves x e b h)
