-- Each problem has a run, and within the limits one that ends below 2^62: so do the bounds.
use Rattle.std.proofs.Common.{◌≡◌, ◌≢◌, ℕ, zero, suc, ◌^◌, ◌≤◌, ◌<◌, ◌⊎◌, inl, inr, List, [], ◌∷◌, length, Option, Some, None, refl, sym, arith}
use Rattle.std.specs.Prelude.{slice_get, IfSome}
use Rattle.std.proofs.lemmas.Bool.{eq-eqb}
use Rattle.onfi_request.specs.declared.want.Want.{Want}
use Rattle.onfi_group.specs.declared.rules.Rules.{Rules}
use Rattle.onfi_problem.specs.declared.lun_state.LunState.{LunState}
use Rattle.onfi_problem.specs.declared.lun_state.LunState.TheVariants.{Free, Running}
use Rattle.onfi_problem.specs.Moves.{Move, Next, Start, IsMove, IsDone, earliest, after}
use Rattle.onfi_problem.specs.Problem.{Problem, IsProblem}
use Rattle.onfi_group.specs.Group.{IsStartable}
use Rattle.onfi_schedule.specs.Runs.{Step, Run}
use Rattle.onfi_problem.specs.Left.{InLimits, work}
use Rattle.onfi_bound.specs.Bounds.{bus, lead, trail, die}
use Rattle.onfi_problem.proofs.Places.{get_within}
use Rattle.onfi_problem.proofs.Limits.{after_limits, bus_in_limits}
use Rattle.onfi_bound.proofs.BusBound.{bus_bound}
use Rattle.onfi_bound.proofs.LeadBound.{lead_bound}
use Rattle.onfi_bound.proofs.TrailBound.{trail_bound}
use Rattle.onfi_bound.proofs.DieBound.{die_bound}
use Rattle.onfi_bound.proofs.BusWork.{work_after}
use Rattle.onfi_group.proofs.Placing.{one_is_group}

-- a LUN that runs a group, or none
abbrev SomeRuns : List LunState → Type 0
SomeRuns luns = (l : ℕ) × (g : List Want) × (n : ℕ) × (r : ℕ) × (slice_get luns l ≡ Some (Running g n r))

abbrev NoneRuns : List LunState → Type 0
NoneRuns luns = (l : ℕ) (g : List Want) (n r : ℕ) → slice_get luns l ≢ Some (Running g n r)

running_or_free : (luns : List LunState) → SomeRuns luns ⊎ NoneRuns luns
running_or_free [] = inr (λ l g n r e. cc)
running_or_free (Running g n r ∷ luns) = inl (0, g, n, r, refl)
running_or_free (Free since ∷ luns) = elim (running_or_free luns) [
  | inl a ↦ inl (suc a.0, a.1, a.2, a.3, a.4)
  | inr none ↦ inr (no_more none)
]
  where
    no_more : NoneRuns luns → (l : ℕ) (g : List Want) (n r : ℕ) → slice_get (Free since ∷ luns) l ≢ Some (Running g n r)
    no_more none zero g n r e = cc
    no_more none (suc l) g n r e = none l g n r e

first_alone : (rules : Rules) (w : Want) (ws : List Want) → IsStartable rules (w ∷ ws) (w ∷ [])
first_alone rules w ws = record { group = one_is_group rules w; first = (rw (eq-eqb w.lun w.lun refl, eq-eqb w.block w.block refl) refl, tt) }

-- where something is left there is a move
move_or_done : (p : Problem) → IsProblem p → IsDone p ⊎ ((m : Move) × IsMove p m)
move_or_done p ip = elim (running_or_free p.luns) [
  | inl a ↦ inr (Next a.0, (a.1, a.2, a.3, a.4))
  | inr none ↦ free none p.wants refl
]
  where
    on_free : NoneRuns p.luns → (w : Want) (ws : List Want) → p.wants ≡ w ∷ ws → (x : LunState) → slice_get p.luns w.lun ≡ Some x → IsDone p ⊎ ((m : Move) × IsMove p m)
    on_free none w ws e (Running g n r) at = absurd (none w.lun g n r at)
    on_free none w ws e (Free since) at = inr (Start (w ∷ []), (since, at, rw e (first_alone p.rules w ws)))

    free : NoneRuns p.luns → (ws : List Want) → p.wants ≡ ws → IsDone p ⊎ ((m : Move) × IsMove p m)
    free none [] e = inl (record { wants = e; free = none })
    free none (w ∷ ws) e = let within = rw e at ip.in_range in let x = get_within p.luns w.lun within.0 in on_free none w ws e x.0 x.1

-- moves at their earliest end within the limits
record Ended (p : Problem) : Type 0 where
  steps : List Step
  finish : ℕ
  run : Run p steps finish
  small : finish < 2 ^ 62

one_more : (p : Problem) (m : Move) → IsMove p m → Ended (after p m) → Ended p
one_more p m im rest = record { steps = record { move = m; start = earliest p m } ∷ rest.steps; finish = rest.finish; run = (im, omega arith, rest.run); small = rest.small }

ended : (n : ℕ) (p : Problem) → work p ≤ n → InLimits p → Ended p
ended zero p le lim = elim (move_or_done p lim.problem) [
  | inl done ↦ record { steps = []; finish = p.bus_free; run = (done, refl); small = bus_in_limits p lim }
  | inr (m, im) ↦ (let less = work_after p m lim.problem im in absurd (omega arith))
]
ended (suc n) p le lim = elim (move_or_done p lim.problem) [
  | inl done ↦ record { steps = []; finish = p.bus_free; run = (done, refl); small = bus_in_limits p lim }
  | inr (m, im) ↦ (let less = work_after p m lim.problem im in one_more p m im (ended n (after p m) (omega arith) (after_limits p m lim im)))
]

pub bus_small : (p : Problem) → InLimits p → bus p < 2 ^ 62
bus_small p lim = let e = ended (work p) p (omega arith) lim in let a = e.small in let b = bus_bound e.steps p e.finish lim.problem e.run in omega arith

pub lead_small : (p : Problem) → InLimits p → lead p < 2 ^ 62
lead_small p lim = let e = ended (work p) p (omega arith) lim in let a = e.small in let b = lead_bound e.steps p e.finish lim.problem e.run in omega arith

pub trail_small : (p : Problem) (v : ℕ) → InLimits p → trail p ≡ Some v → v < 2 ^ 62
trail_small p v lim q = let e = ended (work p) p (omega arith) lim in let a = e.small in let b = trail_bound e.steps p e.finish v lim.problem q e.run in omega arith

pub die_small : (p : Problem) (lun : ℕ) → InLimits p → lun < length p.luns → die p lun < 2 ^ 62
die_small p lun lim within = let e = ended (work p) p (omega arith) lim in let a = e.small in let b = die_bound e.steps p e.finish lun lim.problem within e.run in omega arith

pub trail_all_small : (p : Problem) (o : Option ℕ) → InLimits p → o ≡ trail p → IfSome o (λ t. t < 2 ^ 62)
trail_all_small p None limits is = tt
trail_all_small p (Some t) limits is = trail_small p t limits (sym is)
