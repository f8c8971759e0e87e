-- When the phase of a move ends that starts at its earliest.
use Rattle.std.proofs.Common.{◌≡◌, ℕ, ◌+◌, ◌^◌, ◌<◌, inl, inr, List, [], length, get_or, map, Some, refl, sym, ap, ◌∙◌, subst, arith}
use Rattle.std.specs.Prelude.{slice_get, slice_index_or, max}
use Rattle.std.proofs.lemmas.List.{length-map}
use Rattle.onfi_timing.specs.Phases.{phase_length}
use Rattle.onfi_request.specs.declared.want.Want.{Want}
use Rattle.onfi_group.specs.Group.{group_spans, lun_of}
use Rattle.onfi_problem.specs.declared.lun_state.LunState.{LunState}
use Rattle.onfi_problem.specs.declared.lun_state.LunState.TheVariants.{Free}
use Rattle.onfi_problem.specs.declared.moves.Lun.{Lun}
use Rattle.onfi_problem.specs.Problem.{Problem}
use Rattle.onfi_problem.specs.Moves.{Move, Next, Start, IsMove, after, free_from}
use Rattle.onfi_problem.specs.Left.{InLimits}
use Rattle.onfi_problem.specs.Position.{state_of}
use Rattle.onfi_problem.proofs.After.{runs_by, free_by, in_table}
use Rattle.onfi_problem.proofs.Limits.{after_limits, bus_in_limits, lun_in_limits}
use Rattle.onfi_problem.proofs.Lists.{map_found}
use Rattle.std.proofs.lemmas.Bool.{cases_eq, eq-eqb, ne_eqb}
use Rattle.onfi_problem.proofs.Places.{within_get, get_within}

pub ends_small : (p : Problem) (m : Move) → InLimits p → IsMove p m → (after p m).bus_free < 2 ^ 62
ends_small p m lim im = bus_in_limits (after p m) (after_limits p m lim im)

module _ (p : Problem) (groups : List (List Want)) (luns : List Lun) (states : map (state_of groups) luns ≡ p.luns) where
  at_kept : (l : ℕ) (x : LunState) → slice_get p.luns l ≡ Some x → slice_get (map (state_of groups) luns) l ≡ Some x
  at_kept l x at = subst (λ z. slice_get z l ≡ Some x) (sym states) at

  pub lun_within : (l : ℕ) (x : LunState) → slice_get p.luns l ≡ Some x → l < length luns
  lun_within l x at = let a = within_get p.luns l x at in let b = length-map luns (state_of groups) in let c = ap length states in omega arith

  pub next_within : (l : ℕ) → IsMove p (Next l) → l < length luns
  next_within l (g, n, r, at) = lun_within l _ at

  pub start_within : (g : List Want) (l : ℕ) → IsMove p (Start g) → lun_of g ≡ l → l < length luns
  start_within g l (since, at, st) e = subst (λ z. z < length luns) e (lun_within (lun_of g) _ at)

  pub next_place : (l : ℕ) (d : Lun) → InLimits p → IsMove p (Next l) → (get_or luns l d).place < length groups
  next_place l d lim (g, n, r, at) =
      let q = runs_by groups luns l d g n r (at_kept l _ at) in
      let i = lim.problem.running l g n r at in
      let e = ap length q.group in
      in_table groups (get_or luns l d).place (omega arith)

  pub next_ends : (l : ℕ) (d : Lun) (group : List Want) → IsMove p (Next l) → slice_index_or groups (get_or luns l d).place [] ≡ group → max p.bus_free (get_or luns l d).time + phase_length (group_spans p.timing group) (length group) (get_or luns l d).next ≡ (after p (Next l)).bus_free
  next_ends l d group (g, n, r, at) same =
      let q = runs_by groups luns l d g n r (at_kept l _ at) in
      let e : group ≡ g = sym same ∙ q.group in
      rw (e, q.next, q.time, at) refl

  pub start_ends : (g : List Want) (l : ℕ) (d : Lun) (group : List Want) → IsMove p (Start g) → lun_of g ≡ l → g ≡ group → max p.bus_free (get_or luns l d).time + phase_length (group_spans p.timing group) (length group) 0 ≡ (after p (Start g)).bus_free
  start_ends g l d group (since, at, st) e same =
      let at' : slice_get (map (state_of groups) luns) l ≡ Some (Free since) = subst (λ z. slice_get (map (state_of groups) luns) z ≡ Some (Free since)) e (at_kept (lun_of g) _ at) in
      rw (free_by groups luns l d since at', ← same, at) refl

  time_of : (x : Lun) → free_from (Some (state_of groups x)) ≡ x.time
  time_of x = elim (cases_eq x.next 0) [ inl e ↦ rw (eq-eqb x.next 0 e) refl | inr d ↦ rw (ne_eqb x.next 0 d) refl ]

  pub goes_from : (l : ℕ) (d : Lun) → l < length p.luns → free_from (slice_get p.luns l) ≡ (get_or luns l d).time
  goes_from l d h =
      let x = get_within p.luns l h in
      let e : state_of groups (get_or luns l d) ≡ x.0 = map_found (state_of groups) luns l d x.0 (at_kept l x.0 x.1) in
      rw (x.1, ← e) (time_of (get_or luns l d))

  pub goes_small : (l : ℕ) → InLimits p → l < length p.luns → max p.bus_free (free_from (slice_get p.luns l)) < 2 ^ 62
  goes_small l lim h =
      let x = get_within p.luns l h in
      let a = bus_in_limits p lim in
      let b = lun_in_limits p l x.0 lim x.1 in
      rw x.1 (omega arith)
