-- A schedule with a LUN too many or with a want of no number isn't legal.
use Rattle.std.proofs.Common.{◌≡◌, ◌≢◌, ℕ, suc, zero, Bool, true, false, List, [], ◌∷◌, ◌++◌, length, Some, refl, ap, arith, cond, length-append}
use Rattle.std.specs.Prelude.{◌==◌, find, unwrap_or}
use Rattle.std.specs.List.{AllByRecursion as Each}
use Rattle.std.proofs.lemmas.Bool.Decides.{nat_tests}
use Rattle.onfi_request.specs.declared.want.Want.{Want}
use Rattle.onfi_group.specs.Words.{Has}
use Rattle.onfi_problem.specs.Problem.{Problem}
use Rattle.onfi_problem.proofs.Perm.{All-has, Has-flat_map_in}
use Rattle.onfi_schedule.specs.Schedule.{Legal, Placed, all_members}
use Rattle.onfi_script.specs.declared.plan_line.RestLine.{RestLine}
use Rattle.onfi_script.specs.PlanLine.{stranger, want_named}
use Rattle.onfi_script.specs.PlanText.{Plan, names_absent, rest_on, rests, schedule_of, starts_on}

rests_length : (lines : List RestLine) (luns : ℕ) → length (rests lines luns) ≡ luns
unfolding rests
rests_length lines zero = refl
rests_length lines (suc luns) = omega (arith, rests_length lines luns, length-append (rests lines luns) (starts_on lines luns ∷ []))

pub absent_is_illegal : (p : Problem) (plan : Plan) → names_absent (length p.luns) plan.rest ≡ true → Legal p (schedule_of p plan) → ⊥
absent_is_illegal p plan e legal =
    let luns = length p.luns in
    let most = rests plan.rest luns in
    let one : rest_on luns plan.rest ≡ most ++ [] ∷ [] = ap (λ b. cond b (most ++ [] ∷ []) most) e in
    omega (arith, legal.shape.luns, ap length one, length-append most ([] ∷ []), rests_length plan.rest luns)

by_test : (b : Bool) (w : Want) (wants : List Want) (id : ℕ) → (w.id == id) ≡ b → (want_named wants id).id ≡ id
    → (unwrap_or (cond b (Some w) (find (λ w. w.id == id) wants)) (stranger id)).id ≡ id
by_test true w wants id e rest = grind (arith, nat_tests)
by_test false w wants id e rest = rest

named_id : (wants : List Want) (id : ℕ) → (want_named wants id).id ≡ id
named_id [] id = refl
named_id (w ∷ wants) id = by_test (w.id == id) w wants id refl (named_id wants id)

pub stranger_is_illegal : (p : Problem) (plan : Plan) (g : Placed) (id : ℕ) → Has plan.groups g → Has g.members (want_named p.wants id) → Each (λ w. w.id ≢ id) p.wants
    → Legal p (schedule_of p plan) → ⊥
stranger_is_illegal p plan g id has member none legal =
    let w = want_named p.wants id in
    All-has (λ w. w.id ≢ id) p.wants w none
    (All-has (Has p.wants) (all_members plan.groups) w legal.shape.wants_only (Has-flat_map_in (λ g. g.members) plan.groups g w has member))
    (named_id p.wants id)
