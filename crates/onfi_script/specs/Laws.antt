-- Laws of plan texts: what a schedule's text is read as, and what no legal schedule has.
use Rattle.std.specs.Prelude.{◌≡◌, ◌≢◌, ℕ, ◌+◌, ◌<◌, ◌≤◌, ◌^◌, ◌++◌, List, [], ◌∷◌, length, Ok, All, ◌==◌, false, true}
use Rattle.std.specs.List.{AllByRecursion as Each}
use Rattle.onfi_request.specs.declared.want.Want.{Want}
use Rattle.onfi_group.specs.Words.{Has}
use Rattle.onfi_problem.specs.Problem.{Problem}
use Rattle.onfi_schedule.specs.Schedule.{Legal, Placed, Schedule}
use Rattle.onfi_script.specs.PlanLine.{want_named}
use Rattle.onfi_script.specs.PlanText.{Plan, is_certificate, names_absent, plan_of, schedule_of, schedule_on}
use Rattle.onfi_script.specs.declared.plan_line.RestLine.{RestLine}
use Rattle.onfi_script.specs.Text.{schedule_text}

-- a line holds one start to eight, each below 2^63
pub record AreStarts (starts : List ℕ) : Type 0 where
  pub few : length starts ≤ 8
  pub small : Each (λ t. t < 2 ^ 63) starts

-- a line holds one member to four, each a want of its number
pub record IsLineOf (wants : List Want) (g : Placed) : Type 0 where
  pub some : 1 ≤ length g.members
  pub few : length g.members ≤ 4
  pub ids : Each (λ w. w.id < 2 ^ 63) g.members
  pub named : Each (λ w. want_named wants w.id ≡ w) g.members
  pub starts : AreStarts g.starts
  pub some_starts : 1 ≤ length g.starts

-- a plan text can hold the schedule of these wants
pub record HasText (wants : List Want) (s : Schedule) : Type 0 where
  pub luns : length s.rest ≤ 8
  pub rest : Each AreStarts s.rest
  pub few : length s.groups ≤ 8
  pub groups : Each (IsLineOf wants) s.groups

-- the lines `rest` of the LUNs from number `lun` on
abbrev pub rest_written : ℕ → List (List ℕ) → List RestLine
rest_written lun [] = []
rest_written lun ([] ∷ rest) = rest_written (lun + 1) rest
rest_written lun ((start ∷ starts) ∷ rest) = record { lun = lun; starts = start ∷ starts } ∷ rest_written (lun + 1) rest

abbrev pub written : Schedule → ℕ → Plan
written s ends = record { finish = ends; rest = rest_written 0 s.rest; groups = s.groups }

-- the text of a schedule, with a certificate after it, is read as that schedule and that certificate
abbrev pub ReadBackLaw : Type 0
ReadBackLaw = (wants : List Want) (s : Schedule) (ends : ℕ) (line more : List ℕ) → HasText wants s → ends < 2 ^ 63
    → is_certificate line ≡ true → All (λ b. (b == 10) ≡ false) line
    → (plan_of wants (schedule_text s ends ends ++ (line ++ 10 ∷ more)) ≡ Ok (written s ends, line ++ 10 ∷ more))
    × (schedule_on (length s.rest) (written s ends) ≡ s)

-- no legal schedule has a LUN that isn't there
abbrev pub AbsentLaw : Type 0
AbsentLaw = (p : Problem) (plan : Plan) → names_absent (length p.luns) plan.rest ≡ true → Legal p (schedule_of p plan) → ⊥

-- .. nor a member of a number that no want has
abbrev pub StrangerLaw : Type 0
StrangerLaw = (p : Problem) (plan : Plan) (g : Placed) (id : ℕ) → Has plan.groups g → Has g.members (want_named p.wants id) → Each (λ w. w.id ≢ id) p.wants
    → Legal p (schedule_of p plan) → ⊥
