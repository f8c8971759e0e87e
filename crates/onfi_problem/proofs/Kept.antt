-- A move leaves a problem.
use Rattle.std.proofs.Common.{◌≡◌, ℕ, inl, inr, List, length, Some, refl, sym, ◌∙◌, subst, arith, ◌<◌}
use Rattle.std.specs.Prelude.{slice_get, slice_set, not}
use Rattle.onfi_request.specs.declared.want.Want.{Want}
use Rattle.onfi_problem.specs.declared.lun_state.LunState.{LunState}
use Rattle.onfi_problem.specs.declared.lun_state.LunState.TheVariants.{Running}
use Rattle.onfi_problem.specs.Moves.{Move, Next, Start, IsMove, placed, lun_after, ran, move_lun}
use Rattle.std.specs.List.{AllByRecursion as All}
use Rattle.onfi_problem.specs.Problem.{Problem, IsProblem, IsRunning, IsWant, IsSmall}
use Rattle.onfi_group.specs.Group.{IsGroup, lun_of, on_block, is_member}
use Rattle.onfi_problem.proofs.Perm.{All-weaker, All-has}
use Rattle.onfi_problem.proofs.Places.{get_set_same, get_set_other, length_set, same_place, within_get}
use Rattle.onfi_problem.proofs.LunAfter.{running_is}
use Rattle.onfi_problem.proofs.Wants.{Pairs-filter, All-filter, first_has, filter_shorter}

kept_running : (p : Problem) (ip : IsProblem p) (l : ℕ) (g : List Want) (n b : ℕ) (x : LunState) → slice_get p.luns l ≡ Some x → IsGroup p.rules g → lun_of g ≡ l → All IsWant g → (j : ℕ) (g' : List Want) (n' r' : ℕ) → slice_get (slice_set p.luns l (lun_after p.timing g n b)) j ≡ Some (Running g' n' r') → IsRunning p.rules j g' n'
kept_running p ip l g n b x at ig il iw j g' n' r' h =
    elim (same_place l j) [
      | inl e ↦ (
          let q = running_is p.timing g g' n b n' r' (sym (get_set_same p.luns l x (lun_after p.timing g n b) at) ∙ subst (λ i. slice_get (slice_set p.luns l (lun_after p.timing g n b)) i ≡ Some (Running g' n' r')) (sym e) h) in
          let q0 = q.0 in let q1 = q.1 in
          rw (← q0, ← q1) (record { group = ig; lun = il ∙ e; wants = iw; started = omega arith; unfinished = q.3 }))
      | inr d ↦ ip.running j g' n' r' (sym (get_set_other p.luns l j (lun_after p.timing g n b) (λ e. d (sym e))) ∙ h)
    ]

pub kept_ran : (p : Problem) → IsProblem p → (l : ℕ) (g : List Want) (n t : ℕ) (x : LunState) → slice_get p.luns l ≡ Some x → IsGroup p.rules g → lun_of g ≡ l → All IsWant g → IsProblem (ran p l g n t)
kept_ran p ip l g n t x at ig il iw = record {
  wants = ip.wants;
  running = kept_running p ip l g n _ x at ig il iw;
  ids = ip.ids;
  in_range = All-weaker _ _ (λ w h. rw length_set h) p.wants ip.in_range;
}

pub kept : (p : Problem) (m : Move) (t : ℕ) → IsProblem p → IsMove p m → IsProblem (placed p m t)
kept p (Next l) t ip (g, n, r, at) = let i = ip.running l g n r at in rw at (kept_ran p ip l g n t _ at i.group i.lun i.wants)
kept p (Start ms) t ip (since, at, st) =
    let iw = All-weaker _ _ (λ m f. All-has IsWant p.wants m ip.wants (first_has (on_block m) p.wants m f)) ms st.first in
    let k = kept_ran p ip (lun_of ms) ms 0 t _ at st.group refl iw in
    record { wants = All-filter _ _ p.wants ip.wants; running = k.running; ids = Pairs-filter _ _ p.wants ip.ids; in_range = All-filter _ _ p.wants k.in_range }

-- .. with no more wants and as many LUNs
pub kept_small : (p : Problem) (m : Move) (t : ℕ) → IsSmall p → IsMove p m → IsSmall (placed p m t)
kept_small p (Next l) t small (g, n, r, at) = rw at (record { wants = small.wants; some_luns = rw length_set small.some_luns; few_luns = rw length_set small.few_luns })
kept_small p (Start ms) t small (since, at, st) =
    let fewer = filter_shorter (λ w. not (is_member ms w)) p.wants in
    record { wants = omega (arith, fewer, small.wants); some_luns = rw length_set small.some_luns; few_luns = rw length_set small.few_luns }

-- as many LUNs as before
pub placed_luns : (p : Problem) (m : Move) (t : ℕ) → IsMove p m → length (placed p m t).luns ≡ length p.luns
placed_luns p (Next l) t (g, n, r, at) = rw at (length_set p.luns l _)
placed_luns p (Start ms) t (since, at, st) = length_set p.luns (lun_of ms) _

-- the LUN of a move is there
pub lun_there : (p : Problem) (m : Move) → IsMove p m → move_lun m < length p.luns
lun_there p (Next l) (g, n, r, at) = within_get p.luns l _ at
lun_there p (Start g) (since, at, s) = within_get p.luns (lun_of g) _ at
