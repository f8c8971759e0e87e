-- The demand of the window bound.
use Rattle.std.proofs.Common.{◌≡◌, ℕ, ◌+◌, ◌*◌, ◌-◌, ◌≤◌, inl, inr, true, false, List, [], ◌∷◌, ◌++◌, length, Option, Some, None, refl, sym, ap, ◌∙◌, subst, arith}
use Rattle.std.specs.Prelude.{slice_get, max, IfSome}
use Rattle.std.specs.Option.{option_map}
use Rattle.std.proofs.lemmas.Bool.{cases_Bool}
use Rattle.onfi_timing.specs.declared.timing.Timing.{Timing}
use Rattle.onfi_timing.specs.Phases.{Lengths}
use Rattle.onfi_request.specs.declared.want.Want.{Want}
use Rattle.onfi_group.specs.declared.rules.Rules.{Rules}
use Rattle.onfi_group.specs.Group.{group_operation, group_spans}
use Rattle.onfi_problem.specs.declared.lun_state.LunState.{LunState}
use Rattle.onfi_problem.specs.declared.lun_state.LunState.TheVariants.{Free, Running}
use Rattle.onfi_problem.specs.Problem.{Problem, IsProblem}
use Rattle.onfi_problem.specs.Moves.{may_go}
use Rattle.onfi_bound.specs.Bounds.{on_lun, wants_work}
use Rattle.onfi_demand.specs.Left.{LunLeft, Idle, Rest, left_on, sectors_left, SameLeft, has_left_at, has_left}
use Rattle.onfi_demand.specs.Window.{PhaseLeft, chain_from, group_left, wants_left, phases_left_at, phases_left_on, is_within, within, sum_of, window, needed, WindowAsksLaw}
use Rattle.onfi_demand.specs.Remaining.{lengths_left}
use Rattle.onfi_demand.proofs.Agreeing.{Agree, RunsAlike, agree_chain, agree_group, agree_phases, runs_alike_at}
use Rattle.onfi_demand.proofs.Alike.{alike_at, of_same, same_luns}
use Rattle.onfi_demand.proofs.Between.{one_in, one_out, within_head, within_cons, sum_below, window_below}

abbrev pub from_lengths : Timing → Rules → List Want → Lengths → ℕ → ℕ → List PhaseLeft
from_lengths timing rules ws lengths k n = group_left lengths k (wants_work timing rules ws) (2 * k - n) n 0 ++ wants_left timing (chain_from lengths k n) ws

abbrev pub rest_left : Timing → Rules → List Want → LunLeft → List PhaseLeft
rest_left timing rules ws Idle = wants_left timing 0 ws
rest_left timing rules ws (Rest operation k sectors n) = from_lengths timing rules ws (lengths_left timing operation k sectors) k n

from_agree : (timing : Timing) (rules : Rules) (ws : List Want) (a b : Lengths) (k n : ℕ) → Agree k n a b → from_lengths timing rules ws a k n ≡ from_lengths timing rules ws b k n
from_agree timing rules ws a b k n h =
    let rest = wants_work timing rules ws in
    let group = agree_phases k a b (2 * k - n) n rest 0 h in
    let wants = ap (λ z. wants_left timing z ws) (agree_chain k a b n h) in
    ap (λ ps. ps ++ wants_left timing (chain_from a k n) ws) group ∙ ap (λ ps. group_left b k rest (2 * k - n) n 0 ++ ps) wants

pub phases_by : (timing : Timing) (rules : Rules) (ws : List Want) (o : Option LunState) (l : LunLeft) → IfSome o RunsAlike → option_map left_on o ≡ Some l → phases_left_at timing rules ws o ≡ rest_left timing rules ws l
phases_by timing rules ws None l h e = cc
phases_by timing rules ws (Some (Free a)) l h e = let k : Idle ≡ l = cc in ap (rest_left timing rules ws) k
phases_by timing rules ws (Some (Running g n r)) l h e =
    let k : Rest (group_operation g) (length g) (sectors_left g n) n ≡ l = cc in
    let known = lengths_left timing (group_operation g) (length g) (sectors_left g n) in
    from_agree timing rules ws (group_spans timing g) known (length g) n (agree_group timing g n h) ∙ ap (rest_left timing rules ws) k

phases_alike : (timing : Timing) (rules : Rules) (ws : List Want) (a b : Option LunState) → IfSome a RunsAlike → IfSome b RunsAlike → option_map left_on a ≡ option_map left_on b → phases_left_at timing rules ws a ≡ phases_left_at timing rules ws b
phases_alike timing rules ws None None ha hb e = refl
phases_alike timing rules ws None (Some b) ha hb e = cc
phases_alike timing rules ws (Some a) None ha hb e = cc
phases_alike timing rules ws (Some a) (Some b) ha hb e = phases_by timing rules ws (Some a) (left_on b) ha e ∙ sym (phases_by timing rules ws (Some b) (left_on b) hb refl)

same_phases : (p q : Problem) (l : ℕ) → IsProblem p → IsProblem q → SameLeft p q → phases_left_on p l ≡ phases_left_on q l
same_phases p q l ip iq s = of_same (λ z. phases_left_on p l ≡ phases_left_on z l) p q s (phases_alike p.timing p.rules (on_lun l p.wants) (slice_get p.luns l) (slice_get q.luns l) (runs_alike_at p l ip) (runs_alike_at q l iq) (alike_at p.luns q.luns l s.luns))

pub idle_phases : (timing : Timing) (rules : Rules) (ws : List Want) (o : Option LunState) → has_left_at ws o ≡ false → phases_left_at timing rules ws o ≡ []
idle_phases timing rules [] None h = refl
idle_phases timing rules [] (Some (Free a)) h = refl
idle_phases timing rules ws (Some (Running g n r)) h = cc
idle_phases timing rules (w ∷ ws) None h = cc
idle_phases timing rules (w ∷ ws) (Some (Free a)) h = cc

-- what goes on as late as is needed has as much within from n on
needed_within : (go go' r q n : ℕ) (xs : List PhaseLeft) → needed go r q n xs ≤ go' → within go r q xs ≤ within go' n q xs
needed_within go go' r q n [] h = omega arith
needed_within go go' r q n (x ∷ xs) h =
    let e = needed_within go go' r q n xs (omega arith) in
    let a = within_cons go r q x xs in
    let b = within_cons go' n q x xs in
    elim (cases_Bool (is_within go r q x)) [
      | inl k ↦ (
          let k' = within_head go r q x k in
          let h' : max (n - x.from) (needed go r q n xs) ≤ go' = rw k at h in
          let o = one_in go r q x k'.0 k'.1 in
          let o' = one_in go' n q x (omega arith) k'.1 in
          omega arith)
      | inr k ↦ (let o = one_out go r q x k in omega arith)
    ]

needed_below : (go r q n : ℕ) (xs : List PhaseLeft) → n ≤ r → needed go r q n xs ≤ go
needed_below go r q n [] le = omega arith
needed_below go r q n (x ∷ xs) le =
    let e = needed_below go r q n xs le in
    elim (cases_Bool (is_within go r q x)) [
      | inl k ↦ (let k' = within_head go r q x k in rw k (omega arith))
      | inr k ↦ rw k (omega arith)
    ]

pub window_asks : WindowAsksLaw
window_asks p e r q ip w = record {
  holds = λ z s iz meets steps f run.
      let n = e - (window p r q + q) in
      let luns : length p.luns ≡ length z.luns = same_luns p z s in
      let more : window p r q ≤ window z n q = subst (λ i. window p r q ≤ sum_of i (λ l. within (may_go z l) (e - (window p r q + q)) q (phases_left_on z l))) luns (sum_below (length p.luns) _ _ (λ l. on_lun_more z iz s l (λ h. meets.luns l h))) in
      let b = window_below z steps f n q iz (omega arith) run in
      omega arith;
  meets = record { bus = omega arith; luns = λ l h. let reaches = w.reaches in needed_below (may_go p l) r q (e - (window p r q + q)) (phases_left_on p l) (omega arith) };
}
  where
    on_lun_more : (z : Problem) → IsProblem z → SameLeft p z → (l : ℕ) → (has_left z l ≡ true → needed (may_go p l) r q (e - (window p r q + q)) (phases_left_on p l) ≤ may_go z l) → within (may_go p l) r q (phases_left_on p l) ≤ within (may_go z l) (e - (window p r q + q)) q (phases_left_on z l)
    on_lun_more z iz s l meets =
        let same = same_phases p z l ip iz s in
        elim (cases_Bool (has_left z l)) [
          | inl h ↦ rw (← same) (needed_within (may_go p l) (may_go z l) r q (e - (window p r q + q)) (phases_left_on p l) (meets h))
          | inr h ↦ (let none = same ∙ idle_phases z.timing z.rules (on_lun l z.wants) (slice_get z.luns l) h in rw none (omega arith))
        ]
