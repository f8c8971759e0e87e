-- What is seen of phases within a window, one by one.
use Rattle.std.proofs.Common.{◌≡◌, ℕ, suc, ◌+◌, ◌*◌, ◌-◌, ◌^◌, ◌≤◌, ◌<◌, inl, inr, false, List, [], ◌∷◌, ◌++◌, length, get_or, take, Option, Some, None, sym, ap, ◌∙◌, subst, arith}
use Rattle.std.specs.Prelude.{max, slice_get}
use Rattle.std.proofs.lemmas.Bool.{cases_Bool, cases_lt}
use Rattle.onfi_timing.specs.declared.operation.Operation.{Operation}
use Rattle.onfi_timing.specs.declared.spans.Spans.{Spans}
use Rattle.onfi_timing.specs.declared.timing.Timing.{Timing}
use Rattle.onfi_timing.specs.Kinds.{spans_of}
use Rattle.onfi_timing.specs.Phases.{Lengths, phase_length, wait_before}
use Rattle.onfi_request.specs.declared.want.Want.{Want}
use Rattle.onfi_problem.specs.declared.lun_state.LunState.{LunState}
use Rattle.onfi_problem.specs.declared.lun_state.LunState.TheVariants.{Free, Running}
use Rattle.onfi_problem.specs.Problem.{Problem, IsProblem}
use Rattle.onfi_problem.specs.Moves.{may_go}
use Rattle.onfi_problem.specs.Left.{InLimits}
use Rattle.onfi_group.specs.declared.rules.Rules.{Rules}
use Rattle.onfi_bound.specs.Bounds.{on_lun, wants_work}
use Rattle.onfi_bound.proofs.DieBound.{no_work}
use Rattle.onfi_bound.proofs.Ends.{die_small}
use Rattle.onfi_demand.specs.Left.{has_left, has_left_at}
use Rattle.onfi_demand.specs.Work.{left_of, IsWork}
use Rattle.onfi_demand.specs.declared.left.LunLeft.TheVariants.{Rest as KeptRest}
use Rattle.onfi_demand.specs.declared.left.LunWork.{LunWork}
use Rattle.onfi_demand.specs.Remaining.{lengths_left, posts_count}
use Rattle.onfi_demand.proofs.Agreeing.{runs_alike_at}
use Rattle.onfi_demand.proofs.Sums.{die_is, work_at}
use Rattle.onfi_demand.proofs.Opened.{left_there}
use Rattle.onfi_demand.proofs.WindowAsks.{rest_left, phases_by, idle_phases}
use Rattle.onfi_demand.specs.Kept.{IsKept}
use Rattle.onfi_demand.specs.declared.demand.Demand.{Demand as Kept}
use Rattle.onfi_demand.specs.Look.{phase_at, Sees, IsSight}
use Rattle.onfi_demand.specs.Window.{PhaseLeft, chain_from, group_phase, group_left, wants_left, phases_left_on, needed, window, window_demand}
use Rattle.onfi_demand.specs.declared.look.Look.{Look}
use Rattle.onfi_demand.specs.declared.look.Seen.{Seen}
use Rattle.onfi_demand.specs.declared.look.Sight.{Sight}
use Rattle.onfi_demand.specs.declared.look.Window.{Window}
use Rattle.onfi_demand.proofs.Between.{chain_step, within_append}

pub sees_none : (look : Look) (seen : Seen) → Sees look seen [] seen
sees_none look seen = record { length = omega arith; needs = λ n. omega arith }

needed_append : (go r q n : ℕ) (xs ys : List PhaseLeft) → needed go r q n (xs ++ ys) ≡ max (needed go r q n xs) (needed go r q n ys)
needed_append go r q n [] ys = omega arith
needed_append go r q n (x ∷ xs) ys = let e = needed_append go r q n xs ys in omega arith

pub sees_append : (look : Look) (before middle behind : Seen) (xs ys : List PhaseLeft) → Sees look before xs middle → Sees look middle ys behind → Sees look before (xs ++ ys) behind
sees_append look before middle behind xs ys a b =
    let w = within_append look.go look.window.start look.window.tail xs ys in
    record {
      length = omega arith;
      needs = λ n.
          let both = needed_append look.go look.window.start look.window.tail n xs ys in
          let an = a.needs n in
          let bn = b.needs n in
          omega arith;
    }

-- one phase of a group more
pub group_more : (look : Look) (spans : Lengths) (k rest n from long left : ℕ) (before middle behind : Seen) → length spans.posts ≡ k → n < 2 * k → left ≡ chain_from spans k n → long ≡ phase_length spans k n → Sees look before (phase_at from long (left - long + rest) ∷ []) middle → Sees look middle (group_left spans k rest (2 * k - (n + 1)) (n + 1) (from + phase_length spans k n + wait_before spans k (n + 1))) behind → Sees look before (group_left spans k rest (2 * k - n) n from) behind
group_more look spans k rest n from long left before middle behind size h l is one others =
    let step = chain_step spans k n size h in
    let count : 2 * k - n ≡ suc (2 * k - (n + 1)) = omega arith in
    let tail : left - long + rest ≡ wait_before spans k (n + 1) + chain_from spans k (n + 1) + rest = omega arith in
    let one' = subst (λ z. Sees look before (phase_at from z (left - long + rest) ∷ []) middle) is one in
    let one'' = subst (λ z. Sees look before (phase_at from (phase_length spans k n) z ∷ []) middle) tail one' in
    rw count (sees_append look before middle behind (group_phase spans k rest n from ∷ []) (group_left spans k rest (2 * k - (n + 1)) (n + 1) (from + phase_length spans k n + wait_before spans k (n + 1))) one'' others)

-- one want more
pub want_more : (look : Look) (timing : Timing) (from : ℕ) (w : Want) (ws : List Want) (spans : Spans) (before middle next behind : Seen) → spans ≡ spans_of timing w.kind → Sees look before (phase_at from spans.cmd (spans.array + spans.post) ∷ []) middle → Sees look middle (phase_at (from + spans.cmd + spans.array) spans.post 0 ∷ []) next → Sees look next (wants_left timing from ws) behind → Sees look before (wants_left timing from (w ∷ ws)) behind
want_more look timing from w ws spans before middle next behind is a b rest =
    let spans' = spans_of timing w.kind in
    let a' = subst (λ (z : Spans). Sees look before (phase_at from z.cmd (z.array + z.post) ∷ []) middle) is a in
    let b' = subst (λ (z : Spans). Sees look middle (phase_at (from + z.cmd + z.array) z.post 0 ∷ []) next) is b in
    sees_append look before middle behind (phase_at from spans'.cmd (spans'.array + spans'.post) ∷ []) (phase_at (from + spans'.cmd + spans'.array) spans'.post 0 ∷ wants_left timing from ws) a' (sees_append look middle next behind (phase_at (from + spans'.cmd + spans'.array) spans'.post 0 ∷ []) (wants_left timing from ws) b' rest)

part_of_work : (timing : Timing) (rules : Rules) (ws : List Want) (o : Option LunState) → wants_work timing rules ws ≤ work_at timing rules ws o
part_of_work timing rules ws None = omega arith
part_of_work timing rules ws (Some (Free a)) = omega arith
part_of_work timing rules ws (Some (Running g n r)) = omega arith

no_wants : (timing : Timing) (rules : Rules) (ws : List Want) (o : Option LunState) → has_left_at ws o ≡ false → wants_work timing rules ws ≡ 0
no_wants timing rules [] o h = no_work timing rules
no_wants timing rules (w ∷ ws) None h = cc
no_wants timing rules (w ∷ ws) (Some (Free a)) h = cc
no_wants timing rules (w ∷ ws) (Some (Running g n r)) h = cc

-- what the wants of a LUN take, within the limits of a problem
pub work_small : (p : Problem) (lun work : ℕ) → InLimits p → lun < length p.luns → work ≡ wants_work p.timing p.rules (on_lun lun p.wants) → work < 2 ^ 62
work_small p lun work limits there is = elim (cases_Bool (has_left p lun)) [
  | inl h ↦ (
      let small = die_small p lun limits there in
      let whole = die_is p lun (on_lun lun p.wants) (slice_get p.luns lun) h in
      let part = part_of_work p.timing p.rules (on_lun lun p.wants) (slice_get p.luns lun) in
      omega arith)
  | inr h ↦ (let none = no_wants p.timing p.rules (on_lun lun p.wants) (slice_get p.luns lun) h in omega arith)
]

-- .. and all that is left to it
pub rest_sees : (p : Problem) (lun k n chain rest : ℕ) (operation : Operation) (sectors : List ℕ) (timing : Timing) (lengths : Lengths) (work : LunWork) (look : Look) (ws : List Want) (before middle behind : Seen) → IsProblem p → IsWork p lun work → work.left ≡ KeptRest operation k n sectors → timing ≡ p.timing → lengths ≡ lengths_left timing operation k (take (posts_count k n) sectors) → chain ≡ chain_from lengths k n → rest ≡ wants_work p.timing p.rules (on_lun lun p.wants) → ws ≡ work.wants.items → Sees look before (group_left lengths k rest (2 * k - n) n 0) middle → Sees look middle (wants_left timing chain ws) behind → Sees look before (phases_left_on p lun) behind
rest_sees p lun k n chain rest operation sectors timing lengths work look ws before middle behind ip w left t s c r e a b =
    let q = phases_by p.timing p.rules (on_lun lun p.wants) (slice_get p.luns lun) (left_of work.left) (runs_alike_at p lun ip) w.left ∙ ap (λ z. rest_left p.timing p.rules (on_lun lun p.wants) (left_of z)) left in
    let known = lengths_left p.timing operation k (take (posts_count k n) sectors) in
    let s' : lengths ≡ known = s ∙ ap (λ z. lengths_left z operation k (take (posts_count k n) sectors)) t in
    let a' = subst (λ (z : Lengths). Sees look before (group_left z k rest (2 * k - n) n 0) middle) s' a in
    let a'' = subst (λ z. Sees look before (group_left known k z (2 * k - n) n 0) middle) r a' in
    let b' = subst (λ z. Sees look middle (wants_left timing chain z) behind) (e ∙ w.wants) b in
    let b'' = subst (λ z. Sees look middle (wants_left z chain (on_lun lun p.wants)) behind) t b' in
    let b''' = subst (λ z. Sees look middle (wants_left p.timing z (on_lun lun p.wants)) behind) (c ∙ ap (λ (z : Lengths). chain_from z k n) s') b'' in
    rw q (sees_append look before middle behind (group_left known k (wants_work p.timing p.rules (on_lun lun p.wants)) (2 * k - n) n 0) (wants_left p.timing (chain_from known k n) (on_lun lun p.wants)) a'' b''')

-- the numbers of the window bound's demand
pub window_kept : (p : Problem) (e time : ℕ) (w : Window) (sight : Sight) (luns : List ℕ) (d : Kept) → IsProblem p → IsSight p w sight → time ≡ e - (window p w.start w.tail + w.tail) → time < 2 ^ 64 → d.bus ≡ 0 → d.luns ≡ luns → ((l : ℕ) → l < 8 → get_or luns l 0 ≡ time - get_or sight.firsts l 0) → IsKept d (window_demand p w.start w.tail e)
window_kept p e time w sight luns d ip s t few bus same value = record { bus = bus; luns = λ l small. rw same (at l small) }
  where
    at : (l : ℕ) → l < 8 → get_or luns l 0 ≡ needed (may_go p l) w.start w.tail (e - (window p w.start w.tail + w.tail)) (phases_left_on p l)
    at l small = elim (cases_lt l (length p.luns)) [
      | inl h ↦ subst (λ z. get_or luns l 0 ≡ needed (may_go p l) w.start w.tail z (phases_left_on p l)) t (value l small ∙ s.needs l time h few)
      | inr h ↦ elim (cases_Bool (has_left p l)) [
        | inl k ↦ (let there = left_there p l ip k in absurd (omega arith))
        | inr k ↦ (let none = idle_phases p.timing p.rules (on_lun l p.wants) (slice_get p.luns l) k in value l small ∙ (s.none l time h small few ∙ sym (ap (needed (may_go p l) w.start w.tail (e - (window p w.start w.tail + w.tail))) none)))
      ]
    ]
