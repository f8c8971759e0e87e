-- The trail bound is at most the finish of each run.
use Rattle.std.proofs.Common.{◌≡◌, ℕ, zero, suc, ◌+◌, ◌*◌, ◌-◌, ◌≤◌, ◌<◌, ◌⊎◌, inl, inr, Bool, true, false, if◌then◌else◌, List, [], ◌∷◌, ◌++◌, length, Option, Some, None, refl, sym, ap, ◌∙◌, subst, arith}
use Rattle.std.specs.Prelude.{slice_get, max, nat_lt}
use Rattle.std.specs.List.{AllByRecursion as All}
use Rattle.std.proofs.lemmas.Bool.{cases_lt, eq-eqb, lt-ltb, le-ltb}
use Rattle.onfi_timing.proofs.Shared.{least_below, one_operation}
use Rattle.onfi_timing.specs.declared.operation.Operation.{Operation}
use Rattle.onfi_timing.specs.declared.operation.Operation.TheVariants.{Read, Program, Erase}
use Rattle.onfi_request.specs.declared.want.Want.{Want}
use Rattle.onfi_problem.specs.declared.lun_state.LunState.{LunState}
use Rattle.onfi_problem.specs.declared.lun_state.LunState.TheVariants.{Free, Running}
use Rattle.onfi_problem.specs.Moves.{Move, Next, Start, IsMove, IsDone, earliest, free_from, lun_after, ran, ran_with, placed, without, may_go}
use Rattle.onfi_group.specs.Words.{total}
use Rattle.onfi_problem.specs.Problem.{Problem, IsProblem}
use Rattle.onfi_timing.specs.Kinds.{least_rest, spans_of}
use Rattle.onfi_group.specs.Group.{group_operation, kind_of, group_spans, lun_of, IsStartable}
use Rattle.onfi_timing.specs.Phases.{phase_length, wait_before}
use Rattle.onfi_schedule.specs.Runs.{Step, Run}
use Rattle.onfi_problem.specs.Left.{commands_left, command_time, want_command, all_commands}
use Rattle.onfi_bound.specs.Bounds.{on_lun, least, same_operation, has_command, behind_commands, trail_from, trail, die, die_at}
use Rattle.onfi_bound.specs.Commands.{commands_on, commands_of}
use Rattle.onfi_problem.proofs.Perm.{All-front, All-back, All-weaker}
use Rattle.onfi_problem.proofs.Places.{get_set_same, within_get, length_set}
use Rattle.onfi_problem.proofs.Totals.{total_set, total_same, startable_total}
use Rattle.onfi_problem.proofs.LunAfter.{lun_after_running}
use Rattle.onfi_problem.proofs.Work.{commands_after, one_less}
use Rattle.onfi_bound.proofs.GroupPosts.{first_post}
use Rattle.onfi_bound.proofs.BusBound.{free_total}
use Rattle.onfi_bound.proofs.Classes.{same_operation_self}
use Rattle.onfi_bound.proofs.Counting.{running_after, next_takes, start_takes, commands_long, commands_some, some_there}
use Rattle.onfi_bound.proofs.DieBound.{die_bound}
use Rattle.onfi_bound.proofs.LeadBound.{least_all}
use Rattle.onfi_problem.proofs.Kept.{kept}

-- a is at most what is after each command that is left
Trails : Problem → ℕ → Type 0
Trails p a = (operation : Operation) → 1 ≤ commands_of p operation → a ≤ least_rest p.timing operation

-- what one of them counts is in the sum
total_has : {A : Type 0} (f : A → ℕ) (xs : List A) (i : ℕ) (x : A) → slice_get xs i ≡ Some x → f x ≤ total f xs
total_has f [] i x h = cc
total_has f (y ∷ xs) zero x h = let e : f y ≡ f x = ap f (cc) in omega arith
total_has f (y ∷ xs) (suc i) x h = let e = total_has f xs i x h in omega arith

-- whether a command is left
some_command : (p : Problem) → ((operation : Operation) × (1 ≤ commands_of p operation)) ⊎ ((operation : Operation) → commands_of p operation ≡ 0)
some_command p = elim (cases_lt 0 (commands_of p Read)) [
  | inl a ↦ inl (Read, a)
  | inr a ↦ elim (cases_lt 0 (commands_of p Program)) [
    | inl b ↦ inl (Program, b)
    | inr b ↦ elim (cases_lt 0 (commands_of p Erase)) [ inl c ↦ inl (Erase, c) | inr c ↦ inr (none a b c) ]
  ]
]
  where
    none : commands_of p Read ≤ 0 → commands_of p Program ≤ 0 → commands_of p Erase ≤ 0 → (operation : Operation) → commands_of p operation ≡ 0
    none a b c Read = omega arith
    none a b c Program = omega arith
    none a b c Erase = omega arith

no_commands : (p : Problem) → ((operation : Operation) → commands_of p operation ≡ 0) → all_commands p ≡ 0
no_commands p h = let a = rw (h Read, h Program, h Erase) at (commands_long p) in omega arith

-- a command
module _ (p : Problem) (l : ℕ) (g : List Want) (n t : ℕ) (x : LunState) (wants : List Want) (at : slice_get p.luns l ≡ Some x) (some : 1 ≤ length g) (command : n < length g) (late : p.bus_free ≤ t)
    (counts : (operation : Operation) → commands_of (ran_with p l g n t wants) operation + (if same_operation operation (group_operation g) then 1 else 0) ≡ commands_of p operation)
    (sums : command_time p.timing x + total (want_command p.timing) p.wants ≡ commands_left (length g) n * (group_spans p.timing g).cmd + total (want_command p.timing) wants) where
  abbrev p' : Problem
  p' = ran_with p l g n t wants

  command_step : (a f : ℕ) → Trails p a → ((operation : Operation) → 1 ≤ commands_of p' operation → Trails p' a → p'.bus_free + all_commands p' + a ≤ f) → die p' l ≤ f → p.bus_free + all_commands p + a ≤ f
  unfolding Trails
  command_step a f tra rec dies =
      let spans = group_spans p.timing g in
      let k = length g in
      let b = t + phase_length spans k n in
      let len : phase_length spans k n ≡ spans.cmd = rw (lt-ltb n k command) refl in
      let s = total_set (command_time p.timing) p.luns l x (lun_after p.timing g n b) at in
      let c = commands_after p.timing g n b some in
      let o = one_less k n spans.cmd command in
      let all : all_commands p ≡ spans.cmd + all_commands p' = omega arith in
      elim (some_command p') [
        | inl (operation, q) ↦ (let r = rec operation q (λ operation' q'. tra operation' (let e = counts operation' in omega arith)) in omega arith)
        | inr none ↦ (
            let z = no_commands p' none in
            let there = get_set_same p.luns l x (lun_after p.timing g n b) at in
            let run = lun_after_running p.timing g n b (omega arith) in
            let mine = total_has (commands_on (group_operation g)) p'.luns l (lun_after p.timing g n b) there in
            let left : commands_on (group_operation g) (lun_after p.timing g n b) ≡ k - (n + 1) = rw (same_operation_self (group_operation g)) at (running_after (group_operation g) p.timing g n b some) in
            let last : n + 1 ≡ k = let e = none (group_operation g) in omega arith in
            let wait : wait_before spans k (n + 1) ≡ spans.array = rw (le-ltb (n + 1) k (omega arith), eq-eqb (n + 1) k last) refl in
            let own_a = tra (group_operation g) (some_there (group_operation g) (group_operation g) (commands_of p' (group_operation g)) (commands_of p (group_operation g)) refl (counts (group_operation g))) in
            let low = least_below p.timing (kind_of g) in
            let post = first_post p.timing g (n + 1) some (omega arith) in
            let dies' : die_at p' l (on_lun l wants) (Some (Running g (n + 1) (b + wait_before spans k (n + 1)))) ≤ f = subst (λ o. die_at p' l (on_lun l wants) o ≤ f) (there ∙ ap Some run) dies in
            let go : may_go p' l ≡ max b (free_from (Some (Running g (n + 1) (b + wait_before spans k (n + 1))))) = ap (λ o. max b (free_from o)) (there ∙ ap Some run) in
            omega arith)
      ]

trail_next : (p : Problem) (l : ℕ) (g : List Want) (n r t a f : ℕ) (operation : Operation) → IsProblem p → slice_get p.luns l ≡ Some (Running g n r) → max p.bus_free r ≤ t → Trails p a → 1 ≤ commands_of p operation
    → ((operation : Operation) → 1 ≤ commands_of (ran p l g n t) operation → Trails (ran p l g n t) a → (ran p l g n t).bus_free + all_commands (ran p l g n t) + a ≤ f) → die (ran p l g n t) l ≤ f → p.bus_free + all_commands p + a ≤ f
unfolding Trails
trail_next p l g n r t a f operation ip at late tra own rec dies =
    let some = (ip.running l g n r at).group.some in
    let k = length g in
    let spans = group_spans p.timing g in
    let b = t + phase_length spans k n in
    let counts = λ (operation' : Operation) (command : Bool) (is : nat_lt n k ≡ command).
    subst (λ b. commands_of (ran p l g n t) operation' + (if b then (if same_operation operation' (group_operation g) then 1 else 0) else 0) ≡ commands_of p operation') is (next_takes p l g n r t operation' some at) in
    elim (cases_lt n k) [
      | inl h ↦ command_step p l g n t (Running g n r) p.wants at some h (omega arith) (λ operation'. counts operation' true (lt-ltb n k h)) refl a f tra rec dies
      | inr h ↦ (
          let p' = ran p l g n t in
          let same : (operation' : Operation) → commands_of p' operation' + 0 ≡ commands_of p operation' = λ operation'. counts operation' false (le-ltb n k h) in
          let q = rec operation (let e = same operation in omega arith) (λ operation' c. tra operation' (let e = same operation' in omega arith)) in
          let s = total_set (command_time p.timing) p.luns l (Running g n r) (lun_after p.timing g n b) at in
          let c = commands_after p.timing g n b some in
          let z : k - n ≡ 0 = omega arith in
          let z' : k - (n + 1) ≡ 0 = omega arith in
          let c' : command_time p.timing (lun_after p.timing g n b) ≡ 0 * spans.cmd = rw z' at c in
          let d : command_time p.timing (Running g n r) ≡ 0 * spans.cmd = rw z refl in
          omega arith)
    ]

trail_start : (p : Problem) (ms : List Want) (since t a f : ℕ) → IsProblem p → slice_get p.luns (lun_of ms) ≡ Some (Free since) → IsStartable p.rules p.wants ms → max p.bus_free since ≤ t → Trails p a
    → ((operation : Operation) → 1 ≤ commands_of (placed p (Start ms) t) operation → Trails (placed p (Start ms) t) a → (placed p (Start ms) t).bus_free + all_commands (placed p (Start ms) t) + a ≤ f)
    → die (placed p (Start ms) t) (lun_of ms) ≤ f → p.bus_free + all_commands p + a ≤ f
trail_start p ms since t a f ip at st late tra rec dies =
    let some = st.group.some in
    let k = length ms in
    let spans = group_spans p.timing ms in
    let z : k - 0 ≡ k = omega arith in
    let wc = startable_total (want_command p.timing) p ms ip st in
    let mc = total_same (want_command p.timing) spans.cmd ms (All-weaker _ _ (λ (m : Want) e. (one_operation p.timing (kind_of ms) m.kind (sym e)).cmd) ms st.group.operation) in
    command_step p (lun_of ms) ms 0 t (Free since) (without ms p.wants) at some (omega arith) (omega arith) (λ operation. start_takes p ms t operation ip (since, at, st)) (rw z (omega arith)) a f tra rec dies

none_left : (p : Problem) (operation : Operation) → IsDone p → commands_of p operation ≡ 0
none_left p operation done = let w = done.wants in let a = free_total (commands_on operation) (λ _. refl) p.luns done.free in rw w (omega arith)

trail_run : (steps : List Step) (p : Problem) (f a : ℕ) (operation : Operation) → IsProblem p → Trails p a → 1 ≤ commands_of p operation → Run p steps f → p.bus_free + all_commands p + a ≤ f
trail_run [] p f a operation ip tra own (done, e) = let none = none_left p operation done in absurd (omega arith)
trail_run (s ∷ steps) p f a operation ip tra own (mv, on_time, run) =
    let rec = λ (operation' : Operation) (c : 1 ≤ commands_of (placed p s.move s.start) operation') (q : Trails (placed p s.move s.start) a). trail_run steps (placed p s.move s.start) f a operation' (kept p s.move s.start ip mv) q c run in
    one s.move mv on_time rec (λ l h. die_bound steps (placed p s.move s.start) f l (kept p s.move s.start ip mv) h run)
  where
    one : (m : Move) → IsMove p m → earliest p m ≤ s.start → ((operation' : Operation) → 1 ≤ commands_of (placed p m s.start) operation' → Trails (placed p m s.start) a → (placed p m s.start).bus_free + all_commands (placed p m s.start) + a ≤ f)
        → ((l : ℕ) → l < length (placed p m s.start).luns → die (placed p m s.start) l ≤ f) → p.bus_free + all_commands p + a ≤ f
    one (Next l) (g, n, r, at) late rec dies =
        let late' : max p.bus_free r ≤ s.start = rw at at late in
        let dies' = rw at at dies in
        let within : l < length (ran p l g n s.start).luns = rw (length_set p.luns l (lun_after p.timing g n (s.start + phase_length (group_spans p.timing g) (length g) n))) (within_get p.luns l _ at) in
        trail_next p l g n r s.start a f operation ip at late' tra own (rw at at rec) (dies' l within)
    one (Start ms) (since, at, st) late rec dies =
        let late' : max p.bus_free since ≤ s.start = rw at at late in
        let within : lun_of ms < length (placed p (Start ms) s.start).luns = rw (length_set p.luns (lun_of ms) (lun_after p.timing ms 0 (s.start + phase_length (group_spans p.timing ms) (length ms) 0))) (within_get p.luns (lun_of ms) _ at) in
        trail_start p ms since s.start a f ip at st late' tra rec (dies (lun_of ms) within)

-- the least over the operations is below that of each operation with a command
pub trail_bound : (steps : List Step) (p : Problem) (f v : ℕ) → IsProblem p → trail p ≡ Some v → Run p steps f → v ≤ f
unfolding Trails
trail_bound steps p f v ip e run = go (least (behind_commands p Read ++ (behind_commands p Program ++ behind_commands p Erase))) refl
  where
    behind : (operation : Operation) (a : ℕ) → 1 ≤ commands_of p operation → All (λ x. a ≤ x) (behind_commands p operation) → a ≤ least_rest p.timing operation
    behind operation a h k = let some : has_command p operation ≡ true = sym (commands_some p operation) ∙ lt-ltb 0 (commands_of p operation) h in (rw some at k).0

    go : (o : Option ℕ) → least (behind_commands p Read ++ (behind_commands p Program ++ behind_commands p Erase)) ≡ o → v ≤ f
    go None q = let k : trail_from p None ≡ Some v = rw q at e in cc
    go (Some a) q =
        let k : trail_from p (Some a) ≡ Some v = rw q at e in
        let i : p.bus_free + all_commands p + a ≡ v = cc in
        let all = least_all _ a q in
        let reads = All-front (λ x. a ≤ x) (behind_commands p Read) _ all in
        let programs = All-front (λ x. a ≤ x) (behind_commands p Program) _ (All-back (λ x. a ≤ x) (behind_commands p Read) _ all) in
        let erases = All-back (λ x. a ≤ x) (behind_commands p Program) _ (All-back (λ x. a ≤ x) (behind_commands p Read) _ all) in
        let tra : (operation : Operation) → 1 ≤ commands_of p operation → a ≤ least_rest p.timing operation = elim [
          | Read ↦ λ c. behind Read a c reads
          | Program ↦ λ c. behind Program a c programs
          | Erase ↦ λ c. behind Erase a c erases
        ] in
        elim (some_command p) [
          | inl (operation, c) ↦ (let r = trail_run steps p f a operation ip tra c run in omega arith)
          | inr none ↦ (
              let no : (operation : Operation) → has_command p operation ≡ false = λ operation. sym (commands_some p operation) ∙ (let n = none operation in le-ltb 0 (commands_of p operation) (omega arith)) in
              let z : least (behind_commands p Read ++ (behind_commands p Program ++ behind_commands p Erase)) ≡ None = rw (no Read, no Program, no Erase) refl in
              cc)
        ]
