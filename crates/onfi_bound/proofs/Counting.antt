-- How many commands of each operation are left, and what a move takes from them.
use Rattle.std.proofs.Common.{◌≡◌, ℕ, ◌+◌, ◌*◌, ◌-◌, ◌≤◌, ◌<◌, inl, inr, Bool, true, false, if◌then◌else◌, List, [], ◌∷◌, length, map, take, get_or, Option, None, Some, refl, sym, ap, ◌∙◌, subst, arith, add-mul}
use Rattle.std.specs.Prelude.{slice_get, slice_set, slice_index_or, nat_lt, max}
use Rattle.std.specs.List.{AllByRecursion as All, list_any}
use Rattle.std.proofs.lemmas.Bool.{cases_Bool, cases_lt, lt-ltb, le-ltb}
use Rattle.std.proofs.lemmas.List.{length-map, take_all}
use Rattle.onfi_timing.specs.declared.operation.Operation.{Operation}
use Rattle.onfi_timing.specs.declared.operation.Operation.TheVariants.{Read, Program, Erase}
use Rattle.onfi_timing.specs.declared.timing.Timing.{Timing}
use Rattle.onfi_timing.specs.Kinds.{operation_of, operation_spans, spans_of}
use Rattle.onfi_timing.proofs.Shared.{of_operation}
use Rattle.onfi_timing.specs.Phases.{phase_length}
use Rattle.onfi_request.specs.declared.want.Want.{Want}
use Rattle.onfi_group.specs.Words.{total}
use Rattle.onfi_group.specs.Group.{group_operation, kind_of, lun_of, group_spans}
use Rattle.onfi_problem.specs.declared.lun_state.LunState.{LunState}
use Rattle.onfi_problem.specs.declared.lun_state.LunState.TheVariants.{Free, Running}
use Rattle.onfi_problem.specs.Problem.{Problem, IsProblem}
use Rattle.onfi_problem.specs.Moves.{Move, Next, Start, IsMove, after, earliest, next_ran, lun_after, without, placed, ran}
use Rattle.onfi_problem.specs.Left.{commands_left, command_time, want_command, all_commands, InLimits}
use Rattle.onfi_problem.specs.declared.moves.Lun.{Lun}
use Rattle.onfi_problem.specs.Position.{state_of, waiting_of}
use Rattle.onfi_problem.proofs.After.{runs_by}
use Rattle.onfi_problem.proofs.Lists.{total_by}
use Rattle.onfi_problem.proofs.LunAfter.{lun_after_running, lun_after_free}
use Rattle.onfi_problem.proofs.Totals.{total_set, startable_total}
use Rattle.onfi_problem.proofs.Wants.{total-append}
use Rattle.onfi_bound.specs.Bounds.{same_operation, commands_next, has_command}
use Rattle.onfi_bound.specs.declared.commands.Commands.{Commands}
use Rattle.onfi_bound.specs.Commands.{commands_on, one_of, commands_of, AreCommands}
use Rattle.onfi_bound.specs.Parts.{has_operation}
use Rattle.onfi_bound.proofs.Steps.{waiting_yes, summed}
use Rattle.onfi_bound.proofs.Classes.{same_operation_self}

-- one more want
pub want_counted : (operation : Operation) (marks : List Bool) (ws : List Want) (i : ℕ) (d : Want) → i < length ws → get_or marks i false ≡ true → total (one_of operation) (waiting_of marks (take (i + 1) ws)) ≡ total (one_of operation) (waiting_of marks (take i ws)) + one_of operation (get_or ws i d)
want_counted operation marks ws i d h m =
    let a = total-append (one_of operation) (waiting_of marks (take i ws)) (get_or ws i d ∷ []) in
    ap (total (one_of operation)) (waiting_yes marks ws i d h m) ∙ (a ∙ omega arith)

-- the wants of a group are all of its operation
more_of : (b : Bool) (n m t : ℕ) → m ≡ n + 1 → t ≡ (if b then n else 0) → (if b then 1 else 0) + t ≡ (if b then m else 0)
more_of true n m t e h = omega arith
more_of false n m t e h = omega arith

of_one_operation : (operation k : Operation) (ms : List Want) → All (λ m. (operation_of m.kind) ≡ k) ms → total (one_of operation) ms ≡ (if same_operation operation k then length ms else 0)
of_one_operation operation k [] a = elim (cases_Bool (same_operation operation k)) [ inl s ↦ rw s refl | inr s ↦ rw s refl ]
of_one_operation operation k (m ∷ ms) a =
    let h = of_one_operation operation k ms a.1 in
    subst (λ z. (if same_operation operation z then 1 else 0) + total (one_of operation) ms ≡ (if same_operation operation k then length (m ∷ ms) else 0)) (sym a.0)
    (more_of (same_operation operation k) (length ms) (length (m ∷ ms)) (total (one_of operation) ms) (omega arith) h)

-- what is left of a LUN after a phase
pub running_after : (operation : Operation) (timing : Timing) (g : List Want) (n c : ℕ) → 1 ≤ length g → commands_on operation (lun_after timing g n c) ≡ (if same_operation operation (group_operation g) then length g - (n + 1) else 0)
running_after operation timing g n c some =
    elim (cases_lt (n + 1) (2 * length g)) [
      | inl a ↦ rw (lun_after_running timing g n c a) refl
      | inr a ↦ (
          let e : length g - (n + 1) ≡ 0 = omega arith in
          rw (lun_after_free timing g n c a, e) (elim (cases_Bool (same_operation operation (group_operation g))) [ inl s ↦ rw s refl | inr s ↦ rw s refl ]))
    ]

taken : (b : Bool) (k n t t' w : ℕ) → t' + (if b then k - n else 0) ≡ t + (if b then k - (n + 1) else 0) → t' + w + (if nat_lt n k then (if b then 1 else 0) else 0) ≡ t + w
taken true k n t t' w h = elim (cases_lt n k) [ inl a ↦ rw (lt-ltb n k a) (omega arith) | inr a ↦ rw (le-ltb n k a) (omega arith) ]
taken false k n t t' w h = elim (cases_lt n k) [ inl a ↦ rw (lt-ltb n k a) (omega arith) | inr a ↦ rw (le-ltb n k a) (omega arith) ]

-- the next phase of a running group takes one where it is a command
pub next_takes : (p : Problem) (lun : ℕ) (g : List Want) (n r t : ℕ) (operation : Operation) → 1 ≤ length g → slice_get p.luns lun ≡ Some (Running g n r)
    → commands_of (ran p lun g n t) operation + (if nat_lt n (length g) then (if same_operation operation (group_operation g) then 1 else 0) else 0) ≡ commands_of p operation
next_takes p lun g n r t operation some at =
    let ended = t + phase_length (group_spans p.timing g) (length g) n in
    let state = lun_after p.timing g n ended in
    let s = total_set (commands_on operation) p.luns lun (Running g n r) state at in
    let e = running_after operation p.timing g n ended some in
    taken (same_operation operation (group_operation g)) (length g) n (total (commands_on operation) p.luns) (total (commands_on operation) (slice_set p.luns lun state)) (total (one_of operation) p.wants) (s ∙ ap (λ z. total (commands_on operation) p.luns + z) e)

begun : (b : Bool) (k t t' w w' : ℕ) → 1 ≤ k → t' + 0 ≡ t + (if b then k - (0 + 1) else 0) → w ≡ (if b then k else 0) + w' → t' + w' + (if b then 1 else 0) ≡ t + w
begun true k t t' w w' some h q = omega arith
begun false k t t' w w' some h q = omega arith

-- .. and so does the first phase of a new group
pub start_takes : (p : Problem) (g : List Want) (t : ℕ) (operation : Operation) → IsProblem p → IsMove p (Start g)
    → commands_of (placed p (Start g) t) operation + (if same_operation operation (group_operation g) then 1 else 0) ≡ commands_of p operation
start_takes p g t operation ip (since, at, st) =
    let ended = t + phase_length (group_spans p.timing g) (length g) 0 in
    let state = lun_after p.timing g 0 ended in
    let s = total_set (commands_on operation) p.luns (lun_of g) (Free since) state at in
    let e = running_after operation p.timing g 0 ended st.group.some in
    let w = startable_total (one_of operation) p g ip st in
    let q = of_one_operation operation (group_operation g) g st.group.operation in
    begun (same_operation operation (group_operation g)) (length g) (total (commands_on operation) p.luns) (total (commands_on operation) (slice_set p.luns (lun_of g) state)) (total (one_of operation) p.wants) (total (one_of operation) (without g p.wants)) st.group.some
    (s ∙ ap (λ z. total (commands_on operation) p.luns + z) e) (w ∙ ap (λ z. z + total (one_of operation) (without g p.wants)) q)

pub start_counts : (p : Problem) (g : List Want) (operation : Operation) → IsProblem p → IsMove p (Start g) → commands_of (after p (Start g)) operation + (if same_operation operation (group_operation g) then 1 else 0) ≡ commands_of p operation
start_counts p g operation ip im = start_takes p g (earliest p (Start g)) operation ip im

-- this number of commands of an operation beside others
longer : (timing : Timing) (k : Operation) (m t r p e : ℕ) → t ≡ r * timing.read.cmd + p * timing.program.cmd + e * timing.erase.cmd → m * (operation_spans timing k).cmd + t ≡ ((if same_operation Read k then m else 0) + r) * timing.read.cmd + ((if same_operation Program k then m else 0) + p) * timing.program.cmd + ((if same_operation Erase k then m else 0) + e) * timing.erase.cmd
longer timing Read m t r p e h = let a = add-mul m r timing.read.cmd in let b = add-mul 0 p timing.program.cmd in let c = add-mul 0 e timing.erase.cmd in omega arith
longer timing Program m t r p e h = let a = add-mul 0 r timing.read.cmd in let b = add-mul m p timing.program.cmd in let c = add-mul 0 e timing.erase.cmd in omega arith
longer timing Erase m t r p e h = let a = add-mul 0 r timing.read.cmd in let b = add-mul 0 p timing.program.cmd in let c = add-mul m e timing.erase.cmd in omega arith

nothing : (a b c : ℕ) → 0 ≡ 0 * a + 0 * b + 0 * c
nothing a b c = omega arith

luns_long : (timing : Timing) (luns : List LunState) → total (command_time timing) luns ≡ total (commands_on Read) luns * timing.read.cmd + total (commands_on Program) luns * timing.program.cmd + total (commands_on Erase) luns * timing.erase.cmd
luns_long timing [] = nothing timing.read.cmd timing.program.cmd timing.erase.cmd
luns_long timing (Free since ∷ luns) =
    let h = luns_long timing luns in
    let a = add-mul 0 (total (commands_on Read) luns) timing.read.cmd in
    let b = add-mul 0 (total (commands_on Program) luns) timing.program.cmd in
    let c = add-mul 0 (total (commands_on Erase) luns) timing.erase.cmd in
    omega arith
luns_long timing (Running g n r ∷ luns) = rw (of_operation timing (kind_of g)).cmd (longer timing (group_operation g) (commands_left (length g) n) (total (command_time timing) luns) (total (commands_on Read) luns) (total (commands_on Program) luns) (total (commands_on Erase) luns) (luns_long timing luns))

wants_long : (timing : Timing) (ws : List Want) → total (want_command timing) ws ≡ total (one_of Read) ws * timing.read.cmd + total (one_of Program) ws * timing.program.cmd + total (one_of Erase) ws * timing.erase.cmd
wants_long timing [] = nothing timing.read.cmd timing.program.cmd timing.erase.cmd
wants_long timing (w ∷ ws) =
    let h = longer timing (operation_of w.kind) 1 (total (want_command timing) ws) (total (one_of Read) ws) (total (one_of Program) ws) (total (one_of Erase) ws) (wants_long timing ws) in
    let same = (of_operation timing w.kind).cmd in
    let one : 1 * (operation_spans timing (operation_of w.kind)).cmd ≡ (spans_of timing w.kind).cmd = omega arith in
    ap (λ z. z + total (want_command timing) ws) (sym one) ∙ h

-- so long are all of them
pub commands_long : (p : Problem) → commands_of p Read * p.timing.read.cmd + commands_of p Program * p.timing.program.cmd + commands_of p Erase * p.timing.erase.cmd ≡ all_commands p
commands_long p =
    let h = luns_long p.timing p.luns in
    let k = wants_long p.timing p.wants in
    let a = add-mul (total (commands_on Read) p.luns) (total (one_of Read) p.wants) p.timing.read.cmd in
    let b = add-mul (total (commands_on Program) p.luns) (total (one_of Program) p.wants) p.timing.program.cmd in
    let c = add-mul (total (commands_on Erase) p.luns) (total (one_of Erase) p.wants) p.timing.erase.cmd in
    omega arith

-- there is one where they are not 0
pub any_cons : {A : Type 0} (f : A → Bool) (x : A) (xs : List A) → list_any f (x ∷ xs) ≡ (if f x then true else list_any f xs)
any_cons f x xs = elim (cases_Bool (f x)) [ inl k ↦ rw k refl | inr k ↦ rw k refl ]

some_of : (a b : ℕ) → (if nat_lt 0 a then true else nat_lt 0 b) ≡ nat_lt 0 (a + b)
some_of a b = elim (cases_lt 0 a) [
  | inl h ↦ rw (lt-ltb 0 a h, lt-ltb 0 (a + b) (omega arith)) refl
  | inr h ↦ (let e : a + b ≡ b = omega arith in rw (le-ltb 0 a h, e) refl)
]

next_some : (operation : Operation) (x : LunState) → commands_next operation x ≡ nat_lt 0 (commands_on operation x)
next_some operation (Free since) = refl
next_some operation (Running g n r) = elim (cases_Bool (same_operation operation (group_operation g))) [
  | inl s ↦ rw s (elim (cases_lt n (length g)) [
    | inl a ↦ rw (lt-ltb n (length g) a, lt-ltb 0 (length g - n) (omega arith)) refl
    | inr a ↦ (let e : length g - n ≡ 0 = omega arith in rw (le-ltb n (length g) a, e) refl)
  ])
  | inr s ↦ rw s refl
]

want_some : (b : Bool) → b ≡ nat_lt 0 (if b then 1 else 0)
want_some true = refl
want_some false = refl

-- something passes where there is some of what it counts for
any_total : {A : Type 0} (test : A → Bool) (f : A → ℕ) → ((x : A) → test x ≡ nat_lt 0 (f x)) → (xs : List A) → list_any test xs ≡ nat_lt 0 (total f xs)
any_total test f h [] = refl
any_total test f h (x ∷ xs) = any_cons test x xs ∙ rw (h x, any_total test f h xs) (some_of (f x) (total f xs))

pub commands_some : (p : Problem) (operation : Operation) → nat_lt 0 (commands_of p operation) ≡ has_command p operation
commands_some p operation =
    let luns = any_total (commands_next operation) (commands_on operation) (next_some operation) p.luns in
    let wants = any_total (λ w. same_operation operation (operation_of w.kind)) (one_of operation) (λ w. want_some (same_operation operation (operation_of w.kind))) p.wants in
    rw (luns, wants) (sym (some_of (total (commands_on operation) p.luns) (total (one_of operation) p.wants)))

pub operations_some : (p : Problem) (counts : Commands) → AreCommands p counts → (operation : Operation) → has_operation (record { read = nat_lt 0 counts.read; program = nat_lt 0 counts.program; erase = nat_lt 0 counts.erase }) operation ≡ has_command p operation
operations_some p counts h Read = ap (nat_lt 0) (h Read) ∙ commands_some p Read
operations_some p counts h Program = ap (nat_lt 0) (h Program) ∙ commands_some p Program
operations_some p counts h Erase = ap (nat_lt 0) (h Erase) ∙ commands_some p Erase

pub counts_long : (p : Problem) (timing : Timing) (counts : Commands) → timing ≡ p.timing → AreCommands p counts → counts.read * timing.read.cmd + counts.program * timing.program.cmd + counts.erase * timing.erase.cmd ≡ all_commands p
counts_long p timing counts t h =
    let r : counts.read ≡ commands_of p Read = h Read in
    let w : counts.program ≡ commands_of p Program = h Program in
    let e : counts.erase ≡ commands_of p Erase = h Erase in
    rw (t, r, w, e) (commands_long p)

-- where one of an operation is taken, there is one
pub some_there : (k own : Operation) (a c : ℕ) → k ≡ own → a + (if same_operation k own then 1 else 0) ≡ c → 1 ≤ c
some_there k own a c e h =
    let s : same_operation k own ≡ true = ap (same_operation k) (sym e) ∙ same_operation_self k in
    let h' : a + 1 ≡ c = rw s at h in
    omega arith

same_left : (a b c d x y : ℕ) → x ≡ y → a + x ≡ c → c ≡ d → b + y ≡ d → a ≡ b
same_left a b c d x y s h q t = omega arith

pub one_left : (operation k own : Operation) (a b c d : ℕ) → k ≡ own → a + (if same_operation operation k then 1 else 0) ≡ c → c ≡ d → b + (if same_operation operation own then 1 else 0) ≡ d → a ≡ b
one_left operation k own a b c d e h q t = same_left a b c d _ _ (ap (λ z. if same_operation operation z then 1 else 0) e) h q t

module _ (p : Problem) (groups : List (List Want)) (luns : List Lun) (states : map (state_of groups) luns ≡ p.luns) where
  -- the next phase of the group that a LUN names
  named_next : (lun : ℕ) (d : Lun) (group : List Want) → InLimits p → IsMove p (Next lun) → slice_index_or groups (get_or luns lun d).place [] ≡ group → (operation : Operation) → commands_of (after p (Next lun)) operation + (if nat_lt (get_or luns lun d).next (length group) then (if same_operation operation (group_operation group) then 1 else 0) else 0) ≡ commands_of p operation
  named_next lun d group lim (g, n, r, at) same operation =
      let q = runs_by groups luns lun d g n r (subst (λ z. slice_get z lun ≡ Some (Running g n r)) (sym states) at) in
      let e : group ≡ g = sym same ∙ q.group in
      rw (e, q.next, at) (next_takes p lun g n r (max p.bus_free r) operation (lim.problem.running lun g n r at).group.some at)

  pub next_command : (lun : ℕ) (d : Lun) (group : List Want) → InLimits p → IsMove p (Next lun) → slice_index_or groups (get_or luns lun d).place [] ≡ group → (get_or luns lun d).next < length group → (operation : Operation) → commands_of (after p (Next lun)) operation + (if same_operation operation (group_operation group) then 1 else 0) ≡ commands_of p operation
  next_command lun d group lim im same lt operation = let h = named_next lun d group lim im same operation in rw (lt-ltb (get_or luns lun d).next (length group) lt) at h

  pub next_post : (lun : ℕ) (d : Lun) (group : List Want) → InLimits p → IsMove p (Next lun) → slice_index_or groups (get_or luns lun d).place [] ≡ group → length group ≤ (get_or luns lun d).next → (operation : Operation) → commands_of (after p (Next lun)) operation ≡ commands_of p operation
  next_post lun d group lim im same le operation =
      let h = named_next lun d group lim im same operation in
      let k : commands_of (after p (Next lun)) operation + 0 ≡ commands_of p operation = rw (le-ltb (get_or luns lun d).next (length group) le) at h in
      omega arith

  pub within_luns : (lun : ℕ) → lun < length p.luns → lun < length luns
  within_luns lun h = let a = length-map luns (state_of groups) in let b = ap length states in omega arith

  -- the counts of all running groups
  pub luns_counted : (operation : Operation) → total (λ x. commands_on operation (state_of groups x)) luns ≡ total (commands_on operation) p.luns
  luns_counted operation = total_by (λ x. commands_on operation (state_of groups x)) (commands_on operation) (state_of groups) (λ x. refl) luns ∙ ap (total (commands_on operation)) states

-- one more want in a sum
pub counted_one : (a b t u f : ℕ) → a ≡ b + f → b ≡ t → u ≡ t + f → a ≡ u
counted_one a b t u f x y z = omega arith

pub same_count : (same : Bool) (a b i : ℕ) → a ≡ b + (if same then 1 else 0) → b ≤ i → a ≤ i + 1
same_count true a b i e h = omega arith
same_count false a b i e h = omega arith

-- one more LUN in a sum
pub one_lun : (operation : Operation) (groups gs : List (List Want)) (luns : List Lun) (i : ℕ) (d : Lun) (first so_far next : ℕ) → i < length luns → gs ≡ groups → so_far ≡ first + total (λ x. commands_on operation (state_of groups x)) (take i luns) → next ≡ so_far + commands_on operation (state_of gs (get_or luns i d)) → next ≡ first + total (λ x. commands_on operation (state_of groups x)) (take (i + 1) luns)
one_lun operation groups gs luns i d first so_far next h g a b = summed (λ x. commands_on operation (state_of groups x)) luns i d first so_far next h a (b ∙ ap (λ z. so_far + commands_on operation (state_of z (get_or luns i d))) g)

-- all wants and all LUNs
pub all_counted : (operation : Operation) (p : Problem) (groups : List (List Want)) (luns : List Lun) → map (state_of groups) luns ≡ p.luns → (i : ℕ) (first all : ℕ) → length luns ≤ i → all ≡ first + total (λ x. commands_on operation (state_of groups x)) (take i luns) → first ≡ total (one_of operation) p.wants → all ≡ commands_of p operation
all_counted operation p groups luns states i first all h a w =
    let t = luns_counted p groups luns states operation in
    let q = ap (total (λ x. commands_on operation (state_of groups x))) (take_all i luns h) in
    omega arith

-- a move leaves the phase lengths as they are
pub timing_after : (p : Problem) (m : Move) → p.timing ≡ (after p m).timing
timing_after p (Start group) = refl
timing_after p (Next lun) = go (slice_get p.luns lun) (earliest p (Next lun))
  where
    go : (state : Option LunState) (start : ℕ) → p.timing ≡ (next_ran p lun state start).timing
    go None start = refl
    go (Some (Free since)) start = refl
    go (Some (Running group next ready)) start = refl
