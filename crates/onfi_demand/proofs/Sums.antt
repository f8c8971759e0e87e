-- What has the same left has the same sums.
use Rattle.std.proofs.Common.{◌≡◌, ℕ, ◌+◌, ◌*◌, Bool, true, false, if◌then◌else◌, List, [], ◌∷◌, ◌++◌, length, map, Option, Some, None, refl, sym, ap, ◌∙◌, arith}
use Rattle.std.specs.Prelude.{nat_lt, IfSome}
use Rattle.std.specs.List.{AllByRecursion as All, list_any}
use Rattle.std.specs.Option.{option_map}
use Rattle.onfi_timing.specs.declared.operation.Operation.{Operation}
use Rattle.onfi_timing.specs.declared.operation.Operation.TheVariants.{Read, Program, Erase}
use Rattle.onfi_timing.specs.declared.timing.Timing.{Timing}
use Rattle.onfi_timing.specs.Kinds.{operation_spans}
use Rattle.onfi_timing.proofs.Shared.{of_operation}
use Rattle.onfi_request.specs.declared.want.Want.{Want}
use Rattle.onfi_group.specs.declared.rules.Rules.{Rules}
use Rattle.onfi_group.specs.Words.{total}
use Rattle.onfi_group.specs.Group.{group_operation, group_spans, kind_of}
use Rattle.onfi_problem.specs.declared.lun_state.LunState.{LunState}
use Rattle.onfi_problem.specs.declared.lun_state.LunState.TheVariants.{Free, Running}
use Rattle.onfi_problem.specs.Problem.{Problem, IsProblem}
use Rattle.onfi_problem.specs.Moves.{may_go}
use Rattle.onfi_problem.specs.Left.{commands_left, waits_left, command_time, post_time, chain_time, want_command, want_post, all_commands, all_posts}
use Rattle.onfi_bound.specs.Bounds.{least, to_post, commands_next, same_operation, has_command, behind_commands, trail, trail_from, wants_work, die_at}
use Rattle.onfi_problem.proofs.Lists.{total_by, any_by}
use Rattle.onfi_demand.specs.Left.{LunLeft, Idle, Rest, left_on, sectors_left, SameLeft, has_left_at}
use Rattle.onfi_demand.specs.Remaining.{lengths_left, posts_rest, with_posts}
use Rattle.onfi_demand.specs.Window.{chain_from}
use Rattle.onfi_demand.proofs.Agreeing.{RunsAlike, agree_chain, agree_group, agree_posts, runs_alike, waits_by}
use Rattle.onfi_demand.proofs.Alike.{Alike, of_same}

total_alike : (f : LunState → ℕ) (g : LunLeft → ℕ) → ((x : LunState) → f x ≡ g (left_on x)) → (xs ys : List LunState) → Alike xs ys → total f xs ≡ total f ys
total_alike f g h xs ys e = total_by f g left_on h xs ∙ (ap (total g) e ∙ sym (total_by f g left_on h ys))

any_alike : (f : LunState → Bool) (g : LunLeft → Bool) → ((x : LunState) → f x ≡ g (left_on x)) → (xs ys : List LunState) → Alike xs ys → list_any f xs ≡ list_any f ys
any_alike f g h xs ys e = any_by f g left_on h xs ∙ (ap (list_any g) e ∙ sym (any_by f g left_on h ys))

command_rest : Timing → LunLeft → ℕ
command_rest timing Idle = 0
command_rest timing (Rest operation k sectors n) = commands_left k n * (operation_spans timing operation).cmd

next_rest : Operation → LunLeft → Bool
next_rest operation Idle = false
next_rest operation (Rest other k sectors n) = if same_operation operation other then nat_lt n k else false

command_by : (timing : Timing) (x : LunState) → command_time timing x ≡ command_rest timing (left_on x)
unfolding command_rest
command_by timing (Free since) = refl
command_by timing (Running g n r) = ap (λ z. commands_left (length g) n * z) (of_operation timing (kind_of g)).cmd

pub post_by : (timing : Timing) (x : LunState) → RunsAlike x → post_time timing x ≡ posts_rest timing (left_on x)
post_by timing (Free since) h = refl
post_by timing (Running g n r) h = agree_posts (length g) (group_spans timing g) (lengths_left timing (group_operation g) (length g) (sectors_left g n)) n (agree_group timing g n h)

all_posts_by : (timing : Timing) (luns : List LunState) → All RunsAlike luns → total (post_time timing) luns ≡ total (posts_rest timing) (map left_on luns)
all_posts_by timing [] h = refl
all_posts_by timing (x ∷ luns) h = let a = post_by timing x h.0 in let b = all_posts_by timing luns h.1 in omega arith

running_posts_alike : (timing : Timing) (xs ys : List LunState) → All RunsAlike xs → All RunsAlike ys → Alike xs ys → total (post_time timing) xs ≡ total (post_time timing) ys
running_posts_alike timing xs ys hx hy e = all_posts_by timing xs hx ∙ (ap (total (posts_rest timing)) e ∙ sym (all_posts_by timing ys hy))

next_by : (operation : Operation) (x : LunState) → commands_next operation x ≡ next_rest operation (left_on x)
unfolding next_rest
next_by operation (Free since) = refl
next_by operation (Running g n r) = refl

pub same_commands : (p q : Problem) → SameLeft p q → all_commands p ≡ all_commands q
same_commands p q s = of_same (λ z. all_commands p ≡ all_commands z) p q s (ap (λ n. n + total (want_command p.timing) p.wants) (total_alike (command_time p.timing) (command_rest p.timing) (command_by p.timing) p.luns q.luns s.luns))

pub same_posts : (p q : Problem) → IsProblem p → IsProblem q → SameLeft p q → all_posts p ≡ all_posts q
same_posts p q ip iq s = of_same (λ z. all_posts p ≡ all_posts z) p q s (ap (λ n. n + total (want_post p.timing) p.wants) (running_posts_alike p.timing p.luns q.luns (runs_alike p ip) (runs_alike q iq) s.luns))

same_command : (p q : Problem) (operation : Operation) → SameLeft p q → has_command p operation ≡ has_command q operation
same_command p q operation s = of_same (λ z. has_command p operation ≡ has_command z operation) p q s (rw (any_alike (commands_next operation) (next_rest operation) (next_by operation) p.luns q.luns s.luns) refl)

-- what is after the last command
abbrev pub rest_behind : Problem → Option ℕ
rest_behind p = least (behind_commands p Read ++ (behind_commands p Program ++ behind_commands p Erase))

same_rest : (p q : Problem) → SameLeft p q → rest_behind p ≡ rest_behind q
same_rest p q s = rw (same_command p q Read s, same_command p q Program s, same_command p q Erase s, s.timing) refl

pub trail_alike : (p q : Problem) (t : ℕ) → SameLeft p q → trail p ≡ Some t → (u : ℕ) × (t ≡ p.bus_free + u) × (trail q ≡ Some (q.bus_free + u))
trail_alike p q t s h = go (rest_behind p) refl
  where
    go : (o : Option ℕ) → rest_behind p ≡ o → (u : ℕ) × (t ≡ p.bus_free + u) × (trail q ≡ Some (q.bus_free + u))
    go None e = let k : trail_from p None ≡ Some t = rw e at h in cc
    go (Some rest) e =
        let k : trail_from p (Some rest) ≡ Some t = rw e at h in
        let v : p.bus_free + all_commands p + rest ≡ t = cc in
        let c = same_commands p q s in
        let there : rest_behind q ≡ Some rest = sym (same_rest p q s) ∙ e in
        let sum : q.bus_free + all_commands q + rest ≡ q.bus_free + (all_commands p + rest) = omega arith in
        (all_commands p + rest, omega arith, rw there (ap Some sum))

-- how long to the first post, by what is left
rest_to_post : Timing → LunLeft → Option ℕ
rest_to_post timing Idle = None
rest_to_post timing (Rest operation k sectors n) = Some (commands_left k n * (operation_spans timing operation).cmd + waits_left (with_posts (operation_spans timing operation) []) k n)

to_post_by : (timing : Timing) (ws : List Want) (g : List Want) (n r : ℕ) → to_post timing ws (Running g n r) ≡ rest_to_post timing (left_on (Running g n r))
unfolding rest_to_post
to_post_by timing ws g n r =
    let shared = of_operation timing (kind_of g) in
    let cmd = ap (λ z. commands_left (length g) n * z) shared.cmd in
    let waits = waits_by (length g) n (group_spans timing g) (with_posts (operation_spans timing (group_operation g)) []) shared.gap shared.array in
    let sum : commands_left (length g) n * (group_spans timing g).cmd + waits_left (group_spans timing g) (length g) n ≡ commands_left (length g) n * (operation_spans timing (group_operation g)).cmd + waits_left (with_posts (operation_spans timing (group_operation g)) []) (length g) n = omega arith in
    ap Some sum

pub post_alike : (timing : Timing) (ws : List Want) (x y : LunState) → left_on x ≡ left_on y → to_post timing ws x ≡ to_post timing ws y
post_alike timing ws (Free a) (Free b) e = refl
post_alike timing ws (Free a) (Running g n r) e = cc
post_alike timing ws (Running g n r) (Free b) e = cc
post_alike timing ws (Running g n r) (Running g' n' r') e = to_post_by timing ws g n r ∙ (ap (rest_to_post timing) e ∙ sym (to_post_by timing ws g' n' r'))

pub post_rest : (timing : Timing) (ws : List Want) (x : LunState) (operation : Operation) (k n : ℕ) (sectors : List ℕ) → left_on x ≡ Rest operation k sectors n → to_post timing ws x ≡ Some (commands_left k n * (operation_spans timing operation).cmd + waits_left (with_posts (operation_spans timing operation) []) k n)
unfolding rest_to_post
post_rest timing ws (Free a) operation k n sectors e = cc
post_rest timing ws (Running g m r) operation k n sectors e = to_post_by timing ws g m r ∙ ap (rest_to_post timing) e

-- what a LUN with something left takes after the time from which it may go on
abbrev pub work_at : Timing → Rules → List Want → Option LunState → ℕ
work_at timing rules ws (Some (Running g n r)) = chain_time timing (Running g n r) + wants_work timing rules ws
work_at timing rules ws _ = wants_work timing rules ws

pub die_is : (p : Problem) (l : ℕ) (ws : List Want) (o : Option LunState) → has_left_at ws o ≡ true → die_at p l ws o ≡ may_go p l + work_at p.timing p.rules ws o
die_is p l ws (Some (Running g n r)) h = omega arith
die_is p l [] None h = cc
die_is p l [] (Some (Free a)) h = cc
die_is p l (w ∷ ws) None h = refl
die_is p l (w ∷ ws) (Some (Free a)) h = refl

pub die_idle : (p : Problem) (l : ℕ) (ws : List Want) (o : Option LunState) → has_left_at ws o ≡ false → die_at p l ws o ≡ p.bus_free
die_idle p l ws (Some (Running g n r)) h = cc
die_idle p l [] None h = refl
die_idle p l [] (Some (Free a)) h = refl
die_idle p l (w ∷ ws) None h = cc
die_idle p l (w ∷ ws) (Some (Free a)) h = cc

abbrev work_rest : Timing → Rules → List Want → Option LunLeft → ℕ
work_rest timing rules ws (Some (Rest operation k sectors n)) = chain_from (lengths_left timing operation k sectors) k n + wants_work timing rules ws
work_rest timing rules ws _ = wants_work timing rules ws

work_by : (timing : Timing) (rules : Rules) (ws : List Want) (o : Option LunState) → IfSome o RunsAlike → work_at timing rules ws o ≡ work_rest timing rules ws (option_map left_on o)
work_by timing rules ws None h = refl
work_by timing rules ws (Some (Free a)) h = refl
work_by timing rules ws (Some (Running g n r)) h = ap (λ z. z + wants_work timing rules ws) (agree_chain (length g) (group_spans timing g) (lengths_left timing (group_operation g) (length g) (sectors_left g n)) n (agree_group timing g n h))

pub work_alike : (timing : Timing) (rules : Rules) (ws : List Want) (a b : Option LunState) → IfSome a RunsAlike → IfSome b RunsAlike → option_map left_on a ≡ option_map left_on b → work_at timing rules ws a ≡ work_at timing rules ws b
work_alike timing rules ws a b ha hb e = work_by timing rules ws a ha ∙ (ap (work_rest timing rules ws) e ∙ sym (work_by timing rules ws b hb))
