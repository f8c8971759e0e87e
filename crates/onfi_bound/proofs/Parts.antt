-- What is read from the parts of a problem.
use Rattle.std.proofs.Common.{◌≡◌, ℕ, suc, ◌+◌, ◌*◌, ◌-◌, ◌^◌, ◌≤◌, ◌<◌, inl, inr, Bool, true, false, if◌then◌else◌, List, [], ◌∷◌, length, map, Some, refl, sym, ◌∙◌, subst, arith, get_or}
use Rattle.std.specs.Prelude.{slice_get, ◌==◌, nat_lt}
use Rattle.std.specs.List.{AllByRecursion as All, list_any}
use Rattle.std.proofs.lemmas.Bool.{cases_Bool, cases_lt, ne_eqb, lt-ltb, le-ltb}
use Rattle.onfi_timing.specs.declared.operation.Operation.{Operation}
use Rattle.onfi_timing.specs.declared.timing.Timing.{Timing}
use Rattle.onfi_timing.specs.Kinds.{operation_of, spans_of}
use Rattle.onfi_timing.specs.Phases.{posts_from}
use Rattle.onfi_request.specs.declared.want.Want.{Want}
use Rattle.onfi_group.specs.Words.{total}
use Rattle.onfi_group.specs.Group.{group_operation, kind_of, group_spans}
use Rattle.onfi_problem.specs.declared.lun_state.LunState.{LunState}
use Rattle.onfi_problem.specs.declared.lun_state.LunState.TheVariants.{Free, Running}
use Rattle.onfi_problem.specs.declared.moves.Lun.{Lun}
use Rattle.onfi_problem.specs.Position.{state_of}
use Rattle.onfi_problem.specs.Problem.{Problem}
use Rattle.onfi_problem.specs.Left.{waits_left, command_time, post_time, want_command, want_post, all_commands, all_posts, InLimits}
use Rattle.onfi_problem.proofs.Limits.{lun_in_limits}
use Rattle.onfi_bound.specs.declared.chain.Chain.{Chain}
use Rattle.onfi_bound.specs.Bounds.{same_operation, commands_next, has_command}
use Rattle.onfi_bound.specs.Parts.{chain_of, IsShort, is_operation}
use Rattle.onfi_bound.proofs.Classes.{times_left}
use Rattle.onfi_bound.proofs.GroupPosts.{posts_short}
use Rattle.onfi_problem.proofs.After.{in_table}
use Rattle.onfi_problem.proofs.Lists.{all_at, total_by, any_by}

placed_from : (groups : List (List Want)) (luns : List Lun) → ((l : ℕ) (g : List Want) (n r : ℕ) → slice_get (map (state_of groups) luns) l ≡ Some (Running g n r) → 1 ≤ length g) → All (λ lun. 1 ≤ lun.next → lun.place < length groups) luns
placed_from groups [] h = tt
placed_from groups (x ∷ luns) h = (λ some. let e : (x.next == 0) ≡ false = ne_eqb x.next 0 (λ e. omega arith) in in_table groups x.place (h 0 _ x.next x.time (rw e refl)), placed_from groups luns (λ l. h (suc l)))

-- running LUNs name groups of the table
pub placed : (p : Problem) (groups : List (List Want)) (luns : List Lun) → InLimits p → map (state_of groups) luns ≡ p.luns → All (λ lun. 1 ≤ lun.next → lun.place < length groups) luns
placed p groups luns lim e = placed_from groups luns (λ l g n r at. (lim.problem.running l g n r (subst (λ xs. slice_get xs l ≡ Some (Running g n r)) e at)).group.some)

pub place_at : (p : Problem) (groups : List (List Want)) (luns : List Lun) (lun : ℕ) (d : Lun) → InLimits p → map (state_of groups) luns ≡ p.luns
    → lun < length luns → 1 ≤ (get_or luns lun d).next → (get_or luns lun d).place < length groups
place_at p groups luns lun d lim e h = all_at (λ (x : Lun). 1 ≤ x.next → x.place < length groups) luns lun d h (placed p groups luns lim e)

running_short : (timing : Timing) (g : List Want) (n : ℕ) → 1 ≤ length g → length g ≤ 4 → ((length g - n) * (group_spans timing g).cmd ≤ 2 ^ 52) × (posts_from (group_spans timing g) (length g) n ≤ 2 ^ 52) × (waits_left (group_spans timing g) (length g) n ≤ 2 ^ 52)
running_short timing g n some few =
    let spans = spans_of timing (kind_of g) in
    let r = spans.in_range in
    let a = times_left (length g - n) 4 spans.cmd (omega arith) in
    let w = times_left (length g - 1 - n) 3 spans.gap (omega arith) in
    (omega arith, posts_short timing g n few, elim (cases_lt n (length g)) [ inl h ↦ rw (lt-ltb n (length g) h) (omega arith) | inr h ↦ rw (le-ltb n (length g) h) (omega arith) ])

pub short_at : (p : Problem) → InLimits p → (l : ℕ) (x : LunState) → slice_get p.luns l ≡ Some x → IsShort (chain_of p.timing x)
short_at p lim l (Free since) at = let a = lun_in_limits p l _ lim at in record { from = a; commands = omega arith; posts = omega arith; waits = omega arith }
short_at p lim l (Running g n r) at =
    let a = lun_in_limits p l _ lim at in
    let i = lim.problem.running l g n r at in
    let s = running_short p.timing g n i.group.some i.group.few in
    record { from = a; commands = s.0; posts = s.1; waits = s.2 }

short_from : (timing : Timing) (luns : List LunState) → ((l : ℕ) (x : LunState) → slice_get luns l ≡ Some x → IsShort (chain_of timing x)) → All IsShort (map (chain_of timing) luns)
short_from timing [] h = tt
short_from timing (x ∷ luns) h = (h 0 x refl, short_from timing luns (λ l. h (suc l)))

pub chains_short : (p : Problem) (chains : List Chain) → InLimits p → chains ≡ map (chain_of p.timing) p.luns → All IsShort chains
chains_short p chains lim e = rw e (short_from p.timing p.luns (short_at p lim))

-- sums over chains
pub own_commands : (timing : Timing) (x : LunState) → (chain_of timing x).commands ≡ command_time timing x
own_commands timing (Free since) = refl
own_commands timing (Running g n r) = refl

pub own_posts : (timing : Timing) (x : LunState) → (chain_of timing x).posts ≡ post_time timing x
own_posts timing (Free since) = refl
own_posts timing (Running g n r) = refl

chain_commands : (timing : Timing) (luns : List LunState) → total (λ (c : Chain). c.commands) (map (chain_of timing) luns) ≡ total (command_time timing) luns
chain_commands timing luns = sym (total_by (command_time timing) (λ (c : Chain). c.commands) (chain_of timing) (λ x. sym (own_commands timing x)) luns)

chain_posts : (timing : Timing) (luns : List LunState) → total (λ (c : Chain). c.posts) (map (chain_of timing) luns) ≡ total (post_time timing) luns
chain_posts timing luns = sym (total_by (post_time timing) (λ (c : Chain). c.posts) (chain_of timing) (λ x. sym (own_posts timing x)) luns)

pub next_operation : (timing : Timing) (operation : Operation) (x : LunState) → is_operation operation (chain_of timing x).command ≡ commands_next operation x
next_operation timing operation (Free since) = refl
next_operation timing operation (Running g n r) = elim (cases_Bool (nat_lt n (length g))) [
  | inl a ↦ elim (cases_Bool (same_operation operation (group_operation g))) [ inl b ↦ simp (a, b) refl | inr b ↦ simp (a, b) refl ]
  | inr a ↦ elim (cases_Bool (same_operation operation (group_operation g))) [ inl b ↦ simp (a, b) refl | inr b ↦ simp (a, b) refl ]
]

pub chain_operations : (timing : Timing) (operation : Operation) (luns : List LunState) → list_any (λ (c : Chain). is_operation operation c.command) (map (chain_of timing) luns) ≡ list_any (commands_next operation) luns
chain_operations timing operation luns = sym (any_by (commands_next operation) (λ (c : Chain). is_operation operation c.command) (chain_of timing) (λ x. sym (next_operation timing operation x)) luns)

-- what the code reads is what is left
pub chains_are : (p : Problem) (timing : Timing) (groups groups' : List (List Want)) (luns : List Lun) (chains : List Chain) → timing ≡ p.timing → groups ≡ groups' → map (state_of groups') luns ≡ p.luns → chains ≡ map (chain_of timing) (map (state_of groups) luns) → chains ≡ map (chain_of p.timing) p.luns
chains_are p timing groups groups' luns chains a b e q = q ∙ rw (a, b, e) refl

pub commands_are : (p : Problem) (timing : Timing) (chains cs : List Chain) (wants ws : List Want) (first all : ℕ) → timing ≡ p.timing → chains ≡ map (chain_of p.timing) p.luns → wants ≡ p.wants → cs ≡ chains → ws ≡ wants → first ≡ total (λ c. c.commands) cs → all ≡ first + total (want_command timing) ws → all ≡ all_commands p
commands_are p timing chains cs wants ws first all t a b c d e q = q ∙ rw (e, c, a, d, b, t, chain_commands p.timing p.luns) refl

pub posts_are : (p : Problem) (timing : Timing) (chains cs : List Chain) (wants ws : List Want) (first all : ℕ) → timing ≡ p.timing → chains ≡ map (chain_of p.timing) p.luns → wants ≡ p.wants → cs ≡ chains → ws ≡ wants → first ≡ total (λ c. c.posts) cs → all ≡ first + total (want_post timing) ws → all ≡ all_posts p
posts_are p timing chains cs wants ws first all t a b c d e q = q ∙ rw (e, c, a, d, b, t, chain_posts p.timing p.luns) refl

pub operations_are : (p : Problem) (operation : Operation) (chains cs : List Chain) (wants ws : List Want) (first all : Bool) → chains ≡ map (chain_of p.timing) p.luns → wants ≡ p.wants → cs ≡ chains → ws ≡ wants → first ≡ list_any (λ c. is_operation operation c.command) cs → all ≡ (if first then true else list_any (λ w. same_operation operation (operation_of w.kind)) ws) → all ≡ has_command p operation
operations_are p operation chains cs wants ws first all a b c d e q = q ∙ rw (e, c, a, d, b, chain_operations p.timing operation p.luns) refl
