-- Lengths that agree from a phase on: those of a group, and those that are known of what is left of it.
use Rattle.std.proofs.Common.{◌≡◌, ℕ, zero, suc, ◌+◌, ◌*◌, ◌-◌, ◌≤◌, inl, inr, List, [], ◌∷◌, ◌++◌, length, map, drop, replicate, get_or, Some, refl, sym, ap, ◌∙◌, subst, arith}
use Rattle.std.specs.Prelude.{slice_get, nat_lt, if◌then◌else◌, ◌==◌, IfSome}
use Rattle.std.specs.List.{AllByRecursion as All, sum}
use Rattle.std.proofs.lemmas.Bool.{cases_lt}
use Rattle.std.proofs.lemmas.List.{length-map, length-drop, drop-map, drop-drop, get_or-drop}
use Rattle.onfi_timing.specs.declared.kind.Kind.{Kind}
use Rattle.onfi_timing.specs.declared.kind.Kind.TheVariants.{Read, Program, Erase, ReadSectors}
use Rattle.onfi_timing.specs.declared.operation.Operation.{Operation}
use Rattle.onfi_timing.specs.declared.timing.Timing.{Timing}
use Rattle.onfi_timing.specs.Kinds.{operation_of, sectors_of, spans_of}
use Rattle.onfi_timing.specs.Phases.{Lengths, phase_length, wait_before, posts_from}
use Rattle.onfi_timing.proofs.Phases.{command_length, post_length}
use Rattle.onfi_timing.proofs.Shared.{of_operation}
use Rattle.onfi_request.specs.declared.want.Want.{Want}
use Rattle.onfi_group.specs.Group.{group_operation, group_spans, kind_of}
use Rattle.onfi_problem.specs.declared.lun_state.LunState.{LunState}
use Rattle.onfi_problem.specs.declared.lun_state.LunState.TheVariants.{Free, Running}
use Rattle.onfi_problem.specs.Left.{commands_left, waits_left}
use Rattle.onfi_problem.specs.Problem.{Problem, IsProblem}
use Rattle.onfi_problem.proofs.Lists.{some_of_all}
use Rattle.onfi_demand.specs.Left.{sectors_left}
use Rattle.onfi_demand.specs.Remaining.{post_of, posts_left, lengths_left}
use Rattle.onfi_demand.specs.Window.{PhaseLeft, chain_from, group_phase, group_left}

-- the same is left of groups of k from phase n on
pub record Agree (k n : ℕ) (a b : Lengths) : Type 0 where
  pub cmd : a.cmd ≡ b.cmd
  pub gap : a.gap ≡ b.gap
  pub array : a.array ≡ b.array
  pub posts : drop (n - k) a.posts ≡ drop (n - k) b.posts

-- waits are by gap and array alone
pub waits_by : (k m : ℕ) (a b : Lengths) → a.gap ≡ b.gap → a.array ≡ b.array → waits_left a k m ≡ waits_left b k m
waits_by k m a b gap array = ap (λ z. if nat_lt m k then (k - 1 - m) * z + a.array else 0) gap ∙ ap (λ z. if nat_lt m k then (k - 1 - m) * b.gap + z else 0) array

-- all that looks at phases from n on is the same
module _ (k : ℕ) (a b : Lengths) where
  pub agree_later : (n m : ℕ) → n ≤ m → Agree k n a b → Agree k m a b
  agree_later n m le h =
      let x = m - k - (n - k) in
      let more : n - k + x ≡ m - k = omega arith in
      record {
        cmd = h.cmd;
        gap = h.gap;
        array = h.array;
        posts = subst (λ i. drop i a.posts ≡ drop i b.posts) more (sym (drop-drop x (n - k) a.posts) ∙ (ap (drop x) h.posts ∙ drop-drop x (n - k) b.posts));
      }

  pub agree_length : (n : ℕ) → Agree k n a b → phase_length a k n ≡ phase_length b k n
  agree_length n h = elim (cases_lt n k) [
    | inl l ↦ command_length a k n l ∙ (h.cmd ∙ sym (command_length b k n l))
    | inr l ↦ (
        let none : n - k + 0 ≡ n - k = omega arith in
        let one = get_or-drop (n - k) a.posts 0 0 ∙ ap (λ i. get_or a.posts i 0) none in
        let two = get_or-drop (n - k) b.posts 0 0 ∙ ap (λ i. get_or b.posts i 0) none in
        post_length a k n l ∙ (sym one ∙ (ap (λ ps. get_or ps 0 0) h.posts ∙ (two ∙ sym (post_length b k n l)))))
  ]

  pub agree_wait : (n m : ℕ) → Agree k n a b → wait_before a k m ≡ wait_before b k m
  agree_wait n m h = ap (λ z. if nat_lt m k then z else (if m == k then a.array else 0)) h.gap ∙ ap (λ z. if nat_lt m k then b.gap else (if m == k then z else 0)) h.array

  pub agree_posts : (n : ℕ) → Agree k n a b → posts_from a k n ≡ posts_from b k n
  agree_posts n h = ap sum h.posts

  pub agree_chain : (n : ℕ) → Agree k n a b → chain_from a k n ≡ chain_from b k n
  agree_chain n h =
      let cmd = ap (λ z. commands_left k n * z) h.cmd in
      let posts = agree_posts n h in
      let waits = waits_by k n a b h.gap h.array in
      omega arith

  agree_tail : (n rest : ℕ) → Agree k n a b → wait_before a k (n + 1) + chain_from a k (n + 1) + rest ≡ wait_before b k (n + 1) + chain_from b k (n + 1) + rest
  agree_tail n rest h =
      let wait = agree_wait n (n + 1) h in
      let chain = agree_chain (n + 1) (agree_later n (n + 1) (omega arith) h) in
      omega arith

  pub agree_phases : (count n rest from : ℕ) → Agree k n a b → group_left a k rest count n from ≡ group_left b k rest count n from
  agree_phases zero n rest from h = refl
  agree_phases (suc count) n rest from h =
      let long = agree_length n h in
      let wait = agree_wait n (n + 1) h in
      let tail = agree_tail n rest h in
      let next : from + phase_length a k n + wait_before a k (n + 1) ≡ from + phase_length b k n + wait_before b k (n + 1) = omega arith in
      let phase : group_phase a k rest n from ≡ group_phase b k rest n from =
      ap (λ l. one from l (wait_before a k (n + 1) + chain_from a k (n + 1) + rest)) long ∙ ap (λ t. one from (phase_length b k n) t) tail in
      let more : group_left a k rest count (n + 1) (from + phase_length a k n + wait_before a k (n + 1)) ≡ group_left b k rest count (n + 1) (from + phase_length b k n + wait_before b k (n + 1)) =
      ap (λ i. group_left a k rest count (n + 1) i) next ∙ agree_phases count (n + 1) rest (from + phase_length b k n + wait_before b k (n + 1)) (agree_later n (n + 1) (omega arith) h) in
      ap (λ p. p ∷ group_left a k rest count (n + 1) (from + phase_length a k n + wait_before a k (n + 1))) phase ∙ ap (λ ps. group_phase b k rest n from ∷ ps) more
    where
      one : ℕ → ℕ → ℕ → PhaseLeft
      one from long tail = record { from = from; length = long; tail = tail }

pub agree_both : (k n : ℕ) (a b c : Lengths) → Agree k n a c → Agree k n b c → Agree k n a b
agree_both k n a b c x y = record { cmd = x.cmd ∙ sym y.cmd; gap = x.gap ∙ sym y.gap; array = x.array ∙ sym y.array; posts = x.posts ∙ sym y.posts }

abbrev pub IsAlike : List Want → Type 0
IsAlike g = All (λ m. operation_of m.kind ≡ group_operation g) g

-- what runs on a LUN is of one operation
abbrev pub RunsAlike : LunState → Type 0
RunsAlike (Free since) = Unit {0}
RunsAlike (Running g n r) = IsAlike g

-- the operation and the sectors of a kind give its post
post_of_kind : (timing : Timing) (kind : Kind) → post_of timing (operation_of kind) (sectors_of kind) ≡ (spans_of timing kind).post
post_of_kind timing Read = refl
post_of_kind timing Program = refl
post_of_kind timing Erase = refl
post_of_kind timing (ReadSectors first count) = refl

posts_of_operation : (timing : Timing) (operation : Operation) (ms : List Want) → All (λ m. operation_of m.kind ≡ operation) ms → map (λ m. (spans_of timing m.kind).post) ms ≡ map (post_of timing operation) (map (λ m. sectors_of m.kind) ms)
posts_of_operation timing operation [] h = refl
posts_of_operation timing operation (m ∷ ms) h =
    let post : (spans_of timing m.kind).post ≡ post_of timing operation (sectors_of m.kind) = sym (post_of_kind timing m.kind) ∙ ap (λ o. post_of timing o (sectors_of m.kind)) h.0 in
    let more = posts_of_operation timing operation ms h.1 in
    ap (λ p. p ∷ map (λ m. (spans_of timing m.kind).post) ms) post ∙ ap (λ ps. post_of timing operation (sectors_of m.kind) ∷ ps) more

each_drop : (P : Want → Type 0) (j : ℕ) (ms : List Want) → All P ms → All P (drop j ms)
each_drop P zero ms h = h
each_drop P (suc j) [] h = tt
each_drop P (suc j) (m ∷ ms) h = each_drop P j ms h.1

-- after the zeros of what is over comes what is left
pub past_zeros : (k j : ℕ) (ps : List ℕ) → length ps ≡ k - j → drop j (replicate (k - length ps) 0 ++ ps) ≡ ps
past_zeros k zero ps h = let none : k - length ps ≡ 0 = omega arith in rw none refl
past_zeros zero (suc j) [] h = refl
past_zeros zero (suc j) (p ∷ ps) h = absurd (omega arith)
past_zeros (suc k) (suc j) ps h = let more : suc k - length ps ≡ suc (k - length ps) = omega arith in rw more (past_zeros k j ps (omega arith))

-- that many posts are left
pub sectors_length : (g : List Want) (n : ℕ) → length (sectors_left g n) ≡ length g - (n - length g)
sectors_length g n = length-map (drop (n - length g) g) (λ m. sectors_of m.kind) ∙ length-drop (n - length g) g

-- what is known of the rest of a group gives its lengths from then on
pub agree_group : (timing : Timing) (g : List Want) (n : ℕ) → IsAlike g → Agree (length g) n (group_spans timing g) (lengths_left timing (group_operation g) (length g) (sectors_left g n))
agree_group timing g n alike =
    let shared = of_operation timing (kind_of g) in
    let j = n - length g in
    let posts = map (post_of timing (group_operation g)) (sectors_left g n) in
    let size : length posts ≡ length g - j = length-map (sectors_left g n) (post_of timing (group_operation g)) ∙ sectors_length g n in
    let own = posts_of_operation timing (group_operation g) (drop j g) (each_drop (λ m. operation_of m.kind ≡ group_operation g) j g alike) in
    let count : length posts ≡ length (sectors_left g n) = length-map (sectors_left g n) (post_of timing (group_operation g)) in
    let past : drop j (posts_left timing (group_operation g) (length g) (sectors_left g n)) ≡ posts = subst (λ i. drop j (replicate (length g - i) 0 ++ posts) ≡ posts) count (past_zeros (length g) j posts size) in
    record {
      cmd = shared.cmd;
      gap = shared.gap;
      array = shared.array;
      posts = drop-map (λ m. (spans_of timing m.kind).post) j g ∙ (own ∙ sym past);
    }

-- two groups of which the same is left agree
pub agree_groups : (timing : Timing) (g g' : List Want) (n : ℕ) → IsAlike g → IsAlike g' → group_operation g ≡ group_operation g' → length g ≡ length g' → sectors_left g n ≡ sectors_left g' n → Agree (length g) n (group_spans timing g) (group_spans timing g')
agree_groups timing g g' n own other operation size sectors =
    let there = agree_group timing g' n other in
    let same : lengths_left timing (group_operation g') (length g') (sectors_left g' n) ≡ lengths_left timing (group_operation g) (length g) (sectors_left g n) =
    ap (λ o. lengths_left timing o (length g') (sectors_left g' n)) (sym operation) ∙ (ap (λ k. lengths_left timing (group_operation g) k (sectors_left g' n)) (sym size) ∙ ap (λ s. lengths_left timing (group_operation g) (length g) s) (sym sectors)) in
    let there' = subst (λ k. Agree k n (group_spans timing g') (lengths_left timing (group_operation g') (length g') (sectors_left g' n))) (sym size) there in
    agree_both (length g) n (group_spans timing g) (group_spans timing g') (lengths_left timing (group_operation g) (length g) (sectors_left g n)) (agree_group timing g n own) (subst (λ l. Agree (length g) n (group_spans timing g') l) same there')

abbrev sectors : Want → ℕ
sectors m = sectors_of m.kind

-- where the same is left, the same is left after one phase more
pub sectors_later : (g g' : List Want) (n : ℕ) → length g ≡ length g' → sectors_left g n ≡ sectors_left g' n → sectors_left g (n + 1) ≡ sectors_left g' (n + 1)
sectors_later g g' n size same = later g ∙ (ap (drop (n + 1 - length g - (n - length g))) same ∙ (ap (λ k. drop (n + 1 - k - (n - k)) (sectors_left g' n)) size ∙ sym (later g')))
  where
    later : (ms : List Want) → sectors_left ms (n + 1) ≡ drop (n + 1 - length ms - (n - length ms)) (sectors_left ms n)
    later ms =
        let j = n - length ms in
        let x = n + 1 - length ms - j in
        let more : j + x ≡ n + 1 - length ms = omega arith in
        ap (λ i. map sectors (drop i ms)) (sym more) ∙ (ap (map sectors) (sym (drop-drop x j ms)) ∙ sym (drop-map sectors x (drop j ms)))

all_alike : (luns : List LunState) → ((l : ℕ) (g : List Want) (n r : ℕ) → slice_get luns l ≡ Some (Running g n r) → IsAlike g) → All RunsAlike luns
all_alike [] h = tt
all_alike (Free since ∷ luns) h = (tt, all_alike luns (λ l. h (suc l)))
all_alike (Running g n r ∷ luns) h = (h 0 g n r refl, all_alike luns (λ l. h (suc l)))

-- each running group of a problem is of one operation
pub runs_alike : (p : Problem) → IsProblem p → All RunsAlike p.luns
runs_alike p ip = all_alike p.luns (λ l g n r at. (ip.running l g n r at).group.operation)

pub runs_alike_at : (p : Problem) (l : ℕ) → IsProblem p → IfSome (slice_get p.luns l) RunsAlike
runs_alike_at p l ip = some_of_all RunsAlike p.luns l (runs_alike p ip)

-- .. and the group on one of some LUNs
pub group_alike : (luns : List LunState) (l : ℕ) (g : List Want) (n r : ℕ) → All RunsAlike luns → slice_get luns l ≡ Some (Running g n r) → IsAlike g
group_alike luns l g n r h at = subst (λ o. IfSome o RunsAlike) at (some_of_all RunsAlike luns l h)
