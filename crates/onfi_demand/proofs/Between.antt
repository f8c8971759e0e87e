-- The window bound is at most the finish of each run.
use Rattle.std.proofs.Common.{◌≡◌, ◌≢◌, ℕ, zero, suc, ◌+◌, ◌*◌, ◌-◌, ◌≤◌, ◌<◌, inl, inr, true, false, List, [], ◌∷◌, ◌++◌, length, drop, get_or, Option, Some, None, refl, sym, ap, ◌∙◌, arith}
use Rattle.std.specs.Prelude.{slice_get, max, nat_le, if◌then◌else◌, ◌==◌}
use Rattle.std.specs.List.{AllByRecursion as All}
use Rattle.std.proofs.lemmas.List.{get_or-map, drop_more, drop_all}
use Rattle.std.proofs.lemmas.List.Sums.{get_or-le-sum_by}
use Rattle.std.proofs.lemmas.Bool.{cases_Bool, cases_lt, lt-ltb, le-ltb, eq-eqb, ne_eqb, leb-true, le-leb}
use Rattle.onfi_timing.specs.declared.timing.Timing.{Timing}
use Rattle.onfi_timing.specs.Kinds.{operation_of, spans_of}
use Rattle.onfi_timing.specs.Phases.{Lengths, phase_length, wait_before, posts_from}
use Rattle.onfi_timing.specs.Sectors.{IsAlike}
use Rattle.onfi_timing.proofs.Phases.{command_length, posts_past_command, posts_past_post, posts_past_all, posts_of_all}
use Rattle.onfi_timing.proofs.Shared.{one_operation}
use Rattle.onfi_request.specs.declared.want.Want.{Want}
use Rattle.onfi_group.specs.declared.rules.Rules.{Rules}
use Rattle.onfi_group.specs.Words.{Has, total}
use Rattle.onfi_group.specs.Group.{group_operation, group_spans, kind_of, lun_of, IsStartable}
use Rattle.onfi_group.proofs.PhaseLengths.{no_want, posts_length, member_post}
use Rattle.onfi_problem.specs.declared.lun_state.LunState.{LunState}
use Rattle.onfi_problem.specs.declared.lun_state.LunState.TheVariants.{Free, Running}
use Rattle.onfi_problem.specs.Problem.{Problem, IsProblem}
use Rattle.onfi_problem.specs.Moves.{Move, Next, Start, IsMove, IsDone, earliest, placed, move_lun, lun_after, ran_with, without, may_go, free_from}
use Rattle.onfi_problem.proofs.Kept.{kept}
use Rattle.onfi_problem.proofs.LunAfter.{lun_after_running, lun_after_free}
use Rattle.onfi_problem.proofs.Perm.{All-has, All-each}
use Rattle.onfi_problem.proofs.Places.{get_set_same, get_set_other, same_place, length_set}
use Rattle.onfi_problem.proofs.Totals.{split_total, startable_wanted, startable_apart}
use Rattle.onfi_problem.proofs.Waits.{one_wait}
use Rattle.onfi_problem.proofs.Wants.{Pairs-filter, Has-filter}
use Rattle.onfi_problem.proofs.Work.{one_less}
use Rattle.onfi_problem.proofs.Lists.{all_at}
use Rattle.onfi_schedule.proofs.Exchange.{not_member}
use Rattle.onfi_bound.specs.Bounds.{on_lun, wants_work, die, die_at}
use Rattle.onfi_bound.proofs.DieBound.{die_bound, on_lun_other, no_work, on_lun_own}
use Rattle.onfi_demand.proofs.Opened.{left_there}
use Rattle.onfi_demand.proofs.Sooner.{move_has}
use Rattle.onfi_demand.specs.Window.{PhaseLeft, chain_from, group_phase, group_left, wants_left, phases_left_at, phases_left_on, is_within, within, sum_of, window, WindowLaw}

-- pointwise later, after a shift of the time from which the LUN may go on
abbrev pub Later : ℕ → List PhaseLeft → List PhaseLeft → Type 0
Later a [] [] = Unit {0}
Later a (x ∷ xs) (y ∷ ys) = (x.from ≤ a + y.from) × (x.length ≡ y.length) × (x.tail ≤ y.tail) × Later a xs ys
Later a [] (y ∷ ys) = ⊥
Later a (x ∷ xs) [] = ⊥

-- the length of one phase, where it is within
unfoldable pub one : ℕ → ℕ → ℕ → PhaseLeft → ℕ
one go r q x = if is_within go r q x then x.length else 0

pub one_in : (go r q : ℕ) (x : PhaseLeft) → r ≤ go + x.from → q ≤ x.tail → one go r q x ≡ x.length
unfolding one
one_in go r q x h k = rw (le-leb r (go + x.from) h, le-leb q x.tail k) refl

one_early : (go r q : ℕ) (x : PhaseLeft) → nat_le r (go + x.from) ≡ false → one go r q x ≡ 0
unfolding one
one_early go r q x h = rw h refl

one_short : (go r q : ℕ) (x : PhaseLeft) → nat_le q x.tail ≡ false → one go r q x ≡ 0
unfolding one
one_short go r q x h = elim (cases_Bool (nat_le r (go + x.from))) [ inl k ↦ rw (k, h) refl | inr k ↦ rw k refl ]

-- a phase that is within where another is has its length at least
one_more : (go go' r r' q : ℕ) (x y : PhaseLeft) → x.length ≡ y.length → x.tail ≤ y.tail → (r ≤ go + x.from → r' ≤ go' + y.from) → one go r q x ≤ one go' r' q y
one_more go go' r r' q x y same tail later =
    elim (cases_Bool (nat_le q x.tail)) [
      | inr k ↦ (let z = one_short go r q x k in omega arith)
      | inl k ↦ (
          let t = leb-true q x.tail k in
          elim (cases_Bool (nat_le r (go + x.from))) [
            | inr h ↦ (let z = one_early go r q x h in omega arith)
            | inl h ↦ (
                let s = leb-true r (go + x.from) h in
                let a = one_in go r q x s t in
                let b = one_in go' r' q y (later s) (omega arith) in
                omega arith)
          ])
    ]

pub within_cons : (go r q : ℕ) (x : PhaseLeft) (xs : List PhaseLeft) → within go r q (x ∷ xs) ≡ one go r q x + within go r q xs
unfolding one
within_cons go r q x xs = refl

pub within_append : (go r q : ℕ) (xs ys : List PhaseLeft) → within go r q (xs ++ ys) ≡ within go r q xs + within go r q ys
within_append go r q [] ys = omega arith
within_append go r q (x ∷ xs) ys =
    let e = within_append go r q xs ys in
    let a = within_cons go r q x (xs ++ ys) in
    let b = within_cons go r q x xs in
    omega arith

within_later : (a go go' r q : ℕ) (xs ys : List PhaseLeft) → Later a xs ys → go + a ≤ go' → within go r q xs ≤ within go' r q ys
within_later a go go' r q [] [] h le = omega arith
within_later a go go' r q [] (y ∷ ys) h le = absurd h
within_later a go go' r q (x ∷ xs) [] h le = absurd h
within_later a go go' r q (x ∷ xs) (y ∷ ys) (from, same, tail, rest) le =
    let e = within_later a go go' r q xs ys rest le in
    let o = one_more go go' r r q x y same tail (λ s. omega arith) in
    let b = within_cons go r q x xs in
    let c = within_cons go' r q y ys in
    omega arith

-- from r' on all is within whose tail is long enough
pub within_all : (go go' r r' q : ℕ) (xs : List PhaseLeft) → r' ≤ go' → within go r q xs ≤ within go' r' q xs
within_all go go' r r' q [] le = omega arith
within_all go go' r r' q (x ∷ xs) le =
    let e = within_all go go' r r' q xs le in
    let o = one_more go go' r r' q x x refl (omega arith) (λ s. omega arith) in
    let b = within_cons go r q x xs in
    let c = within_cons go' r' q x xs in
    omega arith

later_self : (a : ℕ) (xs : List PhaseLeft) → Later a xs xs
later_self a [] = tt
later_self a (x ∷ xs) = (omega arith, refl, omega arith, later_self a xs)

pub within_sooner : (go go' r q : ℕ) (xs : List PhaseLeft) → go ≤ go' → within go r q xs ≤ within go' r q xs
within_sooner go go' r q xs le = within_later 0 go go' r q xs xs (later_self 0 xs) (omega arith)

later_group : (a : ℕ) (spans : Lengths) (k rest count n from from' : ℕ) → from ≤ a + from' → Later a (group_left spans k rest count n from) (group_left spans k rest count n from')
later_group a spans k rest zero n from from' h = tt
later_group a spans k rest (suc count) n from from' h = (h, refl, omega arith, later_group a spans k rest count (n + 1) _ _ (omega arith))

later_wants : (a : ℕ) (timing : Timing) (from from' : ℕ) (ws : List Want) → from ≤ a + from' → Later a (wants_left timing from ws) (wants_left timing from' ws)
later_wants a timing from from' [] h = tt
later_wants a timing from from' (w ∷ ws) h = (h, refl, omega arith, (omega arith, refl, omega arith, later_wants a timing from from' ws h))

later_append : (a : ℕ) (xs ys xs' ys' : List PhaseLeft) → Later a xs xs' → Later a ys ys' → Later a (xs ++ ys) (xs' ++ ys')
later_append a [] ys [] ys' h k = k
later_append a [] ys (x' ∷ xs') ys' h k = absurd h
later_append a (x ∷ xs) ys [] ys' h k = absurd h
later_append a (x ∷ xs) ys (x' ∷ xs') ys' (f, l, t, rest) k = (f, l, t, later_append a xs ys xs' ys' rest k)

-- a chain is its first phase, the wait after it and the rest
pub chain_step : (lengths : Lengths) (k n : ℕ) → length lengths.posts ≡ k → n < 2 * k → chain_from lengths k n ≡ phase_length lengths k n + wait_before lengths k (n + 1) + chain_from lengths k (n + 1)
chain_step lengths k n size h =
    let b = one_wait lengths k n in
    elim (cases_lt n k) [
      | inl a ↦ (
          let e = one_less k n lengths.cmd a in
          let c = command_length lengths k n a in
          let p = posts_past_command lengths k n a in
          omega arith)
      | inr a ↦ (
          let e : k - n ≡ 0 = omega arith in
          let e' : k - (n + 1) ≡ 0 = omega arith in
          let p = posts_past_post lengths k n a (omega arith) in
          rw (e, e') (omega arith))
    ]

-- nothing is left of a chain
chain_over : (lengths : Lengths) (k n : ℕ) → length lengths.posts ≡ k → 1 ≤ k → 2 * k ≤ n → chain_from lengths k n ≡ 0
chain_over lengths k n size some h =
    let a : k - n ≡ 0 = omega arith in
    let b = posts_past_all lengths k n (omega arith) in
    rw (a, b, le-ltb n k (omega arith)) (omega arith)

-- all that is left to a LUN whose group goes on with phase n
abbrev running : Timing → Rules → List Want → List Want → ℕ → List PhaseLeft
running timing rules g ws n = group_left (group_spans timing g) (length g) (wants_work timing rules ws) (2 * length g - n) n 0 ++ wants_left timing (chain_from (group_spans timing g) (length g) n) ws

-- a phase of the group that ends at c takes its length from what is within
own_phase : (timing : Timing) (rules : Rules) (g ws : List Want) (n go c r q : ℕ) → 1 ≤ length g → n < 2 * length g → go + phase_length (group_spans timing g) (length g) n ≤ c → within go r q (running timing rules g ws n) ≤ one go r q (group_phase (group_spans timing g) (length g) (wants_work timing rules ws) n 0) + within (max c (free_from (Some (lun_after timing g n c)))) r q (phases_left_at timing rules ws (Some (lun_after timing g n c)))
own_phase timing rules g ws n go c r q some h le =
    let spans = group_spans timing g in
    let k = length g in
    let rest = wants_work timing rules ws in
    let count : 2 * k - n ≡ suc (2 * k - (n + 1)) = omega arith in
    let size = posts_length timing g in
    let step = chain_step spans k n size h in
    let a = phase_length spans k n + wait_before spans k (n + 1) in
    let tail_group = group_left spans k rest (2 * k - (n + 1)) (n + 1) (0 + phase_length spans k n + wait_before spans k (n + 1)) in
    let tail_wants = wants_left timing (chain_from spans k n) ws in
    let cons : within go r q (running timing rules g ws n) ≡ one go r q (group_phase spans k rest n 0) + within go r q (tail_group ++ tail_wants) = rw count (within_cons go r q (group_phase spans k rest n 0) (tail_group ++ tail_wants)) in
    elim (cases_lt (n + 1) (2 * k)) [
      | inl more ↦ (
          let later = later_append a tail_group tail_wants (group_left spans k rest (2 * k - (n + 1)) (n + 1) 0) (wants_left timing (chain_from spans k (n + 1)) ws) (later_group a spans k rest (2 * k - (n + 1)) (n + 1) _ 0 (omega arith)) (later_wants a timing (chain_from spans k n) (chain_from spans k (n + 1)) ws (omega arith)) in
          let w = within_later a go (max c (c + wait_before spans k (n + 1))) r q (tail_group ++ tail_wants) (running timing rules g ws (n + 1)) later (omega arith) in
          rw (lun_after_running timing g n c more) (omega arith))
      | inr last ↦ (
          let over = chain_over spans k (n + 1) size some last in
          let none : 2 * k - (n + 1) ≡ 0 = omega arith in
          let wait : wait_before spans k (n + 1) ≡ 0 = rw (le-ltb (n + 1) k (omega arith), ne_eqb (n + 1) k (λ e. omega arith)) refl in
          let later = later_wants (phase_length spans k n) timing (chain_from spans k n) 0 ws (omega arith) in
          let w = within_later (phase_length spans k n) go (max c c) r q tail_wants (wants_left timing 0 ws) later (omega arith) in
          let empty : within go r q (tail_group ++ tail_wants) ≡ within go r q tail_wants = rw none refl in
          rw (lun_after_free timing g n c last) (omega arith))
    ]

-- what is left of one want
abbrev command_left : Timing → ℕ → Want → PhaseLeft
command_left timing from w = record { from = from; length = (spans_of timing w.kind).cmd; tail = (spans_of timing w.kind).array + (spans_of timing w.kind).post }

abbrev post_left : Timing → ℕ → Want → PhaseLeft
post_left timing from w = record { from = from + (spans_of timing w.kind).cmd + (spans_of timing w.kind).array; length = (spans_of timing w.kind).post; tail = 0 }

of_want : Timing → ℕ → ℕ → ℕ → Want → ℕ
of_want timing go r q w = one go r q (command_left timing 0 w) + one go r q (post_left timing 0 w)

wants_total : (timing : Timing) (go r q : ℕ) (ws : List Want) → within go r q (wants_left timing 0 ws) ≡ total (of_want timing go r q) ws
unfolding of_want
wants_total timing go r q [] = refl
wants_total timing go r q (w ∷ ws) =
    let e = wants_total timing go r q ws in
    let a = within_cons go r q (command_left timing 0 w) (post_left timing 0 w ∷ wants_left timing 0 ws) in
    let b = within_cons go r q (post_left timing 0 w) (wants_left timing 0 ws) in
    omega arith

-- two sums at once
both_total : (f g : Want → ℕ) (ws : List Want) → total (λ w. f w + g w) ws ≡ total f ws + total g ws
both_total f g [] = refl
both_total f g (w ∷ ws) = let e = both_total f g ws in omega arith

-- the phases of a group that begins when its members may, or later
module _ (timing : Timing) (g : List Want) (operations : All (λ m. operation_of m.kind ≡ group_operation g) g) (rest go go' r q : ℕ) where
  abbrev spans : Lengths
  spans = group_spans timing g

  command_in : Want → ℕ
  command_in w = one go r q (command_left timing 0 w)

  post_in : Want → ℕ
  post_in w = one go r q (post_left timing 0 w)

  commands_in : ℕ → ℕ
  commands_in n = total command_in (drop n g)

  posts_in : ℕ → ℕ
  posts_in i = total post_in (drop i g)

  member : ℕ → Want
  member i = get_or g i no_want

  -- a member has the command, gap and array of the group
  like_group : (i : ℕ) → i < length g → IsAlike (spans_of timing (kind_of g)) (spans_of timing (member i).kind)
  unfolding member
  like_group i h = one_operation timing (kind_of g) (member i).kind (sym (all_at (λ m. operation_of m.kind ≡ group_operation g) g i no_want h operations))

  one_command : (n : ℕ) → n < length g → commands_in n ≡ command_in (member n) + commands_in (n + 1)
  unfolding commands_in member
  one_command n h = rw (drop_more g n no_want h) refl

  last_command : (n : ℕ) → length g ≤ n → commands_in n ≡ 0
  unfolding commands_in
  last_command n h = rw (drop_all n g h) refl

  one_post_in : (i : ℕ) → i < length g → posts_in i ≡ post_in (member i) + posts_in (i + 1)
  unfolding posts_in member
  one_post_in i h = rw (drop_more g i no_want h) refl

  last_post : (i : ℕ) → length g ≤ i → posts_in i ≡ 0
  unfolding posts_in
  last_post i h = rw (drop_all i g h) refl

  -- each member's post is one of those of the group
  own_post : (i n : ℕ) → i < length g → n ≤ length g → (spans_of timing (member i).kind).post ≤ posts_from spans (length g) n
  unfolding member
  own_post i n h le =
      let size = posts_length timing g in
      let some = get_or-le-sum_by (λ x. x) spans.posts i 0 (omega arith) in
      let is = get_or-map (λ m. (spans_of timing m.kind).post) g i no_want 0 h in
      let all = posts_of_all spans (length g) n le in
      omega arith

  -- after a command of a group stand its array and each post at least
  command_tail : (n : ℕ) → n < length g → spans.array + posts_from spans (length g) (n + 1) ≤ wait_before spans (length g) (n + 1) + chain_from spans (length g) (n + 1)
  command_tail n h =
      elim (cases_lt (n + 1) (length g)) [
        | inl a ↦ rw (lt-ltb (n + 1) (length g) a) (omega arith)
        | inr a ↦ (let e : n + 1 ≡ length g = omega arith in rw (le-ltb (n + 1) (length g) a, eq-eqb (n + 1) (length g) e) (omega arith))
      ]

  command_within : (n from : ℕ) → n < length g → go ≤ go' + from → command_in (member n) ≤ one go' r q (group_phase spans (length g) rest n from)
  unfolding command_in
  command_within n from h le =
      let long = command_length spans (length g) n h in
      let same = like_group n h in
      let cmd = same.cmd in
      let array = same.array in
      let post = own_post n (n + 1) h (omega arith) in
      let tail = command_tail n h in
      one_more go go' r r q (command_left timing 0 (member n)) (group_phase spans (length g) rest n from) (omega arith) (omega arith) (λ s. omega arith)

  post_within : (n from : ℕ) → length g ≤ n → n < 2 * length g → go + spans.cmd + spans.array ≤ go' + from → post_in (member (n - length g)) ≤ one go' r q (group_phase spans (length g) rest n from)
  unfolding post_in member
  post_within n from h k le =
      let long = member_post timing g n no_want h k in
      let same = like_group (n - length g) (omega arith) in
      let cmd = same.cmd in
      let array = same.array in
      one_more go go' r r q (post_left timing 0 (get_or g (n - length g) no_want)) (group_phase spans (length g) rest n from) (omega arith) (omega arith) (λ s. omega arith)

  group_within : (count n from : ℕ) → n + count ≡ 2 * length g → go ≤ go' + from → (length g ≤ n → go + spans.cmd + spans.array ≤ go' + from) → commands_in n + posts_in (n - length g) ≤ within go' r q (group_left spans (length g) rest count n from)
  group_within zero n from e le post =
      let a = last_command n (omega arith) in
      let b = last_post (n - length g) (omega arith) in
      omega arith
  group_within (suc count) n from e le post =
      let phase = group_phase spans (length g) rest n from in
      let next = from + phase_length spans (length g) n + wait_before spans (length g) (n + 1) in
      let cons = within_cons go' r q phase (group_left spans (length g) rest count (n + 1) next) in
      elim (cases_lt n (length g)) [
        | inl h ↦ (
            let long = command_length spans (length g) n h in
            let o = command_within n from h le in
            let ih = group_within count (n + 1) next (omega arith) (omega arith) (λ m. let last : n + 1 ≡ length g = omega arith in let w : wait_before spans (length g) (n + 1) ≡ spans.array = rw (le-ltb (n + 1) (length g) m, eq-eqb (n + 1) (length g) last) refl in omega arith) in
            let a = one_command n h in
            let b : n - length g ≡ n + 1 - length g = omega arith in
            let c = ap posts_in b in
            omega arith)
        | inr h ↦ (
            let p = post h in
            let o = post_within n from h (omega arith) p in
            let ih = group_within count (n + 1) next (omega arith) (omega arith) (λ m. omega arith) in
            let a = last_command n h in
            let a' = last_command (n + 1) (omega arith) in
            let b = one_post_in (n - length g) (omega arith) in
            let c : n - length g + 1 ≡ n + 1 - length g = omega arith in
            let d = ap posts_in c in
            omega arith)
      ]

  -- all of them
  group_has : go ≤ go' → 1 ≤ length g → total (of_want timing go r q) g ≤ within go' r q (group_left spans (length g) rest (2 * length g - 0) 0 0)
  unfolding of_want command_in post_in commands_in posts_in
  group_has le some =
      let both = both_total command_in post_in g in
      let z : 0 - length g ≡ 0 = omega arith in
      let all = group_within (2 * length g - 0) 0 0 (omega arith) (omega arith) (λ h. omega arith) in
      let all' : total command_in g + total post_in g ≤ within go' r q (group_left spans (length g) rest (2 * length g - 0) 0 0) = rw z at all in
      omega arith

-- as a group that begins with phase 0, wants have as much within
start_within : (p : Problem) (ms : List Want) (go r q : ℕ) → IsProblem p → IsStartable p.rules p.wants ms → within go r q (wants_left p.timing 0 (on_lun (lun_of ms) p.wants)) ≤ within go r q (running p.timing p.rules ms (on_lun (lun_of ms) (without ms p.wants)) 0)
start_within p ms go r q ip st =
    let lun = lun_of ms in
    let k = length ms in
    let ws = on_lun lun p.wants in
    let left = without ms ws in
    let spans = group_spans p.timing ms in
    let rest = wants_work p.timing p.rules left in
    let rising = Pairs-filter _ (λ w. w.lun == lun) p.wants ip.ids in
    let wanted : All (Has ws) ms = All-each (Has ws) ms (λ m h. Has-filter (λ w. w.lun == lun) p.wants m (All-has (Has p.wants) ms m (startable_wanted p ms st) h) (eq-eqb m.lun lun (All-has _ ms m st.group.lun h))) in
    let old = wants_total p.timing go r q ws in
    let new = wants_total p.timing go r q left in
    let split = split_total (of_want p.timing go r q) ms ws rising wanted (startable_apart p ms ip st) in
    let group = group_has p.timing ms st.group.operation rest go go r q (omega arith) st.group.some in
    let wants = within_later 0 go go r q (wants_left p.timing 0 left) (wants_left p.timing (chain_from spans k 0) left) (later_wants 0 p.timing 0 (chain_from spans k 0) left (omega arith)) (omega arith) in
    let both = within_append go r q (group_left spans k rest (2 * k - 0) 0 0) (wants_left p.timing (chain_from spans k 0) left) in
    rw (on_lun_own ms p.wants lun) (omega arith)

-- after a phase that ends at c its LUN has its tail to do
tail_left : (p : Problem) (l : ℕ) (g ws : List Want) (n c : ℕ) → 1 ≤ length g → n < 2 * length g → p.bus_free ≡ c → slice_get p.luns l ≡ Some (lun_after p.timing g n c) → c + (wait_before (group_spans p.timing g) (length g) (n + 1) + chain_from (group_spans p.timing g) (length g) (n + 1) + wants_work p.timing p.rules ws) ≤ die_at p l ws (slice_get p.luns l)
tail_left p l g ws n c some h bus at =
    let spans = group_spans p.timing g in
    let k = length g in
    elim (cases_lt (n + 1) (2 * k)) [
      | inl more ↦ (
          let is = at ∙ ap Some (lun_after_running p.timing g n c more) in
          rw is (let go = ap free_from is in omega arith))
      | inr last ↦ (
          let is = at ∙ ap Some (lun_after_free p.timing g n c last) in
          let over = chain_over spans k (n + 1) (posts_length p.timing g) some last in
          let wait : wait_before spans k (n + 1) ≡ 0 = rw (le-ltb (n + 1) k (omega arith), ne_eqb (n + 1) k (λ e. omega arith)) refl in
          rw is (idle ws is over wait))
    ]
  where
    idle : (vs : List Want) → slice_get p.luns l ≡ Some (Free c) → chain_from (group_spans p.timing g) (length g) (n + 1) ≡ 0 → wait_before (group_spans p.timing g) (length g) (n + 1) ≡ 0 → c + (wait_before (group_spans p.timing g) (length g) (n + 1) + chain_from (group_spans p.timing g) (length g) (n + 1) + wants_work p.timing p.rules vs) ≤ die_at p l vs (Some (Free c))
    idle [] is over wait = let z = no_work p.timing p.rules in omega arith
    idle (v ∷ vs) is over wait = let go = ap free_from is in omega arith

-- what a step does to what is within
record Stepped (p p' : Problem) (j t r q : ℕ) : Type 0 where
  phase : PhaseLeft
  here : phase.from ≡ 0
  bus : p'.bus_free ≡ t + phase.length
  own : within (may_go p j) r q (phases_left_on p j) ≤ one (may_go p j) r q phase + within (may_go p' j) r q (phases_left_on p' j)
  others : (l : ℕ) → l ≢ j → phases_left_on p' l ≡ phases_left_on p l
  later : (l : ℕ) → l ≢ j → free_from (slice_get p'.luns l) ≡ free_from (slice_get p.luns l)
  luns : length p'.luns ≡ length p.luns
  tail : t + phase.length + phase.tail ≤ die p' j

step_of : (p : Problem) (l : ℕ) (g : List Want) (n t r q : ℕ) (x : LunState) (wants : List Want) → slice_get p.luns l ≡ Some x → 1 ≤ length g → n < 2 * length g → may_go p l ≤ t → within (may_go p l) r q (phases_left_on p l) ≤ within (may_go p l) r q (running p.timing p.rules g (on_lun l wants) n) → ((i : ℕ) → i ≢ l → on_lun i wants ≡ on_lun i p.wants) → Stepped p (ran_with p l g n t wants) l t r q
step_of p l g n t r q x wants at some h late begins same =
    let spans = group_spans p.timing g in
    let k = length g in
    let c = t + phase_length spans k n in
    let state = lun_after p.timing g n c in
    let there = get_set_same p.luns l x state at in
    let own = own_phase p.timing p.rules g (on_lun l wants) n (may_go p l) c r q some h (omega arith) in
    record {
      phase = group_phase spans k (wants_work p.timing p.rules (on_lun l wants)) n 0;
      here = refl;
      bus = refl;
      own = rw there (omega arith);
      others = λ i d. rw (same i d, get_set_other p.luns l i state d) refl;
      later = λ i d. ap free_from (get_set_other p.luns l i state d);
      luns = length_set p.luns l state;
      tail = tail_left (ran_with p l g n t wants) l g (on_lun l wants) n c some h refl there;
    }

stepped : (p : Problem) (m : Move) (t r q : ℕ) → IsProblem p → IsMove p m → earliest p m ≤ t → Stepped p (placed p m t) (move_lun m) t r q
stepped p (Next l) t r q ip (g, n, ready, at) late =
    let i = ip.running l g n ready at in
    let begins : within (may_go p l) r q (phases_left_on p l) ≤ within (may_go p l) r q (running p.timing p.rules g (on_lun l p.wants) n) = rw at (omega arith) in
    rw at (step_of p l g n t r q (Running g n ready) p.wants at i.group.some i.unfinished late begins (λ j d. refl))
stepped p (Start ms) t r q ip (since, at, st) late =
    let s = start_within p ms (may_go p (lun_of ms)) r q ip st in
    let some = st.group.some in
    let begins : within (may_go p (lun_of ms)) r q (phases_left_on p (lun_of ms)) ≤ within (may_go p (lun_of ms)) r q (running p.timing p.rules ms (on_lun (lun_of ms) (without ms p.wants)) 0) = rw at (rw at at s) in
    step_of p (lun_of ms) ms 0 t r q (Free since) (without ms p.wants) at some (omega arith) late begins (λ i d. on_lun_other ms p.wants i (λ w h k. not_member p ip ms st w h (λ e. d (sym k ∙ e))))

-- sums over LUNs
pub sum_below : (n : ℕ) (f g : ℕ → ℕ) → ((i : ℕ) → f i ≤ g i) → sum_of n f ≤ sum_of n g
sum_below zero f g h = omega arith
sum_below (suc n) f g h = let a = h n in let b = sum_below n f g h in omega arith

sum_but_one : (n j a : ℕ) (f g : ℕ → ℕ) → ((i : ℕ) → i ≢ j → f i ≤ g i) → f j ≤ a + g j → sum_of n f ≤ a + sum_of n g
sum_but_one zero j a f g h k = omega arith
sum_but_one (suc n) j a f g h k = elim (same_place n j) [
  | inl e ↦ (let k' : f n ≤ a + g n = rw e k in let b = sum_before n n f g (omega arith) (λ i l. h i (λ q. omega arith)) in omega arith)
  | inr d ↦ (let b = h n d in let c = sum_but_one n j a f g h k in omega arith)
]
  where
    sum_before : (i n : ℕ) (f g : ℕ → ℕ) → i ≤ n → ((l : ℕ) → l < n → f l ≤ g l) → sum_of i f ≤ sum_of i g
    sum_before zero n f g le h = omega arith
    sum_before (suc i) n f g le h = let a = h i (omega arith) in let b = sum_before i n f g (omega arith) h in omega arith

sum_none : (n : ℕ) (f : ℕ → ℕ) → ((i : ℕ) → f i ≡ 0) → sum_of n f ≡ 0
sum_none zero f h = refl
sum_none (suc n) f h = let a = h n in let b = sum_none n f h in omega arith

done_none : (p : Problem) (r q : ℕ) → IsDone p → window p r q ≡ 0
done_none p r q done = sum_none (length p.luns) (λ l. within (may_go p l) r q (phases_left_on p l)) (λ l. none l (slice_get p.luns l) refl)
  where
    none : (l : ℕ) (o : Option LunState) → slice_get p.luns l ≡ o → within (may_go p l) r q (phases_left_at p.timing p.rules (on_lun l p.wants) o) ≡ 0
    none l None at = let w = done.wants in rw w refl
    none l (Some (Free a)) at = let w = done.wants in rw w refl
    none l (Some (Running g n ready)) at = absurd (done.free l g n ready at)

one_below : (go r q : ℕ) (x : PhaseLeft) → one go r q x ≤ x.length
unfolding one
one_below go r q x = elim (cases_Bool (is_within go r q x)) [ inl k ↦ rw k (omega arith) | inr k ↦ rw k (omega arith) ]

pub one_out : (go r q : ℕ) (x : PhaseLeft) → is_within go r q x ≡ false → one go r q x ≡ 0
unfolding one
one_out go r q x h = rw h refl

pub within_head : (go r q : ℕ) (x : PhaseLeft) → is_within go r q x ≡ true → (r ≤ go + x.from) × (q ≤ x.tail)
within_head go r q x h = elim (cases_Bool (nat_le r (go + x.from))) [
  | inl k ↦ (let h' : nat_le q x.tail ≡ true = rw k at h in (leb-true r (go + x.from) k, leb-true q x.tail h'))
  | inr k ↦ (let h' : false ≡ true = rw k at h in cc)
]

-- the phase is within: the others come after it
taken : (p p' : Problem) (j t r q : ℕ) → (s : Stepped p p' j t r q) → may_go p j ≤ t → r ≤ may_go p j → window p r q ≤ s.phase.length + window p' (r + s.phase.length) q
taken p p' j t r q s late h =
    let one = one_below (may_go p j) r q s.phase in
    let all = within_all (may_go p' j) (may_go p' j) r (r + s.phase.length) q (phases_left_on p' j) (omega arith) in
    let sum = sum_but_one (length p.luns) j s.phase.length (λ l. within (may_go p l) r q (phases_left_on p l)) (λ l. within (may_go p' l) (r + s.phase.length) q (phases_left_on p' l))
    (λ l d. let e = s.others l d in rw e (within_all (may_go p l) (may_go p' l) r (r + s.phase.length) q (phases_left_on p l) (omega arith))) (omega arith) in
    rw (s.luns) sum

-- it isn't: all that was within still is
left_out : (p p' : Problem) (j t r q : ℕ) → (s : Stepped p p' j t r q) → may_go p j ≤ t → one (may_go p j) r q s.phase ≡ 0 → p.bus_free ≤ p'.bus_free → window p r q ≤ window p' r q
left_out p p' j t r q s late none bus =
    let sum = sum_but_one (length p.luns) j 0 (λ l. within (may_go p l) r q (phases_left_on p l)) (λ l. within (may_go p' l) r q (phases_left_on p' l))
    (λ l d. let e = s.others l d in let b = s.later l d in rw e (within_sooner (may_go p l) (may_go p' l) r q (phases_left_on p l) (omega arith))) (omega arith) in
    rw (s.luns) (omega arith)

pub window_below : WindowLaw
window_below p [] f r q ip some (done, end) = let z = done_none p r q done in absurd (omega arith)
window_below p (s ∷ steps) f r q ip some (mv, on_time, run) =
    let p' = placed p s.move s.start in
    let ip' = kept p s.move s.start ip mv in
    let j = move_lun s.move in
    let st = stepped p s.move s.start r q ip mv on_time in
    elim (cases_Bool (is_within (may_go p j) r q st.phase)) [
      | inl k ↦ (
          let head = within_head (may_go p j) r q st.phase k in
          let a = taken p p' j s.start r q st on_time (omega arith) in
          elim (cases_lt 0 (window p' (r + st.phase.length) q)) [
            | inl more ↦ (let b = window_below p' steps f (r + st.phase.length) q ip' more run in omega arith)
            | inr last ↦ (let there = left_there p j ip (move_has p s.move mv) in let luns = st.luns in let d = die_bound steps p' f j ip' (omega arith) run in let t = st.tail in let q' = head.1 in omega arith)
          ])
      | inr k ↦ (
          let a = left_out p p' j s.start r q st on_time (one_out (may_go p j) r q st.phase k) (omega arith) in
          let b = window_below p' steps f r q ip' (omega arith) run in
          omega arith)
    ]
