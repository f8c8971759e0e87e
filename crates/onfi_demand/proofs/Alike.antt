-- What has the same left has the same moves, which leave the same.
use Rattle.std.proofs.Common.{◌≡◌, ◌≢◌, ℕ, ◌+◌, ◌*◌, ◌≤◌, ◌<◌, inl, inr, Bool, true, false, List, [], ◌∷◌, length, map, Option, Some, None, refl, sym, ap, ◌∙◌, subst, arith}
use Rattle.std.specs.Prelude.{slice_get, slice_set}
use Rattle.std.specs.List.{AllByRecursion as All}
use Rattle.std.specs.Option.{option_map}
use Rattle.std.proofs.lemmas.Bool.{cases_lt}
use Rattle.std.proofs.lemmas.List.{length-map}
use Rattle.std.proofs.lemmas.Option.{slice_get-map}
use Rattle.onfi_timing.specs.declared.timing.Timing.{Timing}
use Rattle.onfi_timing.specs.Phases.{phase_length, wait_before}
use Rattle.onfi_request.specs.declared.want.Want.{Want}
use Rattle.onfi_group.specs.declared.rules.Rules.{Rules}
use Rattle.onfi_group.specs.Group.{group_operation, group_spans, lun_of}
use Rattle.onfi_problem.specs.declared.lun_state.LunState.{LunState}
use Rattle.onfi_problem.specs.declared.lun_state.LunState.TheVariants.{Free, Running}
use Rattle.onfi_problem.specs.Problem.{Problem, IsProblem}
use Rattle.onfi_problem.specs.Moves.{Move, Next, Start, IsMove, placed, move_lun, lun_after, without, free_from}
use Rattle.onfi_problem.proofs.LunAfter.{lun_after_running, lun_after_free}
use Rattle.onfi_problem.proofs.Places.{get_set_same, get_set_other}
use Rattle.onfi_problem.proofs.Lists.{map_set}
use Rattle.onfi_schedule.proofs.Exchange.{not_member}
use Rattle.onfi_bound.specs.Bounds.{on_lun}
use Rattle.onfi_bound.proofs.DieBound.{on_lun_other}
use Rattle.onfi_demand.specs.Left.{LunLeft, Idle, Rest, left_on, sectors_left, SameLeft, has_left_at, has_left}
use Rattle.onfi_demand.proofs.Agreeing.{Agree, IsAlike, RunsAlike, agree_groups, agree_length, agree_wait, sectors_later, runs_alike, group_alike}

abbrev pub Alike : List LunState → List LunState → Type 0
Alike xs ys = map left_on xs ≡ map left_on ys

pub alike_at : (xs ys : List LunState) (l : ℕ) → Alike xs ys → option_map left_on (slice_get xs l) ≡ option_map left_on (slice_get ys l)
alike_at xs ys l h = sym (slice_get-map left_on xs l) ∙ (ap (λ zs. slice_get zs l) h ∙ slice_get-map left_on ys l)

pub record AlikeRunning (xs : List LunState) (l : ℕ) (g : List Want) (n : ℕ) : Type 0 where
  pub group : List Want
  pub ready : ℕ
  pub here : slice_get xs l ≡ Some (Running group n ready)
  pub operation : group_operation group ≡ group_operation g
  pub size : length group ≡ length g
  pub sectors : sectors_left group n ≡ sectors_left g n

pub running_alike : (xs ys : List LunState) (l : ℕ) (g : List Want) (n r : ℕ) → Alike xs ys → slice_get ys l ≡ Some (Running g n r) → AlikeRunning xs l g n
running_alike xs ys l g n r h at = go (slice_get xs l) refl (alike_at xs ys l h ∙ ap (option_map left_on) at)
  where
    go : (o : Option LunState) → slice_get xs l ≡ o → option_map left_on o ≡ Some (Rest (group_operation g) (length g) (sectors_left g n) n) → AlikeRunning xs l g n
    go None e k = cc
    go (Some (Free a)) e k = cc
    go (Some (Running g' n' r')) e k =
        let same : n' ≡ n = cc in
        record { group = g'; ready = r'; here = subst (λ i. slice_get xs l ≡ Some (Running g' i r')) same e; operation = cc; size = cc; sectors = subst (λ i. sectors_left g' i ≡ sectors_left g n) same cc }

pub free_alike : (xs ys : List LunState) (l b : ℕ) → Alike xs ys → slice_get ys l ≡ Some (Free b) → (a : ℕ) × (slice_get xs l ≡ Some (Free a))
free_alike xs ys l b h at = go (slice_get xs l) refl (alike_at xs ys l h ∙ ap (option_map left_on) at)
  where
    go : (o : Option LunState) → slice_get xs l ≡ o → option_map left_on o ≡ Some Idle → (a : ℕ) × (slice_get xs l ≡ Some (Free a))
    go None e k = cc
    go (Some (Free a)) e k = (a, e)
    go (Some (Running g' n' r')) e k = cc

-- the same is left of two groups from phase n on
pub record AreAlike (g g' : List Want) (n : ℕ) : Type 0 where
  pub own : IsAlike g
  pub other : IsAlike g'
  pub operation : group_operation g ≡ group_operation g'
  pub size : length g ≡ length g'
  pub sectors : sectors_left g n ≡ sectors_left g' n

pub alike_lengths : (timing : Timing) (g g' : List Want) (n : ℕ) → AreAlike g g' n → Agree (length g) n (group_spans timing g) (group_spans timing g')
alike_lengths timing g g' n alike = agree_groups timing g g' n alike.own alike.other alike.operation alike.size alike.sectors

-- a group and itself
pub alike_self : (g : List Want) (n : ℕ) → IsAlike g → AreAlike g g n
alike_self g n own = record { own = own; other = own; operation = refl; size = refl; sectors = refl }

-- after a phase the LUN has the same left, whenever it ended
pub after_alike : (timing : Timing) (g g' : List Want) (n c c' : ℕ) → AreAlike g g' n → left_on (lun_after timing g n c) ≡ left_on (lun_after timing g' n c')
after_alike timing g g' n c c' alike =
    let size = alike.size in
    elim (cases_lt (n + 1) (2 * length g)) [
      | inl k ↦ (
          let k' : n + 1 < 2 * length g' = omega arith in
          let operation = alike.operation in
          let sectors = sectors_later g g' n size alike.sectors in
          rw (lun_after_running timing g n c k, lun_after_running timing g' n c' k') (cc))
      | inr k ↦ (let k' : 2 * length g' ≤ n + 1 = omega arith in rw (lun_after_free timing g n c k, lun_after_free timing g' n c' k') refl)
    ]

-- .. and waits as long
abbrev pub waits : Timing → List Want → ℕ → ℕ
waits timing g n = free_from (Some (lun_after timing g n 0))

pub waits_behind : (timing : Timing) (g : List Want) (n c : ℕ) → free_from (Some (lun_after timing g n c)) ≡ c + waits timing g n
waits_behind timing g n c =
    elim (cases_lt (n + 1) (2 * length g)) [
      | inl k ↦ rw (lun_after_running timing g n c k, lun_after_running timing g n 0 k) (omega arith)
      | inr k ↦ rw (lun_after_free timing g n c k, lun_after_free timing g n 0 k) (omega arith)
    ]

pub waits_alike : (timing : Timing) (g g' : List Want) (n : ℕ) → AreAlike g g' n → waits timing g n ≡ waits timing g' n
waits_alike timing g g' n alike =
    let size = alike.size in
    elim (cases_lt (n + 1) (2 * length g)) [
      | inl k ↦ (
          let k' : n + 1 < 2 * length g' = omega arith in
          let wait = agree_wait (length g) (group_spans timing g) (group_spans timing g') n (n + 1) (alike_lengths timing g g' n alike) ∙ ap (λ s. wait_before (group_spans timing g') s (n + 1)) size in
          rw (lun_after_running timing g n 0 k, lun_after_running timing g' n 0 k') (omega arith))
      | inr k ↦ (let k' : 2 * length g' ≤ n + 1 = omega arith in rw (lun_after_free timing g n 0 k, lun_after_free timing g' n 0 k') refl)
    ]

pub set_alike : (xs ys : List LunState) (l : ℕ) (x y : LunState) → Alike xs ys → left_on x ≡ left_on y → Alike (slice_set xs l x) (slice_set ys l y)
set_alike xs ys l x y h k = map_set left_on xs l x ∙ (ap (λ zs. slice_set zs l (left_on x)) h ∙ (ap (λ z. slice_set (map left_on ys) l z) k ∙ sym (map_set left_on ys l y)))

-- after a phase of LUN l that starts at t
pub record IsBehind (q p : Problem) (l long wait t : ℕ) : Type 0 where
  pub bus : q.bus_free ≡ t + long
  pub own : free_from (slice_get q.luns l) ≡ t + long + wait
  pub others : (i : ℕ) → i ≢ l → slice_get q.luns i ≡ slice_get p.luns i

-- a move on both
pub record BothMove (p q : Problem) (m : Move) : Type 0 where
  pub is_move : IsMove p m
  pub long : ℕ
  pub wait : ℕ
  pub here : (t : ℕ) → IsBehind (placed p m t) p (move_lun m) long wait t
  pub there : (t : ℕ) → IsBehind (placed q m t) q (move_lun m) long wait t
  pub left : (t u : ℕ) → SameLeft (placed p m t) (placed q m u)

module _ (timing : Timing) (rules : Rules) where
  abbrev pub with_times : List Want → ℕ → List LunState → Problem
  with_times wants bus_free luns = record { timing = timing; rules = rules; bus_free = bus_free; luns = luns; wants = wants }

  -- phase n of the group
  abbrev behind : List Want → List LunState → ℕ → List Want → ℕ → ℕ → Problem
  behind wants luns l g n t =
      let c = t + phase_length (group_spans timing g) (length g) n in
      with_times wants c (slice_set luns l (lun_after timing g n c))

  is_behind : (wants : List Want) (b : ℕ) (luns : List LunState) (l : ℕ) (g g' : List Want) (n t : ℕ) (x : LunState) → slice_get luns l ≡ Some x → AreAlike g g' n → IsBehind (behind wants luns l g n t) (with_times wants b luns) l (phase_length (group_spans timing g') (length g') n) (waits timing g' n) t
  is_behind wants b luns l g g' n t x at alike =
      let long : phase_length (group_spans timing g) (length g) n ≡ phase_length (group_spans timing g') (length g') n = agree_length (length g) (group_spans timing g) (group_spans timing g') n (alike_lengths timing g g' n alike) ∙ ap (λ k. phase_length (group_spans timing g') k n) alike.size in
      let c = t + phase_length (group_spans timing g) (length g) n in
      let w = waits_behind timing g n c in
      let s = waits_alike timing g g' n alike in
      let there = get_set_same luns l x (lun_after timing g n c) at in
      record { bus = omega arith; own = rw there (omega arith); others = λ i d. get_set_other luns l i (lun_after timing g n c) d }

  same_behind : (wants : List Want) (luns luns' : List LunState) (l : ℕ) (g g' : List Want) (n t u : ℕ) → Alike luns luns' → AreAlike g g' n → SameLeft (behind wants luns l g n t) (behind wants luns' l g' n u)
  same_behind wants luns luns' l g g' n t u h alike = record { timing = refl; rules = refl; wants = refl; luns = set_alike luns luns' l _ _ h (after_alike timing g g' n _ _ alike) }

  both_times : (m : Move) (wants : List Want) (b b' : ℕ) (luns luns' : List LunState) → All RunsAlike luns → All RunsAlike luns' → Alike luns luns' → IsMove (with_times wants b' luns') m → BothMove (with_times wants b luns) (with_times wants b' luns') m
  both_times (Next l) wants b b' luns luns' own other h (g, n, r, at) =
      let k = running_alike luns luns' l g n r h at in
      let at' = k.here in
      let alike : AreAlike k.group g n = record { own = group_alike luns l k.group n k.ready own at'; other = group_alike luns' l g n r other at; operation = k.operation; size = k.size; sectors = k.sectors } in
      record {
        is_move = (k.group, n, k.ready, at');
        long = phase_length (group_spans timing g) (length g) n;
        wait = waits timing g n;
        here = λ t. rw at' (is_behind wants b luns l k.group g n t _ at' alike);
        there = λ t. rw at (is_behind wants b' luns' l g g n t _ at (alike_self g n alike.other));
        left = λ t u. rw (at', at) (same_behind wants luns luns' l k.group g n t u h alike);
      }
  both_times (Start ms) wants b b' luns luns' own other h (since, at, st) =
      let k = free_alike luns luns' (lun_of ms) since h at in
      let alike = alike_self ms 0 st.group.operation in
      let one = λ (t : ℕ). is_behind (without ms wants) b luns (lun_of ms) ms ms 0 t (Free k.0) k.1 alike in
      let two = λ (t : ℕ). is_behind (without ms wants) b' luns' (lun_of ms) ms ms 0 t (Free since) at alike in
      record {
        is_move = (k.0, k.1, record { group = st.group; first = st.first });
        long = phase_length (group_spans timing ms) (length ms) 0;
        wait = waits timing ms 0;
        here = λ t. record { bus = (one t).bus; own = (one t).own; others = (one t).others };
        there = λ t. record { bus = (two t).bus; own = (two t).own; others = (two t).others };
        left = λ t u. same_behind (without ms wants) luns luns' (lun_of ms) ms ms 0 t u h alike;
      }

-- what holds of times of p holds of a problem with the same left
pub of_same : (P : Problem → Type 0) (p q : Problem) → SameLeft p q → P (with_times p.timing p.rules p.wants q.bus_free q.luns) → P q
of_same P p q s h = subst (λ t. P (with_times t q.rules q.wants q.bus_free q.luns)) s.timing (subst (λ r. P (with_times p.timing r q.wants q.bus_free q.luns)) s.rules (subst (λ ws. P (with_times p.timing p.rules ws q.bus_free q.luns)) s.wants h))

pub back_same : (p q : Problem) → SameLeft p q → SameLeft q p
back_same p q s = record { timing = sym s.timing; rules = sym s.rules; luns = sym s.luns; wants = sym s.wants }

pub both_move : (p q : Problem) (m : Move) → IsProblem p → IsProblem q → SameLeft p q → IsMove q m → BothMove p q m
both_move p q m ip iq s = of_same (λ z. IsMove z m → BothMove p z m) p q s (both_times p.timing p.rules m p.wants p.bus_free q.bus_free p.luns q.luns (runs_alike p ip) (runs_alike q iq) s.luns)

-- something is left to both or to neither
abbrev has_rest : List Want → Option LunLeft → Bool
has_rest wants (Some (Rest operation k sectors n)) = true
has_rest (w ∷ wants) _ = true
has_rest [] _ = false

has_by : (ws : List Want) (o : Option LunState) → has_left_at ws o ≡ has_rest ws (option_map left_on o)
has_by ws (Some (Running g n r)) = refl
has_by [] None = refl
has_by [] (Some (Free a)) = refl
has_by (w ∷ ws) None = refl
has_by (w ∷ ws) (Some (Free a)) = refl

pub same_has : (p q : Problem) (l : ℕ) → SameLeft p q → has_left p l ≡ has_left q l
same_has p q l s =
    let ws = on_lun l q.wants in
    rw s.wants (has_by ws (slice_get p.luns l) ∙ (ap (has_rest ws) (alike_at p.luns q.luns l s.luns) ∙ sym (has_by ws (slice_get q.luns l))))

-- a move leaves the other LUNs what they had
pub other_has : (p : Problem) (m : Move) (t l : ℕ) → IsProblem p → IsMove p m → l ≢ move_lun m → has_left (placed p m t) l ≡ has_left p l
other_has p (Next j) t l ip (g, n, r, at) d =
    let c = t + phase_length (group_spans p.timing g) (length g) n in
    let same = get_set_other p.luns j l (lun_after p.timing g n c) d in
    rw (at, same) refl
other_has p (Start ms) t l ip (since, at, st) d =
    let c = t + phase_length (group_spans p.timing ms) (length ms) 0 in
    let same = get_set_other p.luns (lun_of ms) l (lun_after p.timing ms 0 c) d in
    let wants = on_lun_other ms p.wants l (λ w h k. not_member p ip ms st w h (λ q. d (sym k ∙ q))) in
    rw (wants, same) refl

-- .. and as many LUNs
pub same_luns : (p q : Problem) → SameLeft p q → length p.luns ≡ length q.luns
same_luns p q s = sym (length-map p.luns left_on) ∙ (ap length s.luns ∙ length-map q.luns left_on)
