-- The group that a phase goes on with.
use Rattle.std.proofs.Common.{◌≡◌, ◌≢◌, ℕ, ◌+◌, ◌*◌, ◌-◌, ◌<◌, ◌≤◌, inl, inr, false, List, [], ◌∷◌, ◌++◌, length, Some, take, drop, refl, ap, ◌∙◌, subst, arith}
use Rattle.std.specs.Prelude.{slice_get, map, nat_lt, if◌then◌else◌}
use Rattle.std.specs.List.{AllByRecursion as All}
use Rattle.std.proofs.lemmas.Bool.{lt-ltb}
use Rattle.std.proofs.lemmas.Bool.Decides.{nat_tests}
use Rattle.onfi_timing.specs.Phases.{phase_length, wait_before}
use Rattle.onfi_request.specs.declared.want.Want.{Want}
use Rattle.onfi_group.specs.Group.{IsGroup, group_spans, lun_of}
use Rattle.onfi_group.specs.Words.{number}
use Rattle.onfi_problem.specs.Moves.{Start, IsMove, without}
use Rattle.onfi_problem.specs.Problem.{Problem, has_id}
use Rattle.onfi_problem.specs.declared.lun_state.LunState.{LunState}
use Rattle.onfi_problem.specs.declared.lun_state.LunState.TheVariants.{Free, Running}
use Rattle.onfi_problem.proofs.Perm.{All-has, All-each}
use Rattle.onfi_problem.proofs.Wants.{All-filter, filter_shorter}
use Rattle.onfi_chip.specs.Chip.{Chip, Lun, taken}
use Rattle.onfi_chip.specs.Chip.Lun.{Idle, Commanding, Posting}
use Rattle.onfi_core.specs.Kept.{on, is_want_on, IsTaken, post_for, commanding, unposted, ChipAgrees, LunAgrees, IsSound}
use Rattle.onfi_core.specs.State.{HalfState, request_of, device_for}
use Rattle.onfi_core.specs.declared.setup.Setup.{Setup}
use Rattle.onfi_core.proofs.Startable.{startable_on, member_there, started_once}

-- what is in commands on its LUN, once the phase's group is begun
abbrev pub front : List Want → ℕ → List Want
front g n = if nat_lt n (length g) then g else []

pub record Going (s : Setup) (h : HalfState) (l : ℕ) (g : List Want) (n : ℕ) (wants : List Want) : Type 0 where
  pub is_lun : lun_of g ≡ l
  pub group : IsGroup h.now.rules g
  pub members : All (IsTaken s h.planned h.accepted) g
  pub within : n < 2 * length g
  pub state : LunState
  pub there : slice_get h.now.luns l ≡ Some state
  pub here : (b : ℕ) → on l b (commanding (slice_get h.now.luns l)) ++ on l b h.now.wants ≡ on l b (front g n) ++ on l b wants
  pub elsewhere : (j b : ℕ) → j ≢ l → on j b h.now.wants ≡ on j b wants
  pub counts : (i : ℕ) → number (has_id i) h.now.wants + number (has_id i) (unposted state) ≡ number (has_id i) wants + number (has_id i) (drop (n - length g) g)
  pub left_taken : All (IsTaken s h.planned h.accepted) wants
  pub fewer : length wants ≤ length h.now.wants

-- where the chip's LUN is then
pub record OnLun (s : Setup) (h : HalfState) (chip : Chip) (l : ℕ) (g : List Want) (n : ℕ) : Type 0 where
  pub chip_state : Lun
  pub chip_there : slice_get chip.luns l ≡ Some chip_state
  pub commands : n < length g → taken (slice_get chip.luns l) ≡ map (request_of h.accepted) (take n g)
  pub posts : length g ≤ n → (ready : ℕ) × (slice_get chip.luns l ≡ Some (Posting (map (post_for (device_for s chip) h.accepted) (drop (n - length g) g)) ready))

-- from when the group's phase after this one may start
abbrev pub ready_after : Problem → List Want → ℕ → ℕ → ℕ
ready_after p group phase start = start + phase_length (group_spans p.timing group) (length group) phase + wait_before (group_spans p.timing group) (length group) (phase + 1)

-- members of one LUN are on no block of another
pub none_elsewhere : (g : List Want) (l j b : ℕ) → All (λ (m : Want). m.lun ≡ l) g → j ≢ l → on j b g ≡ []
none_elsewhere [] l j b h d = refl
none_elsewhere (m ∷ g) l j b h d =
    let e = h.0 in
    let k : is_want_on j b m ≡ false = grind (arith, nat_tests) in
    rw k (none_elsewhere g l j b h.1 d)

module _ (s : Setup) (h : HalfState) (half : IsSound s h) where
  pub going_next : (l : ℕ) (g : List Want) (n ready : ℕ) → slice_get h.now.luns l ≡ Some (Running g n ready) → Going s h l g n h.now.wants
  going_next l g n ready at =
      let r = half.problem.running l g n ready at in
      record {
        is_lun = r.lun;
        group = r.group;
        members = half.running l g n ready at;
        within = r.unfinished;
        state = Running g n ready;
        there = at;
        here = λ b. rw at refl;
        elsewhere = λ j b d. refl;
        counts = λ i. refl;
        left_taken = half.wants;
        fewer = omega arith;
      }

  pub going_start : (g : List Want) → IsMove h.now (Start g) → Going s h (lun_of g) g 0 (without g h.now.wants)
  going_start g (since, at, st) =
      let some = st.group.some in
      let begins : front g 0 ≡ g = rw (lt-ltb 0 (length g) (omega arith)) refl in
      record {
        is_lun = refl;
        group = st.group;
        members = All-each (IsTaken s h.planned h.accepted) g (λ m k. All-has (IsTaken s h.planned h.accepted) h.now.wants m half.wants (member_there h.now g half.problem.ids st m k));
        within = omega arith;
        state = Free since;
        there = at;
        here = λ b. rw (at, begins) (startable_on h.now g half.problem.ids st (lun_of g) b);
        left_taken = All-filter (IsTaken s h.planned h.accepted) _ h.now.wants half.wants;
        fewer = filter_shorter _ h.now.wants;
        counts = λ i. (let z : 0 - length g ≡ 0 = omega arith in let e = started_once h.now g half.problem.ids st i in rw z (omega (arith, e)));
        elsewhere = λ j b d. startable_on h.now g half.problem.ids st j b ∙ ap (λ zs. zs ++ on j b (without g h.now.wants)) (none_elsewhere g (lun_of g) j b st.group.lun d);
      }

module _ (s : Setup) (h : HalfState) (chip : Chip) (agrees : ChipAgrees s h chip) where
  pub on_next : (l : ℕ) (g : List Want) (n ready : ℕ) → slice_get h.now.luns l ≡ Some (Running g n ready) → OnLun s h chip l g n
  on_next l g n ready at =
      let a : LunAgrees (device_for s chip) h.accepted (Some (Running g n ready)) (slice_get chip.luns l) = subst (λ o. LunAgrees (device_for s chip) h.accepted o (slice_get chip.luns l)) at (agrees.luns l) in
      record {
        chip_state = elim a [ inl x ↦ Commanding (map (request_of h.accepted) (take n g)) ready | inr x ↦ Posting (map (post_for (device_for s chip) h.accepted) (drop (n - length g) g)) ready ];
        chip_there = elim a as (λ a. slice_get chip.luns l ≡ Some (elim a [ inl x ↦ Commanding (map (request_of h.accepted) (take n g)) ready | inr x ↦ Posting (map (post_for (device_for s chip) h.accepted) (drop (n - length g) g)) ready ])) [ inl x ↦ x.1 | inr x ↦ x.1 ];
        commands = λ lt. elim a [ inl x ↦ (let e = x.1 in rw e refl) | inr x ↦ absurd (let y = x.0 in omega arith) ];
        posts = λ le. elim a [ inl x ↦ absurd (let y = x.0 in omega arith) | inr x ↦ (ready, x.1) ];
      }

  pub on_start : (g : List Want) → 1 ≤ length g → (since : ℕ) → slice_get h.now.luns (lun_of g) ≡ Some (Free since) → OnLun s h chip (lun_of g) g 0
  on_start g some since at =
      let a : slice_get chip.luns (lun_of g) ≡ Some Idle = subst (λ o. LunAgrees (device_for s chip) h.accepted o (slice_get chip.luns (lun_of g))) at (agrees.luns (lun_of g)) in
      record {
        chip_state = Idle;
        chip_there = a;
        commands = λ lt. rw a refl;
        posts = λ le. absurd (omega arith);
      }
