-- A move of one LUN can be made before those of others.
use Rattle.std.proofs.Common.{◌≡◌, ◌≢◌, ℕ, ◌+◌, ◌≤◌, inl, inr, List, [], ◌∷◌, length, Some, refl, sym, ap, ◌∙◌, subst, arith}
use Rattle.std.specs.Prelude.{slice_get, slice_set, max, Bool, true, false, not}
use Rattle.std.specs.List.{filter}
use Rattle.std.proofs.lemmas.Bool.{cases_Bool}
use Rattle.onfi_request.specs.declared.want.Want.{Want}
use Rattle.onfi_problem.specs.declared.lun_state.LunState.{LunState}
use Rattle.onfi_problem.specs.Moves.{Move, Next, Start, IsMove, IsDone, earliest, free_from, move_lun, placed, after, lun_after, without}
use Rattle.onfi_group.specs.Words.{Has}
use Rattle.onfi_problem.specs.Problem.{Problem, IsProblem}
use Rattle.onfi_group.specs.Group.{IsGroup, group_spans, lun_of, IsFirst, IsStartable, is_member, on_block}
use Rattle.onfi_timing.specs.Phases.{phase_length}
use Rattle.onfi_schedule.specs.Laws.{RunsFirst}
use Rattle.onfi_schedule.specs.Runs.{Step, Run}
use Rattle.onfi_problem.proofs.Perm.{All-has, All-each}
use Rattle.onfi_problem.proofs.Places.{get_set_other, set_set, same_place}
use Rattle.onfi_problem.proofs.Wants.{first_has, number_member, some_with_id, same_by_id}
use Rattle.onfi_schedule.proofs.Least.{on_block_is}
use Rattle.onfi_problem.proofs.Kept.{kept}
use Rattle.onfi_schedule.proofs.Sooner.{luns_self, set_sooner, after_sooner, sooner_run}

abbrev pub left_by : Move → List Want → List Want
left_by (Next l) wants = wants
left_by (Start ms) wants = without ms wants

-- phase n of the group on LUN l, with these wants left
abbrev pub put : Problem → ℕ → List Want → ℕ → List Want → ℕ → Problem
put p l g n wants t =
    let c = t + phase_length (group_spans p.timing g) (length g) n in
    record { timing = p.timing; rules = p.rules; bus_free = c; luns = slice_set p.luns l (lun_after p.timing g n c); wants = wants }

pub record Doing (p : Problem) (m : Move) : Type 0 where
  pub group : List Want
  pub number : ℕ
  pub is : (q : Problem) → slice_get q.luns (move_lun m) ≡ slice_get p.luns (move_lun m) → (t : ℕ) → placed q m t ≡ put q (move_lun m) group number (left_by m q.wants) t

pub doing : (p : Problem) (m : Move) → IsMove p m → Doing p m
doing p (Next l) (g, n, r, at) = record { group = g; number = n; is = λ q e t. rw (e ∙ at) refl }
doing p (Start ms) (since, at, st) = record { group = ms; number = 0; is = λ q e t. refl }

-- the move's phase at t, as if it took no bus
abbrev pub advanced : Problem → Move → ℕ → Problem
advanced p m t = record (placed p m t) { bus_free = p.bus_free }

-- the same where LUN l looks
pub record SameAt (p q : Problem) (l : ℕ) : Type 0 where
  pub rules : p.rules ≡ q.rules
  pub state : slice_get p.luns l ≡ slice_get q.luns l
  pub blocks : (m : Want) → m.lun ≡ l → filter (on_block m) p.wants ≡ filter (on_block m) q.wants

pub same_back : (p q : Problem) (l : ℕ) → SameAt p q l → SameAt q p l
same_back p q l s = record { rules = sym s.rules; state = sym s.state; blocks = λ m e. sym (s.blocks m e) }

pub same_move : (p q : Problem) (l : ℕ) (m : Move) → SameAt p q l → move_lun m ≡ l → IsMove p m → IsMove q m
same_move p q l (Next j) s e (g, n, r, at) = (g, n, r, sym (subst (λ i. slice_get p.luns i ≡ slice_get q.luns i) (sym e) s.state) ∙ at)
same_move p q l (Start ms) s e (since, at, st) = (
  since,
  sym (subst (λ i. slice_get p.luns i ≡ slice_get q.luns i) (sym e) s.state) ∙ at,
  record {
    group = subst (λ r. IsGroup r ms) s.rules st.group;
    first = All-each (IsFirst q.wants) ms (λ m h. let here = All-has (IsFirst p.wants) ms m st.first h in let lun = All-has _ ms m st.group.lun h in rw (← s.blocks m (lun ∙ e)) here);
  },
)

filter_without : (ms ws : List Want) (m : Want) → ((w : Want) → Has ws w → on_block m w ≡ true → is_member ms w ≡ false) → filter (on_block m) ws ≡ filter (on_block m) (without ms ws)
filter_without ms [] m f = refl
filter_without ms (w ∷ ws) m f =
    let r = filter_without ms ws m (λ v h. f v (inr h)) in
    elim (cases_Bool (on_block m w)) [
      | inl k ↦ (let n = f w (inl refl) k in simp (n, k) (ap (λ vs. w ∷ vs) r))
      | inr k ↦ elim (cases_Bool (is_member ms w)) [ inl n ↦ simp (k, n) r | inr n ↦ simp (k, n) r ]
    ]

pub not_member : (p : Problem) → IsProblem p → (ms : List Want) → IsStartable p.rules p.wants ms → (w : Want) → Has p.wants w → w.lun ≢ lun_of ms → is_member ms w ≡ false
not_member p ip ms st w h d = elim (cases_Bool (is_member ms w)) [
  | inl k ↦ (
      let m = some_with_id ms w.id (number_member ms w.id k) in
      let first = All-has (IsFirst p.wants) ms m.0 st.first m.1 in
      let lun = All-has _ ms m.0 st.group.lun m.1 in
      let same = same_by_id p.wants m.0 w ip.ids (first_has (on_block m.0) p.wants m.0 first) h m.2 in
      absurd (d (sym (ap (λ v. v.lun) same) ∙ lun)))
  | inr k ↦ k
]

-- a move leaves the other LUNs alone
pub other_lun : (p : Problem) (m : Move) (t l : ℕ) → IsProblem p → IsMove p m → l ≢ move_lun m → SameAt p (placed p m t) l
other_lun p (Next j) t l ip (g, n, r, at) d =
    let c = t + phase_length (group_spans p.timing g) (length g) n in
    rw at (record { rules = refl; state = sym (get_set_other p.luns j l (lun_after p.timing g n c) d); blocks = λ m e. refl })
other_lun p (Start ms) t l ip (since, at, st) d =
    let c = t + phase_length (group_spans p.timing ms) (length ms) 0 in
    record {
      rules = refl;
      state = sym (get_set_other p.luns (lun_of ms) l (lun_after p.timing ms 0 c) d);
      blocks = λ m e. filter_without ms p.wants m (λ w h k. not_member p ip ms st w h (λ q. d (sym e ∙ (sym (on_block_is m w k).0 ∙ q))));
    }

left_left : (a b : Move) (ws : List Want) → left_by a (left_by b ws) ≡ left_by b (left_by a ws)
left_left (Next l) b ws = refl
left_left (Start ms) (Next l) ws = refl
left_left (Start ms) (Start ns) ws = swapped (λ w. not (is_member ms w)) (λ w. not (is_member ns w)) ws
  where
    swapped : (f g : Want → Bool) (vs : List Want) → filter f (filter g vs) ≡ filter g (filter f vs)
    swapped f g [] = refl
    swapped f g (v ∷ vs) =
        let r = swapped f g vs in
        elim (cases_Bool (f v)) [
          | inl a ↦ elim (cases_Bool (g v)) [ inl b ↦ simp (a, b) (ap (λ us. v ∷ us) r) | inr b ↦ simp (a, b) r ]
          | inr a ↦ elim (cases_Bool (g v)) [ inl b ↦ simp (a, b) r | inr b ↦ simp (a, b) r ]
        ]

abbrev with_bus : Problem → ℕ → Problem
with_bus p b = record { timing = p.timing; rules = p.rules; bus_free = b; luns = p.luns; wants = p.wants }

abbrev with_luns : Problem → ℕ → List LunState → List Want → Problem
with_luns p b luns wants = record { timing = p.timing; rules = p.rules; bus_free = b; luns = luns; wants = wants }

-- moves of two LUNs commute
commute : (p : Problem) (a b : Move) (t u : ℕ) → IsMove p a → IsMove p b → move_lun a ≢ move_lun b → advanced (placed p b u) a t ≡ placed (advanced p a t) b u
commute p a b t u ia ib d =
    let da = doing p a ia in
    let db = doing p b ib in
    let l = move_lun a in
    let j = move_lun b in
    let cb = u + phase_length (group_spans p.timing db.group) (length db.group) db.number in
    let ca = t + phase_length (group_spans p.timing da.group) (length da.group) da.number in
    let q = put p j db.group db.number (left_by b p.wants) u in
    let p1 : Problem = record (put p l da.group da.number (left_by a p.wants) t) { bus_free = p.bus_free } in
    let one : advanced (placed p b u) a t ≡ advanced q a t = ap (λ r. advanced r a t) (db.is p refl u) in
    let two : advanced q a t ≡ record (put q l da.group da.number (left_by a q.wants) t) { bus_free = q.bus_free } = ap (λ r. with_bus r cb) (da.is q (get_set_other p.luns j l (lun_after p.timing db.group db.number cb) d) t) in
    let three : with_bus (put q l da.group da.number (left_by a q.wants) t) cb ≡ put p1 j db.group db.number (left_by b p1.wants) u =
    ap (λ xs. with_luns p cb xs (left_by a (left_by b p.wants))) (set_set p.luns j l (lun_after p.timing db.group db.number cb) (lun_after p.timing da.group da.number ca) (λ e. d (sym e))) ∙ ap (with_luns p cb (slice_set (slice_set p.luns l (lun_after p.timing da.group da.number ca)) j (lun_after p.timing db.group db.number cb))) (left_left a b p.wants) in
    let four : placed p1 b u ≡ put p1 j db.group db.number (left_by b p1.wants) u = db.is p1 (get_set_other p.luns l j (lun_after p.timing da.group da.number ca) (λ e. d (sym e))) u in
    let five : placed (advanced p a t) b u ≡ placed p1 b u = ap (λ r. placed (with_bus r p.bus_free) b u) (da.is p refl t) in
    one ∙ (two ∙ (three ∙ (sym four ∙ sym five)))

pub record Pulled (p : Problem) (l f : ℕ) : Type 0 where
  pub move : Move
  pub is_move : IsMove p move
  pub lun : move_lun move ≡ l
  pub runs : (t : ℕ) → t ≤ p.bus_free → (steps : List Step) × (f' : ℕ) × (f' ≤ f) × Run (advanced p move t) steps f'

pub not_done : (p : Problem) (m : Move) → IsDone p → IsMove p m → ⊥
not_done p (Next l) d (g, n, r, at) = d.free l g n r at
not_done p (Start []) d (since, at, st) = let s = st.group.some in omega arith
not_done p (Start (m ∷ ms)) d (since, at, st) = let f : slice_get (filter (on_block m) []) 0 ≡ Some m = rw d.wants at st.first.0 in cc

pub bus_after : (p : Problem) (m : Move) (t : ℕ) → IsMove p m → t ≤ (placed p m t).bus_free
bus_after p m t im = let d = doing p m im in rw (d.is p refl t) (omega arith)

-- with a move of another LUN in front
other_first : (steps : List Step) (p : Problem) (s : Step) (l f : ℕ) (r : Pulled (placed p s.move s.start) l f) → IsProblem p → IsMove p s.move → earliest p s.move ≤ s.start → l ≢ move_lun s.move → IsMove p r.move → (t : ℕ) → t ≤ p.bus_free → (steps : List Step) × (f' : ℕ) × (f' ≤ f) × Run (advanced p r.move t) steps f'
other_first steps p s l f r ip mv on_time other ir t le =
    let bus = bus_after p s.move s.start mv in
    let x = r.runs t (omega arith) in
    let lun = r.lun in
    let apart : move_lun s.move ≢ move_lun r.move = λ e. other (sym r.lun ∙ sym e) in
    let o = other_lun p r.move t (move_lun s.move) ip ir apart in
    let o' : SameAt p (advanced p r.move t) (move_lun s.move) = record { rules = o.rules; state = o.state; blocks = o.blocks } in
    let early : earliest (advanced p r.move t) s.move ≤ s.start = subst (λ z. max p.bus_free (free_from z) ≤ s.start) o.state on_time in
    (s ∷ x.0, x.1, x.2, (same_move p (advanced p r.move t) (move_lun s.move) s.move o' refl mv, early, subst (λ z. Run z x.0 x.1) (commute p r.move s.move t s.start ir mv (λ e. apart (sym e))) x.3))

-- the first move of a LUN in a run can be made at any time up to `bus_free`, and the rest ends no later
pub pull : (steps : List Step) (p : Problem) (l f : ℕ) (m : Move) → IsProblem p → IsMove p m → move_lun m ≡ l → Run p steps f → Pulled p l f
pull [] p l f m ip im e (done, q) = absurd (not_done p m done im)
pull (s ∷ steps) p l f m ip im e (mv, on_time, run) =
    elim (same_place l (move_lun s.move)) [
      | inl same ↦ record {
        move = s.move;
        is_move = mv;
        lun = sym same;
        runs = λ t le.
            let d = doing p s.move mv in
            let a = d.is p refl s.start in
            let b = d.is p refl t in
            let long = s.start + phase_length (group_spans p.timing d.group) (length d.group) d.number in
            let short = t + phase_length (group_spans p.timing d.group) (length d.group) d.number in
            let left = left_by s.move p.wants in
            let run' = subst (λ q. Run q steps f) a run in
            let r = sooner_run p.timing p.rules steps left p.bus_free long (slice_set p.luns (move_lun s.move) (lun_after p.timing d.group d.number short)) (slice_set p.luns (move_lun s.move) (lun_after p.timing d.group d.number long)) f (omega arith)
            (set_sooner p.luns p.luns (move_lun s.move) _ _ (luns_self p.luns) (after_sooner p.timing d.group d.number short long (omega arith))) run' in
            (steps, r.0, r.1, subst (λ q. Run (with_bus q p.bus_free) steps r.0) (sym b) r.2);
      }
      | inr other ↦ (
          let q = placed p s.move s.start in
          let there = other_lun p s.move s.start l ip mv other in
          let r = pull steps q l f m (kept p s.move s.start ip mv) (same_move p q l m there e im) e run in
          record {
            move = r.move;
            is_move = same_move q p l r.move (same_back p q l there) r.lun r.is_move;
            lun = r.lun;
            runs = λ t le. other_first steps p s l f r ip mv on_time other (same_move q p l r.move (same_back p q l there) r.lun r.is_move) t le;
          })
    ]

-- a move after which each move of another LUN would still fit before this one's phase can wait
pub yielding : (p : Problem) (m m0 : Move) (t l f : ℕ) (steps : List Step) → IsProblem p → IsMove p m → earliest p m ≤ t → Run (placed p m t) steps f → l ≢ move_lun m → IsMove p m0 → move_lun m0 ≡ l → ((n : Move) → IsMove p n → move_lun n ≡ l → (after p n).bus_free ≤ earliest p m) → RunsFirst p l f
yielding p m m0 t l f steps ip im on_time run d i0 e0 fits =
    let q = placed p m t in
    let there = other_lun p m t l ip im d in
    let r = pull steps q l f m0 (kept p m t ip im) (same_move p q l m0 there e0 i0) e0 run in
    let ir = same_move q p l r.move (same_back p q l there) r.lun r.is_move in
    let u = earliest p r.move in
    let fit = fits r.move ir r.lun in
    let bus = bus_after p m t im in
    let bus' = bus_after p r.move u ir in
    let x = r.runs u (omega arith) in
    let apart : move_lun m ≢ move_lun r.move = λ e. d (sym r.lun ∙ sym e) in
    let o = other_lun p r.move u (move_lun m) ip ir apart in
    let dm = doing p m im in
    let same : placed (advanced p r.move u) m t ≡ placed (after p r.move) m t = dm.is (advanced p r.move u) (sym o.state) t ∙ sym (dm.is (after p r.move) (sym o.state) t) in
    let floor : free_from (slice_get p.luns (move_lun m)) ≤ t = omega arith in
    let floor' = subst (λ z. free_from z ≤ t) o.state floor in
    record {
      move = r.move;
      is_move = ir;
      of_lun = r.lun;
      steps = record { move = m; start = t } ∷ x.0;
      finish = x.1;
      no_later = x.2;
      run = (same_move p (after p r.move) (move_lun m) m o refl im, omega arith, subst (λ z. Run z x.0 x.1) (commute p r.move m u t ir im (λ e. apart (sym e)) ∙ same) x.3);
    }
