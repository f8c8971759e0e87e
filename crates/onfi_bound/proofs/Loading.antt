-- What sets of wants take, LUN by LUN.
use Rattle.std.proofs.Common.{◌≡◌, ◌≢◌, ℕ, zero, suc, ◌+◌, ◌*◌, ◌^◌, ◌≤◌, ◌<◌, ◌⊎◌, inl, inr, Bool, true, false, if◌then◌else◌, List, [], ◌∷◌, ◌++◌, length, get_or, replicate, Option, Some, None, refl, sym, ap, ◌∙◌, subst, arith}
use Rattle.std.specs.Prelude.{min, ◌||◌, slice_set}
use Rattle.std.specs.List.{AllByRecursion as All, list_any}
use Rattle.std.proofs.lemmas.Bool.{cases_eq, false≢true}
use Rattle.std.proofs.lemmas.List.{get_or-set_same, get_or-set_other, map-append, length-append}
use Rattle.std.proofs.lemmas.List.Folds.{list_any-append}
use Rattle.onfi_timing.specs.declared.operation.Operation.{Operation}
use Rattle.onfi_timing.specs.declared.timing.Timing.{Timing}
use Rattle.onfi_timing.specs.Kinds.{spans_of}
use Rattle.onfi_request.specs.declared.want.Want.{Want}
use Rattle.onfi_group.specs.declared.rules.Rules.{Rules}
use Rattle.onfi_problem.specs.declared.moves.Move.{Move as KeptMove}
use Rattle.onfi_problem.specs.Problem.{Problem}
use Rattle.onfi_problem.specs.Moves.{Move, Next, Start, IsMove, after}
use Rattle.onfi_problem.specs.Position.{Position, waiting_of, move_of, moved}
use Rattle.onfi_bound.specs.declared.load.Load.{Load}
use Rattle.onfi_bound.specs.Bounds.{least, least_with, on_lun, wants_work, page_class, above_class}
use Rattle.onfi_bound.specs.Parts.{added_wait, has_operation}
use Rattle.onfi_bound.specs.Loads.{IsLeast, IsLoad, IsShortLoad, IsLoadBefore, AreLoads, AreLoadsBefore, commands_to_post}
use Rattle.onfi_problem.proofs.Perm.{All-weaker}
use Rattle.onfi_bound.proofs.DieBound.{no_work}
use Rattle.onfi_bound.proofs.Counts.{on_lun_with, on_lun_without, work_with}

-- one number is written
put_at : (P : ℕ → ℕ → Type 0) (xs : List ℕ) (i v : ℕ) → i < length xs → P i v → ((k : ℕ) → k ≢ i → P k (get_or xs k 0)) → (k : ℕ) → P k (get_or (slice_set xs i v) k 0)
put_at P xs i v h here old k = elim (cases_eq k i) [
  | inl e ↦ (let q : get_or (slice_set xs i v) i 0 ≡ v = get_or-set_same xs i v 0 h in subst (λ j. P j (get_or (slice_set xs i v) j 0)) (sym e) (subst (P i) (sym q) here))
  | inr d ↦ (let q : get_or (slice_set xs i v) k 0 ≡ get_or xs k 0 = get_or-set_other xs i k v 0 d in subst (P k) (sym q) (old k d))
]

zero_at : (n k : ℕ) → get_or {A = ℕ} (replicate n 0) k 0 ≡ 0
zero_at zero k = refl
zero_at (suc n) zero = refl
zero_at (suc n) (suc k) = zero_at n k

-- the load of no want
pub nothing_taken : (timing : Timing) (rules : Rules) (load : Load) → load.sums.commands ≡ 0 → load.sums.posts ≡ 0 → ((operation : Operation) → has_operation load.sums.operations operation ≡ false) → load.firsts ≡ replicate 8 0 → load.work ≡ replicate 8 0 → IsShortLoad timing rules [] load
nothing_taken timing rules load commands posts operations firsts work = record {
  takes = record {
    commands = commands;
    posts = posts;
    operations = operations;
    firsts = λ lun few. tt;
    short = λ lun. let z = zero_at 8 lun in rw firsts (omega arith);
    work = λ lun few. rw work (zero_at 8 lun ∙ sym (no_work timing rules));
  };
  legal = tt;
  short = λ lun. let z = zero_at 8 lun in rw work (omega arith);
}

-- the least of some and of one more
least_more : (xs : List ℕ) (n : ℕ) → least (xs ++ n ∷ []) ≡ Some (least_with n (least xs))
least_more [] n = refl
least_more (x ∷ xs) n = ap (λ o. Some (least_with x o)) (least_more xs n) ∙ go (least xs)
  where
    go : (o : Option ℕ) → Some (least_with x (Some (least_with n o))) ≡ Some (least_with n (Some (least_with x o)))
    go None = ap Some (omega arith)
    go (Some y) = ap Some (omega arith)

first_alone : (timing : Timing) (rules : Rules) (ws : List Want) (w : Want) → wants_work timing rules ws ≡ 0 → IsLeast (commands_to_post timing (ws ++ w ∷ [])) ((spans_of timing w.kind).cmd + (spans_of timing w.kind).array)
first_alone timing rules [] w z = refl
first_alone timing rules (v ∷ ws) w z = let r = (spans_of timing v.kind).in_range in absurd (omega arith)

first_lower : (timing : Timing) (rules : Rules) (ws : List Want) (w : Want) (first : ℕ) → 1 ≤ wants_work timing rules ws → IsLeast (commands_to_post timing ws) first → IsLeast (commands_to_post timing (ws ++ w ∷ [])) (min ((spans_of timing w.kind).cmd + (spans_of timing w.kind).array) first)
first_lower timing rules [] w first some h = let a = no_work timing rules in absurd (omega arith)
first_lower timing rules (v ∷ ws) w first some h =
    let n = (spans_of timing w.kind).cmd + (spans_of timing w.kind).array in
    ap least (map-append _ (v ∷ ws) (w ∷ [])) ∙ (least_more (commands_to_post timing (v ∷ ws)) n ∙ ap (λ o. Some (least_with n o)) h)

pub any_more : (test : Want → Bool) (ws : List Want) (w : Want) → list_any test (ws ++ w ∷ []) ≡ (if list_any test ws then true else test w)
any_more test ws w = list_any-append test ws (w ∷ []) ∙ go (list_any test ws) (test w)
  where
    go : (a b : Bool) → (a || (b || false)) ≡ (if a then true else b)
    go true b = refl
    go false true = refl
    go false false = refl

-- no sum of a few wants' phases leaves its type
-- a want's own command and array, or the least so far where its LUN had wants
abbrev pub IsOwnFirst : Timing → Want → Load → ℕ → Type 0
IsOwnFirst timing w load first =
    let own = (spans_of timing w.kind).cmd + (spans_of timing w.kind).array in
    ((get_or load.work w.lun 0 ≡ 0) × (first ≡ own)) ⊎ ((1 ≤ get_or load.work w.lun 0) × (first ≡ min own (get_or load.firsts w.lun 0)))

-- the entries of one want more, after all others
module _ (timing : Timing) (rules : Rules) (ws : List Want) (w : Want) (load : Load) (h : IsShortLoad timing rules ws load) where
  abbrev here : ℕ
  here = get_or load.work w.lun 0

  -- its LUN's least command and array: its own where the LUN had no want
  pub firsts_with : (first : ℕ) → w.lun < length load.firsts → w.lun < 8 → IsOwnFirst timing w load first → (lun : ℕ) → lun < 8 → IsLeast (commands_to_post timing (on_lun lun (ws ++ w ∷ []))) (get_or (slice_set load.firsts w.lun first) lun 0)
  firsts_with first within small is lun few = put_at (λ k v. k < 8 → IsLeast (commands_to_post timing (on_lun k (ws ++ w ∷ []))) v) load.firsts w.lun first within
      (λ k. rw (on_lun_with w.lun ws w refl) (own is))
      (λ k other less. rw (on_lun_without k ws w (λ e. other (sym e))) (h.takes.firsts k less)) lun few
    where
      own : IsOwnFirst timing w load first → IsLeast (commands_to_post timing (on_lun w.lun ws ++ w ∷ [])) first
      own (inl (z, e)) = rw e (first_alone timing rules (on_lun w.lun ws) w (sym (h.takes.work w.lun small) ∙ z))
      own (inr (some, e)) = let q = h.takes.work w.lun small in rw e (first_lower timing rules (on_lun w.lun ws) w (get_or load.firsts w.lun 0) (omega arith) (h.takes.firsts w.lun small))

  pub firsts_short : (first : ℕ) → w.lun < length load.firsts → IsOwnFirst timing w load first → (lun : ℕ) → get_or (slice_set load.firsts w.lun first) lun 0 < 2 ^ 51
  firsts_short first within is = put_at (λ k v. v < 2 ^ 51) load.firsts w.lun first within (own is) (λ k other. h.takes.short k)
    where
      own : IsOwnFirst timing w load first → first < 2 ^ 51
      own (inl (z, e)) = let r = (spans_of timing w.kind).in_range in omega arith
      own (inr (some, e)) = let r = (spans_of timing w.kind).in_range in omega arith

  -- its LUN's work: its phases and its wait more
  pub works_with : (wait : ℕ) → w.lun < length load.work → w.lun < 8 → w.plane ≤ 3 → page_class w < 2 ^ 16 → above_class rules w < 2 ^ 16 → wait ≡ added_wait (spans_of timing w.kind) rules (on_lun w.lun ws) w → (lun : ℕ) → lun < 8 → get_or (slice_set load.work w.lun (here + ((spans_of timing w.kind).cmd + (spans_of timing w.kind).post + wait))) lun 0 ≡ wants_work timing rules (on_lun lun (ws ++ w ∷ []))
  works_with wait within small plane page above e lun few = put_at (λ k v. k < 8 → v ≡ wants_work timing rules (on_lun k (ws ++ w ∷ []))) load.work w.lun (here + ((spans_of timing w.kind).cmd + (spans_of timing w.kind).post + wait)) within
      (λ k. rw (on_lun_with w.lun ws w refl, e, h.takes.work w.lun small) (sym (work_with timing rules (on_lun w.lun ws) w plane page above)))
      (λ k other less. rw (on_lun_without k ws w (λ q. other (sym q))) (h.takes.work k less)) lun few

  pub works_short : (wait : ℕ) → w.lun < length load.work → wait < 2 ^ 50 → (lun : ℕ) → get_or (slice_set load.work w.lun (here + ((spans_of timing w.kind).cmd + (spans_of timing w.kind).post + wait))) lun 0 ≤ length (ws ++ w ∷ []) * 2 ^ 52
  works_short wait within short =
      let r = (spans_of timing w.kind).in_range in
      let n = length-append ws (w ∷ []) in
      let at = h.short w.lun in
      put_at (λ k v. v ≤ length (ws ++ w ∷ []) * 2 ^ 52) load.work w.lun (here + ((spans_of timing w.kind).cmd + (spans_of timing w.kind).post + wait)) within (omega arith) (λ k other. let o = h.short k in omega arith)

-- what holds of all wants that wait holds of each
pub waits_at : (P : Want → Type 0) (marks : List Bool) (ws : List Want) (i : ℕ) (d : Want) → i < length ws → get_or marks i false ≡ true → All P (waiting_of marks ws) → P (get_or ws i d)
waits_at P marks [] i d h m a = absurd (omega arith)
waits_at P [] (w ∷ ws) i d h m a = absurd (false≢true m)
waits_at P (true ∷ marks) (w ∷ ws) zero d h m a = a.0
waits_at P (false ∷ marks) (w ∷ ws) zero d h m a = absurd (false≢true m)
waits_at P (true ∷ marks) (w ∷ ws) (suc i) d h m a = waits_at P marks ws i d (omega arith) m a.1
waits_at P (false ∷ marks) (w ∷ ws) (suc i) d h m a = waits_at P marks ws i d (omega arith) m a

-- no want is marked
pub none_wait : (marks : List Bool) (ws : List Want) → ((i : ℕ) → i < length ws → get_or marks i false ≡ false) → waiting_of marks ws ≡ []
none_wait marks [] h = refl
none_wait [] (w ∷ ws) h = refl
none_wait (b ∷ marks) (w ∷ ws) h = let e : b ≡ false = h 0 (omega arith) in rw e (none_wait marks ws (λ i k. h (suc i) (omega arith)))

-- a want is marked after all that are
pub one_more_waits : (marks : List Bool) (ws : List Want) (n : ℕ) (d : Want) → n < length marks → n < length ws → ((i : ℕ) → n ≤ i → i < length ws → get_or marks i false ≡ false) → waiting_of (slice_set marks n true) ws ≡ waiting_of marks ws ++ get_or ws n d ∷ []
one_more_waits [] ws n d h k none = absurd (omega arith)
one_more_waits (b ∷ marks) [] n d h k none = absurd (omega arith)
one_more_waits (b ∷ marks) (w ∷ ws) zero d h k none =
    let e : b ≡ false = none 0 (omega arith) (omega arith) in
    rw (e, none_wait marks ws (λ i q. none (suc i) (omega arith) (omega arith))) refl
one_more_waits (true ∷ marks) (w ∷ ws) (suc n) d h k none = ap (λ vs. w ∷ vs) (one_more_waits marks ws n d (omega arith) (omega arith) (λ i a q. none (suc i) (omega arith) (omega arith)))
one_more_waits (false ∷ marks) (w ∷ ws) (suc n) d h k none = one_more_waits marks ws n d (omega arith) (omega arith) (λ i a q. none (suc i) (omega arith) (omega arith))

-- .. and none from the next number on
pub none_behind : (marks : List Bool) (n m : ℕ) → ((i : ℕ) → n ≤ i → i < m → get_or marks i false ≡ false) → (i : ℕ) → n + 1 ≤ i → i < m → get_or (slice_set marks n true) i false ≡ false
none_behind marks n m none i a k = get_or-set_other marks n i true false (λ e. omega arith) ∙ none i (omega arith) k

pub marked : (x : Position) (number : ℕ) (load more : Load) (d : Want) (before : List Want) → number < length load.marks → number < length x.all → before ≡ waiting_of load.marks x.all → more.marks ≡ load.marks → IsLoadBefore x number load → IsShortLoad x.problem.timing x.problem.rules (before ++ get_or x.all number d ∷ []) more → IsLoadBefore x (number + 1) (record { marks = slice_set more.marks number true; sums = more.sums; firsts = more.firsts; work = more.work })
marked x number load more d before within there b m h a =
    let e : before ++ get_or x.all number d ∷ [] ≡ waiting_of (slice_set more.marks number true) x.all = rw (b, m) (sym (one_more_waits load.marks x.all number d within there h.before)) in
    let a' = subst (λ ws. IsShortLoad x.problem.timing x.problem.rules ws more) e a in
    record {
      takes = record {
        takes = record { commands = a'.takes.commands; posts = a'.takes.posts; operations = a'.takes.operations; firsts = a'.takes.firsts; short = a'.takes.short; work = a'.takes.work };
        legal = a'.legal;
        short = a'.short;
      };
      before = rw m (none_behind load.marks number (length x.all) h.before);
    }

-- .. so a load of wants before a number is one of wants before the next
pub before_next : (x : Position) (number : ℕ) (load : Load) → IsLoadBefore x number load → IsLoadBefore x (number + 1) load
before_next x number load h = record { takes = h.takes; before = λ i a k. h.before i (omega arith) k }

pub all_before_next : (x : Position) (number : ℕ) (loads : List Load) → AreLoadsBefore x number loads → AreLoadsBefore x (number + 1) loads
all_before_next x number loads h = All-weaker _ (IsLoadBefore x (number + 1)) (before_next x number) loads h

pub loads_of : (x : Position) (number : ℕ) (loads : List Load) → AreLoadsBefore x number loads → AreLoads x loads
loads_of x number loads h = All-weaker (IsLoadBefore x number) _ (λ load k. k.takes.takes) loads h

-- a move leaves what was prepared
pub loads_after : (x : Position) (m : KeptMove) (loads : List Load) → IsMove x.problem (move_of x.groups m) → AreLoads x loads → AreLoads (moved x m) loads
loads_after x m loads im h = go (move_of x.groups m) im refl
  where
    same : (q : Problem) → q.timing ≡ x.problem.timing → q.rules ≡ x.problem.rules → All (λ (load : Load). IsLoad q.timing q.rules (waiting_of load.marks x.all) load) loads
    same q t r = rw (t, r) h

    go : (n : Move) → IsMove x.problem n → move_of x.groups m ≡ n → AreLoads (moved x m) loads
    go (Next lun) (g, k, r, at) e = same (after x.problem (move_of x.groups m)) (rw (e, at) refl) (rw (e, at) refl)
    go (Start g) im e = same (after x.problem (move_of x.groups m)) (rw e refl) (rw e refl)
