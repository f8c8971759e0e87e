-- Whole logs: what is accepted is legal, and what is legal is accepted.
use Rattle.std.proofs.Common.{◌≡◌, ℕ, zero, suc, ◌+◌, ◌<◌, ◌≤◌, inl, inr, true, List, [], ◌∷◌, ◌++◌, length, map, Option, None, Some, refl, sym, ap, ◌∙◌, subst, append_assoc, append-nil, arith}
use Rattle.std.specs.Prelude.{◌==◌, not, slice_get, slice_set}
use Rattle.std.specs.List.{AllByRecursion as All, filter}
use Rattle.std.proofs.lemmas.Bool.{cases_Bool, eqb-true, le-ltb}
use Rattle.std.proofs.lemmas.List.{length-map}
use Rattle.onfi_timing.specs.Kinds.{IsStated}
use Rattle.onfi_timing.specs.Phases.{phase_length}
use Rattle.onfi_request.specs.declared.want.Want.{Want}
use Rattle.onfi_group.specs.declared.rules.Rules.{Rules}
use Rattle.onfi_group.specs.Group.{IsGroup, group_spans, is_member, lun_of, on_block}
use Rattle.onfi_group.proofs.Lists.{All-append, All-has, All-weaker, Pairs-append, first_has}
use Rattle.onfi_problem.specs.declared.lun_state.LunState.{LunState}
use Rattle.onfi_problem.specs.declared.lun_state.LunState.TheVariants.{Free, Running}
use Rattle.onfi_problem.specs.Moves.{IsDone, lun_after, placed}
use Rattle.onfi_problem.specs.Problem.{Problem, AreStated, HasLengths, IsProblem, IsRunning, IsWant}
use Rattle.onfi_problem.proofs.LunAfter.{running_is}
use Rattle.onfi_problem.proofs.Places.{get_set_same, get_set_other, length_set, same_place}
use Rattle.onfi_problem.proofs.Wants.{All-filter, Pairs-filter}
use Rattle.onfi_schedule.specs.Runs.{Step, Run}
use Rattle.onfi_schedule.proofs.RunLegal.{run_legal}
use Rattle.onfi_audit.specs.declared.line.Line.{Line}
use Rattle.onfi_audit.specs.declared.stage.LunStage.{LunStage}
use Rattle.onfi_audit.specs.declared.stage.LunStage.TheVariants as stage
use Rattle.onfi_audit.specs.Audit.{Audit, IsAccepted, IsPlaced, Joins, MayCome, MayComeOn, accepting, after_line, after_on, first_at, gone_on, is_at, joined, joined_by, joined_with, opened, opening, stage_of}
use Rattle.onfi_audit.specs.Laws.{CompleteLaw, OpenLaw, SoundLaw, WholeLaw}
use Rattle.onfi_audit.specs.Legal.{Accept, Audited, Entry, Fits, IsAudit, IsChoice, IsStage, Leads, Phase, closed, lines_of, problem_at, wants_of, with_wants}
use Rattle.onfi_audit.proofs.Filters.{filter_all, filter-append, first_there}
use Rattle.onfi_audit.proofs.States.{opening_states}
use Rattle.onfi_audit.proofs.Steps.{back, forth, keep, same_parts}

-- What is kept

-- who else a LUN's stage may be
pub stages_set : (a : Audit) → IsAudit a → (l : ℕ) (x now : LunStage) → slice_get a.luns l ≡ Some x → IsStage a.rules l now → (n : ℕ) (y : LunStage) → slice_get (slice_set a.luns l now) n ≡ Some y → IsStage a.rules n y
stages_set a ia l x now there is n y h = elim (same_place n l) [
  | inl e ↦ (
      let h' : slice_get (slice_set a.luns l now) l ≡ Some y = subst (λ m. slice_get (slice_set a.luns l now) m ≡ Some y) e h in
      let q : Some now ≡ Some y = sym (get_set_same a.luns l x now there) ∙ h' in
      let r : now ≡ y = cc in
      subst (λ m. IsStage a.rules m y) (sym e) (subst (IsStage a.rules l) r is))
  | inr d ↦ ia.stages n y (sym (get_set_other a.luns l n now d) ∙ h)
]

-- a LUN after a phase of a group of its own
stage_kept : (a : Audit) (l : ℕ) (group : List Want) (phase ended : ℕ) → IsGroup a.rules group → lun_of group ≡ l → All IsWant group → IsStage a.rules l (stage_of (lun_after a.timing group phase ended))
stage_kept a l group phase ended is lun wants = by_state (lun_after a.timing group phase ended) refl
  where
    by_state : (s : LunState) → lun_after a.timing group phase ended ≡ s → IsStage a.rules l (stage_of s)
    by_state (Free since) e = tt
    by_state (Running g n r) e =
        let q = running_is a.timing group g phase ended n r (ap Some e) in
        let q0 = q.0 in let q1 = q.1 in
        rw (← q0, ← q1) (record { group = is; lun = lun; wants = wants; started = omega arith; unfinished = q.3 })

going_kept : (a : Audit) → IsAudit a → (line : Line) (group : List Want) (phase : ℕ) (x : LunStage) → slice_get a.luns line.lun ≡ Some x
    → IsGroup a.rules group → lun_of group ≡ line.lun → All IsWant group → IsAudit (gone_on a line group phase)
going_kept a ia line group phase x there is lun wants =
    let ended = line.start + phase_length (group_spans a.timing group) (length group) phase in
    let now = stage_of (lun_after a.timing group phase ended) in
    record {
      wants = ia.wants;
      placed = ia.placed;
      in_range = subst (λ n. All (λ (w : Want). w.lun < n) a.wants) (sym (length_set a.luns line.lun now)) ia.in_range;
      ids = ia.ids;
      numbers = ia.numbers;
      stages = stages_set a ia line.lun x now there (stage_kept a line.lun group phase ended is lun wants);
    }

joining_kept : (a : Audit) → IsAudit a → (line : Line) (ms : List Want) (from : ℕ) (x : LunStage) → slice_get a.luns line.lun ≡ Some x → (j : Joins a line ms from)
    → (1 ≤ length ms → lun_of ms ≡ line.lun) → All IsWant ms → All (IsPlaced a.rules) ms → IsAudit (joined_with a line (ms ++ j.want ∷ []) j.want)
joining_kept a ia line ms from x there j lun wants placed =
    let w = j.want in
    let group = ms ++ w ∷ [] in
    let now = opened a.timing group (line.start + (group_spans a.timing group).cmd) in
    let test = λ (v : Want). not (is_member (w ∷ []) v) in
    let has = first_has (on_block w) a.wants w (first_there a.wants line w j.named j.first) in
    record {
      wants = All-filter IsWant test a.wants ia.wants;
      placed = All-filter (IsPlaced a.rules) test a.wants ia.placed;
      in_range = All-filter _ test a.wants (subst (λ n. All (λ (v : Want). v.lun < n) a.wants) (sym (length_set a.luns line.lun now)) ia.in_range);
      ids = Pairs-filter (λ y z. y.id < z.id) test a.wants ia.ids;
      numbers = All-filter _ test a.wants ia.numbers;
      stages = stages_set a ia line.lun x now there (
        j.group,
        lun_grown ms w j.named.lun lun,
        All-append IsWant ms (w ∷ []) wants (All-has IsWant a.wants w ia.wants has, tt),
        All-append (IsPlaced a.rules) ms (w ∷ []) placed (All-has (IsPlaced a.rules) a.wants w ia.placed has, tt),
      );
    }
  where
    lun_grown : (us : List Want) (v : Want) → v.lun ≡ line.lun → (1 ≤ length us → lun_of us ≡ line.lun) → lun_of (us ++ v ∷ []) ≡ line.lun
    lun_grown [] v e h = e
    lun_grown (u ∷ us) v e h = h (omega arith)

kept_on : (a : Audit) → IsAudit a → (line : Line) (o : Option LunStage) → slice_get a.luns line.lun ≡ o → MayComeOn a line o → IsAudit (after_on a line o)
kept_on a ia line None there may = absurd may
kept_on a ia line (Some (stage.Free since)) there j =
    subst IsAudit (sym (ap (joined_by a line []) j.first)) (joining_kept a ia line [] since (stage.Free since) there j (λ some. absurd (omega arith)) tt tt)
kept_on a ia line (Some (stage.Running group next ready)) there goes =
    let s = ia.stages line.lun (stage.Running group next ready) there in
    going_kept a ia line group next (stage.Running group next ready) there s.group s.lun s.wants
kept_on a ia line (Some (stage.Open group more ready)) there (inl j) =
    let s = ia.stages line.lun (stage.Open group more ready) there in
    let e : after_on a line (Some (stage.Open group more ready)) ≡ joined_with a line (group ++ j.want ∷ []) j.want = rw j.command (ap (joined_by a line group) j.first) in
    subst IsAudit (sym e) (joining_kept a ia line group more (stage.Open group more ready) there j (λ some. s.1) s.2 s.3)
kept_on a ia line (Some (stage.Open group more ready)) there (inr goes) =
    let s = ia.stages line.lun (stage.Open group more ready) there in
    let post : line.is_post ≡ true = goes.is.part ∙ ap not (le-ltb (length group) (length group) (omega arith)) in
    let e : after_on a line (Some (stage.Open group more ready)) ≡ gone_on a line group (length group) = rw post refl in
    subst IsAudit (sym e) (going_kept a ia line group (length group) (stage.Open group more ready) there s.0 s.1 s.2)

pub kept : (a : Audit) → IsAudit a → (line : Line) → MayCome a line → IsAudit (after_line a line)
kept a ia line may = kept_on a ia line (slice_get a.luns line.lun) refl may

pub kept_accepting : (a : Audit) (w : Want) → IsAudit a → IsAccepted a w → IsAudit (accepting a w)
kept_accepting a w ia is =
    let number = is.number in
    let less = All-weaker (λ (v : Want). v.id < a.accepted) (λ (v : Want). v.id < w.id) (λ v h. omega arith) a.wants ia.numbers in
    record {
      wants = All-append IsWant a.wants (w ∷ []) ia.wants (is.want, tt);
      placed = All-append (IsPlaced a.rules) a.wants (w ∷ []) ia.placed (is.placed, tt);
      in_range = All-append (λ (v : Want). v.lun < length a.luns) a.wants (w ∷ []) ia.in_range (is.lun, tt);
      ids = Pairs-append (λ (y z : Want). y.id < z.id) a.wants (w ∷ []) ia.ids (tt, tt) (λ y z h k. elim k [ inl e ↦ subst (λ (u : Want). y.id < u.id) e (All-has (λ (v : Want). v.id < w.id) a.wants y less h) | inr none ↦ absurd none ]);
      numbers = All-append (λ (v : Want). v.id < a.accepted + 1) a.wants (w ∷ []) (All-weaker (λ (v : Want). v.id < a.accepted) (λ (v : Want). v.id < a.accepted + 1) (λ v h. omega arith) a.wants ia.numbers) (omega arith, tt);
      stages = ia.stages;
    }

-- The opening

open_stage : (rules : Rules) (l : ℕ) (s : LunState) → ((g : List Want) (n r : ℕ) → s ≡ Running g n r → IsRunning rules l g n) → IsStage rules l (stage_of s)
open_stage rules l (Free since) h = tt
open_stage rules l (Running g n r) h = h g n r refl

-- the stage of a LUN of the opening is that of its state
record OpenAt (luns : List LunState) (l : ℕ) (x : LunStage) : Type 0 where
  pub state : LunState
  pub there : slice_get luns l ≡ Some state
  pub is : stage_of state ≡ x

open_at : (luns : List LunState) (l : ℕ) (x : LunStage) → slice_get (map stage_of luns) l ≡ Some x → OpenAt luns l x
open_at [] l x h = cc
open_at (s ∷ luns) zero x h = record { state = s; there = refl; is = cc }
open_at (s ∷ luns) (suc l) x h = let r = open_at luns l x h in record { state = r.state; there = r.there; is = r.is }

pub opening_is : (p : Problem) → IsProblem p → IsAudit (opening p)
opening_is p ip = record {
  wants = tt;
  placed = tt;
  in_range = tt;
  ids = tt;
  numbers = tt;
  stages = λ l x h.
      let o = open_at p.luns l x h in
      subst (IsStage p.rules l) o.is (open_stage p.rules l o.state (λ g n r e. ip.running l g n r (o.there ∙ ap Some e)));
}

-- no group is open there
pub opening_none : (b : Audit) (luns : List LunState) (n : ℕ) (later : List Want) → Fits b (slice_get (map stage_of luns) n) later → later ≡ []
opening_none b [] n later h = h
opening_none b (Free since ∷ luns) zero later h = h
opening_none b (Running g k r ∷ luns) zero later h = h
opening_none b (s ∷ luns) (suc n) later h = opening_none b luns n later h

-- where no LUN gets a member more all wait
pub all_wait : (f : ℕ → List Want) (wants : List Want) → ((n : ℕ) → f n ≡ []) → filter (keep f) wants ≡ wants
all_wait f wants none = filter_all (keep f) wants (λ w h. let e = none w.lun in rw e refl)

pub closed_is : (a : Audit) → problem_at a (λ n. []) ≡ closed a
closed_is a = same_parts a.timing a.rules _ _ _ _ _ _ refl refl (all_wait (λ n. []) a.wants (λ n. refl))

pub choice_none : (a : Audit) → IsAudit a → IsChoice a (λ n. [])
choice_none a ia n = by_stage (slice_get a.luns n) refl
  where
    by_stage : (o : Option LunStage) → slice_get a.luns n ≡ o → Fits a o []
    by_stage None h = refl
    by_stage (Some (stage.Free since)) h = refl
    by_stage (Some (stage.Running g k r)) h = refl
    by_stage (Some (stage.Open g more ready)) h = (subst (IsGroup a.rules) (sym (append-nil g)) (ia.stages n (stage.Open g more ready) h).0, tt)

-- Lines alone

abbrev Judged : Audit → List Line → Audit → Type 0
Judged a [] b = a ≡ b
Judged a (line ∷ lines) b = MayCome a line × Judged (after_line a line) lines b

-- what may stand after lines comes from what may have stood before them
record Led (a : Audit) (lines : List Line) (q : Problem) : Type 0 where
  pub before : ℕ → List Want
  pub choice : IsChoice a before
  pub leads : Leads (problem_at a before) lines q

led : (lines : List Line) (a b : Audit) → IsAudit a → Judged a lines b → (after : ℕ → List Want) → IsChoice b after → Led a lines (problem_at b after)
led [] a b ia e after choice = record { before = after; choice = subst (λ c. IsChoice c after) (sym e) choice; leads = ap (λ c. problem_at c after) e }
led (line ∷ lines) a b ia (may, judged) after choice =
    let r = led lines (after_line a line) b (kept a ia line may) judged after choice in
    let c = back a ia line may r.before r.choice in
    record { before = c.before; choice = c.choice; leads = (c.move, c.is, subst (λ p. Leads p lines (problem_at b after)) (sym c.leaves) r.leads) }

-- the line after lines of what may stand may come
comes : (lines : List Line) (a b : Audit) (line : Line) (q : Problem) → IsAudit a → Judged a lines b → (before : ℕ → List Want) → IsChoice a before → Leads (problem_at a before) (lines ++ line ∷ []) q → MayCome b line
comes [] a b line q ia e before choice (move, is, rest) = subst (λ c. MayCome c line) e (forth a ia line before choice move is).may
comes (l ∷ lines) a b line q ia (may, judged) before choice (move, is, rest) =
    let g = forth a ia l before choice move is in
    comes lines (after_line a l) b line q (kept a ia l may) judged g.after g.choice (subst (λ p. Leads p (lines ++ line ∷ []) q) g.leaves rest)

-- Requests that are accepted later

abbrev pub with_more : Audit → List Want → Audit
with_more a more = record a { wants = a.wants ++ more; accepted = a.accepted + length more }

same_audit : (a b : Audit) (vs ws : List Want) (m n : ℕ) → vs ≡ ws → m ≡ n → (let x : Audit = record a { wants = vs; accepted = m } in x) ≡ (let y : Audit = record a { wants = ws; accepted = n } in y)
same_audit a b vs ws m n ev em = rw (ev, em) refl

pub more_none : (a : Audit) → with_more a [] ≡ a
more_none a = same_audit a a (a.wants ++ []) a.wants (a.accepted + 0) a.accepted (append-nil a.wants) (omega arith)

pub more_next : (a : Audit) (w : Want) (more : List Want) → with_more (accepting a w) more ≡ with_more a (w ∷ more)
more_next a w more = same_audit a a ((a.wants ++ w ∷ []) ++ more) (a.wants ++ w ∷ more) (a.accepted + 1 + length more) (a.accepted + length (w ∷ more)) (append_assoc a.wants (w ∷ []) more) (omega arith)

-- each is the next one in its turn
abbrev pub AreAccepted : Audit → List Want → Type 0
AreAccepted a [] = Unit {0}
AreAccepted a (w ∷ more) = IsAccepted a w × AreAccepted (accepting a w) more

-- what acceptance looks at
pub record SameFrame (a b : Audit) : Type 0 where
  pub timing : a.timing ≡ b.timing
  pub rules : a.rules ≡ b.rules
  pub luns : length a.luns ≡ length b.luns
  pub accepted : a.accepted ≡ b.accepted

joined_frame : (a : Audit) (line : Line) (ms : List Want) (o : Option Want) → SameFrame (joined_by a line ms o) a
joined_frame a line ms None = record { timing = refl; rules = refl; luns = refl; accepted = refl }
joined_frame a line ms (Some w) = record { timing = refl; rules = refl; luns = length_set a.luns line.lun _; accepted = refl }

pub frame_on : (a : Audit) (line : Line) (o : Option LunStage) → SameFrame (after_on a line o) a
frame_on a line None = record { timing = refl; rules = refl; luns = refl; accepted = refl }
frame_on a line (Some (stage.Free since)) = joined_frame a line [] (first_at a.wants line.lun line.block)
frame_on a line (Some (stage.Running group next ready)) = record { timing = refl; rules = refl; luns = length_set a.luns line.lun _; accepted = refl }
frame_on a line (Some (stage.Open group more ready)) = elim (cases_Bool line.is_post) [
  | inl k ↦ rw k (record { timing = refl; rules = refl; luns = length_set a.luns line.lun _; accepted = refl })
  | inr k ↦ rw k (joined_frame a line group (first_at a.wants line.lun line.block))
]

pub accepted_same : (more : List Want) (a b : Audit) → SameFrame a b → AreAccepted a more → AreAccepted b more
accepted_same [] a b same h = tt
accepted_same (w ∷ more) a b same (is, rest) = (
  record {
    number = is.number ∙ same.accepted;
    want = is.want;
    lun = subst (λ n. w.lun < n) same.luns is.lun;
    placed = subst (λ r. IsPlaced r w) same.rules is.placed;
    stated = subst (λ t. IsStated t w.kind) same.timing is.stated;
  },
  accepted_same more (accepting a w) (accepting b w) (record { timing = same.timing; rules = same.rules; luns = same.luns; accepted = ap (λ n. n + 1) same.accepted }) rest,
)

are_accepted : (entries : List Entry) (a b : Audit) → Audited a entries b → AreAccepted a (wants_of entries)
are_accepted [] a b h = tt
are_accepted (Accept w ∷ entries) a b (is, rest) = (is, are_accepted entries (accepting a w) b rest)
are_accepted (Phase line ∷ entries) a b (may, rest) =
    accepted_same (wants_of entries) (after_line a line) a (frame_on a line (slice_get a.luns line.lun)) (are_accepted entries (after_line a line) b rest)

-- each has lengths
more_stated : (more : List Want) (a : Audit) → AreAccepted a more → AreStated a.timing more
more_stated [] a h = tt
more_stated (w ∷ more) a (is, rest) = (is.stated, more_stated more (accepting a w) rest)

pub more_kept : (more : List Want) (a : Audit) → IsAudit a → AreAccepted a more → IsAudit (with_more a more)
more_kept [] a ia h = subst IsAudit (sym (more_none a)) ia
more_kept (w ∷ more) a ia (is, rest) = subst IsAudit (more_next a w more) (more_kept more (accepting a w) (kept_accepting a w ia is) rest)

pub later_numbers : (more : List Want) (a : Audit) → AreAccepted a more → All (λ w. a.accepted ≤ w.id) more
later_numbers [] a h = tt
later_numbers (w ∷ more) a (is, rest) =
    let number = is.number in
    (omega arith, All-weaker (λ (v : Want). a.accepted + 1 ≤ v.id) (λ (v : Want). a.accepted ≤ v.id) (λ v le. omega arith) more (later_numbers more (accepting a w) rest))

first_append : (lun block : ℕ) (wants more : List Want) (w : Want) → first_at wants lun block ≡ Some w → first_at (wants ++ more) lun block ≡ Some w
first_append lun block wants more w h = ap (λ ws. slice_get ws 0) (filter-append (is_at lun block) wants more) ∙ of_left (filter (is_at lun block) wants) (filter (is_at lun block) more) h
  where
    of_left : (xs ys : List Want) → slice_get xs 0 ≡ Some w → slice_get (xs ++ ys) 0 ≡ Some w
    of_left [] ys k = cc
    of_left (x ∷ xs) ys k = k

joins_more : (a : Audit) (more : List Want) (line : Line) (ms : List Want) (from : ℕ) → Joins a line ms from → Joins (with_more a more) line ms from
joins_more a more line ms from j = record {
  command = j.command;
  want = j.want;
  first = first_append line.lun line.block a.wants more j.want j.first;
  named = j.named;
  group = j.group;
  on_time = j.on_time;
}

pub may_more : (a : Audit) (more : List Want) (line : Line) (o : Option LunStage) → MayComeOn a line o → MayComeOn (with_more a more) line o
may_more a more line None may = absurd may
may_more a more line (Some (stage.Free since)) j = joins_more a more line [] since j
may_more a more line (Some (stage.Running group next ready)) goes = record { is = goes.is; on_time = goes.on_time }
may_more a more line (Some (stage.Open group from ready)) (inl j) = inl (joins_more a more line group from j)
may_more a more line (Some (stage.Open group from ready)) (inr goes) = inr (record { is = goes.is; on_time = goes.on_time })

joined_more : (a : Audit) (more : List Want) (line : Line) (ms : List Want) (from : ℕ) → IsAudit a → All (λ w. a.accepted ≤ w.id) more → Joins a line ms from → joined (with_more a more) line ms ≡ with_more (joined a line ms) more
joined_more a more line ms from ia later j =
    let w = j.want in
    let has = first_has (on_block w) a.wants w (first_there a.wants line w j.named j.first) in
    let low = All-has (λ (v : Want). v.id < a.accepted) a.wants w ia.numbers has in
    let test = λ (v : Want). not (is_member (w ∷ []) v) in
    let stay : filter test more ≡ more = filter_all test more (λ v h.
    let high = All-has (λ (u : Want). a.accepted ≤ u.id) more v later h in
    elim (cases_Bool (w.id == v.id)) [ inl k ↦ (let e = eqb-true w.id v.id k in absurd (omega arith)) | inr k ↦ rw k refl ]) in
    ap (joined_by (with_more a more) line ms) (first_append line.lun line.block a.wants more w j.first)
    ∙ ap (λ ws. let x : Audit = record (joined_with a line (ms ++ w ∷ []) w) { wants = ws; accepted = a.accepted + length more } in x) (filter-append test a.wants more ∙ ap (λ ws. filter test a.wants ++ ws) stay)
    ∙ ap (λ o. with_more (joined_by a line ms o) more) (sym j.first)

pub after_more : (a : Audit) (more : List Want) (line : Line) (o : Option LunStage) → IsAudit a → All (λ w. a.accepted ≤ w.id) more → MayComeOn a line o → after_on (with_more a more) line o ≡ with_more (after_on a line o) more
after_more a more line None ia later may = absurd may
after_more a more line (Some (stage.Free since)) ia later j = joined_more a more line [] since ia later j
after_more a more line (Some (stage.Running group next ready)) ia later goes = refl
after_more a more line (Some (stage.Open group from ready)) ia later (inl j) = let part = j.command in rw part (joined_more a more line group from ia later j)
after_more a more line (Some (stage.Open group from ready)) ia later (inr goes) =
    let post : line.is_post ≡ true = goes.is.part ∙ ap not (le-ltb (length group) (length group) (omega arith)) in
    rw post refl

-- the same with all requests accepted before the first line
up_front : (entries : List Entry) (a b : Audit) → IsAudit a → Audited a entries b → Judged (with_more a (wants_of entries)) (lines_of entries) b
up_front [] a b ia e = more_none a ∙ e
up_front (Accept w ∷ entries) a b ia (is, rest) =
    subst (λ c. Judged c (lines_of entries) b) (more_next a w (wants_of entries)) (up_front entries (accepting a w) b (kept_accepting a w ia is) rest)
up_front (Phase line ∷ entries) a b ia (may, rest) =
    let more = wants_of entries in
    let later = later_numbers more a (are_accepted (Phase line ∷ entries) a b (may, rest)) in
    let o = slice_get a.luns line.lun in (
      may_more a more line o may,
      subst (λ c. Judged c (lines_of entries) b) (sym (after_more a more line o ia later may)) (up_front entries (after_line a line) b (kept a ia line may) rest),
    )

audited_kept : (entries : List Entry) (a b : Audit) → IsAudit a → Audited a entries b → IsAudit b
audited_kept [] a b ia e = subst IsAudit e ia
audited_kept (Accept w ∷ entries) a b ia (is, rest) = audited_kept entries (accepting a w) b (kept_accepting a w ia is) rest
audited_kept (Phase line ∷ entries) a b ia (may, rest) = audited_kept entries (after_line a line) b (kept a ia line may) rest

-- The laws

module _ (p : Problem) (entries : List Entry) (a : Audit) (ip : IsProblem p) (audited : Audited (opening p) entries a) where
  abbrev wants : List Want
  wants = wants_of entries

  abbrev first : Audit
  first = with_more (opening p) wants

  first_is : IsAudit first
  first_is = more_kept wants (opening p) (opening_is p ip) (are_accepted entries (opening p) a audited)

  judged : Judged first (lines_of entries) a
  judged = up_front entries (opening p) a (opening_is p ip) audited

  -- what may stand as the log begins is its opening with all requests
  begins : (before : ℕ → List Want) → IsChoice first before → problem_at first before ≡ with_wants p wants
  begins before choice = same_parts p.timing p.rules _ _ _ _ _ _ refl (opening_states p.luns before) (all_wait before wants (λ n. opening_none first p.luns n (before n) (choice n)))

  sound : Leads (with_wants p wants) (lines_of entries) (closed a)
  sound =
      let r = led (lines_of entries) first a first_is judged (λ n. []) (choice_none a (audited_kept entries (opening p) a (opening_is p ip) audited)) in
      subst (λ q. Leads (with_wants p wants) (lines_of entries) q) (closed_is a) (subst (λ q. Leads q (lines_of entries) (problem_at a (λ n. []))) (begins r.before r.choice) r.leads)

  complete : (q : Problem) (line : Line) → Leads (with_wants p wants) (lines_of entries ++ line ∷ []) q → MayCome a line
  complete q line leads =
      let none = choice_none first first_is in
      comes (lines_of entries) first a line q first_is judged (λ n. []) none (subst (λ x. Leads x (lines_of entries ++ line ∷ []) q) (sym (begins (λ n. []) none)) leads)

  opened_problem : IsProblem (with_wants p wants)
  opened_problem = record {
    wants = first_is.wants;
    in_range = subst (λ n. All (λ (w : Want). w.lun < n) wants) (length-map p.luns stage_of) first_is.in_range;
    ids = first_is.ids;
    running = ip.running;
  }

  opened_lengths : HasLengths p → HasLengths (with_wants p wants)
  opened_lengths stated = record { wants = more_stated wants (opening p) (are_accepted entries (opening p) a audited); luns = stated.luns }

pub sound_law : SoundLaw
sound_law p entries a ip audited = sound p entries a ip audited

pub complete_law : CompleteLaw
complete_law p q entries a line ip audited leads = complete p entries a ip audited q line leads

pub open_law : OpenLaw
open_law p entries a ip audited = (opened_problem p entries a ip audited, opened_lengths p entries a ip audited)

-- a log after which nothing is left is a run
run_of : (lines : List Line) (p q : Problem) → Leads p lines q → IsDone q → (steps : List Step) × Run p steps q.bus_free
run_of [] p q e done = ([], (subst IsDone (sym e) done, ap (λ (x : Problem). x.bus_free) e))
run_of (line ∷ lines) p q (move, is, rest) done =
    let (steps, run) = run_of lines (placed p move line.start) q rest done in
    (record { move = move; start = line.start } ∷ steps, (is.is_move, is.on_time, run))

pub whole_law : WholeLaw
whole_law p q lines ip leads done =
    let (steps, run) = run_of lines p q leads done in
    let r = run_legal steps p q.bus_free ip run in
    (_, r.0, r.1)
