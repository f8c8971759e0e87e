-- A line that may come is the phase of a move of each problem that the audit may stand for, and back.
use Rattle.std.proofs.Common.{◌≡◌, ◌≢◌, ℕ, ◌+◌, ◌<◌, ◌≤◌, inl, inr, Bool, true, false, List, [], ◌∷◌, ◌++◌, length, Option, None, Some, refl, sym, ap, ◌∙◌, subst, append_assoc, append-nil, arith}
use Rattle.std.specs.Prelude.{◌==◌, max, not, if◌then◌else◌, slice_get, slice_set}
use Rattle.std.specs.List.{AllByRecursion as All, filter}
use Rattle.std.proofs.lemmas.Bool.{cases_Bool, eq-eqb, ne_eqb, le-ltb, false≢true}
use Rattle.onfi_addr.specs.Rows.{plane_at}
use Rattle.onfi_timing.specs.declared.timing.Timing.{Timing}
use Rattle.onfi_timing.specs.Phases.{phase_length}
use Rattle.onfi_request.specs.declared.want.Want.{Want}
use Rattle.onfi_group.specs.declared.rules.Rules.{Rules}
use Rattle.onfi_group.specs.Words.{Has, Pairs}
use Rattle.onfi_group.specs.Group.{IsFirst, IsGroup, IsStartable, group_spans, is_member, lun_of, on_block}
use Rattle.onfi_group.proofs.Lists.{All-both, All-has, All-each, All-weaker, first_has}
use Rattle.onfi_group.proofs.Placing.{one_is_group}
use Rattle.onfi_problem.specs.declared.lun_state.LunState.{LunState}
use Rattle.onfi_problem.specs.declared.lun_state.LunState.TheVariants.{Free, Running}
use Rattle.onfi_problem.specs.Moves.{Move, Next, Start, free_from, lun_after, next_ran, placed, without}
use Rattle.onfi_problem.specs.Problem.{Problem}
use Rattle.onfi_problem.proofs.Places.{get_set_same, get_set_other, same_place}
use Rattle.onfi_audit.specs.declared.line.Line.{Line}
use Rattle.onfi_audit.specs.declared.stage.LunStage.{LunStage}
use Rattle.onfi_audit.specs.declared.stage.LunStage.TheVariants as stage
use Rattle.onfi_audit.specs.Audit.{Audit, GoesOn, IsPhaseOf, IsPlaced, Joins, MayCome, MayComeOn, after_line, after_on, gone_on, joined, joined_by, joined_with, opened, stage_of}
use Rattle.onfi_audit.specs.Legal.{Fits, IsAudit, IsChoice, IsLineOf, problem_at, state_at, states_at}
use Rattle.onfi_audit.proofs.Commands.{IsCommandOf, Pairs-behind, after_command, begins_group, command_length, command_of, of_command}
use Rattle.onfi_audit.proofs.Filters.{filter_same, filter_twice, first_before, first_kept, first_left, first_there, first_told, first_unkept, has_kept, no_member, other_block, same_first, same_lun}
use Rattle.onfi_audit.proofs.States.{state_of_stage, states_back, states_get, states_set}

-- one LUN's members in place of what they were
abbrev pub put : (ℕ → List Want) → ℕ → List Want → ℕ → List Want
put later l new n = if n == l then new else later n

pub put_same : (later : ℕ → List Want) (l : ℕ) (new : List Want) → put later l new l ≡ new
put_same later l new = rw (eq-eqb l l refl) refl

pub put_other : (later : ℕ → List Want) (l : ℕ) (new : List Want) (n : ℕ) → n ≢ l → put later l new n ≡ later n
put_other later l new n d = rw (ne_eqb n l d) refl

-- which requests are no members to come
abbrev pub keep : (ℕ → List Want) → Want → Bool
keep later w = not (is_member (later w.lun) w)

-- two problems with the same parts
pub same_parts : (timing : Timing) (rules : Rules) (b c : ℕ) (ls ms : List LunState) (vs ws : List Want) → b ≡ c → ls ≡ ms → vs ≡ ws
    → (let p : Problem = record { timing = timing; rules = rules; bus_free = b; luns = ls; wants = vs } in p) ≡ (let q : Problem = record { timing = timing; rules = rules; bus_free = c; luns = ms; wants = ws } in q)
same_parts timing rules b c ls ms vs ws eb el ew = rw (eb, el, ew) refl

-- a bus that is free as the line starts is free next as the line ends
on_time_free : (free start length : ℕ) → free ≤ start → start + length ≡ max free (start + length)
on_time_free free start length late = omega arith

-- Requests that wait

module _ (wants : List Want) (rise : Pairs (λ a b. a.id < b.id) wants) (l : ℕ) (m : Want) (there : Has wants m) (of_lun : m.lun ≡ l) where
  -- one of another LUN is another
  other_number : (v : Want) → Has wants v → v.lun ≢ l → is_member (m ∷ []) v ≡ false
  other_number v has d = no_member wants m v rise there has (λ e. d (ap (λ (w : Want). w.lun) e ∙ of_lun))

  module _ (before after : ℕ → List Want) (rest : List Want) (others : (n : ℕ) → n ≢ l → after n ≡ before n) (here : after l ≡ rest) where
    -- a member to come that came
    pub wants_joined : before l ≡ m ∷ rest → filter (keep before) wants ≡ filter (keep after) (without (m ∷ []) wants)
    wants_joined was = filter_same (keep before) (λ v. if not (is_member (m ∷ []) v) then keep after v else false) wants (λ v has.
        elim (same_place v.lun l) [
          | inl e ↦ (
              let b : before v.lun ≡ m ∷ rest = ap before e ∙ was in
              let a : after v.lun ≡ rest = ap after e ∙ here in
              elim (cases_Bool (m.id == v.id)) [ inl k ↦ rw (b, a, k) refl | inr k ↦ rw (b, a, k) refl ])
          | inr d ↦ (let o = other_number v has d in let a = others v.lun d in rw (o, a) refl)
        ]) ∙ sym (filter_twice (keep after) (λ v. not (is_member (m ∷ []) v)) wants)

    -- a group that starts with it
    pub wants_started : before l ≡ [] → All (Has wants) rest → All (λ v. v.lun ≡ l) rest → without (m ∷ rest) (filter (keep before) wants) ≡ filter (keep after) (without (m ∷ []) wants)
    wants_started was has_rest of_rest =
        filter_twice (λ v. not (is_member (m ∷ rest) v)) (keep before) wants
        ∙ filter_same (λ v. if keep before v then not (is_member (m ∷ rest) v) else false) (λ v. if not (is_member (m ∷ []) v) then keep after v else false) wants (λ v has.
        elim (same_place v.lun l) [
          | inl e ↦ (
              let b : before v.lun ≡ [] = ap before e ∙ was in
              let a : after v.lun ≡ rest = ap after e ∙ here in
              elim (cases_Bool (m.id == v.id)) [ inl k ↦ rw (b, a, k) refl | inr k ↦ rw (b, a, k) refl ])
          | inr d ↦ (
              let o = other_number v has d in
              let a = others v.lun d in
              let none = no_others v has d (m ∷ rest) (there, has_rest) (of_lun, of_rest) in
              elim (cases_Bool (is_member (before v.lun) v)) [ inl k ↦ rw (o, a, none, k) refl | inr k ↦ rw (o, a, none, k) refl ])
        ]) ∙ sym (filter_twice (keep after) (λ v. not (is_member (m ∷ []) v)) wants)
      where
        no_others : (v : Want) → Has wants v → v.lun ≢ l → (g : List Want) → All (Has wants) g → All (λ x. x.lun ≡ l) g → is_member g v ≡ false
        no_others v has d [] h k = refl
        no_others v has d (x ∷ g) h k =
            let o = no_member wants x v rise h.0 has (λ e. d (ap (λ (w : Want). w.lun) e ∙ k.0)) in
            let r = no_others v has d g h.1 k.1 in
            elim (cases_Bool (x.id == v.id)) [ inl j ↦ (let bad : true ≡ false = rw j at o in absurd (false≢true (sym bad))) | inr j ↦ rw j r ]

-- where a LUN has no member to come all that wait on it are kept
pub kept_on : (later : ℕ → List Want) (l : ℕ) (m : Want) → later l ≡ [] → m.lun ≡ l → (w : Want) → on_block m w ≡ true → keep later w ≡ true
kept_on later l m none of_lun w on = let e : later w.lun ≡ [] = ap later (same_lun m w on ∙ of_lun) ∙ none in rw e refl

-- Back

-- before the line it was one of these, and a move that the line shows leaves what is after it
pub record Came (a : Audit) (line : Line) (b : Audit) (after : ℕ → List Want) : Type 0 where
  pub before : ℕ → List Want
  pub choice : IsChoice a before
  pub move : Move
  pub is : IsLineOf (problem_at a before) move line
  pub leaves : placed (problem_at a before) move line.start ≡ problem_at b after

module _ (a : Audit) (line : Line) where
  -- a further phase of a group
  module _ (group : List Want) (phase ready : ℕ) (x : LunStage) (there : slice_get a.luns line.lun ≡ Some x) where
    abbrev next_stage : LunStage
    next_stage = stage_of (lun_after a.timing group phase (line.start + phase_length (group_spans a.timing group) (length group) phase))

    next_luns : (before after : ℕ → List Want) → ((n : ℕ) → n ≢ line.lun → after n ≡ before n)
        → slice_set (states_at a.luns before) line.lun (lun_after a.timing group phase (line.start + phase_length (group_spans a.timing group) (length group) phase)) ≡ states_at (slice_set a.luns line.lun next_stage) after
    next_luns before after others = sym (states_set a.luns line.lun next_stage before after others
        ∙ ap (λ s. slice_set (states_at a.luns before) line.lun s) (state_of_stage (lun_after a.timing group phase (line.start + phase_length (group_spans a.timing group) (length group) phase)) (after line.lun)))

    next_leaves : a.bus_free ≤ line.start → (before after : ℕ → List Want) → slice_get (problem_at a before).luns line.lun ≡ Some (Running group phase ready) → ((n : ℕ) → n ≢ line.lun → after n ≡ before n)
        → filter (keep before) a.wants ≡ filter (keep after) a.wants → placed (problem_at a before) (Next line.lun) line.start ≡ problem_at (gone_on a line group phase) after
    next_leaves late before after runs others same =
        ap (λ o. next_ran (problem_at a before) line.lun o line.start) runs
        ∙ same_parts a.timing a.rules _ _ _ _ _ _ (on_time_free a.bus_free line.start (phase_length (group_spans a.timing group) (length group) phase) late) (next_luns before after others) same

  -- a command of a request that joins those members, or starts a group
  module _ (ms : List Want) (w : Want) (rest : List Want) (before after : ℕ → List Want)
      (others : (n : ℕ) → n ≢ line.lun → after n ≡ before n) (here : after line.lun ≡ rest) (of_lun : w.lun ≡ line.lun) (has : Has a.wants w) (rise : Pairs (λ a b. a.id < b.id) a.wants) where
    abbrev grown : List Want
    grown = ms ++ w ∷ rest

    abbrev next : Audit
    next = joined_with a line (ms ++ w ∷ []) w

    abbrev ended : ℕ
    ended = line.start + (group_spans a.timing (ms ++ w ∷ [])).cmd

    command_end : line.start + phase_length (group_spans a.timing grown) (length grown) (length ms) ≡ ended
    command_end = ap (λ n. line.start + n) (command_length a.timing ms w rest)

    command_luns : slice_set (states_at a.luns before) line.lun (lun_after a.timing grown (length ms) (line.start + phase_length (group_spans a.timing grown) (length grown) (length ms))) ≡ states_at next.luns after
    command_luns =
        ap (λ t. slice_set (states_at a.luns before) line.lun (lun_after a.timing grown (length ms) t)) command_end
        ∙ ap (slice_set (states_at a.luns before) line.lun) (after_command a.timing ms w rest ended ∙ ap (state_at (opened a.timing (ms ++ w ∷ []) ended)) (sym here))
        ∙ sym (states_set a.luns line.lun (opened a.timing (ms ++ w ∷ []) ended) before after others)

    command_free : a.bus_free ≤ line.start → line.start + phase_length (group_spans a.timing grown) (length grown) (length ms) ≡ next.bus_free
    command_free late = command_end ∙ on_time_free a.bus_free line.start (group_spans a.timing (ms ++ w ∷ [])).cmd late

    pub join_leaves : a.bus_free ≤ line.start → (from : ℕ) → slice_get (problem_at a before).luns line.lun ≡ Some (Running grown (length ms) from) → before line.lun ≡ w ∷ rest
        → placed (problem_at a before) (Next line.lun) line.start ≡ problem_at next after
    join_leaves late from runs was =
        ap (λ o. next_ran (problem_at a before) line.lun o line.start) runs
        ∙ same_parts a.timing a.rules _ _ _ _ _ _ (command_free late) command_luns (wants_joined a.wants rise line.lun w has of_lun before after rest others here was)

  module _ (w : Want) (rest : List Want) (before after : ℕ → List Want)
      (others : (n : ℕ) → n ≢ line.lun → after n ≡ before n) (here : after line.lun ≡ rest) (of_lun : w.lun ≡ line.lun) (has : Has a.wants w) (rise : Pairs (λ a b. a.id < b.id) a.wants) where
    pub start_leaves : a.bus_free ≤ line.start → before line.lun ≡ [] → All (Has a.wants) rest → All (λ v. v.lun ≡ line.lun) rest
        → placed (problem_at a before) (Start (w ∷ rest)) line.start ≡ problem_at (joined_with a line (w ∷ []) w) after
    start_leaves late was has_rest of_rest =
        same_parts a.timing a.rules _ _ _ _ _ _ (command_free [] w rest before after others here of_lun has rise late)
        (ap (λ l. slice_set (states_at a.luns before) l (lun_after a.timing (w ∷ rest) 0 (line.start + phase_length (group_spans a.timing (w ∷ rest)) (length (w ∷ rest)) 0))) of_lun
        ∙ command_luns [] w rest before after others here of_lun has rise)
        (wants_started a.wants rise line.lun w has of_lun before after rest others here was has_rest of_rest)

-- Choices

-- members to come of an open group are of its LUN
later_luns : (a : Audit) → IsAudit a → (n : ℕ) (g : List Want) (more ready : ℕ) (later : List Want) → slice_get a.luns n ≡ Some (stage.Open g more ready) → IsGroup a.rules (g ++ later) → All (λ v. v.lun ≡ n) later
later_luns a ia n g more ready later there whole =
    let kept = ia.stages n (stage.Open g more ready) there in
    All-weaker (λ v. v.lun ≡ lun_of (g ++ later)) (λ v. v.lun ≡ n) (λ v e. e ∙ same_lun_of g later kept.0.some ∙ kept.1) later (All-right (λ v. v.lun ≡ lun_of (g ++ later)) g later whole.lun)
  where
    same_lun_of : (us vs : List Want) → 1 ≤ length us → lun_of (us ++ vs) ≡ lun_of us
    same_lun_of [] vs some = absurd (omega arith)
    same_lun_of (u ∷ us) vs some = refl

    All-right : {A : Type 0} (P : A → Type 0) (us vs : List A) → All P (us ++ vs) → All P vs
    All-right P [] vs k = k
    All-right P (u ∷ us) vs k = All-right P us vs k.1

-- what an open group of another LUN may get stays so as the request leaves, and was so before
module _ (a : Audit) (ia : IsAudit a) (b : Audit) (w : Want) (has : Has a.wants w) (same_rules : b.rules ≡ a.rules) (left : b.wants ≡ without (w ∷ []) a.wants) where
  other_lun_apart : (n : ℕ) (v : Want) → n ≢ w.lun → v.lun ≡ n → on_block v w ≡ false
  other_lun_apart n v d e = elim (cases_Bool (on_block v w)) [ inl k ↦ absurd (d (sym (same_lun v w k ∙ e))) | inr k ↦ k ]

  fits_after : (n : ℕ) (o : Option LunStage) (later : List Want) → slice_get a.luns n ≡ o → n ≢ w.lun → Fits a o later → Fits b o later
  fits_after n None later there d fits = fits
  fits_after n (Some (stage.Free since)) later there d fits = fits
  fits_after n (Some (stage.Running g p r)) later there d fits = fits
  fits_after n (Some (stage.Open g more ready)) later there d fits = (
    subst (λ r. IsGroup r (g ++ later)) (sym same_rules) fits.0,
    subst (λ ws. All (IsFirst ws) later) (sym left) (All-each (IsFirst (without (w ∷ []) a.wants)) later (λ v k.
        first_left a.wants w v ia.ids has (other_lun_apart n v d (All-has (λ u. u.lun ≡ n) later v (later_luns a ia n g more ready later there fits.0) k)) (All-has (IsFirst a.wants) later v fits.1 k))),
  )

  fits_before : (n : ℕ) (o : Option LunStage) (later : List Want) → slice_get a.luns n ≡ o → n ≢ w.lun → Fits b o later → Fits a o later
  fits_before n None later there d fits = fits
  fits_before n (Some (stage.Free since)) later there d fits = fits
  fits_before n (Some (stage.Running g p r)) later there d fits = fits
  fits_before n (Some (stage.Open g more ready)) later there d fits =
      let whole = subst (λ r. IsGroup r (g ++ later)) same_rules fits.0 in (
        whole,
        All-each (IsFirst a.wants) later (λ v k.
            first_before a.wants w v ia.ids has (other_lun_apart n v d (All-has (λ u. u.lun ≡ n) later v (later_luns a ia n g more ready later there whole) k))
            (All-has (IsFirst (without (w ∷ []) a.wants)) later v (subst (λ ws. All (IsFirst ws) later) left fits.1) k)),
      )

-- .. and of all LUNs where nothing leaves
fits_same : (a b : Audit) (o : Option LunStage) (later : List Want) → b.rules ≡ a.rules → b.wants ≡ a.wants → Fits a o later → Fits b o later
fits_same a b None later r ws fits = fits
fits_same a b (Some (stage.Free since)) later r ws fits = fits
fits_same a b (Some (stage.Running g p t)) later r ws fits = fits
fits_same a b (Some (stage.Open g more ready)) later r ws fits = (subst (λ x. IsGroup x (g ++ later)) (sym r) fits.0, subst (λ x. All (IsFirst x) later) (sym ws) fits.1)

none_later : (a : Audit) (s : LunState) (later : List Want) → Fits a (Some (stage_of s)) later → later ≡ []
none_later a (Free since) later h = h
none_later a (Running g n r) later h = h

module _ (a : Audit) (ia : IsAudit a) (line : Line) where
  -- a further phase of a group, back
  going_back : (group : List Want) (phase ready : ℕ) (x : LunStage) → slice_get a.luns line.lun ≡ Some x → state_at x [] ≡ Running group phase ready → Fits a (Some x) []
      → GoesOn a line group phase ready → (after : ℕ → List Want) → IsChoice (gone_on a line group phase) after → Came a line (gone_on a line group phase) after
  going_back group phase ready x there state none goes after choice =
      let b = gone_on a line group phase in
      let now = next_stage a line group phase ready x there in
      let ended = line.start + phase_length (group_spans a.timing group) (length group) phase in
      let stands : slice_get b.luns line.lun ≡ Some now = get_set_same a.luns line.lun x now there in
      let late : a.bus_free ≤ line.start = let t = goes.on_time in omega arith in
      let empty : after line.lun ≡ [] = none_later b (lun_after a.timing group phase ended) (after line.lun) (subst (λ o. Fits b o (after line.lun)) stands (choice line.lun)) in
      let runs : slice_get (problem_at a after).luns line.lun ≡ Some (Running group phase ready) = states_get a.luns after line.lun x there ∙ ap (λ l. Some (state_at x l)) empty ∙ ap Some state in
      record {
        before = after;
        choice = λ n. elim (same_place n line.lun) [
          | inl e ↦ subst (λ m. Fits a (slice_get a.luns m) (after m)) (sym e) (subst (λ o. Fits a o (after line.lun)) (sym there) (subst (Fits a (Some x)) (sym empty) none))
          | inr d ↦ fits_same b a (slice_get a.luns n) (after n) refl refl (subst (λ o. Fits b o (after n)) (get_set_other a.luns line.lun n now d) (choice n))
        ];
        move = Next line.lun;
        is = record {
          is_move = (group, phase, ready, runs);
          on_time = subst (λ o. max a.bus_free (free_from o) ≤ line.start) (sym runs) goes.on_time;
          shows = (group, phase, ready, runs, goes.is, refl);
        };
        leaves = next_leaves a line group phase ready x there late after after runs (λ n d. refl) refl;
      }

  -- a command, back
  module _ (ms : List Want) (from : ℕ) (x : LunStage) (there : slice_get a.luns line.lun ≡ Some x) (j : Joins a line ms from)
      (after : ℕ → List Want) (choice : IsChoice (joined_with a line (ms ++ j.want ∷ []) j.want) after) where
    abbrev w : Want
    w = j.want

    abbrev rest : List Want
    rest = after line.lun

    abbrev b : Audit
    b = joined_with a line (ms ++ w ∷ []) w

    abbrev now : LunStage
    now = opened a.timing (ms ++ w ∷ []) (line.start + (group_spans a.timing (ms ++ w ∷ [])).cmd)

    late : a.bus_free ≤ line.start
    late = let t = j.on_time in omega arith

    of_lun : w.lun ≡ line.lun
    of_lun = j.named.lun

    waits : IsFirst a.wants w
    waits = first_there a.wants line w j.named j.first

    has : Has a.wants w
    has = first_has (on_block w) a.wants w waits

    fits : IsGroup a.rules ((ms ++ w ∷ []) ++ rest) × All (IsFirst b.wants) rest
    fits = subst (λ o. Fits b o rest) (get_set_same a.luns line.lun x now there) (choice line.lun)

    whole : IsGroup a.rules (ms ++ w ∷ rest)
    whole = subst (IsGroup a.rules) (append_assoc ms (w ∷ []) rest) fits.0

    -- another block, since another plane
    apart : (v : Want) → Has rest v → on_block v w ≡ false
    apart v k =
        let first = All-has (IsFirst b.wants) rest v fits.1 k in
        let there = has_kept (λ u. not (is_member (w ∷ []) u)) a.wants v (first_has (on_block v) b.wants v first) in
        let plane = All-has (IsPlaced a.rules) a.wants v ia.placed there in
        let own = All-has (IsPlaced a.rules) a.wants w ia.placed has in
        let less = All-has (λ u. w.plane < u.plane) rest v (Pairs-behind (λ c d. c.plane < d.plane) ms w rest whole.planes) k in
        other_block v w (λ e. let same : v.plane ≡ w.plane = plane ∙ ap (plane_at a.rules.plane_bits) e ∙ sym own in absurd (omega arith))

    rest_waits : All (IsFirst a.wants) rest
    rest_waits = All-each (IsFirst a.wants) rest (λ v k. first_before a.wants w v ia.ids has (apart v k) (All-has (IsFirst b.wants) rest v fits.1 k))

    before_of : (new : List Want) → Fits a (Some x) new → IsChoice a (put after line.lun new)
    before_of new ok n = elim (same_place n line.lun) [
      | inl e ↦ subst (λ m. Fits a (slice_get a.luns m) (put after line.lun new m)) (sym e)
          (subst (λ o. Fits a o (put after line.lun new line.lun)) (sym there) (subst (Fits a (Some x)) (sym (put_same after line.lun new)) ok))
      | inr d ↦ subst (Fits a (slice_get a.luns n)) (sym (put_other after line.lun new n d))
          (fits_before a ia b w has refl refl n (slice_get a.luns n) (after n) refl (λ e. d (e ∙ of_lun))
          (subst (λ o. Fits b o (after n)) (get_set_other a.luns line.lun n now d) (choice n)))
    ]

    back_others : (new : List Want) (n : ℕ) → n ≢ line.lun → after n ≡ put after line.lun new n
    back_others new n d = sym (put_other after line.lun new n d)

    joining_back : (ready : ℕ) → x ≡ stage.Open ms from ready → Came a line b after
    joining_back ready is =
        let before = put after line.lun (w ∷ rest) in
        let was = put_same after line.lun (w ∷ rest) in
        let ok : Fits a (Some x) (w ∷ rest) = subst (λ y. Fits a (Some y) (w ∷ rest)) (sym is) (whole, (waits, rest_waits)) in
        let runs : slice_get (problem_at a before).luns line.lun ≡ Some (Running (ms ++ w ∷ rest) (length ms) from) =
        states_get a.luns before line.lun x there ∙ ap (λ l. Some (state_at x l)) was ∙ ap (λ y. Some (state_at y (w ∷ rest))) is in
        record {
          before = before;
          choice = before_of (w ∷ rest) ok;
          move = Next line.lun;
          is = record {
            is_move = (ms ++ w ∷ rest, length ms, from, runs);
            on_time = subst (λ o. max a.bus_free (free_from o) ≤ line.start) (sym runs) j.on_time;
            shows = (ms ++ w ∷ rest, length ms, from, runs, command_of line ms w rest j.command j.named, refl);
          };
          leaves = join_leaves a line ms w rest before after (back_others (w ∷ rest)) refl of_lun has ia.ids late from runs was;
        }

    starting_back : x ≡ stage.Free from → ms ≡ [] → Came a line b after
    starting_back is empty =
        let before = put after line.lun [] in
        let was = put_same after line.lun [] in
        let ok : Fits a (Some x) [] = subst (λ y. Fits a (Some y) []) (sym is) refl in
        let free : slice_get (problem_at a before).luns line.lun ≡ Some (Free from) =
        states_get a.luns before line.lun x there ∙ ap (λ y. Some (state_at y (before line.lun))) is in
        let free' : slice_get (problem_at a before).luns w.lun ≡ Some (Free from) = ap (slice_get (problem_at a before).luns) of_lun ∙ free in
        let group : IsGroup a.rules (w ∷ rest) = subst (λ us. IsGroup a.rules (us ++ w ∷ rest)) empty whole in
        let luns : All (λ v. v.lun ≡ line.lun) rest = All-weaker (λ v. v.lun ≡ w.lun) (λ v. v.lun ≡ line.lun) (λ v e. e ∙ of_lun) rest group.lun.1 in
        let has_rest : All (Has a.wants) rest = All-weaker (IsFirst a.wants) (Has a.wants) (λ v f. first_has (on_block v) a.wants v f) rest rest_waits in
        let stays = λ (v : Want) (e : v.lun ≡ line.lun) (f : IsFirst a.wants v). first_kept (keep before) a.wants v (λ u k on. kept_on before line.lun v was e u on) f in
        record {
          before = before;
          choice = before_of [] ok;
          move = Start (w ∷ rest);
          is = record {
            is_move = (
              from,
              free',
              record {
                group = group;
                first = (stays w of_lun waits, All-both (λ v. v.lun ≡ line.lun) (IsFirst a.wants) (IsFirst (filter (keep before) a.wants)) stays rest luns rest_waits);
              },
            );
            on_time = subst (λ o. max a.bus_free (free_from o) ≤ line.start) (sym free') j.on_time;
            shows = (command_of line [] w rest j.command j.named, of_lun);
          };
          leaves = subst (λ us. placed (problem_at a before) (Start (w ∷ rest)) line.start ≡ problem_at (joined_with a line (us ++ w ∷ []) w) after) (sym empty)
              (start_leaves a line w rest before after (back_others []) refl of_lun has ia.ids late was has_rest luns);
        }

  back_on : (o : Option LunStage) → slice_get a.luns line.lun ≡ o → MayComeOn a line o → (after : ℕ → List Want) → IsChoice (after_on a line o) after → Came a line (after_on a line o) after
  back_on None there may after choice = absurd may
  back_on (Some (stage.Free since)) there j after choice =
      let e : joined a line [] ≡ joined_with a line ([] ++ j.want ∷ []) j.want = ap (joined_by a line []) j.first in
      subst (λ b. Came a line b after) (sym e) (starting_back [] since (stage.Free since) there j after (subst (λ b. IsChoice b after) e choice) refl refl)
  back_on (Some (stage.Running group next ready)) there goes after choice = going_back group next ready (stage.Running group next ready) there refl refl goes after choice
  back_on (Some (stage.Open group more ready)) there (inl j) after choice =
      let e : after_on a line (Some (stage.Open group more ready)) ≡ joined_with a line (group ++ j.want ∷ []) j.want = rw j.command (ap (joined_by a line group) j.first) in
      subst (λ b. Came a line b after) (sym e) (joining_back group more (stage.Open group more ready) there j after (subst (λ b. IsChoice b after) e choice) ready refl)
  back_on (Some (stage.Open group more ready)) there (inr goes) after choice =
      let post : line.is_post ≡ true = goes.is.part ∙ ap not (le-ltb (length group) (length group) (omega arith)) in
      let e : after_on a line (Some (stage.Open group more ready)) ≡ gone_on a line group (length group) = rw post refl in
      let kept = ia.stages line.lun (stage.Open group more ready) there in
      let none : Fits a (Some (stage.Open group more ready)) [] = (subst (IsGroup a.rules) (sym (append-nil group)) kept.0, tt) in
      subst (λ b. Came a line b after) (sym e) (going_back group (length group) ready (stage.Open group more ready) there refl none goes after (subst (λ b. IsChoice b after) e choice))

  -- what may stand after a line that may come comes from what may have stood before it, by a move that the line shows
  pub back : MayCome a line → (after : ℕ → List Want) → IsChoice (after_line a line) after → Came a line (after_line a line) after
  back may after choice = back_on (slice_get a.luns line.lun) refl may after choice

-- Forth

-- the line may come, and what the move leaves is what may stand after it
pub record Goes (a : Audit) (line : Line) (move : Move) (before : ℕ → List Want) : Type 0 where
  pub may : MayCome a line
  pub after : ℕ → List Want
  pub choice : IsChoice (after_line a line) after
  pub leaves : placed (problem_at a before) move line.start ≡ problem_at (after_line a line) after

-- .. where the audit after it is that
record GoesTo (a : Audit) (line : Line) (move : Move) (before : ℕ → List Want) (b : Audit) : Type 0 where
  pub after : ℕ → List Want
  pub choice : IsChoice b after
  pub leaves : placed (problem_at a before) move line.start ≡ problem_at b after

goes_of : (a : Audit) (line : Line) (move : Move) (before : ℕ → List Want) (b : Audit) → MayCome a line → after_line a line ≡ b → GoesTo a line move before b → Goes a line move before
goes_of a line move before b may e to = record {
  may = may;
  after = to.after;
  choice = subst (λ c. IsChoice c to.after) (sym e) to.choice;
  leaves = to.leaves ∙ ap (λ c. problem_at c to.after) (sym e);
}

module _ (a : Audit) (ia : IsAudit a) (line : Line) (before : ℕ → List Want) (choice : IsChoice a before) where
  -- a further phase of a group
  going_forth : a.bus_free ≤ line.start → (group : List Want) (phase ready : ℕ) (x : LunStage) → slice_get a.luns line.lun ≡ Some x → before line.lun ≡ []
      → slice_get (problem_at a before).luns line.lun ≡ Some (Running group phase ready) → GoesTo a line (Next line.lun) before (gone_on a line group phase)
  going_forth late group phase ready x there empty runs =
      let b = gone_on a line group phase in
      let now = next_stage a line group phase ready x there in
      let s = lun_after a.timing group phase (line.start + phase_length (group_spans a.timing group) (length group) phase) in
      record {
        after = before;
        choice = λ n. elim (same_place n line.lun) [
          | inl e ↦ subst (λ m. Fits b (slice_get b.luns m) (before m)) (sym e)
              (subst (λ o. Fits b o (before line.lun)) (sym (get_set_same a.luns line.lun x now there)) (subst (Fits b (Some now)) (sym empty) (fits_none b s)))
          | inr d ↦ subst (λ o. Fits b o (before n)) (sym (get_set_other a.luns line.lun n now d)) (fits_same a b (slice_get a.luns n) (before n) refl refl (choice n))
        ];
        leaves = next_leaves a line group phase ready x there late before before runs (λ n d. refl) refl;
      }
    where
      fits_none : (c : Audit) (t : LunState) → Fits c (Some (stage_of t)) []
      fits_none c (Free since) = refl
      fits_none c (Running g n r) = refl

  -- the choice after a command
  module _ (ms : List Want) (w : Want) (rest : List Want) (x : LunStage) (there : slice_get a.luns line.lun ≡ Some x) (of_lun : w.lun ≡ line.lun) (waits : IsFirst a.wants w)
      (rest_waits : All (IsFirst a.wants) rest) (whole : IsGroup a.rules (ms ++ w ∷ rest)) where
    abbrev c : Audit
    c = joined_with a line (ms ++ w ∷ []) w

    abbrev is_open : LunStage
    is_open = opened a.timing (ms ++ w ∷ []) (line.start + (group_spans a.timing (ms ++ w ∷ [])).cmd)

    there_w : Has a.wants w
    there_w = first_has (on_block w) a.wants w waits

    -- two that wait first are on different blocks, since their planes differ
    differ : (v : Want) → Has rest v → on_block v w ≡ false
    differ v k = elim (cases_Bool (on_block v w)) [
      | inl on ↦ (
          let less = All-has (λ u. w.plane < u.plane) rest v (Pairs-behind (λ y z. y.plane < z.plane) ms w rest whole.planes) k in
          let same = same_first a.wants v w on (All-has (IsFirst a.wants) rest v rest_waits k) waits in
          let plane : v.plane ≡ w.plane = ap (λ (u : Want). u.plane) same in
          absurd (omega arith))
      | inr off ↦ off
    ]

    choice_after : IsChoice c (put before line.lun rest)
    choice_after n = elim (same_place n line.lun) [
      | inl e ↦ subst (λ m. Fits c (slice_get c.luns m) (put before line.lun rest m)) (sym e)
          (subst (λ o. Fits c o (put before line.lun rest line.lun)) (sym (get_set_same a.luns line.lun x is_open there))
          (subst (Fits c (Some is_open)) (sym (put_same before line.lun rest)) (
            subst (IsGroup a.rules) (sym (append_assoc ms (w ∷ []) rest)) whole,
            All-each (IsFirst c.wants) rest (λ v k. first_left a.wants w v ia.ids there_w (differ v k) (All-has (IsFirst a.wants) rest v rest_waits k)),
          )))
      | inr d ↦ subst (Fits c (slice_get c.luns n)) (sym (put_other before line.lun rest n d))
          (subst (λ o. Fits c o (before n)) (sym (get_set_other a.luns line.lun n is_open d))
          (fits_after a ia c w there_w refl refl n (slice_get a.luns n) (before n) refl (λ e. d (e ∙ of_lun)) (choice n)))
    ]

    joining_forth : a.bus_free ≤ line.start → (from : ℕ) → slice_get (problem_at a before).luns line.lun ≡ Some (Running (ms ++ w ∷ rest) (length ms) from) → before line.lun ≡ w ∷ rest → GoesTo a line (Next line.lun) before c
    joining_forth late from runs was = record {
      after = put before line.lun rest;
      choice = choice_after;
      leaves = join_leaves a line ms w rest before (put before line.lun rest) (λ n d. put_other before line.lun rest n d) (put_same before line.lun rest) of_lun there_w ia.ids late from runs was;
    }

  starting_forth : (w : Want) (rest : List Want) (since : ℕ) → slice_get a.luns line.lun ≡ Some (stage.Free since) → before line.lun ≡ [] → w.lun ≡ line.lun
      → IsStartable a.rules (problem_at a before).wants (w ∷ rest) → IsCommandOf line w → max a.bus_free since ≤ line.start → Goes a line (Start (w ∷ rest)) before
  starting_forth w rest since there was of_lun startable command late =
      let waited = λ (v : Want) (e : v.lun ≡ line.lun) (f : IsFirst (problem_at a before).wants v). first_unkept (keep before) a.wants v (λ u k on. kept_on before line.lun v was e u on) f in
      let waits = waited w of_lun startable.first.0 in
      let luns : All (λ v. v.lun ≡ line.lun) rest = All-weaker (λ v. v.lun ≡ w.lun) (λ v. v.lun ≡ line.lun) (λ v e. e ∙ of_lun) rest startable.group.lun.1 in
      let rest_waits : All (IsFirst a.wants) rest = All-both (λ v. v.lun ≡ line.lun) (IsFirst (problem_at a before).wants) (IsFirst a.wants) waited rest luns startable.first.1 in
      let has_rest : All (Has a.wants) rest = All-weaker (IsFirst a.wants) (Has a.wants) (λ v f. first_has (on_block v) a.wants v f) rest rest_waits in
      let first = first_told a.wants line w command.named waits in
      let j : Joins a line [] since = record { command = command.part; want = w; first = first; named = command.named; group = one_is_group a.rules w; on_time = late } in
      goes_of a line (Start (w ∷ rest)) before (joined_with a line (w ∷ []) w) (subst (MayComeOn a line) (sym there) j)
      (ap (after_on a line) there ∙ ap (joined_by a line []) first)
      (record {
        after = put before line.lun rest;
        choice = choice_after [] w rest (stage.Free since) there of_lun waits rest_waits startable.group;
        leaves = start_leaves a line w rest before (put before line.lun rest) (λ n d. put_other before line.lun rest n d) (put_same before line.lun rest) of_lun
            (first_has (on_block w) a.wants w waits) ia.ids (omega (arith, late)) was has_rest luns;
      })

  -- the next phase of what a LUN runs, by its stage
  next_forth : (x : LunStage) (later : List Want) (group : List Want) (phase ready : ℕ) → slice_get a.luns line.lun ≡ Some x → before line.lun ≡ later → Running group phase ready ≡ state_at x later
      → slice_get (problem_at a before).luns line.lun ≡ Some (Running group phase ready) → IsPhaseOf line group phase → max a.bus_free ready ≤ line.start → Goes a line (Next line.lun) before
  next_forth (stage.Free since) later group phase ready there was state runs is late = cc
  next_forth (stage.Running g n r) later group phase ready there was state runs is late =
      let empty : before line.lun ≡ [] = subst (λ o. Fits a o (before line.lun)) there (choice line.lun) in
      let eg : group ≡ g = cc in let en : phase ≡ n = cc in let er : ready ≡ r = cc in
      let goes : GoesOn a line g n r = record { is = subst (λ m. IsPhaseOf line g m) en (subst (λ h. IsPhaseOf line h phase) eg is); on_time = subst (λ t. max a.bus_free t ≤ line.start) er late } in
      goes_of a line (Next line.lun) before (gone_on a line g n) (subst (MayComeOn a line) (sym there) goes) (ap (after_on a line) there)
      (going_forth (omega (arith, late)) g n r (stage.Running g n r) there empty (runs ∙ ap Some state))
  next_forth (stage.Open g more r) [] group phase ready there was state runs is late =
      let eg : group ≡ g = cc in let en : phase ≡ length g = cc in let er : ready ≡ r = cc in
      let is' : IsPhaseOf line g (length g) = subst (λ m. IsPhaseOf line g m) en (subst (λ h. IsPhaseOf line h phase) eg is) in
      let goes : GoesOn a line g (length g) r = record { is = is'; on_time = subst (λ t. max a.bus_free t ≤ line.start) er late } in
      let post : line.is_post ≡ true = is'.part ∙ ap not (le-ltb (length g) (length g) (omega arith)) in
      let e : after_on a line (Some (stage.Open g more r)) ≡ gone_on a line g (length g) = rw post refl in
      goes_of a line (Next line.lun) before (gone_on a line g (length g)) (subst (MayComeOn a line) (sym there) (inr goes)) (ap (after_on a line) there ∙ e)
      (going_forth (omega (arith, late)) g (length g) r (stage.Open g more r) there was (runs ∙ ap Some state))
  next_forth (stage.Open g more r) (w ∷ rest) group phase ready there was state runs is late =
      let eg : group ≡ g ++ w ∷ rest = cc in let en : phase ≡ length g = cc in let er : ready ≡ more = cc in
      let is' : IsPhaseOf line (g ++ w ∷ rest) (length g) = subst (λ m. IsPhaseOf line (g ++ w ∷ rest) m) en (subst (λ h. IsPhaseOf line h phase) eg is) in
      let command = of_command line g w rest is' in
      let fits : Fits a (Some (stage.Open g more r)) (w ∷ rest) = subst (λ l. Fits a (Some (stage.Open g more r)) l) was (subst (λ o. Fits a o (before line.lun)) there (choice line.lun)) in
      let first = first_told a.wants line w command.named fits.1.0 in
      let j : Joins a line g more = record {
        command = command.part;
        want = w;
        first = first;
        named = command.named;
        group = begins_group a.rules g w rest fits.0;
        on_time = subst (λ t. max a.bus_free t ≤ line.start) er late;
      } in
      let e : after_on a line (Some (stage.Open g more r)) ≡ joined_with a line (g ++ w ∷ []) w = rw command.part (ap (joined_by a line g) first) in
      goes_of a line (Next line.lun) before (joined_with a line (g ++ w ∷ []) w) (subst (MayComeOn a line) (sym there) (inl j)) (ap (after_on a line) there ∙ e)
      (joining_forth g w rest (stage.Open g more r) there command.named.lun fits.1.0 fits.1.1 fits.0 (omega (arith, late)) more (runs ∙ ap Some state) was)

  -- a stage that is free
  free_stage : (x : LunStage) (later : List Want) (since : ℕ) → Free since ≡ state_at x later → x ≡ stage.Free since
  free_stage (stage.Free s) later since h = let e : since ≡ s = cc in ap stage.Free (sym e)
  free_stage (stage.Running g n r) later since h = cc
  free_stage (stage.Open g more r) [] since h = cc
  free_stage (stage.Open g more r) (m ∷ later) since h = cc

  -- a move that the line shows, of what may stand, is a line that may come
  pub forth : (move : Move) → IsLineOf (problem_at a before) move line → Goes a line move before
  forth (Next lun) is =
      let (group, phase, ready, runs, phase_is, same) = is.shows in
      let runs' : slice_get (problem_at a before).luns line.lun ≡ Some (Running group phase ready) = ap (slice_get (problem_at a before).luns) (sym same) ∙ runs in
      let late : max a.bus_free ready ≤ line.start = subst (λ o. max a.bus_free (free_from o) ≤ line.start) runs is.on_time in
      let s = states_back a.luns before line.lun (Running group phase ready) runs' in
      subst (λ l. Goes a line (Next l) before) (sym same) (next_forth s.stage (before line.lun) group phase ready s.there refl s.is runs' phase_is late)
  forth (Start []) is = let (since, free, startable) = is.is_move in let some = startable.group.some in absurd (omega arith)
  forth (Start (w ∷ rest)) is =
      let (since, free, startable) = is.is_move in
      let of_lun = is.shows.1 in
      let free' : slice_get (problem_at a before).luns line.lun ≡ Some (Free since) = ap (slice_get (problem_at a before).luns) (sym of_lun) ∙ free in
      let s = states_back a.luns before line.lun (Free since) free' in
      let x = free_stage s.stage (before line.lun) since s.is in
      let there : slice_get a.luns line.lun ≡ Some (stage.Free since) = s.there ∙ ap Some x in
      let none : before line.lun ≡ [] = subst (λ o. Fits a o (before line.lun)) there (choice line.lun) in
      let late : max a.bus_free since ≤ line.start = subst (λ o. max a.bus_free (free_from o) ≤ line.start) free is.on_time in
      starting_forth w rest since there none of_lun startable (of_command line [] w rest is.shows.0) late
