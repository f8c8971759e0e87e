-- A struct that keeps what a log has left says it.
use Rattle.std.proofs.Common.{◌≡◌, ℕ, zero, suc, ◌+◌, ◌*◌, ◌%◌, ◌^◌, ◌<◌, ◌≤◌, Bool, true, false, List, [], ◌∷◌, ◌++◌, length, map, take, drop, get_or, Option, Some, None, inl, inr, refl, sym, ap, ◌∙◌, subst, arith, length-set, length-take-le}
use Rattle.std.specs.Prelude.{◌==◌, nat_lt, if◌then◌else◌, slice_get, slice_set, replicate}
use Rattle.std.specs.List.{AllByRecursion as Each, list_any}
use Rattle.std.proofs.Math.Seq.{take-append_seam}
use Rattle.std.proofs.lemmas.Bool.{cases_Bool, eq-eqb, ne_eqb, le-ltb}
use Rattle.std.proofs.lemmas.Bool.Decides.{nat_tests}
use Rattle.std.proofs.lemmas.List.{length-map, length-take, take_all, take_more}
use Rattle.onfi_audit.specs.Audit.{Audit, IsAccepted, accepting, after_line, after_on, first_at, gone_on, is_at, joined, joined_by, readied, readied_on, readied_stage, resuming}
use Rattle.onfi_audit.specs.Audit.{stage_of as stage_of_state}
use Rattle.onfi_audit.specs.declared.line.Line.{Line}
use Rattle.onfi_audit.specs.declared.stage.LunStage.{LunStage}
use Rattle.onfi_audit.specs.declared.stage.LunStage.TheVariants as stage
use Rattle.onfi_problem.specs.Moves.{lun_after}
use Rattle.onfi_problem.proofs.Lists.{some_of_all}
use Rattle.onfi_problem.proofs.Perm.{All-append}
use Rattle.onfi_flight.proofs.Lists.{All-set}
use Rattle.onfi_timing.specs.declared.kind.Kind.{Kind}
use Rattle.onfi_timing.specs.declared.kind.Kind.TheVariants.{Read, Program, Erase, ReadSectors}
use Rattle.onfi_timing.specs.declared.timing.Timing.{Timing}
use Rattle.onfi_group.specs.declared.rules.Rules.{Rules}
use Rattle.onfi_request.specs.declared.want.Want.{Want}
use Rattle.onfi_calls.specs.declared.audit.PlainAudit.{PlainAudit}
use Rattle.onfi_calls.specs.declared.audit.PlainStage.{PlainStage}
use Rattle.onfi_calls.specs.declared.channel.PlainLun.{PlainLun}
use Rattle.onfi_calls.specs.declared.phase.PlainPhase.{PlainPhase}
use Rattle.onfi_calls.specs.AuditPhase.{Brought, BroughtIf, IsAsked, begins, begins_on, begun_by, line_of}
use Rattle.onfi_calls.specs.Audit.{IsAuditSaid, IsFit, kept, no_lun, no_stage, stage_of, stages_in, stages_of, with_group, written_lun, written_stage}
use Rattle.onfi_calls.specs.Due.{number_of_kind}
use Rattle.onfi_calls.specs.Ran.{no_want}
use Rattle.onfi_calls.specs.Problem.{IsTiming, has_bad_count, has_bad_kind, has_bad_member, luns_of, members_of, operation_in, wants_of}
use Rattle.onfi_calls.specs.PlainSchedule.{filled, written_want}
use Rattle.onfi_calls.proofs.Filled.{filled_next}
use Rattle.onfi_calls.proofs.Standing.{IsPlain, are_plain, first_keeps, kind_again, wants_again}

-- Lists

-- places that are filled begin with what fills them
pub filled_front : {A B : Type 0} (f : A → B) (n : ℕ) (rest : B) (xs : List A) → take (length xs) (filled n rest (map f xs)) ≡ map f xs
filled_front f n rest xs =
    ap (λ k. take k (filled n rest (map f xs))) (sym (length-map xs f))
    ∙ take-append_seam (map f xs) (drop (length (map f xs)) (replicate n rest))

-- what each of the first has, with one more
pub each_more : {A : Type 0} (P : A → Type 0) (xs : List A) (at : ℕ) (d : A) → at < length xs → Each P (take at xs) → P (get_or xs at d)
    → Each P (take (at + 1) xs)
each_more P xs at d low so_far one = subst (Each P) (sym (take_more xs at d low)) (All-append P (take at xs) (get_or xs at d ∷ []) so_far (one, tt))

pub each_all : {A : Type 0} (P : A → Type 0) (xs : List A) (at : ℕ) → length xs ≤ at → Each P (take at xs) → Each P xs
each_all P xs at over so_far = subst (Each P) (take_all at xs over) so_far

-- one LUN more
take_stages : (bits : ℕ) (luns : List PlainLun) (ss : List PlainStage) (at : ℕ) (d : PlainLun) (e : PlainStage) → at < length luns → at < length ss
    → stages_of bits (take (at + 1) luns) ss ≡ stages_of bits (take at luns) ss ++ stage_of bits (get_or luns at d) (get_or ss at e) ∷ []
take_stages bits [] ss at d e low fit = absurd (omega (arith, low))
take_stages bits (lun ∷ luns) [] at d e low fit = absurd (omega (arith, fit))
take_stages bits (lun ∷ luns) (s ∷ ss) zero d e low fit = refl
take_stages bits (lun ∷ luns) (s ∷ ss) (suc at) d e low fit =
    let next : suc at + 1 ≡ suc (at + 1) = omega arith in
    ap (λ n. stages_of bits (take n (lun ∷ luns)) (s ∷ ss)) next
    ∙ ap (λ xs. stage_of bits lun s ∷ xs) (take_stages bits luns ss at d e (omega (arith, low)) (omega (arith, fit)))

count_stages : (bits : ℕ) (luns : List PlainLun) (ss : List PlainStage) → length luns ≤ length ss → length (stages_of bits luns ss) ≡ length luns
count_stages bits [] ss few = refl
count_stages bits (lun ∷ luns) [] few = absurd (omega (arith, few))
count_stages bits (lun ∷ luns) (s ∷ ss) few = ap suc (count_stages bits luns ss (omega (arith, few)))

-- those of the LUNs that are there
pub stages_front : (bits : ℕ) (luns : List PlainLun) (ss : List PlainStage) (made : List LunStage) → length luns ≤ length ss → made ≡ filled 8 (stage.Free 0) (stages_of bits luns ss)
    → take (length luns) made ≡ stages_of bits luns ss
stages_front bits luns ss made few is =
    let said = stages_of bits luns ss in
    ap (take (length luns)) is ∙ ap (λ n. take n (filled 8 (stage.Free 0) said)) (sym (count_stages bits luns ss few))
    ∙ take-append_seam said (drop (length said) (replicate 8 (stage.Free 0)))

pub stages_more : (bits : ℕ) (luns : List PlainLun) (ss : List PlainStage) (at : ℕ) (d : PlainLun) (e : PlainStage) (y : LunStage) (made : List LunStage) → at < length luns → at < length ss
    → length luns ≤ 8 → length ss ≡ 8 → y ≡ stage_of bits (get_or luns at d) (get_or ss at e) → made ≡ filled 8 (stage.Free 0) (stages_of bits (take at luns) ss)
    → slice_set made at y ≡ filled 8 (stage.Free 0) (stages_of bits (take (at + 1) luns) ss)
stages_more bits luns ss at d e y made low fit few all is so_far =
    let front = stages_of bits (take at luns) ss in
    let taken : length (take at luns) ≡ at = length-take-le at luns (omega (arith, low)) in
    let count : length front ≡ at = count_stages bits (take at luns) ss (omega (arith, taken, low, few, all)) ∙ taken in
    let next = filled_next 8 (stage.Free 0) y front (omega (arith, count, low, few)) in
    ap (λ zs. slice_set zs at y) so_far ∙ ap (λ i. slice_set (filled 8 (stage.Free 0) front) i y) (sym count) ∙ next
    ∙ ap (λ z. filled 8 (stage.Free 0) (front ++ z ∷ [])) is ∙ ap (filled 8 (stage.Free 0)) (sym (take_stages bits luns ss at d e low fit))

-- What is written is in its range

written_kind : (k : Kind) → nat_lt 2 (operation_in (number_of_kind k)) ≡ false
written_kind Read = refl
written_kind Program = refl
written_kind Erase = refl
written_kind (ReadSectors first count) = let none : count % 8 * 32 % 32 ≡ 0 = omega arith in ap (nat_lt 2) none

written_kinds : (ws : List Want) → list_any has_bad_kind (map written_want ws) ≡ false
written_kinds [] = refl
written_kinds (w ∷ ws) = let a = written_kind w.kind in let b = written_kinds ws in rw (a, b) refl

written_members : (group : List Want) (next since : ℕ) → members_of (with_group group next since) ≡ map written_want group
written_members group next since = filled_front written_want 4 no_want group

stage_kinds : (x : LunStage) → has_bad_member (written_lun x) ≡ false
stage_kinds (stage.Free since) = refl
stage_kinds (stage.Running group next ready) = ap (list_any has_bad_kind) (written_members group next ready) ∙ written_kinds group
stage_kinds (stage.Open group more ready) = ap (list_any has_bad_kind) (written_members group 0 ready) ∙ written_kinds group

all_kinds : (xs : List LunStage) → list_any has_bad_member (map written_lun xs) ≡ false
all_kinds [] = refl
all_kinds (x ∷ xs) = let a = stage_kinds x in let b = all_kinds xs in rw (a, b) refl

stage_count : (x : LunStage) → IsFit x → has_bad_count (written_lun x) ≡ false
stage_count (stage.Free since) fit = refl
stage_count (stage.Running group next ready) fit = le-ltb 4 (length group) fit.1
stage_count (stage.Open group more ready) fit = le-ltb 4 (length group) fit.1

all_counts : (xs : List LunStage) → Each IsFit xs → list_any has_bad_count (map written_lun xs) ≡ false
all_counts [] fit = refl
all_counts (x ∷ xs) fit = let a = stage_count x fit.0 in let b = all_counts xs fit.1 in rw (a, b) refl

-- What is written says what it was written from

-- the members of what runs are said again
abbrev pub IsPlainStage : ℕ → LunStage → Type 0
IsPlainStage bits (stage.Free since) = Unit {0}
IsPlainStage bits (stage.Running group next ready) = Each (IsPlain bits) group
IsPlainStage bits (stage.Open group more ready) = Each (IsPlain bits) group

group_again : (bits : ℕ) (group : List Want) (next since : ℕ) → Each (IsPlain bits) group → wants_of bits (members_of (with_group group next since)) ≡ group
group_again bits group next since plain = ap (wants_of bits) (written_members group next since) ∙ wants_again bits group plain

pub stage_again : (bits : ℕ) (x : LunStage) → IsPlainStage bits x → IsFit x → stage_of bits (written_lun x) (written_stage x) ≡ x
stage_again bits (stage.Free since) plain fit = refl
stage_again bits (stage.Running group next ready) plain fit =
    let least = fit.0 in
    let some : (length group == 0) ≡ false = ne_eqb (length group) 0 (λ e. omega (arith, e, least)) in
    rw some (ap (λ ws. stage.Running ws next ready) (group_again bits group next ready plain))
stage_again bits (stage.Open group more ready) plain fit =
    let least = fit.0 in
    let some : (length group == 0) ≡ false = ne_eqb (length group) 0 (λ e. omega (arith, e, least)) in
    rw some (ap (λ ws. stage.Open ws more ready) (group_again bits group 0 ready plain))

stages_again : (bits : ℕ) (xs : List LunStage) (more : List PlainStage) → Each (IsPlainStage bits) xs → Each IsFit xs → stages_of bits (map written_lun xs) (map written_stage xs ++ more) ≡ xs
stages_again bits [] more plain fit = refl
stages_again bits (x ∷ xs) more plain fit =
    ap (λ y. y ∷ stages_of bits (map written_lun xs) (map written_stage xs ++ more)) (stage_again bits x plain.0 fit.0)
    ∙ ap (λ ys. x ∷ ys) (stages_again bits xs more plain.1 fit.1)

pub same_parts : (t : Timing) (r : Rules) (b c n : ℕ) (ls ms : List LunStage) (ws : List Want) → b ≡ c → ms ≡ ls → ws ≡ []
    → (let a : Audit = record { timing = t; rules = r; bus_free = b; luns = ls; wants = ws; accepted = n } in a) ≡ resuming t r c ms n
same_parts t r b c n ls ms ws eb el ew = rw (eb, el, ew) refl

-- what is left of a log by a struct, once something happened, so that a struct may keep it
pub record Stays (bits : ℕ) (a c : Audit) : Type 0 where
  pub timing : c.timing ≡ a.timing
  pub rules : c.rules ≡ a.rules
  pub count : length c.luns ≡ length a.luns
  pub plain : Each (IsPlainStage bits) c.luns

pub kept_says : (s : PlainAudit) (a c : Audit) → IsAuditSaid s a → Stays s.channel.rules.plane_bits a c → c.wants ≡ [] → length c.luns ≤ 8
    → Each IsFit c.luns → IsAuditSaid (kept s c) c
kept_says s a c said stays none few fit =
    let bits = s.channel.rules.plane_bits in
    let front : luns_of (kept s c).channel ≡ map written_lun c.luns = filled_front written_lun 8 no_lun c.luns in
    let counts : list_any has_bad_count (luns_of (kept s c).channel) ≡ false = ap (list_any has_bad_count) front ∙ all_counts c.luns fit in
    let kinds : list_any has_bad_member (luns_of (kept s c).channel) ≡ false = ap (list_any has_bad_member) front ∙ all_kinds c.luns in
    let timing = stays.timing in
    let rules = stays.rules in
    let spans : IsTiming s.channel c.timing = rw timing said.timing in
    let good = said.said.timing in
    record {
      said = record { few = few; timing = record { kinds = good.kinds; sectors = good.sectors }; plane_bits = said.said.plane_bits; counts = counts; kinds = rw kinds refl };
      timing = record { kinds = spans.kinds; sectors = spans.sectors };
      rules = rw rules said.rules;
      is = same_parts c.timing c.rules c.bus_free c.bus_free c.accepted c.luns (stages_in (kept s c)) c.wants refl
          (ap (λ ls. stages_of bits ls (kept s c).stage) front ∙ stages_again bits c.luns (drop (length (map written_stage c.luns)) (replicate 8 no_stage)) stays.plain fit) none;
    }

-- What is said stays plain

said_stage : (bits : ℕ) (lun : PlainLun) (s : PlainStage) → IsPlainStage bits (stage_of bits lun s)
said_stage bits lun s = elim (cases_Bool (lun.members == 0)) [
  | inl free ↦ rw free tt
  | inr runs ↦ (
      let each = are_plain bits (members_of lun) in
      elim (cases_Bool (s.is_open == 0)) [ inl shut ↦ rw (runs, shut) each | inr more ↦ rw (runs, more) each ])
]

said_stages : (bits : ℕ) (luns : List PlainLun) (ss : List PlainStage) → Each (IsPlainStage bits) (stages_of bits luns ss)
said_stages bits [] ss = tt
said_stages bits (lun ∷ luns) [] = tt
said_stages bits (lun ∷ luns) (s ∷ ss) = (said_stage bits lun s, said_stages bits luns ss)

module _ (bits : ℕ) (a : Audit) (line : Line) (plain : Each (IsPlainStage bits) a.luns) where
  same : Stays bits a a
  same = record { timing = refl; rules = refl; count = refl; plain = plain }

  goes_on : (group : List Want) (phase : ℕ) → Each (IsPlain bits) group → Stays bits a (gone_on a line group phase)
  goes_on group phase each = record {
    timing = refl;
    rules = refl;
    count = length-set a.luns line.lun _;
    plain = All-set (IsPlainStage bits) a.luns line.lun _ plain (after group phase _ each);
  }
    where
      after : (group : List Want) (n ended : ℕ) → Each (IsPlain bits) group → IsPlainStage bits (stage_of_state (lun_after a.timing group n ended))
      after group n ended each = elim (cases_Bool (nat_lt (n + 1) (2 * length group))) [ inl more ↦ rw more each | inr over ↦ rw over tt ]

  joins : (members : List Want) (first : Option Want) → Each (IsPlain bits) members → first_at a.wants line.lun line.block ≡ first → Each (IsPlain bits) a.wants
      → Stays bits a (joined_by a line members first)
  joins members None each is wants = same
  joins members (Some w) each is wants =
      let one : IsPlain bits w = first_keeps (IsPlain bits) (is_at line.lun line.block) a.wants w wants is in
      record {
        timing = refl;
        rules = refl;
        count = length-set a.luns line.lun _;
        plain = All-set (IsPlainStage bits) a.luns line.lun _ plain (All-append (IsPlain bits) members (w ∷ []) each (one, tt));
      }

  on_stage : (x : Option LunStage) → slice_get a.luns line.lun ≡ x → Each (IsPlain bits) a.wants → Stays bits a (after_on a line x)
  on_stage None is wants = same
  on_stage (Some (stage.Free since)) is wants = joins [] (first_at a.wants line.lun line.block) tt refl wants
  on_stage (Some (stage.Running group next ready)) is wants =
      let there = some_of_all (IsPlainStage bits) a.luns line.lun plain in
      goes_on group next (rw is at there)
  on_stage (Some (stage.Open group more ready)) is wants =
      let there = some_of_all (IsPlainStage bits) a.luns line.lun plain in
      let each : Each (IsPlain bits) group = rw is at there in
      elim (cases_Bool line.is_post) [
        | inl post ↦ rw post (goes_on group (length group) each)
        | inr command ↦ rw command (joins group (first_at a.wants line.lun line.block) each refl wants)
      ]

-- once a line ran
after_stays : (bits : ℕ) (a : Audit) (line : Line) → Each (IsPlainStage bits) a.luns → Each (IsPlain bits) a.wants → Stays bits a (after_line a line)
after_stays bits a line plain wants = on_stage bits a line plain (slice_get a.luns line.lun) refl wants

-- Nothing waits

none_first : (a : Audit) (line : Line) (members : List Want) (first : Option Want) → a.wants ≡ [] → first_at a.wants line.lun line.block ≡ first
    → (joined_by a line members first).wants ≡ []
none_first a line members None none is = none
none_first a line members (Some w) none is = absurd (let z : first_at [] line.lun line.block ≡ Some w = rw none at is in cc)

none_waits : (a : Audit) (line : Line) (x : Option LunStage) → a.wants ≡ [] → (after_on a line x).wants ≡ []
none_waits a line None none = none
none_waits a line (Some (stage.Free since)) none = none_first a line [] (first_at a.wants line.lun line.block) none refl
none_waits a line (Some (stage.Running group next ready)) none = none
none_waits a line (Some (stage.Open group more ready)) none = elim (cases_Bool line.is_post) [
  | inl post ↦ rw post none
  | inr command ↦ rw command (none_first a line group (first_at a.wants line.lun line.block) none refl)
]

module _ (a : Audit) (p : PlainPhase) where
  begun_first : a.wants ≡ [] → (members : List Want) → (joined (accepting a (begun_by a p)) (line_of p) members).wants ≡ []
  begun_first none members =
      let lun = eq-eqb p.lun p.lun refl in
      let block = eq-eqb p.block p.block refl in
      let id = eq-eqb a.accepted a.accepted refl in
      rw (none, lun, block, id) refl

  begun_on : a.wants ≡ [] → (x : Option LunStage) → (if p.is_post then false else begins_on x) ≡ true
      → (after_on (accepting a (begun_by a p)) (line_of p) x).wants ≡ []
  begun_on none None begun = elim (cases_Bool p.is_post) [
    | inl post ↦ absurd (let z : false ≡ true = rw post at begun in cc)
    | inr command ↦ absurd (let z : false ≡ true = rw command at begun in cc)
  ]
  begun_on none (Some (stage.Free since)) begun = begun_first none []
  begun_on none (Some (stage.Running group next ready)) begun = elim (cases_Bool p.is_post) [
    | inl post ↦ absurd (let z : false ≡ true = rw post at begun in cc)
    | inr command ↦ absurd (let z : false ≡ true = rw command at begun in cc)
  ]
  begun_on none (Some (stage.Open group more ready)) begun = open_on p.is_post begun
    where
      open_on : (post : Bool) → (if post then false else true) ≡ true
          → (if post then gone_on (accepting a (begun_by a p)) (line_of p) group (length group)
          else joined (accepting a (begun_by a p)) (line_of p) group).wants ≡ []
      open_on true begun = absurd (cc)
      open_on false begun = begun_first none group

pub brought_none : (a : Audit) (p : PlainPhase) → begins a p ≡ false → Brought a p a
brought_none a p none = rw none refl

pub brought_one : (a b : Audit) (p : PlainPhase) → begins a p ≡ true → IsAccepted a (begun_by a p) → b ≡ accepting a (begun_by a p) → Brought a p b
brought_one a b p one accepted is = rw one (accepted, is)

-- the request that a phase begins waits no more once it ran
brought_waits : (a b : Audit) (p : PlainPhase) → a.wants ≡ [] → Brought a p b → (after_line b (line_of p)).wants ≡ []
brought_waits a b p none brought = by (begins a p) refl brought
  where
    by : (x : Bool) → begins a p ≡ x → BroughtIf x a p b → (after_line b (line_of p)).wants ≡ []
    by false is e = subst (λ (c : Audit). (after_line c (line_of p)).wants ≡ []) (sym e) (none_waits a (line_of p) (slice_get a.luns p.lun) none)
    by true is (accepted, e) = subst (λ (c : Audit). (after_line c (line_of p)).wants ≡ []) (sym e) (begun_on a p none (slice_get a.luns p.lun) is)

-- what is left with that request
pub record IsOpened (bits : ℕ) (a b : Audit) : Type 0 where
  pub timing : b.timing ≡ a.timing
  pub rules : b.rules ≡ a.rules
  pub luns : b.luns ≡ a.luns
  pub wants : Each (IsPlain bits) b.wants

brought_opens : (bits : ℕ) (a b : Audit) (p : PlainPhase) → a.wants ≡ [] → a.rules.plane_bits ≡ bits → Brought a p b → IsOpened bits a b
brought_opens bits a b p none of_bits brought = by (begins a p) brought
  where
    by : (x : Bool) → BroughtIf x a p b → IsOpened bits a b
    by false e = subst (IsOpened bits a) (sym e) (record { timing = refl; rules = refl; luns = refl; wants = subst (Each (IsPlain bits)) (sym none) tt })
    by true (accepted, e) =
        let one : IsPlain bits (begun_by a p) = record { plane = ap (λ n. p.block % 2 ^ n) of_bits; kind = kind_again p.kind } in
        let all : Each (IsPlain bits) (a.wants ++ begun_by a p ∷ []) = subst (λ ws. Each (IsPlain bits) (ws ++ begun_by a p ∷ [])) (sym none) (one, tt) in
        subst (IsOpened bits a) (sym e) (record { timing = refl; rules = refl; luns = refl; wants = all })

said_luns : (s : PlainAudit) (a : Audit) → IsAuditSaid s a → a.luns ≡ stages_in s
said_luns s a said = ap (λ (x : Audit). x.luns) said.is

said_none : (s : PlainAudit) (a : Audit) → IsAuditSaid s a → a.wants ≡ []
said_none s a said = ap (λ (x : Audit). x.wants) said.is

fewer_stages : (bits : ℕ) (luns : List PlainLun) (ss : List PlainStage) → length (stages_of bits luns ss) ≤ length luns
fewer_stages bits [] ss = omega arith
fewer_stages bits (lun ∷ luns) [] = omega arith
fewer_stages bits (lun ∷ luns) (s ∷ ss) = let more = fewer_stages bits luns ss in omega (arith, more)

pub said_few : (s : PlainAudit) (a : Audit) → IsAuditSaid s a → length a.luns ≤ 8
said_few s a said =
    let count = ap length (said_luns s a said) in
    let mapped = fewer_stages s.channel.rules.plane_bits (luns_of s.channel) s.stage in
    let taken = length-take s.channel.lun_count s.channel.lun in
    let few = said.said.few in
    omega (arith, count, mapped, taken, few)

-- what is left after a phase that was asked
asked_stays : (s : PlainAudit) (p : PlainPhase) (b : Audit) (asked : IsAsked s p b) → Stays s.channel.rules.plane_bits asked.audit (after_line b (line_of p))
asked_stays s p b asked =
    let bits = s.channel.rules.plane_bits in
    let a = asked.audit in
    let opened = brought_opens bits a b p (said_none s a asked.said) asked.said.rules.plane_bits asked.brought in
    let plain : Each (IsPlainStage bits) b.luns =
    subst (Each (IsPlainStage bits)) (sym (opened.luns ∙ said_luns s a asked.said)) (said_stages bits (luns_of s.channel) s.stage) in
    let ran = after_stays bits b (line_of p) plain opened.wants in
    record { timing = ran.timing ∙ opened.timing; rules = ran.rules ∙ opened.rules; count = ran.count ∙ ap length opened.luns; plain = ran.plain }

pub asked_few : (s : PlainAudit) (p : PlainPhase) (b c : Audit) → IsAsked s p b → c ≡ after_line b (line_of p) → length c.luns ≤ 8
asked_few s p b c asked is =
    let count = (asked_stays s p b asked).count in
    let few = said_few s asked.audit asked.said in
    let same = ap (λ (x : Audit). length x.luns) is in
    omega (arith, count, few, same)

pub asked_kept : (s : PlainAudit) (p : PlainPhase) (b c : Audit) → IsAsked s p b → c ≡ after_line b (line_of p) → Each IsFit c.luns → IsAuditSaid (kept s c) c
asked_kept s p b c asked is fit =
    let stays : Stays s.channel.rules.plane_bits asked.audit c = subst (Stays s.channel.rules.plane_bits asked.audit) (sym is) (asked_stays s p b asked) in
    let none : c.wants ≡ [] = ap (λ (x : Audit). x.wants) is ∙ brought_waits asked.audit b p (said_none s asked.audit asked.said) asked.brought in
    kept_says s asked.audit c asked.said stays none (asked_few s p b c asked is) fit

-- what is left once a LUN was ready
ready_plain : (bits moment : ℕ) (x : LunStage) → IsPlainStage bits x → IsPlainStage bits (readied_stage moment x)
ready_plain bits moment (stage.Free since) plain = tt
ready_plain bits moment (stage.Running group next ready) plain = plain
ready_plain bits moment (stage.Open group more ready) plain = plain

ready_on : (bits : ℕ) (a : Audit) (lun moment : ℕ) (x : Option LunStage) → slice_get a.luns lun ≡ x → Each (IsPlainStage bits) a.luns
    → Stays bits a (readied_on a lun moment x)
ready_on bits a lun moment None is plain = record { timing = refl; rules = refl; count = refl; plain = plain }
ready_on bits a lun moment (Some x) is plain =
    let there = some_of_all (IsPlainStage bits) a.luns lun plain in
    let one : IsPlainStage bits x = rw is at there in
    record {
      timing = refl;
      rules = refl;
      count = length-set a.luns lun _;
      plain = All-set (IsPlainStage bits) a.luns lun _ plain (ready_plain bits moment x one);
    }

ready_none : (a : Audit) (lun moment : ℕ) (x : Option LunStage) → a.wants ≡ [] → (readied_on a lun moment x).wants ≡ []
ready_none a lun moment None none = none
ready_none a lun moment (Some x) none = none

said_ready : (s : PlainAudit) (a : Audit) (lun moment : ℕ) → IsAuditSaid s a → Stays s.channel.rules.plane_bits a (readied a lun moment)
said_ready s a lun moment said =
    let bits = s.channel.rules.plane_bits in
    ready_on bits a lun moment (slice_get a.luns lun) refl (subst (Each (IsPlainStage bits)) (sym (said_luns s a said)) (said_stages bits (luns_of s.channel) s.stage))

pub ready_few : (s : PlainAudit) (a c : Audit) (lun moment : ℕ) → IsAuditSaid s a → c ≡ readied a lun moment → length c.luns ≤ 8
ready_few s a c lun moment said is =
    let count = (said_ready s a lun moment said).count in
    let few = said_few s a said in
    let same = ap (λ (x : Audit). length x.luns) is in
    omega (arith, count, few, same)

pub ready_kept : (s : PlainAudit) (a c : Audit) (lun moment : ℕ) → IsAuditSaid s a → c ≡ readied a lun moment → Each IsFit c.luns → IsAuditSaid (kept s c) c
ready_kept s a c lun moment said is fit =
    let stays : Stays s.channel.rules.plane_bits a c = subst (Stays s.channel.rules.plane_bits a) (sym is) (said_ready s a lun moment said) in
    let none : c.wants ≡ [] = ap (λ (x : Audit). x.wants) is ∙ ready_none a lun moment (slice_get a.luns lun) (said_none s a said) in
    kept_says s a c said stays none (ready_few s a c lun moment said is) fit

-- a LUN that is there, or isn't
pub is_low : (n m : ℕ) → nat_lt n m ≡ true → n < m
is_low n m low = grind (arith, nat_tests)

pub isnt_low : (n m : ℕ) → nat_lt n m ≡ false → m ≤ n
isnt_low n m high = grind (arith, nat_tests)
