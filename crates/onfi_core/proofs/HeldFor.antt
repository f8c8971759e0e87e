-- Whom the held replies are for, and what a quiet half has left.
use Rattle.std.proofs.Common.{◌≡◌, ℕ, suc, zero, ◌+◌, ◌-◌, ◌*◌, ◌<◌, ◌≤◌, Bool, true, false, List, [], ◌∷◌, ◌++◌, length, Option, Some, None, take, refl, sym, ap, ◌∙◌, subst, arith, ◌≢◌}
use Rattle.std.specs.Prelude.{if◌then◌else◌, ◌==◌}
use Rattle.std.specs.List.{AllByRecursion as All, filter, flat_map}
use Rattle.std.proofs.lemmas.Bool.{eq-eqb}
use Rattle.onfi_timing.specs.Phases.{Lengths}
use Rattle.onfi_timing.specs.declared.timing.Timing.{Timing}
use Rattle.onfi_request.specs.declared.reply.Reply.{Reply}
use Rattle.onfi_request.specs.declared.request.Item.{Item}
use Rattle.onfi_request.specs.declared.want.Want.{Want}
use Rattle.onfi_group.specs.Group.{IsGroup, group_spans, lun_of}
use Rattle.onfi_group.specs.Words.{number}
use Rattle.onfi_problem.proofs.Perm.{All-back, All-front, All-weaker}
use Rattle.onfi_problem.specs.Problem.{has_id}
use Rattle.onfi_schedule.specs.Schedule.{Placed, group_phases, phases, phases_from, rest_phases}
use Rattle.onfi_schedule.specs.declared.phase.Phase.{Phase}
use Rattle.onfi_die.proofs.Order.{rule_kept, Pairs-front}
use Rattle.onfi_die.specs.Order.{AreInOrder, IsBeginning}
use Rattle.onfi_die.specs.Rightful.{IsRightful}
use Rattle.onfi_core.specs.declared.setup.Setup.{Setup}
use Rattle.onfi_core.specs.Kept.{IsReached, IsSound}
use Rattle.onfi_core.specs.Reaching.{IdleIs, NextBehind, NothingHeld}
use Rattle.onfi_core.specs.State.{HalfState, ChannelState, device_for, is_to, posted_to}
use Rattle.onfi_steady.specs.Waiting.{Books}
use Rattle.onfi_core.specs.Steps.{GoesOut, is_empty, none_left, none_left_by, none_runs, unplanned}
use Rattle.onfi_core.proofs.Halves.{legal_left}
use Rattle.onfi_core.proofs.Hosts.{post_kept}
use Rattle.onfi_core.proofs.Hosted.{to_own}
use Rattle.onfi_core.proofs.Lists.{All-at}
use Rattle.onfi_problem.proofs.Wants.{Pairs-filter}
use Rattle.onfi_core.specs.Core.{PostedInOrder}
use Rattle.onfi_core.proofs.Promise.{rightful_reached}

-- What is posted to a host is in order of making

pub posted_in_order : PostedInOrder
posted_in_order s c reached host =
    let m = reached.half.made host in
    let posted = filter (is_to host) c.half.posted in
    let held = filter (is_to host) c.half.held in
    record {
      faults_same = All-front (λ (r : Reply). r.basis.faults ≡ c.chip.faults) posted held m.faults;
      each = All-front (λ (r : Reply). IsRightful (device_for s c.chip) r.basis.accepted r) posted held m.each;
      rise = Pairs-front (λ (a b : Reply). IsBeginning a.basis.accepted b.basis.accepted) posted held m.rise;
      once = Pairs-filter (λ (a b : Reply). a.place ≢ b.place) (is_to host) c.half.posted (rightful_reached s c reached).once;
    }

-- Held replies are to hosts of the setup

accepted_hosts : (s : Setup) (c : ChannelState) → IsReached s c → All (λ (x : Item). x.host < s.hosts) c.half.accepted
accepted_hosts s c r = All-front (λ (x : Item). x.host < s.hosts) c.half.accepted c.waiting (subst (All (λ (x : Item). x.host < s.hosts)) r.sent r.hosts)

held_hosts : (s : Setup) (c : ChannelState) → IsReached s c → All (λ (r : Reply). r.host < s.hosts) c.half.held
held_hosts s c reached =
    let known = accepted_hosts s c reached in
    All-weaker (IsRightful (device_for s c.chip) c.half.accepted) (λ (r : Reply). r.host < s.hosts)
    (λ r right. subst (λ n. n < s.hosts) (sym right.host) (All-at (λ (x : Item). x.host < s.hosts) c.half.accepted r.place right.item known right.there)) c.half.held reached.half.held

-- the reply that goes out goes to one of them
pub goes_to : (s : Setup) (c : ChannelState) (h : HalfState) (host : ℕ) (r : Reply) → IsReached s c → GoesOut c.half h host r → host < s.hosts
goes_to s c h host r reached out =
    let each = subst (All (λ (q : Reply). q.host < s.hosts)) out.held (held_hosts s c reached) in
    let one = (All-back (λ (q : Reply). q.host < s.hosts) out.before (r ∷ out.behind) each).0 in
    subst (λ n. n < s.hosts) out.own one

none_to : (host : ℕ) (r : Reply) (rs : List Reply) → r.host ≡ host → filter (is_to host) (r ∷ rs) ≡ [] → ⊥
none_to host r rs own none = let t : (r.host == host) ≡ true = eq-eqb r.host host own in let e : r ∷ filter (is_to host) rs ≡ [] = rw t at none in cc

none_held : (hosts : ℕ) (rs : List Reply) → All (λ (r : Reply). r.host < hosts) rs → ((host : ℕ) → host < hosts → filter (is_to host) rs ≡ []) → rs ≡ []
none_held hosts [] known none = refl
none_held hosts (r ∷ rs) known none = absurd (none_to r.host r rs refl (none r.host known.0))

pub nothing_held : NothingHeld
nothing_held s c reached none = none_held s.hosts c.half.held (held_hosts s c reached) none

pub next_behind : NextBehind
next_behind s c h host r reached out =
    let after : ChannelState = record c { half = h } in
    let posted : h.posted ≡ c.half.posted ++ r ∷ [] = ap (λ (x : HalfState). x.posted) out.after in
    let list : filter (is_to host) h.posted ≡ posted_to host c ++ r ∷ [] = ap (filter (is_to host)) posted ∙ to_own host c.half.posted r out.own in
    let order = subst (AreInOrder s.geometry c.chip.faults) list (posted_in_order s after (post_kept s c host r h reached out) host) in
    rule_kept s.geometry c.chip.faults (posted_to host c ++ r ∷ []) order (posted_to host c) r [] refl

-- Where no phase is left

pub is_nil : {A : Type 0} (xs : List A) → is_empty xs ≡ true → xs ≡ []
is_nil [] h = refl
is_nil (x ∷ xs) h = cc

pub front_nil : {A : Type 0} (xs ys : List A) → xs ++ ys ≡ [] → xs ≡ []
front_nil [] ys h = refl
front_nil (x ∷ xs) ys h = cc

pub back_nil : {A : Type 0} (xs ys : List A) → xs ++ ys ≡ [] → ys ≡ []
back_nil [] ys h = h
back_nil (x ∷ xs) ys h = cc

pub no_start : (lun : ℕ) (lengths : Lengths) (k n : ℕ) (starts : List ℕ) (more : List Phase) → phases_from lun lengths k n starts ++ more ≡ [] → starts ≡ []
no_start lun lengths k n [] more h = refl
no_start lun lengths k n (t ∷ ts) more h = cc

no_group : (timing : Timing) (rules : _) (groups : List Placed) → All (λ g. length g.starts ≡ 2 * length g.members) groups → All (λ g. IsGroup rules g.members) groups → flat_map (group_phases timing) groups ≡ [] → groups ≡ []
no_group timing rules [] two group none = refl
no_group timing rules (g ∷ groups) two group none =
    let empty = ap length (no_start (lun_of g.members) (group_spans timing g.members) (length g.members) 0 g.starts (flat_map (group_phases timing) groups) none) in
    let both = two.0 in
    let some = group.0.some in
    absurd (omega arith)

no_want : (wants : List Want) → ((id : ℕ) → 0 ≡ number (has_id id) wants) → wants ≡ []
no_want [] none = refl
no_want (w ∷ wants) none = let t : (w.id == w.id) ≡ true = eq-eqb w.id w.id refl in absurd (let h : 0 ≡ 1 + number (has_id w.id) wants = rw t at (none w.id) in omega arith)

none_taken : {A : Type 0} (n : ℕ) (xs : List A) → 1 ≤ n → take n xs ≡ [] → xs ≡ []
none_taken n [] some none = refl
none_taken zero (x ∷ xs) some none = absurd (omega arith)
none_taken (suc n) (x ∷ xs) some none = cc

planned_wants : (s : Setup) (h : HalfState) → IsSound s h → h.books ≡ None → is_empty (phases h.now h.left) ≡ true → h.now.wants ≡ []
planned_wants s h sound by_plan over =
    let none = back_nil (rest_phases h.now.timing 0 h.now.luns h.left.rest) _ (is_nil _ over) in
    let legal = legal_left s h sound by_plan in
    let shape = legal.shape in
    let groups = no_group h.now.timing h.now.rules h.left.groups shape.starts legal.group none in
    no_want h.now.wants (λ id. ap (λ gs. number (has_id id) (flat_map (λ (g : Placed). g.members) gs)) (sym groups) ∙ shape.once id)

pub idle_wants : (s : Setup) (h : HalfState) → IsSound s h → none_left h ≡ true → h.now.wants ≡ []
idle_wants s h sound over = by h.books refl over
  where
    both : (a b : Bool) → (if a then b else false) ≡ true → a ≡ true
    both true b e = refl
    both false b e = cc

    by : (books : Option Books) → h.books ≡ books → none_left_by books h.now h.left ≡ true → h.now.wants ≡ []
    by None none e = planned_wants s h sound none e
    by (Some books) is e = is_nil h.now.wants (both (is_empty h.now.wants) (none_runs h.now.luns) e)

pub idle_is : IdleIs
idle_is s h sound over nothing =
    let wants = idle_wants s h sound over in
    let some = sound.some_batch in
    let room : 1 ≤ h.batch - length h.now.wants = (let l = ap length wants in omega arith) in
    (wants, none_taken (h.batch - length h.now.wants) (unplanned s h) room nothing)
