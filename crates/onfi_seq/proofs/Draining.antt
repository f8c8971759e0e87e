-- What draining keeps from turn to turn.
use Rattle.std.proofs.Common.{◌≡◌, ℕ, zero, suc, ◌+◌, ◌<◌, ◌≤◌, inl, inr, Bool, true, false, List, [], ◌∷◌, ◌++◌, length, Some, Result, Ok, Err, OnErr, refl, sym, ap, ◌∙◌, subst, append_assoc, append-nil, arith}
use Rattle.std.specs.Prelude.{slice_get, slice_set}
use Rattle.onfi_request.specs.declared.reply.Reply.{Reply}
use Rattle.onfi_problem.proofs.Places.{get_within, length_set, same_some, within_get}
use Rattle.onfi_queue.specs.Ends.{HostView}
use Rattle.onfi_reply.specs.declared.opened_for.OpenedFor.{OpenedFor}
use Rattle.onfi_reply.specs.Ends.{InboxView, TookIn, after_refusing}
use Rattle.onfi_seq.specs.declared.drained.DrainedAt.{DrainedAt}
use Rattle.onfi_seq.specs.declared.drained.DrainedAt.TheVariants as drained
use Rattle.onfi_seq.specs.declared.turn.TurnAt.{TurnAt}
use Rattle.onfi_core.specs.State.{Planning}
use Rattle.onfi_seq.specs.Drained.{AreAccepted, AreNextBehind, Drains, EndsAs, EndsBefore, EndsBehind, GoesOn, HasGrown, HaveGrown, MakesBy, TurnPlans, ends_it, left_by, refusals_of}
use Rattle.onfi_seq.proofs.Same.{same_channel_all, short_by_memory}
use Rattle.onfi_seq.specs.Sequencer.{AreCounts, IsRight, IsSameChannel, Seen, SequencerFields}
use Rattle.onfi_seq.specs.Turned.{Turned}
use Rattle.onfi_core.proofs.Lists.{each_set}

-- What one inbox takes in

next_all : (opened : OpenedFor) (before xs ys : List Reply) → AreNextBehind opened before xs → AreNextBehind opened (before ++ xs) ys → AreNextBehind opened before (xs ++ ys)
next_all opened before [] ys all behind = subst (λ (rs : List Reply). AreNextBehind opened rs ys) (append-nil before) behind
next_all opened before (x ∷ xs) ys (here, all) behind =
    (here, next_all opened (before ++ x ∷ []) xs ys all (subst (λ (rs : List Reply). AreNextBehind opened rs ys) (sym (append_assoc before (x ∷ []) xs)) behind))

pub grown_none : (i : InboxView) → HasGrown i i
grown_none i = record {
  more = [];
  after = ap (λ (rs : List Reply). let z : InboxView = record i { waiting = rs } in z) (sym (append-nil i.waiting));
  next = tt;
  refused = omega arith;
}

grown_behind : (i : InboxView) (xs ys : List Reply) (refused : ℕ) → AreNextBehind i.opened (i.given ++ i.waiting) xs → AreNextBehind i.opened (i.given ++ (i.waiting ++ xs)) ys
    → i.refused ≤ refused → HasGrown i (record i { waiting = (i.waiting ++ xs) ++ ys; refused = refused })
grown_behind i xs ys refused all behind more = record {
  more = xs ++ ys;
  after = ap (λ (rs : List Reply). let z : InboxView = record i { waiting = rs; refused = refused } in z) (append_assoc i.waiting xs ys);
  next = next_all i.opened (i.given ++ i.waiting) xs ys all (subst (λ (rs : List Reply). AreNextBehind i.opened rs ys) (sym (append_assoc i.given i.waiting xs)) behind);
  refused = more;
}

pub grown_all : (i j k : InboxView) → HasGrown i j → HasGrown j k → HasGrown i k
grown_all i j k a b =
    let Next : InboxView → Type 0 = λ (x : InboxView). AreNextBehind x.opened (x.given ++ x.waiting) b.more in
    let P : InboxView → Type 0 = λ (x : InboxView). Next x → HasGrown i (record x { waiting = x.waiting ++ b.more; refused = k.refused }) in
    let refused : i.refused ≤ k.refused = (let m = a.refused in let n = b.refused in omega (arith, m, n)) in
    subst (HasGrown i) (sym b.after) (subst P (sym a.after) (λ behind. grown_behind i a.more b.more k.refused a.next behind refused) b.next)

-- a taking in that isn't refused counts no refusal
pub took_refused : (moved : Bool) (i j : InboxView) → TookIn moved i j → j.refused ≡ i.refused
took_refused true i j (x, after, next) = ap (λ (v : InboxView). v.refused) after
took_refused false i j (same, empty) = ap (λ (v : InboxView). v.refused) same

took_grown : (moved : Bool) (i j : InboxView) → TookIn moved i j → HasGrown i j
took_grown true i j (x, after, next) =
    let same = took_refused true i j (x, after, next) in
    record {
      more = x ∷ [];
      after = after ∙ ap (λ (n : ℕ). let z : InboxView = record i { waiting = i.waiting ++ x ∷ []; refused = n } in z) (sym same);
      next = (next, tt);
      refused = omega (arith, same);
    }
took_grown false i j (same, empty) = subst (HasGrown i) (sym same) (grown_none i)

pub grown_taken : (moved : Bool) (i j k : InboxView) → HasGrown i j → TookIn moved j k → HasGrown i k
grown_taken moved i j k grown took = grown_all i j k grown (took_grown moved j k took)

-- a taking in was refused
pub grown_refused : (i j k : InboxView) → HasGrown i j → k ≡ after_refusing j → HasGrown i k
grown_refused i j k grown is =
    let counted : k.refused ≡ j.refused + 1 = ap (λ (v : InboxView). v.refused) is in
    let waiting = ap (λ (rs : List Reply). let z : InboxView = record j { waiting = rs; refused = j.refused + 1 } in z) (sym (append-nil j.waiting)) in
    let refused = ap (λ (n : ℕ). let z : InboxView = record j { waiting = j.waiting ++ []; refused = n } in z) (sym counted) in
    grown_all i j k grown (record { more = []; after = is ∙ waiting ∙ refused; next = tt; refused = omega (arith, counted) })

-- What all take in

pub all_grown_none : (xs : List InboxView) → HaveGrown xs xs
all_grown_none xs = record {
  count = refl;
  each = λ at i i' there here. subst (HasGrown i) (same_some i i' (slice_get xs at) there here) (grown_none i);
}

pub all_grown_all : (xs ys zs : List InboxView) → HaveGrown xs ys → HaveGrown ys zs → HaveGrown xs zs
all_grown_all xs ys zs a b = record {
  count = b.count ∙ a.count;
  each = λ at i k there here. (
      let low = within_get xs at i there in
      let count = a.count in
      let mid = get_within ys at (omega arith) in
      grown_all i mid.0 k (a.each at i mid.0 there mid.1) (b.each at mid.0 k mid.1 here));
}

one_grown : (xs : List InboxView) (at : ℕ) (i j : InboxView) → slice_get xs at ≡ Some i → HasGrown i j → HaveGrown xs (slice_set xs at j)
one_grown xs at i j there grown = record {
  count = length_set xs at j;
  each = λ k x y was is. each_set (λ n z. (w : InboxView) → slice_get xs n ≡ Some w → HasGrown w z) xs at i j there
      (λ w here. subst (λ (z : InboxView). HasGrown z j) (same_some i w (slice_get xs at) there here) grown)
      (λ n z d old w here. subst (HasGrown w) (same_some w z (slice_get xs n) here old) (grown_none w)) k y is x was;
}

pub all_grown_one : (xs ys : List InboxView) (at : ℕ) (i j : InboxView) → HaveGrown xs ys → slice_get ys at ≡ Some i → HasGrown i j → HaveGrown xs (slice_set ys at j)
all_grown_one xs ys at i j grown there one = all_grown_all xs ys (slice_set ys at j) grown (one_grown ys at i j there one)

-- How often all were refused

refusals_set : (xs : List InboxView) (at : ℕ) (i j : InboxView) → slice_get xs at ≡ Some i → refusals_of (slice_set xs at j) + i.refused ≡ refusals_of xs + j.refused
refusals_set [] at i j there = cc
refusals_set (x ∷ xs) zero i j there =
    let e : x ≡ i = cc in
    let same : x.refused ≡ i.refused = ap (λ (v : InboxView). v.refused) e in
    omega (arith, same)
refusals_set (x ∷ xs) (suc at) i j there =
    let rest : refusals_of (slice_set xs at j) + i.refused ≡ refusals_of xs + j.refused = refusals_set xs at i j there in
    omega (arith, rest)

pub on_err : {A E P : Type 0} (r : Result A E) → P → OnErr r P
on_err (Ok x) p = tt
on_err (Err e) p = p

-- .. where one was refused as often as that more
pub refusals_more : (xs ys : List InboxView) (at : ℕ) (i j : InboxView) (n : ℕ) → slice_get ys at ≡ Some i → refusals_of ys ≡ refusals_of xs → j.refused ≡ i.refused + n
    → refusals_of (slice_set ys at j) ≡ refusals_of xs + n
refusals_more xs ys at i j n there same counted = let set = refusals_set ys at i j there in omega (arith, set, same, counted)

-- The channel from turn to turn

same_channel_none : (q : Seen) → IsSameChannel q q
same_channel_none q = record { setup = refl; faults = refl; intake = refl; posters = refl }

-- that many turns were made, on the same channel, and the inboxes took in
pub record Draining (Such : Planning → Type 0) (now : ℕ) (q : Seen) (inboxes : List InboxView) (made : ℕ) (q' : Seen) (inboxes' : List InboxView) : Type 0 where
  pub answers : List TurnAt
  pub ran : MakesBy Such (Turned now) q answers q'
  pub count : length answers ≡ made
  pub on : GoesOn answers q'.0.half
  pub same : IsSameChannel q q'
  pub short : q.0.short ≡ true → q'.0.short ≡ true
  pub grown : HaveGrown inboxes inboxes'
  pub taken : refusals_of inboxes' ≡ refusals_of inboxes

pub draining_first : (Such : Planning → Type 0) (now : ℕ) (q : Seen) (inboxes : List InboxView) → Draining Such now q inboxes 0 q inboxes
draining_first Such now q inboxes = record {
  answers = [];
  ran = refl;
  count = refl;
  on = tt;
  same = same_channel_none q;
  short = λ short. short;
  grown = all_grown_none inboxes;
  taken = refl;
}

marked : (q : Seen) → q.0.short ≡ true → q ≡ left_by drained.Memory q
marked q short = ap (λ (b : Bool). let z : Seen = (record q.0 { short = b }, q.1) in z) short

module _ (Such : Planning → Type 0) (now : ℕ) (q : Seen) (inboxes : List InboxView) (made : ℕ) (q' : Seen) (inboxes' : List InboxView) (so_far : Draining Such now q inboxes made q' inboxes') where
  pub draining_taken : (inboxes'' : List InboxView) → HaveGrown inboxes' inboxes'' → refusals_of inboxes'' ≡ refusals_of inboxes' → Draining Such now q inboxes made q' inboxes''
  draining_taken inboxes'' more none = record {
    answers = so_far.answers;
    ran = so_far.ran;
    count = so_far.count;
    on = so_far.on;
    same = so_far.same;
    short = so_far.short;
    grown = all_grown_all inboxes inboxes' inboxes'' so_far.grown more;
    taken = none ∙ so_far.taken;
  }

  pub draining_turned : (answer : TurnAt) (q'' : Seen) → Turned now q' answer q'' → TurnPlans Such answer q'' → IsSameChannel q' q'' → (q'.0.short ≡ true → q''.0.short ≡ true) → ends_it answer q''.0.half ≡ false
      → Draining Such now q inboxes (made + 1) q'' inboxes'
  draining_turned answer q'' turned such same still on =
      let count = so_far.count in
      record {
        answers = answer ∷ so_far.answers;
        ran = (q', so_far.ran, so_far.on, turned, such);
        count = omega arith;
        on = on;
        same = same_channel_all q q' q'' so_far.same same;
        short = λ short. still (so_far.short short);
        grown = so_far.grown;
        taken = so_far.taken;
      }

  -- that many takings in were refused after it
  counted : (inboxes'' : List InboxView) (n : ℕ) → refusals_of inboxes'' ≡ refusals_of inboxes' + n → refusals_of inboxes'' ≡ refusals_of inboxes + n
  counted inboxes'' n more = let taken = so_far.taken in omega (arith, taken, more)

  -- ended so before a turn
  drains_so : (hosts : List HostView) (turns : ℕ) (end : DrainedAt) → made ≤ turns → EndsAs end q'.0.half hosts turns so_far.answers 0 → q' ≡ left_by end q'
      → Drains Such now q hosts inboxes turns end q' inboxes'
  drains_so hosts turns end few ends after =
      let count = so_far.count in
      let taken = so_far.taken in
      record { answers = so_far.answers; last = q'; ran = so_far.ran; few = omega (arith, count, few); refused = 0; counted = omega (arith, taken); ends = ends; after = after }

  pub drains_here : (hosts : List HostView) (turns : ℕ) (end : DrainedAt) → made ≤ turns → EndsBefore end q'.0.half hosts turns made → Drains Such now q hosts inboxes turns end q' inboxes'
  drains_here hosts turns drained.Empty few ends = drains_so hosts turns drained.Empty few (so_far.on, ends, refl) refl
  drains_here hosts turns drained.TurnsSpent few ends = drains_so hosts turns drained.TurnsSpent few (so_far.on, so_far.count ∙ ends.0, ends.1, refl) refl
  drains_here hosts turns _ few ends = absurd ends

  -- ended since a taking in was refused
  pub drains_refused : (hosts : List HostView) (turns : ℕ) (q'' : Seen) (inboxes'' : List InboxView) → made ≤ turns → refusals_of inboxes'' ≡ refusals_of inboxes' + 1 → q'' ≡ left_by drained.Memory q'
      → Drains Such now q hosts inboxes turns drained.Memory q'' inboxes''
  drains_refused hosts turns q'' inboxes'' few more after =
      let count = so_far.count in
      record {
        answers = so_far.answers;
        last = q';
        ran = so_far.ran;
        few = omega (arith, count, few);
        refused = 1;
        counted = counted inboxes'' 1 more;
        ends = inr (so_far.on, refl);
        after = after;
      }

  -- ended so after a turn
  drains_then : (hosts : List HostView) (turns : ℕ) (answer : TurnAt) (q'' : Seen) (end : DrainedAt) → made < turns → Turned now q' answer q'' → TurnPlans Such answer q''
      → EndsAs end q''.0.half hosts turns (answer ∷ so_far.answers) 0 → q'' ≡ left_by end q'' → Drains Such now q hosts inboxes turns end q'' inboxes'
  drains_then hosts turns answer q'' end few turned such ends after =
      let count = so_far.count in
      let taken = so_far.taken in
      record {
        answers = answer ∷ so_far.answers;
        last = q'';
        ran = (q', so_far.ran, so_far.on, turned, such);
        few = omega (arith, count, few);
        refused = 0;
        counted = omega (arith, taken);
        ends = ends;
        after = after;
      }

  pub drains_behind : (hosts : List HostView) (turns : ℕ) (answer : TurnAt) (q'' : Seen) (end : DrainedAt) → made < turns → Turned now q' answer q'' → TurnPlans Such answer q'' → EndsBehind end answer q''.0.half
      → Drains Such now q hosts inboxes turns end q'' inboxes'
  drains_behind hosts turns answer q'' (drained.Stopped cause) few turned such ends = drains_then hosts turns answer q'' (drained.Stopped cause) few turned such (ends, refl) refl
  drains_behind hosts turns answer q'' (drained.Waits until) few turned such ends = drains_then hosts turns answer q'' (drained.Waits until) few turned such (ends, refl) refl
  drains_behind hosts turns answer q'' (drained.Over opened) few turned such ends =
      drains_then hosts turns answer q'' (drained.Over opened) few turned such (ends.0, ends.1, refl) refl
  drains_behind hosts turns answer q'' drained.Memory few turned such ends =
      let short = short_by_memory now q' q'' (subst (λ (x : TurnAt). Turned now q' x q'') ends.0 turned) in
      drains_then hosts turns answer q'' drained.Memory few turned such (inl (ends.0, ends.1, refl)) (marked q'' short)
  drains_behind hosts turns answer q'' _ few turned such ends = absurd ends

-- the mark of refused memory changes neither what always holds nor the channel
pub right_marked : (Such : Planning → Type 0) (q q' : Seen) → q' ≡ left_by drained.Memory q → IsRight Such q → IsRight Such q'
right_marked Such q q' is right =
    let here : IsRight Such (left_by drained.Memory q) = record { accepted = right.accepted; posters = right.posters; posted = right.posted; rightful = right.rightful; made = right.made; reached = right.reached } in
    subst (IsRight Such) (sym is) here

pub same_marked : (q q' : Seen) → q' ≡ left_by drained.Memory q → IsSameChannel q q'
same_marked q q' is = subst (IsSameChannel q) (sym is) (record { setup = refl; faults = refl; intake = refl; posters = refl })

-- What the hosts sent, and what is accepted

-- of the hosts below that number
abbrev pub AcceptedBelow : ℕ → List ℕ → List HostView → Type 0
AcceptedBelow low counts hosts = (host : ℕ) → host < low → (x : HostView) → slice_get hosts host ≡ Some x → slice_get counts host ≡ Some (length x.sent)

pub all_accepted : (q : SequencerFields) (counts : List ℕ) (hosts : List HostView) (low : ℕ) → AreCounts q counts → length hosts ≡ 4 → 4 ≤ low → AcceptedBelow low counts hosts → AreAccepted q.half hosts
all_accepted q counts hosts low are four all below host x there = let within = within_get hosts host x there in are.each host (length x.sent) (below host (omega arith) x there)
