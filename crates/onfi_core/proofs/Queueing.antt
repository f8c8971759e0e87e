-- What a channel's queues keep from event to event.
use Rattle.std.proofs.Common.{◌≡◌, ◌≢◌, ℕ, zero, suc, ◌+◌, ◌<◌, ◌≤◌, true, List, [], ◌∷◌, ◌++◌, length, Option, Some, None, refl, sym, ap, ◌∙◌, subst, append_assoc, length-append, replicate, arith}
use Rattle.std.specs.Prelude.{slice_get, slice_index_or, slice_set, ◌==◌}
use Rattle.std.proofs.lemmas.Option.{slice_get_read}
use Rattle.std.specs.List.{AllByRecursion as All, filter}
use Rattle.std.specs.VecDeque.{deque_capacity}
use Rattle.std.proofs.lemmas.Bool.{eq-eqb}
use Rattle.std.proofs.lemmas.List.Elements.{filter-append}
use Rattle.onfi_request.specs.Range.{Fits}
use Rattle.onfi_request.specs.declared.reply.Reply.{Reply}
use Rattle.onfi_request.specs.declared.request.Item.{Item}
use Rattle.onfi_request.specs.declared.request.Request.{Request}
use Rattle.onfi_chip.specs.Chip.{Chip, Failures, opened}
use Rattle.onfi_chip.specs.Chip.Lun.{Idle}
use Rattle.onfi_lun.specs.declared.lanes.any_lun.AnyLun.{AnyLun}
use Rattle.onfi_lun.specs.Lanes.{LanesAgree}
use Rattle.onfi_core.specs.declared.event.Event.{Event}
use Rattle.onfi_core.specs.declared.outcome.Outcome.{Outcome}
use Rattle.onfi_core.specs.Steps.{IsAny, Step, bus_refusal, submitted}
use Rattle.onfi_problem.proofs.Places.{length_set}
use Rattle.onfi_core.specs.declared.host_queue.HostQueue.{HostQueue}
use Rattle.onfi_core.specs.declared.setup.Setup.{Setup}
use Rattle.onfi_core.specs.Kept.{IsReached, SerialsFrom, first, first_half}
use Rattle.onfi_core.specs.Queues.{AreQueues, ChannelView, IsEmptyQueue, IsFresh, IsHostQueue, state_in}
use Rattle.onfi_request.specs.declared.fault.Fault.{Fault}
use Rattle.onfi_flight.specs.declared.due.Due.{Due}
use Rattle.onfi_core.specs.Dues.{IsDue}
use Rattle.onfi_core.specs.Reaching.{Reaches}
use Rattle.onfi_core.proofs.Hosted.{from_other, from_own, to_other, to_own}
use Rattle.onfi_core.proofs.Hosts.{own_reply}
use Rattle.onfi_core.proofs.Reaching.{opened_reaches}
use Rattle.onfi_core.specs.State.{ChannelState, is_from, is_to, sent_by, posted_to, collected_by}
use Rattle.onfi_core.specs.View.{HalfView, IsNext}
use Rattle.onfi_core.proofs.Lists.{each_set, get_at_length}

-- a host of which nothing is said
other_queue : (s : Setup) (c c' : ChannelState) (j : ℕ) (q : HostQueue) → sent_by j c' ≡ sent_by j c → posted_to j c' ≡ posted_to j c → collected_by j c' ≡ collected_by j c → IsHostQueue s c j q → IsHostQueue s c' j q
other_queue s c c' j q es ep ec old = record {
  sent = old.sent ∙ ap length (sym es);
  uncollected = ep ∙ old.uncollected ∙ ap (λ rs. rs ++ q.completions.items) (sym ec);
  room = old.room;
}

-- what isn't said of the hosts changes nothing
pub queues_same : (s : Setup) (lent lent' : Option Reply) (room room' : ℕ) (hosts : List HostQueue) (lanes lanes' : List AnyLun) (c c' : ChannelState) → AreQueues s lent room hosts lanes c → Reaches IsAny s c' → (c'.half.stopped ≡ None → LanesAgree c'.chip lanes') → c'.sent ≡ c.sent → c'.half.posted ≡ c.half.posted → c'.collected ≡ c.collected → lent' ≡ None → room' ≡ room → AreQueues s lent' room' hosts lanes' c'
queues_same s lent lent' room room' hosts lanes lanes' c c' q reached lanes_are es ep ec el er = record {
  settled = el;
  reached = reached;
  lanes_are = lanes_are;
  room_is = let a = q.room_is in omega arith;
  count = q.count;
  each = λ j z at. other_queue s c c' j z (ap (filter (is_from j)) es) (ap (filter (is_to j)) ep) (ap (filter (is_to j)) ec) (q.each j z at);
}

-- a host's queue changed
module _ (s : Setup) (lent lent' : Option Reply) (room room' : ℕ) (hosts hosts' : List HostQueue) (lanes : List AnyLun) (c c' : ChannelState) (q : AreQueues s lent room hosts lanes c) (reached : Reaches IsAny s c') (lanes_are : c'.half.stopped ≡ None → LanesAgree c'.chip lanes) (settled : lent' ≡ None) (room_is : room' ≡ room) (host : ℕ) (queue queue' : HostQueue) (at : slice_get hosts host ≡ Some queue) (set : hosts' ≡ slice_set hosts host queue') where
  old : IsHostQueue s c host queue
  old = q.each host queue at

  changed : IsHostQueue s c' host queue' → ((j : ℕ) → j ≢ host → (sent_by j c' ≡ sent_by j c) × (posted_to j c' ≡ posted_to j c) × (collected_by j c' ≡ collected_by j c)) → AreQueues s lent' room' hosts' lanes c'
  changed own others = record {
    settled = settled;
    reached = reached;
    lanes_are = lanes_are;
    room_is = let a = q.room_is in omega arith;
    count = ap length set ∙ length_set hosts host queue' ∙ q.count;
    each = λ j z there. each_set (IsHostQueue s c') hosts host queue queue' at own
        (λ i y d here. let (es, ep, ec) = others i d in other_queue s c c' i y es ep ec (q.each i y here)) j z (ap (λ hs. slice_get hs j) (sym set) ∙ there);
  }

  -- only the queue's place in memory changed
  pub queues_kept : c'.sent ≡ c.sent → c'.half.posted ≡ c.half.posted → c'.collected ≡ c.collected → queue'.sent ≡ queue.sent → queue'.completions.items ≡ queue.completions.items → deque_capacity queue'.completions ≡ deque_capacity queue.completions → AreQueues s lent' room' hosts' lanes c'
  queues_kept es ep ec en ei er = changed
      (record {
        sent = en ∙ old.sent ∙ ap (λ xs. length (filter (is_from host) xs)) (sym es);
        uncollected = ap (filter (is_to host)) ep ∙ old.uncollected ∙ ap (λ rs. collected_by host c ++ rs) (sym ei) ∙ ap (λ rs. filter (is_to host) rs ++ queue'.completions.items) (sym ec);
        room = (let a = old.room in omega arith);
      })
      (λ j d. (ap (filter (is_from j)) es, ap (filter (is_to j)) ep, ap (filter (is_to j)) ec))

  -- an item more was sent
  pub queues_sent : (x : Item) → x.host ≡ host → c'.sent ≡ c.sent ++ x ∷ [] → c'.half.posted ≡ c.half.posted → c'.collected ≡ c.collected → queue'.sent ≡ queue.sent + 1 → queue'.completions ≡ queue.completions → AreQueues s lent' room' hosts' lanes c'
  queues_sent x own es ep ec en eq = changed
      (record {
        sent = (let a = ap (λ xs. length (filter (is_from host) xs)) es ∙ ap length (from_own host c.sent x own) ∙ length-append (sent_by host c) (x ∷ []) in let b = old.sent in omega arith);
        uncollected = ap (filter (is_to host)) ep ∙ old.uncollected ∙ ap (λ rs. filter (is_to host) rs ++ queue.completions.items) (sym ec) ∙ ap (λ d. collected_by host c' ++ d.items) (sym eq);
        room = (let a = old.room in let b = ap deque_capacity eq in omega arith);
      })
      (λ j d. (ap (filter (is_from j)) es ∙ from_other host j c.sent x own d, ap (filter (is_to j)) ep, ap (filter (is_to j)) ec))

  -- a reply more was posted
  pub queues_posted : (r : Reply) → r.host ≡ host → c'.sent ≡ c.sent → c'.half.posted ≡ c.half.posted ++ r ∷ [] → c'.collected ≡ c.collected → queue'.sent ≡ queue.sent → queue'.completions.items ≡ queue.completions.items ++ r ∷ [] → deque_capacity queue'.completions ≡ deque_capacity queue.completions → AreQueues s lent' room' hosts' lanes c'
  queues_posted r own es ep ec en ei er = changed
      (record {
        sent = en ∙ old.sent ∙ ap (λ xs. length (filter (is_from host) xs)) (sym es);
        uncollected = ap (filter (is_to host)) ep ∙ to_own host c.half.posted r own ∙ ap (λ rs. rs ++ r ∷ []) old.uncollected ∙ append_assoc (collected_by host c) queue.completions.items (r ∷ [])
            ∙ ap (λ rs. collected_by host c ++ rs) (sym ei) ∙ ap (λ rs. filter (is_to host) rs ++ queue'.completions.items) (sym ec);
        room = (let a = old.room in omega arith);
      })
      (λ j d. (ap (filter (is_from j)) es, ap (filter (is_to j)) ep ∙ to_other host j c.half.posted r own d, ap (filter (is_to j)) ec))

  -- a reply more was collected
  pub queues_collected : (r : Reply) → r.host ≡ host → c'.sent ≡ c.sent → c'.half.posted ≡ c.half.posted → c'.collected ≡ c.collected ++ r ∷ [] → queue'.sent ≡ queue.sent → queue.completions.items ≡ r ∷ queue'.completions.items → deque_capacity queue'.completions ≡ deque_capacity queue.completions → AreQueues s lent' room' hosts' lanes c'
  queues_collected r own es ep ec en ei er = changed
      (record {
        sent = en ∙ old.sent ∙ ap (λ xs. length (filter (is_from host) xs)) (sym es);
        uncollected = ap (filter (is_to host)) ep ∙ old.uncollected ∙ ap (λ rs. collected_by host c ++ rs) ei ∙ sym (append_assoc (collected_by host c) (r ∷ []) queue'.completions.items)
            ∙ ap (λ rs. rs ++ queue'.completions.items) (sym (ap (filter (is_to host)) ec ∙ to_own host c.collected r own));
        room = (let a = old.room in omega arith);
      })
      (λ j d. (ap (filter (is_from j)) es, ap (filter (is_to j)) ep, ap (filter (is_to j)) ec ∙ to_other host j c.collected r own d))

-- What stands at the front of a queue

serial_at : (n : ℕ) (xs : List Item) (x : Item) (ys : List Item) → SerialsFrom n (xs ++ x ∷ ys) → x.serial ≡ n + length xs
serial_at n [] x ys h = let e = h.0 in omega arith
serial_at n (y ∷ xs) x ys h = let e = serial_at (n + 1) xs x ys h.1 in omega arith

sent_parts : (c : ChannelState) (x : Item) (behind : List Item) → c.sent ≡ c.half.accepted ++ c.waiting → c.waiting ≡ x ∷ behind → filter (is_from x.host) c.sent ≡ filter (is_from x.host) c.half.accepted ++ x ∷ filter (is_from x.host) behind
sent_parts c x behind es ew =
    let t : (x.host == x.host) ≡ true = eq-eqb x.host x.host refl in
    ap (filter (is_from x.host)) (es ∙ ap (λ xs. c.half.accepted ++ xs) ew) ∙ filter-append (is_from x.host) c.half.accepted (x ∷ behind) ∙ (rw t refl)

All-behind : {A : Type 0} (P : A → Type 0) (xs : List A) (x : A) (ys : List A) → All P (xs ++ x ∷ ys) → P x
All-behind P [] x ys h = h.0
All-behind P (y ∷ xs) x ys h = All-behind P xs x ys h.1

-- the front of what waits may be accepted
pub front_is_next : (s : Setup) (c : ChannelState) (x : Item) (behind : List Item) → IsReached s c → c.waiting ≡ x ∷ behind → IsNext s c.half x
front_is_next s c x behind reached ew =
    let parts = sent_parts c x behind reached.sent ew in
    let serial = serial_at 0 (filter (is_from x.host) c.half.accepted) x (filter (is_from x.host) behind) (subst (SerialsFrom 0) parts (reached.serials x.host)) in
    let fit = reached.fit x.host in
    let l = ap length parts ∙ length-append (filter (is_from x.host) c.half.accepted) (x ∷ filter (is_from x.host) behind) in
    record {
      in_range = (let P : List Item → Type 0 = All (λ (y : Item). Fits s.geometry y.request) in (subst P ew reached.in_range).0);
      host = (let P : List Item → Type 0 = All (λ (y : Item). y.host < s.hosts) in All-behind (λ (y : Item). y.host < s.hosts) c.half.accepted x behind (subst P (reached.sent ∙ ap (λ xs. c.half.accepted ++ xs) ew) reached.hosts));
      serial = omega arith;
      fits = omega arith;
    }

-- the front of a completion queue is the next to be collected
pub next_collected : (s : Setup) (c : ChannelState) (host : ℕ) (queue : HostQueue) (r : Reply) (rest : List Reply) → IsHostQueue s c host queue → queue.completions.items ≡ r ∷ rest → slice_get (posted_to host c) (length (collected_by host c)) ≡ Some r
next_collected s c host queue r rest q e = ap (λ rs. slice_get rs (length (collected_by host c))) (q.uncollected ∙ ap (λ rs. collected_by host c ++ rs) e) ∙ get_at_length (collected_by host c) r rest

pub host_collected : (s : Setup) (c : ChannelState) (host : ℕ) (r : Reply) → slice_get (posted_to host c) (length (collected_by host c)) ≡ Some r → r.host ≡ host
host_collected s c host r at = own_reply host c.half.posted (length (collected_by host c)) r at

-- how many replies wait to be collected
pub uncollected_count : (s : Setup) (c : ChannelState) (host : ℕ) (queue : HostQueue) → IsHostQueue s c host queue → length (posted_to host c) ≡ length (collected_by host c) + length queue.completions.items
uncollected_count s c host queue q = ap length q.uncollected ∙ length-append (collected_by host c) queue.completions.items

-- What is read of the fields

pub queue_there : (hosts : List HostQueue) (at host : ℕ) (queue : HostQueue) → at < length hosts → queue ≡ slice_index_or hosts at queue → at ≡ host → slice_get hosts host ≡ Some queue
queue_there hosts at host queue within read e = subst (λ i. slice_get hosts i ≡ Some queue) e (slice_get_read hosts (length hosts) at queue refl within read)

pub same_queue : (hosts : List HostQueue) (i : ℕ) (a b : HostQueue) → slice_get hosts i ≡ Some a → slice_get hosts i ≡ Some b → a ≡ b
same_queue hosts i a b e f = cc

-- what callers see of a channel is what its fields say
module _ {C : Type 0} (state : C → Chip) where
  pub outside : (inside now : ChannelView C) (e : Event) (o : Outcome) (c' : ChannelState) → inside ≡ now → Step inside.0.setup (state_in state inside) e o c' → Step now.0.setup (state_in state now) e o c'
  outside inside now e o c' v h = subst (λ (x : ChannelView C). Step x.0.setup (state_in state x) e o c') v h

  pub outside_same : (inside now : ChannelView C) (e : Event) (o : Outcome) → inside ≡ now → Step inside.0.setup (state_in state inside) e o (state_in state inside) → Step now.0.setup (state_in state now) e o (state_in state now)
  outside_same inside now e o v h = subst (λ (x : ChannelView C). Step x.0.setup (state_in state x) e o (state_in state x)) v h

pub submitted_is : (c : ChannelState) (host serial : ℕ) (r : Request) (sent waiting : List Item) (collected : List Reply) → serial ≡ length (sent_by host c) → sent ≡ c.sent ++ (let x : Item = record { host = host; serial = serial; request = r } in x) ∷ [] → waiting ≡ c.waiting ++ (let x : Item = record { host = host; serial = serial; request = r } in x) ∷ [] → collected ≡ c.collected
    → (let z : ChannelState = record c { sent = sent; waiting = waiting; collected = collected } in z) ≡ submitted c host r
submitted_is c host serial r sent waiting collected en es ew ec = rw (es, ew, ec, en) refl

pub collected_is : (c : ChannelState) (r : Reply) (sent : List Item) (collected : List Reply) → sent ≡ c.sent → collected ≡ c.collected ++ r ∷ [] → (let z : ChannelState = record c { sent = sent; collected = collected } in z) ≡ (let z : ChannelState = record c { collected = c.collected ++ r ∷ [] } in z)
collected_is c r sent collected es ec = rw (es, ec) refl

module _ {C : Type 0} (state : C → Chip) where
  pub due_within : (inside now : ChannelView C) (due : Due) → inside ≡ now → IsDue now.0.half due → IsDue inside.0.half due
  due_within inside now due v h = subst (λ (x : ChannelView C). IsDue x.0.half due) (sym v) h

  pub open_within : (inside now : ChannelView C) → inside ≡ now → bus_refusal now.0.half ≡ None → bus_refusal inside.0.half ≡ None
  open_within inside now v h = subst (λ (x : ChannelView C). bus_refusal x.0.half ≡ None) (sym v) h

empty_at : (room : ℕ) (hosts : List HostQueue) (i : ℕ) (queue : HostQueue) → All (IsEmptyQueue room) hosts → slice_get hosts i ≡ Some queue → IsEmptyQueue room queue
empty_at room [] i queue h e = cc
empty_at room (q ∷ hosts) zero queue h e = let z : q ≡ queue = cc in subst (IsEmptyQueue room) z h.0
empty_at room (q ∷ hosts) (suc i) queue h e = empty_at room hosts i queue h.1 e

-- the queues as they open
pub queues_opened : (s : Setup) (faults : List Fault) (failures : Failures) (room : ℕ) (hosts : List HostQueue) (lanes : List AnyLun) → LanesAgree (opened s.geometry s.timing faults failures) lanes → length hosts ≡ s.hosts → All (IsEmptyQueue s.post_cap) hosts → s.submit_cap ≤ room → AreQueues s None room hosts lanes (first s faults failures)
queues_opened s faults failures room hosts lanes agree count empty room_is = record {
  settled = refl;
  reached = opened_reaches IsAny s (first s faults failures) (faults, failures, refl);
  lanes_are = λ going. agree;
  room_is = room_is;
  count = count;
  each = λ host queue at. (let e = empty_at s.post_cap hosts host queue empty at in record { sent = e.sent; uncollected = sym e.empty; room = e.room_is });
}

pub fields_opened : (s : Setup) (h : HalfView) (chip : Chip) (sent waiting : List Item) (collected : List Reply) (room : ℕ) (hosts : List HostQueue) (lanes : List AnyLun) → h ≡ record { setup = s; state = first_half s; lent = None } → sent ≡ [] → waiting ≡ [] → collected ≡ [] → IsFresh s chip
    → ((other : Chip) → other.luns ≡ replicate s.geometry.lun_count Idle → LanesAgree other lanes)
    → length hosts ≡ s.hosts → All (IsEmptyQueue s.post_cap) hosts → s.submit_cap ≤ room → AreQueues h.setup h.lent room hosts lanes (record { half = h.state; chip = chip; sent = sent; waiting = waiting; collected = collected })
fields_opened s h chip sent waiting collected room hosts lanes eh es ew ec fresh agree count empty room_is =
    let P : Chip → Type 0 = λ x. AreQueues s None room hosts lanes (record { half = first_half s; chip = x; sent = []; waiting = []; collected = [] }) in
    rw (eh, es, ew, ec) (subst P (sym fresh) (queues_opened s chip.faults chip.failures room hosts lanes (agree (opened s.geometry s.timing chip.faults chip.failures) refl) count empty room_is))
