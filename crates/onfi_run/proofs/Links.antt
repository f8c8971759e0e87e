-- Ports that are the ends of channels.
use Rattle.std.proofs.Common.{◌≡◌, ◌≤◌, ℕ, List, [], ◌∷◌, ◌++◌, length, map, refl, sym, ap, ◌∙◌, subst, arith, Some}
use Rattle.std.specs.Prelude.{Option, slice_get}
use Rattle.std.specs.List.{AllByRecursion as Each}
use Rattle.std.proofs.lemmas.List.{length-map, map-append}
use Rattle.std.proofs.lemmas.Simd.{map-map}
use Rattle.atomic_table.specs.Seated.{TableId}
use Rattle.onfi_queue.specs.Ends.{AreHostsOf, HostView, IntakeView, four_hosts}
use Rattle.onfi_reply.specs.Ends.{InboxView, PosterView, inbox_of}
use Rattle.onfi_seq.specs.Drained.{poster_queues}
use Rattle.onfi_run.specs.declared.gated.Gated.{Gated}
use Rattle.onfi_run.specs.declared.lane.Lane.{Lane}
use Rattle.onfi_run.specs.declared.port.Port.{Port}
use Rattle.onfi_run.specs.declared.station.Station.{Station}
use Rattle.onfi_run.specs.ByHost.{host_numbers, with_each}
use Rattle.onfi_run.specs.Keys.{ChannelQueues, PortEnds, port_ends, end_of, AreEnds, AreEndsOf, AreLinked, ends_on, ports_of, queues_of}
use Rattle.onfi_run.specs.Opening.{lane_queues, nodes_in}
use Rattle.onfi_run.proofs.ByHost.{head_of, tail_of, told_before, told_with}

-- ---- one channel
-- each of two lists of four
pub four_same : {A : Type 0} (a b c d a' b' c' d' : A) → a ∷ b ∷ c ∷ d ∷ [] ≡ a' ∷ b' ∷ c' ∷ d' ∷ [] → (a ≡ a') × (b ≡ b') × (c ≡ c') × (d ≡ d')
four_same a b c d a' b' c' d' e = (cc, cc, cc, cc)

four_alike : {A : Type 0} (a b c d a' b' c' d' : A) → a ≡ a' → b ≡ b' → c ≡ c' → d ≡ d' → a ∷ b ∷ c ∷ d ∷ [] ≡ a' ∷ b' ∷ c' ∷ d' ∷ []
four_alike a b c d a' b' c' d' e0 e1 e2 e3 = cc

-- a list of four is given by its elements
four : (is : List TableId) (a b c d : TableId) → 4 ≡ length is → Some a ≡ slice_get is 0 → Some b ≡ slice_get is 1 → Some c ≡ slice_get is 2
    → Some d ≡ slice_get is 3
    → a ∷ b ∷ c ∷ d ∷ [] ≡ is
four [] a b c d n e0 e1 e2 e3 = absurd (omega (arith, n))
four (w ∷ []) a b c d n e0 e1 e2 e3 = absurd (omega (arith, n))
four (w ∷ x ∷ []) a b c d n e0 e1 e2 e3 = absurd (omega (arith, n))
four (w ∷ x ∷ y ∷ []) a b c d n e0 e1 e2 e3 = absurd (omega (arith, n))
four (w ∷ x ∷ y ∷ z ∷ []) a b c d n e0 e1 e2 e3 = cc
four (w ∷ x ∷ y ∷ z ∷ v ∷ is) a b c d n e0 e1 e2 e3 = absurd (omega (arith, n))

-- the ports hold the other ends of the channel's queues
ends_by_port : (q : ChannelQueues) (ports : List Port) → length ports ≡ 4 → AreEndsOf q ports
    → AreEnds q (map (λ (p : Port). p.host) ports) (map (λ (p : Port). p.inbox) ports)
ends_by_port q [] n ends = absurd (omega (arith, n))
ends_by_port q (a ∷ []) n ends = absurd (omega (arith, n))
ends_by_port q (a ∷ b ∷ []) n ends = absurd (omega (arith, n))
ends_by_port q (a ∷ b ∷ c ∷ []) n ends = absurd (omega (arith, n))
ends_by_port q (a ∷ b ∷ c ∷ d ∷ []) n ends =
    let e = four_same (port_ends a) (port_ends b) (port_ends c) (port_ends d) (end_of 0 q) (end_of 1 q) (end_of 2 q) (end_of 3 q) ends in (
      (
        ap (λ k. k.queue) e.0,
        ap (λ k. k.number) e.0,
        (ap (λ k. k.queue) e.1, ap (λ k. k.number) e.1, (ap (λ k. k.queue) e.2, ap (λ k. k.number) e.2, (ap (λ k. k.queue) e.3, ap (λ k. k.number) e.3, tt))),
      ),
      four q.replies a.inbox.queue b.inbox.queue c.inbox.queue d.inbox.queue (ap (λ k. k.hosts) e.0) (ap (λ k. k.inbox) e.0) (ap (λ k. k.inbox) e.1)
          (ap (λ k. k.inbox) e.2) (ap (λ k. k.inbox) e.3),
    )
ends_by_port q (a ∷ b ∷ c ∷ d ∷ x ∷ ports) n ends = absurd (omega (arith, n))

pub ends_are : (q : ChannelQueues) (ports : List Port) (hosts : List HostView) (inboxes : List InboxView) → hosts ≡ map (λ (p : Port). p.host) ports
    → inboxes ≡ map (λ (p : Port). p.inbox) ports → length ports ≡ 4 → AreEndsOf q ports → AreEnds q hosts inboxes
ends_are q ports hosts inboxes hosts_are inboxes_are four ends = rw (hosts_are, inboxes_are) (ends_by_port q ports four ends)

-- what a port's ends say, by its host and number
ends_at : (p : Port) (requests : TableId) (host : ℕ) → p.host.queue ≡ requests → p.host.number ≡ host
    → port_ends p ≡ (let k : PortEnds = record { queue = requests; number = host; inbox = Some p.inbox.queue; hosts = 4 } in k)
ends_at p requests host queue number =
    ap (λ id. let k : PortEnds = record { queue = id; number = p.host.number; inbox = Some p.inbox.queue; hosts = 4 } in k) queue
    ∙ ap (λ n. let k : PortEnds = record { queue = requests; number = n; inbox = Some p.inbox.queue; hosts = 4 } in k) number

-- .. and the other way round
ends_of_hosts : (requests : TableId) (replies : List TableId) (nodes : Option ℕ) (ports : List Port) → length ports ≡ 4 → AreHostsOf requests 0 (map (λ (p : Port). p.host) ports)
    → map (λ (p : Port). p.inbox.queue) ports ≡ replies → AreEndsOf (record { requests = requests; replies = replies; nodes = nodes }) ports
ends_of_hosts requests replies nodes [] n hosts queues = absurd (omega (arith, n))
ends_of_hosts requests replies nodes (a ∷ []) n hosts queues = absurd (omega (arith, n))
ends_of_hosts requests replies nodes (a ∷ b ∷ []) n hosts queues = absurd (omega (arith, n))
ends_of_hosts requests replies nodes (a ∷ b ∷ c ∷ []) n hosts queues = absurd (omega (arith, n))
ends_of_hosts requests replies nodes (a ∷ b ∷ c ∷ d ∷ []) n (qa, na, (qb, nb, (qc, nc, (qd, nd, t)))) queues =
    let here : AreEndsOf (record { requests = requests; replies = a.inbox.queue ∷ b.inbox.queue ∷ c.inbox.queue ∷ d.inbox.queue ∷ []; nodes = nodes }) (a ∷ b ∷ c ∷ d ∷ []) =
    four_alike (port_ends a) (port_ends b) (port_ends c) (port_ends d) _ _ _ _ (ends_at a requests 0 qa na) (ends_at b requests 1 qb nb)
    (ends_at c requests 2 qc nc) (ends_at d requests 3 qd nd)
    in subst (λ ids. AreEndsOf (record { requests = requests; replies = ids; nodes = nodes }) (a ∷ b ∷ c ∷ d ∷ [])) queues here
ends_of_hosts requests replies nodes (a ∷ b ∷ c ∷ d ∷ x ∷ ports) n hosts queues = absurd (omega (arith, n))

-- what opens together with an intake and its posters
pub opened_ends : {P G : Type 0} (lane : Lane (Gated P G)) (t : IntakeView) (posters : List PosterView) (ports : List Port) → length ports ≡ 4
    → lane.channel.sequencer.0.intake ≡ t
    → lane.channel.sequencer.0.posters ≡ posters → map (λ (p : Port). p.host) ports ≡ four_hosts t → map (λ (p : Port). p.inbox) ports ≡ map inbox_of posters
    → AreEndsOf (lane_queues lane) ports
opened_ends lane t posters ports n intake posters_are hosts inboxes =
    let hosts_are = subst (AreHostsOf t.queue 0) (sym hosts) (refl, refl, (refl, refl, (refl, refl, (refl, refl, tt)))) in
    let requests : t.queue ≡ lane.channel.sequencer.0.intake.queue = ap (λ (x : IntakeView). x.queue) (sym intake) in
    let queues : map (λ (p : Port). p.inbox.queue) ports ≡ poster_queues lane.channel.sequencer.0.posters =
    sym (map-map (λ (i : InboxView). i.queue) (λ (p : Port). p.inbox) ports) ∙ ap queues_of inboxes ∙ map-map (λ (i : InboxView). i.queue) inbox_of posters
    ∙ ap poster_queues (sym posters_are)
    in ends_of_hosts lane.channel.sequencer.0.intake.queue (poster_queues lane.channel.sequencer.0.posters) (nodes_in lane.channel.sequencer.0.setup) ports n
    (subst (λ id. AreHostsOf id 0 (map (λ (p : Port). p.host) ports)) requests hosts_are) queues

-- the same ends after a drain
pub still_ends : (q r : ChannelQueues) (hosts : List HostView) (old new : List InboxView) → AreEnds q hosts old → r ≡ q → queues_of new ≡ queues_of old
    → AreEnds r hosts new
still_ends q r hosts old new ends same queues = rw same (ends.0, queues ∙ ends.1)

-- ---- all channels, which are seen by `f`
one_longer : {X : Type 0} (f : X → ChannelQueues) (all xs : List X) (x : X) → all ≡ xs ++ x ∷ []
    → (host : ℕ) → ends_on (map f xs) host ++ end_of host (f x) ∷ [] ≡ ends_on (map f all) host
one_longer f all xs x is host =
    sym (map-append (end_of host) (map f xs) (f x ∷ [])) ∙ ap (map (end_of host)) (sym (map-append f xs (x ∷ [])) ∙ ap (map f) (sym is))

-- one channel more
pub linked_more : {X : Type 0} (f : X → ChannelQueues) (all xs : List X) (x : X) (behind before : List Station) (ports : List Port) → all ≡ xs ++ x ∷ []
    → ports_of behind ≡ with_each (ports_of before) ports → AreLinked (map f xs) before → AreEndsOf (f x) ports → AreLinked (map f all) behind
linked_more f all xs x behind before ports is more linked ends =
    let longer = one_longer f all xs x is in
    ap (map (map port_ends)) more
    ∙ told_with port_ends (ends_on (map f xs)) (λ host. end_of host (f x)) (ends_on (map f all)) host_numbers (ports_of before) ports longer linked ends

-- one channel less
pub linked_less : {X : Type 0} (f : X → ChannelQueues) (all xs : List X) (x : X) (before rest : List Station) (ports : List Port) → all ≡ xs ++ x ∷ []
    → ports_of before ≡ with_each (ports_of rest) ports → length (ports_of rest) ≡ 4 → length ports ≡ 4
    → AreLinked (map f all) before → AreLinked (map f xs) rest × AreEndsOf (f x) ports
linked_less f all xs x before rest ports is taken n m linked =
    let longer = one_longer f all xs x is in
    told_before port_ends (ends_on (map f xs)) (λ host. end_of host (f x)) (ends_on (map f all)) host_numbers (ports_of rest) ports longer n m
    (ap (map (map port_ends)) (sym taken) ∙ linked)

-- where there is a channel each host has a port
pub ports_there : (stations : List Station) (qs : List ChannelQueues) (hosts : List ℕ) → 1 ≤ length qs
    → map (map port_ends) (ports_of stations) ≡ map (ends_on qs) hosts → Each (λ (s : Station). 1 ≤ length s.ports.items) stations
ports_there [] qs hosts some linked = tt
ports_there (s ∷ stations) qs [] some linked = absurd (cc)
ports_there (s ∷ stations) qs (host ∷ hosts) some linked =
    let others = map (map port_ends) (ports_of stations) in
    let here = ap length (head_of (map port_ends s.ports.items) (ends_on qs host) others (map (ends_on qs) hosts) linked) in
    let rest = tail_of (map port_ends s.ports.items) (ends_on qs host) others (map (ends_on qs) hosts) linked in
    (omega (arith, here, length-map s.ports.items port_ends, length-map qs (end_of host), some), ports_there stations qs hosts some rest)
