-- Hosts and inboxes stay the other ends of a channel's queues.
use Rattle.std.proofs.Common.{◌≡◌, ℕ, zero, suc, ◌+◌, List, [], ◌∷◌, get_or, Option, Some, None, refl, sym, ap, ◌∙◌, subst, arith}
use Rattle.std.specs.Prelude.{IfNone, IfSome, map, slice_set}
use Rattle.atomic_table.specs.Seated.{TableId}
use Rattle.onfi_queue.specs.declared.opened.Opened.{Opened}
use Rattle.onfi_queue.specs.Ends.{AreHostsOf, HostView, four_hosts}
use Rattle.onfi_reply.specs.declared.opened_for.OpenedFor.{OpenedFor}
use Rattle.onfi_reply.specs.Ends.{InboxView, PosterView, after_collecting, inbox_of}
use Rattle.onfi_request.specs.declared.reply.Reply.{Reply}
use Rattle.onfi_seq.specs.Drained.{AreOtherEnds, HasGrown, HaveGrown, inbox_queues, poster_queues}
use Rattle.onfi_seq.specs.Sequencer.{IsSameChannel, Seen, SequencerFields, poster_ends}

-- As they open

opened_inboxes : (posters : List PosterView) → inbox_queues (map inbox_of posters) ≡ poster_queues posters
opened_inboxes [] = refl
opened_inboxes (p ∷ posters) = ap (λ (queues : List TableId). p.queue ∷ queues) (opened_inboxes posters)

pub opened : (q : SequencerFields) (hosts : List HostView) (inboxes : List InboxView) → hosts ≡ four_hosts q.intake → inboxes ≡ map inbox_of q.posters → AreOtherEnds q hosts inboxes
opened q hosts inboxes four other = record {
  hosts_are = subst (AreHostsOf q.intake.queue 0) (sym four) (refl, refl, (refl, refl, (refl, refl, (refl, refl, tt))));
  inboxes_are = ap inbox_queues other ∙ opened_inboxes q.posters;
}

-- The sequencer makes turns

abbrev queues_of : List (TableId × ℕ × OpenedFor) → List TableId
queues_of ends = map (λ (e : TableId × ℕ × OpenedFor). e.0) ends

ends_queues : (posters : List PosterView) → poster_queues posters ≡ queues_of (map poster_ends posters)
ends_queues [] = refl
ends_queues (p ∷ posters) = ap (λ (queues : List TableId). p.queue ∷ queues) (ends_queues posters)

pub still_ends : (q q' : Seen) (hosts : List HostView) (inboxes : List InboxView) → IsSameChannel q q' → AreOtherEnds q.0 hosts inboxes → AreOtherEnds q'.0 hosts inboxes
still_ends q q' hosts inboxes same ends = record {
  hosts_are = subst (λ (queue : TableId). AreHostsOf queue 0 hosts) (sym (ap (λ (e : TableId × ℕ × Opened). e.0) same.intake)) ends.hosts_are;
  inboxes_are = ends.inboxes_are ∙ ends_queues q.0.posters ∙ sym (ap queues_of same.posters) ∙ sym (ends_queues q'.0.posters);
}

-- A host submits

pub set_host : (queue : TableId) (number : ℕ) (hosts : List HostView) (at : ℕ) (x y : HostView) → AreHostsOf queue number hosts → y.queue ≡ (get_or hosts at x).queue → y.number ≡ (get_or hosts at x).number
    → AreHostsOf queue number (slice_set hosts at y)
set_host queue number [] at x y are same_queue same_number = are
set_host queue number (h ∷ hosts) zero x y (of_queue, is, are) same_queue same_number = (same_queue ∙ of_queue, same_number ∙ is, are)
set_host queue number (h ∷ hosts) (suc at) x y (of_queue, is, are) same_queue same_number = (of_queue, is, set_host queue (number + 1) hosts at x y are same_queue same_number)

pub submitted : (q : SequencerFields) (hosts : List HostView) (inboxes : List InboxView) (at : ℕ) (x y : HostView) → AreOtherEnds q hosts inboxes → (y.queue ≡ (get_or hosts at x).queue) × (y.number ≡ (get_or hosts at x).number)
    → AreOtherEnds q (slice_set hosts at y) inboxes
submitted q hosts inboxes at x y ends same = record { hosts_are = set_host q.intake.queue 0 hosts at x y ends.hosts_are same.0 same.1; inboxes_are = ends.inboxes_are }

-- Inboxes give and take in

set_inbox : (inboxes : List InboxView) (at : ℕ) (i j : InboxView) → j.queue ≡ (get_or inboxes at i).queue → inbox_queues (slice_set inboxes at j) ≡ inbox_queues inboxes
set_inbox [] at i j same = refl
set_inbox (k ∷ inboxes) zero i j same = ap (λ (queue : TableId). queue ∷ inbox_queues inboxes) same
set_inbox (k ∷ inboxes) (suc at) i j same = ap (λ (queues : List TableId). k.queue ∷ queues) (set_inbox inboxes at i j same)

-- the inbox gave a reply, or none
given_queue : (i j : InboxView) (r : Option Reply) → IfSome r (λ x. j ≡ after_collecting i x) → IfNone r (j ≡ i) → j.queue ≡ i.queue
given_queue i j (Some x) given same = ap (λ (z : InboxView). z.queue) given
given_queue i j None given same = ap (λ (z : InboxView). z.queue) same

pub collected : (q : SequencerFields) (hosts : List HostView) (inboxes : List InboxView) (at : ℕ) (i j : InboxView) (r : Option Reply) → AreOtherEnds q hosts inboxes
    → IfSome r (λ x. j ≡ after_collecting (get_or inboxes at i) x) → IfNone r (j ≡ get_or inboxes at i) → AreOtherEnds q hosts (slice_set inboxes at j)
collected q hosts inboxes at i j r ends given same =
    record { hosts_are = ends.hosts_are; inboxes_are = set_inbox inboxes at i j (given_queue (get_or inboxes at i) j r given same) ∙ ends.inboxes_are }

grown_queues : (old new : List InboxView) → HaveGrown old new → inbox_queues new ≡ inbox_queues old
grown_queues [] [] grown = refl
grown_queues [] (j ∷ new) grown = let count = grown.count in absurd (omega arith)
grown_queues (i ∷ old) [] grown = let count = grown.count in absurd (omega arith)
grown_queues (i ∷ old) (j ∷ new) grown =
    let count = grown.count in
    let rest : HaveGrown old new = record { count = omega arith; each = λ at x y there here. grown.each (suc at) x y there here } in
    let first : HasGrown i j = grown.each 0 i j refl refl in
    ap (λ (queue : TableId). queue ∷ inbox_queues new) (ap (λ (z : InboxView). z.queue) first.after) ∙ ap (λ (queues : List TableId). i.queue ∷ queues) (grown_queues old new rest)

pub drained : (q q' : Seen) (hosts : List HostView) (old new : List InboxView) → AreOtherEnds q.0 hosts old → IsSameChannel q q' → HaveGrown old new → AreOtherEnds q'.0 hosts new
drained q q' hosts old new ends same grown =
    let still = still_ends q q' hosts old same ends in
    record { hosts_are = still.hosts_are; inboxes_are = grown_queues old new grown ∙ still.inboxes_are }
