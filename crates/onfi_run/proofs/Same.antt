-- A sequencer keeps the queues that its ends are of.
use Rattle.std.proofs.Common.{◌≡◌, ℕ, suc, List, [], ◌∷◌, length, map, refl, sym, ap, ◌∙◌, Some, arith}
use Rattle.std.specs.Prelude.{slice_get}
use Rattle.onfi_reply.specs.Ends.{InboxView, PosterView}
use Rattle.onfi_seq.specs.Drained.{HasGrown, poster_queues}
use Rattle.onfi_seq.specs.Sequencer.{IsSameChannel, Seen, poster_ends}
use Rattle.onfi_run.specs.Keys.{ChannelQueues, queues_of}
use Rattle.onfi_run.specs.Opening.{nodes_in}

queues_by_ends : (posters : List PosterView) → poster_queues posters ≡ map (λ e. e.0) (map poster_ends posters)
queues_by_ends [] = refl
queues_by_ends (p ∷ posters) = ap (λ ids. p.queue ∷ ids) (queues_by_ends posters)

abbrev pub queues_seen : Seen → ChannelQueues
queues_seen q = record { requests = q.0.intake.queue; replies = poster_queues q.0.posters; nodes = nodes_in q.0.setup }

pub same_queues : (q q' : Seen) → IsSameChannel q q' → queues_seen q' ≡ queues_seen q
same_queues q q' same =
    let posters : poster_queues q'.0.posters ≡ poster_queues q.0.posters = queues_by_ends q'.0.posters ∙ ap (map (λ e. e.0)) same.posters ∙ sym (queues_by_ends q.0.posters) in
    let intake : q'.0.intake.queue ≡ q.0.intake.queue = ap (λ e. e.0) same.intake in
    let nodes : nodes_in q'.0.setup ≡ nodes_in q.0.setup = ap nodes_in same.setup in
    ap (λ ids. let k : ChannelQueues = record { requests = q'.0.intake.queue; replies = ids; nodes = nodes_in q'.0.setup } in k) posters
    ∙ ap (λ id. let k : ChannelQueues = record { requests = id; replies = poster_queues q.0.posters; nodes = nodes_in q'.0.setup } in k) intake
    ∙ ap (λ n. let k : ChannelQueues = record { requests = q.0.intake.queue; replies = poster_queues q.0.posters; nodes = n } in k) nodes

grown_queue : (i j : InboxView) → HasGrown i j → j.queue ≡ i.queue
grown_queue i j grown = ap (λ (x : InboxView). x.queue) grown.after

-- inboxes that grew are of the same queues
pub grown_queues : (old new : List InboxView) → length new ≡ length old → ((at : ℕ) (i j : InboxView) → slice_get old at ≡ Some i → slice_get new at ≡ Some j → HasGrown i j) → queues_of new ≡ queues_of old
grown_queues [] [] count each = refl
grown_queues [] (j ∷ new) count each = absurd (omega (arith, count))
grown_queues (i ∷ old) [] count each = absurd (omega (arith, count))
grown_queues (i ∷ old) (j ∷ new) count each =
    let rest = grown_queues old new (omega (arith, count)) (λ at x y there here. each (suc at) x y there here) in
    let first = grown_queue i j (each 0 i j refl refl) in
    ap (λ ids. j.queue ∷ ids) rest ∙ ap (λ id. id ∷ queues_of old) first
