-- Items by their four hosts: where as many are accepted as were sent, none waits.
use Rattle.std.proofs.Common.{◌≡◌, ℕ, ◌+◌, ◌<◌, ◌≤◌, inl, inr, Bool, true, false, List, [], ◌∷◌, ◌++◌, length, Some, refl, sym, ap, ◌∙◌, subst, append-nil, length-append, arith}
use Rattle.std.specs.Prelude.{cond, map, slice_get, slice_index_or, ◌==◌}
use Rattle.std.specs.List.{filter, AllByRecursion as All}
use Rattle.std.proofs.lemmas.Bool.{cases_lt, eq-eqb}
use Rattle.std.proofs.lemmas.List.{length-map}
use Rattle.onfi_request.specs.declared.request.Item.{Item}
use Rattle.onfi_group.specs.Words.{number}
use Rattle.onfi_problem.proofs.Lists.{map_get}
use Rattle.onfi_problem.proofs.Places.{within_get}
use Rattle.onfi_core.specs.Kept.{is_of_place}
use Rattle.onfi_core.specs.State.{HalfState, is_from}
use Rattle.onfi_core.proofs.Window.{by_hosts}
use Rattle.onfi_core.proofs.HeldFor.{back_nil, front_nil}
use Rattle.onfi_core.proofs.Lists.{index_get}
use Rattle.onfi_queue.specs.Ends.{HostView, IntakeView, Settled}
use Rattle.onfi_seq.specs.declared.closed.Closed.{Closed}
use Rattle.onfi_seq.specs.Drained.{CompletesWhere, total_of}

-- Items by host

none_kept : (b : Bool) (x : Item) (xs : List Item) → cond b (x ∷ xs) xs ≡ [] → xs ≡ []
none_kept true x xs none = cc
none_kept false x xs none = none

one_kept : (b : Bool) (x : Item) (xs : List Item) → b ≡ true → cond b (x ∷ xs) xs ≡ [] → ⊥
one_kept true x xs kept none = cc
one_kept false x xs kept none = cc

-- where no other host has an item
all_low : (xs : List Item) → ((host : ℕ) → 4 ≤ host → filter (is_from host) xs ≡ []) → All (λ (x : Item). x.host < 4) xs
all_low [] none = tt
all_low (x ∷ xs) none = (
  elim (cases_lt x.host 4) [
    | inl lt ↦ lt
    | inr ge ↦ absurd (one_kept (x.host == x.host) x (filter (is_from x.host) xs) (eq-eqb x.host x.host refl) (none x.host ge))
  ],
  all_low xs (λ host high. none_kept (x.host == host) x (filter (is_from host) xs) (none host high)),
)

-- Four hosts

is_four : {A : Type 0} (xs : List A) → length xs ≡ 4 → (a b c d : A) × (xs ≡ a ∷ b ∷ c ∷ d ∷ [])
is_four [] four = absurd (omega arith)
is_four (a ∷ []) four = absurd (omega arith)
is_four (a ∷ b ∷ []) four = absurd (omega arith)
is_four (a ∷ b ∷ c ∷ []) four = absurd (omega arith)
is_four (a ∷ b ∷ c ∷ d ∷ []) four = (a, b, c, d, refl)
is_four (a ∷ b ∷ c ∷ d ∷ e ∷ xs) four = absurd (omega arith)

no_items : (xs : List Item) → length xs ≡ 0 → xs ≡ []
no_items [] none = refl
no_items (x ∷ xs) none = absurd (omega arith)

abbrev pub sents_of : List HostView → List (List Item)
sents_of hosts = map (λ (host : HostView). host.sent) hosts

abbrev pub counts_of : List HostView → List ℕ
counts_of hosts = map (λ (host : HostView). length host.sent) hosts

-- where as many are accepted as the hosts sent, none waits
nothing_waits : (t : IntakeView) (a b c d : HostView) (s : Settled t (sents_of (a ∷ b ∷ c ∷ d ∷ []))) → length t.accepted ≡ total_of (counts_of (a ∷ b ∷ c ∷ d ∷ [])) → s.0 ≡ []
nothing_waits t a b c d (waiting, split) total =
    let of : ℕ → List Item = λ host. filter (is_from host) t.accepted in
    let left : ℕ → List Item = λ host. filter (is_from host) waiting in
    let l_0 : length a.sent ≡ length (of 0) + length (left 0) = ap length (split.sent 0 (omega arith)) ∙ length-append (of 0) (left 0) in
    let l_1 : length b.sent ≡ length (of 1) + length (left 1) = ap length (split.sent 1 (omega arith)) ∙ length-append (of 1) (left 1) in
    let l_2 : length c.sent ≡ length (of 2) + length (left 2) = ap length (split.sent 2 (omega arith)) ∙ length-append (of 2) (left 2) in
    let l_3 : length d.sent ≡ length (of 3) + length (left 3) = ap length (split.sent 3 (omega arith)) ∙ length-append (of 3) (left 3) in
    let all = by_hosts t.accepted (all_low t.accepted (λ host high. front_nil (of host) (left host) (split.no_other host high))) in
    let rest = by_hosts waiting (all_low waiting (λ host high. back_nil (of host) (left host) (split.no_other host high))) in
    no_items waiting (omega (arith, l_0, l_1, l_2, l_3, all, rest, total))

-- Closing

pub counted : (counts : List ℕ) (hosts : List HostView) → counts ≡ counts_of hosts → length counts ≡ 4 → length hosts ≡ 4
counted counts hosts is four = sym (length-map hosts (λ (host : HostView). length host.sent)) ∙ sym (ap length is) ∙ four

sent_is : (t : IntakeView) (hosts : List HostView) → length hosts ≡ 4 → Settled t (sents_of hosts) → length t.accepted ≡ total_of (counts_of hosts)
    → (host : ℕ) (x : HostView) → slice_get hosts host ≡ Some x → x.sent ≡ filter (is_from host) t.accepted
sent_is t hosts four settled total host x there =
    let at = is_four hosts four in
    let P : List HostView → Type 0 = λ (xs : List HostView). (s : Settled t (sents_of xs)) → length t.accepted ≡ total_of (counts_of xs) → s.0 ≡ [] in
    let none = subst P (sym at.4) (nothing_waits t at.0 at.1 at.2 at.3) settled total in
    let low = within_get hosts host x there in
    let is : slice_index_or (sents_of hosts) host [] ≡ x.sent = index_get (sents_of hosts) host x.sent [] (map_get (λ (h : HostView). h.sent) hosts host x there) in
    sym is ∙ settled.1.sent host (let n = length-map hosts (λ (h : HostView). h.sent) in omega (arith, low, n)) ∙ ap (λ ws. filter (is_from host) t.accepted ++ filter (is_from host) ws) none ∙ append-nil (filter (is_from host) t.accepted)

pub completes : (closed : Closed) (h : HalfState) (t : IntakeView) (hosts : List HostView) → length hosts ≡ 4 → t.accepted ≡ h.accepted → Settled t (sents_of hosts)
    → closed.sent ≡ counts_of hosts → closed.accepted ≡ length h.accepted → closed.posted ≡ length h.posted
    → (length h.posted ≡ length h.accepted → (place : ℕ) → place < length h.accepted → number (is_of_place place) h.posted ≡ 1) → CompletesWhere closed h hosts
completes closed h t hosts four accepted settled sent accepted_is posted_is each as_many all =
    let total : length t.accepted ≡ total_of (counts_of hosts) = ap length accepted ∙ sym accepted_is ∙ all ∙ ap total_of sent in
    let own = sent_is t hosts four settled total in
    record {
      sent = λ host x there. own host x there ∙ ap (filter (is_from host)) accepted;
      each = each (sym posted_is ∙ as_many ∙ accepted_is);
    }
