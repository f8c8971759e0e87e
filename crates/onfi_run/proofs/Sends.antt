-- What hosts send, call by call.
use Rattle.std.proofs.Common.{arith, ◌≡◌, ◌≢◌, ◌<◌, ◌≤◌, take, ◌⊎◌, inl, inr, ℕ, zero, suc, Bool, true, false, List, [], ◌∷◌, ◌++◌, length, map, get_or, refl, sym, ap, ◌∙◌, subst, append-nil, Some, None}
use Rattle.std.specs.Prelude.{Option, slice_get, set, ◌==◌}
use Rattle.std.specs.Option.{option_map}
use Rattle.std.specs.List.{cons_option}
use Rattle.std.proofs.Math.Bool.{cond}
use Rattle.std.proofs.lemmas.Bool.{eq-eqb, ne_eqb}
use Rattle.std.proofs.lemmas.List.Elements.{filter_map-append}
use Rattle.std.proofs.lemmas.Option.{slice_get-get_or, slice_get-map, slice_get_within}
use Rattle.std.proofs.lemmas.Simd.{map-map}
use Rattle.onfi_addr.specs.declared.geometry.Geometry.{Geometry}
use Rattle.onfi_request.specs.declared.request.Item.{Item}
use Rattle.onfi_request.specs.declared.request.Request.{Request}
use Rattle.onfi_script.specs.declared.operation.Operation.{Operation}
use Rattle.onfi_script.specs.declared.row.Row.{Row}
use Rattle.onfi_run.specs.declared.port.Port.{Port}
use Rattle.onfi_run.specs.Keys.{port_state, HasSamePorts, SendsNothing}
use Rattle.onfi_run.specs.Operations.{on_channel, operation_of, request_in, requests_on}
use Rattle.onfi_run.specs.Requests.{request_of}
use Rattle.onfi_run.specs.Sending.{AreSending, HasSent, IsSending, with_request}

-- ---- ports that send nothing
pub same_keys : (old new : List Port) → SendsNothing old new → HasSamePorts old new
same_keys old new same = sym (map-map (λ k. k.0) port_state new) ∙ ap (map (λ k. k.0)) same ∙ map-map (λ k. k.0) port_state old

pub still_sending : (requests : List Request) (p q : Port) → port_state q ≡ port_state p → IsSending requests p → IsSending requests q
still_sending requests p q same s = record {
  rest = s.rest;
  first = s.first ∙ ap (λ (k : _ × List Item × Bool). map (λ (x : Item). x.request) k.1 ++ s.rest) (sym same);
  whole = λ none. s.whole (sym (ap (λ (k : _ × List Item × Bool). k.2) same) ∙ none);
}

-- a port with the same state stood at the place
was_there : (old new : List Port) (at : ℕ) (q : Port) → SendsNothing old new → slice_get new at ≡ Some q
    → (p : Port) × (slice_get old at ≡ Some p) × (port_state q ≡ port_state p)
was_there old new at q same there =
    let seen = sym (slice_get-map port_state old at) ∙ ap (λ states. slice_get states at) (sym same) ∙ slice_get-map port_state new at in
    by_place (slice_get old at) refl (seen ∙ ap (option_map port_state) there)
  where
    by_place : (o : Option Port) → slice_get old at ≡ o → option_map port_state o ≡ Some (port_state q)
        → (p : Port) × (slice_get old at ≡ Some p) × (port_state q ≡ port_state p)
    by_place None is e = absurd (cc)
    by_place (Some p) is e = (p, is, cc)

pub all_still_sending : (old new : List Port) → SendsNothing old new → (requests : ℕ → List Request) → AreSending requests old → AreSending requests new
all_still_sending old new same requests sending channel q there =
    let was = was_there old new channel q same there in
    still_sending (requests channel) was.0 q was.2 (sending channel was.0 was.1)

-- ---- a change of one port
-- what stands at a place is what was set there, or what stood there before
set_get : (ports : List Port) (at i : ℕ) (new q : Port) → slice_get (set ports at new) i ≡ Some q → ((i ≡ at) × (q ≡ new)) ⊎ ((at ≢ i) × (slice_get ports i ≡ Some q))
set_get [] at i new q there = absurd (let lt = slice_get_within [] i q there in omega arith)
set_get (p ∷ ports) zero zero new q there = inl (refl, cc)
set_get (p ∷ ports) zero (suc i) new q there = inr (λ e. absurd (omega (e, arith)), there)
set_get (p ∷ ports) (suc at) zero new q there = inr (λ e. absurd (omega (e, arith)), there)
set_get (p ∷ ports) (suc at) (suc i) new q there = behind (set_get ports at i new q there)
  where
    behind : ((i ≡ at) × (q ≡ new)) ⊎ ((at ≢ i) × (slice_get ports i ≡ Some q)) → ((suc i ≡ suc at) × (q ≡ new)) ⊎ ((suc at ≢ suc i) × (slice_get ports i ≡ Some q))
    behind (inl (e, is)) = inl (ap suc e, is)
    behind (inr (ne, is)) = inr (λ e. ne (omega (e, arith)), is)

with_here : (requests : ℕ → List Request) (at i : ℕ) (request : Request) → at ≡ i → with_request requests at request i ≡ requests i ++ request ∷ []
with_here requests at i request e = ap (λ (b : Bool). cond b (requests i ++ request ∷ []) (requests i)) (eq-eqb at i e)

with_other : (requests : ℕ → List Request) (at i : ℕ) (request : Request) → at ≢ i → with_request requests at request i ≡ requests i
with_other requests at i request ne = ap (λ (b : Bool). cond b (requests i ++ request ∷ []) (requests i)) (ne_eqb at i ne)

-- one port sent a request more, or left it out
pub one_more : (requests : ℕ → List Request) (ports : List Port) (at : ℕ) (d new : Port) (request : Request) → at < length ports
    → (IsSending (requests at) (get_or ports at d) → IsSending (requests at ++ request ∷ []) new) → AreSending requests ports → AreSending (with_request requests at request) (set ports at new)
one_more requests ports at d new request h more sending i q there = by_place (set_get ports at i new q there)
  where
    by_place : ((i ≡ at) × (q ≡ new)) ⊎ ((at ≢ i) × (slice_get ports i ≡ Some q)) → IsSending (with_request requests at request i) q
    by_place (inl (e, is)) =
        let here = more (sending at (get_or ports at d) (slice_get-get_or ports at d h)) in
        let there' = subst (λ j. IsSending (requests j ++ request ∷ []) new) (sym e) here in
        let sent = subst (λ p. IsSending (requests i ++ request ∷ []) p) (sym is) there' in
        subst (λ l. IsSending l q) (sym (with_here requests at i request (sym e))) sent
    by_place (inr (ne, is)) = subst (λ l. IsSending l q) (sym (with_other requests at i request ne)) (sending i q is)

-- there is no such port
pub none_there : (requests : ℕ → List Request) (ports : List Port) (at : ℕ) (request : Request) → length ports ≤ at → AreSending requests ports → AreSending (with_request requests at request) ports
none_there requests ports at request h sending i q there =
    let lt = slice_get_within ports i q there in
    subst (λ l. IsSending l q) (sym (with_other requests at i request (λ e. omega (e, arith)))) (sending i q there)

-- ---- rows
by_test : (xs : List Request) (op : Operation) (geometry : Geometry) (b : Bool)
    → xs ++ cons_option (option_map (request_of geometry) (cond b (Some op) None)) [] ≡ cond b (xs ++ request_of geometry op ∷ []) xs
by_test xs op geometry true = refl
by_test xs op geometry false = append-nil xs

-- a row of the host asks for one request more on its channel
pub row_sent : (geometry : Geometry) (before : List Row) (host : ℕ) (op : Operation) (row : Row) (ports : List Port) → operation_of host row ≡ Some op
    → AreSending (with_request (requests_on geometry before host) op.aim.channel (request_of geometry op)) ports → HasSent geometry (before ++ row ∷ []) host ports
row_sent geometry before host op row ports is sent channel p there =
    let xs = requests_on geometry before host channel in
    let said = filter_map-append (request_in geometry host channel) before (row ∷ []) ∙ ap (λ o. xs ++ cons_option (option_map (request_of geometry) (on_channel channel o)) []) is in
    let split = said ∙ by_test xs op geometry (op.aim.channel == channel) in
    subst (λ l. IsSending l p) (sym split) (sent channel p there)

-- a row that gives no operation of the host
pub row_passed : (geometry : Geometry) (before : List Row) (host : ℕ) (row : Row) (ports : List Port) → operation_of host row ≡ None
    → HasSent geometry before host ports → HasSent geometry (before ++ row ∷ []) host ports
row_passed geometry before host row ports is sent channel p there =
    let xs = requests_on geometry before host channel in
    let said = filter_map-append (request_in geometry host channel) before (row ∷ []) ∙ ap (λ o. xs ++ cons_option (option_map (request_of geometry) (on_channel channel o)) []) is ∙ append-nil xs in
    subst (λ l. IsSending l p) (sym said) (sent channel p there)

pub take_all : (rows : List Row) (n : ℕ) → length rows ≤ n → take n rows ≡ rows
take_all [] zero h = refl
take_all [] (suc n) h = refl
take_all (r ∷ rows) zero h = absurd (omega arith)
take_all (r ∷ rows) (suc n) h = ap (λ l. r ∷ l) (take_all rows n (omega arith))
