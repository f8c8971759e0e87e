-- The table of groups while it is made.
use Rattle.std.proofs.Common.{◌≡◌, ◌≢◌, ℕ, ◌+◌, ◌-◌, ◌<◌, ◌≤◌, inl, inr, List, [], ◌∷◌, ◌++◌, length, get_or, map, take, drop, refl, sym, ap, ◌∙◌, subst, arith, append_assoc, get_or-set_same, get_or-set_other}
use Rattle.std.specs.Prelude.{slice_index, slice_range, slice_set}
use Rattle.std.proofs.lemmas.Bool.{cases_lt}
use Rattle.std.proofs.lemmas.List.{map_push, take_more, drop_at, take_all, take-append-le, drop-append-le, length-append, length-drop}
use Rattle.onfi_request.specs.declared.want.Want.{Want}
use Rattle.onfi_group.specs.declared.rules.Rules.{Rules}
use Rattle.onfi_group.specs.Listing.{AreCandidates}
use Rattle.onfi_problem.specs.declared.lun_state.LunState.{LunState}
use Rattle.onfi_problem.specs.declared.moves.Lun.{Lun}
use Rattle.onfi_problem.specs.Position.{state_of}
use Rattle.onfi_problem.specs.Kept.{IsOwn}

-- the part of a table stays as it is when more is appended
range_stays : (groups more : List (List Want)) (a b : ℕ) → a ≤ b → b ≤ length groups → slice_range (groups ++ more) a b ≡ slice_range groups a b
range_stays groups more a b h k =
    let le : a ≤ length groups = omega arith in
    let l = length-drop a groups in
    let s : b - a ≤ length (drop a groups) = omega arith in
    ap (take (b - a)) (drop-append-le a groups more le) ∙ take-append-le (b - a) (drop a groups) more s

range_new : (groups own : List (List Want)) → slice_range (groups ++ own) (length groups) (length (groups ++ own)) ≡ own
range_new groups own =
    let l = length-append groups own in
    let e : length (groups ++ own) - length groups ≡ length own = omega arith in
    let d = drop_at groups own (length groups) refl in
    rw (d, e) (take_all (length own) own (omega arith))

pub own_stays : (rules : Rules) (all : List Want) (groups own : List (List Want)) (first : List ℕ) (lun k n : ℕ) → k < lun → IsOwn rules all groups first k → IsOwn rules all (groups ++ own) (slice_set first (lun + 1) n) k
own_stays rules all groups own first lun k n h o =
    let a : k ≢ lun + 1 = λ e. omega arith in
    let b : k + 1 ≢ lun + 1 = λ e. omega arith in
    let r = range_stays groups own (slice_index first k) (slice_index first (k + 1)) o.rising o.within in
    let l = length-append groups own in
    let p = get_or-set_other first (lun + 1) k n 0 a in
    let q = get_or-set_other first (lun + 1) (k + 1) n 0 b in
    record { rising = rw (p, q) o.rising; within = rw q (omega arith); candidates = rw (p, q, r) o.candidates }

pub own_new : (rules : Rules) (all : List Want) (groups own : List (List Want)) (first : List ℕ) (lun : ℕ) → slice_index first lun ≡ length groups → lun + 1 < length first → AreCandidates rules all lun own → IsOwn rules all (groups ++ own) (slice_set first (lun + 1) (length (groups ++ own))) lun
own_new rules all groups own first lun e h c =
    let a : lun ≢ lun + 1 = λ e. omega arith in
    let l = length-append groups own in
    let r = range_new groups own in
    let p = get_or-set_other first (lun + 1) lun (length (groups ++ own)) 0 a in
    let q = get_or-set_same first (lun + 1) (length (groups ++ own)) 0 h in
    record { rising = rw (p, q, e) (omega arith); within = rw q (omega arith); candidates = rw (p, q, e, r) c }

-- one LUN more
module _ (rules : Rules) (all : List Want) (old groups own : List (List Want)) (first : List ℕ) (lun : ℕ) (last : slice_index first lun ≡ length groups) (long : length first ≡ 9) (few : lun < 8) where
  pub own_more : ((k : ℕ) → k < lun → IsOwn rules all groups first k) → AreCandidates rules all lun own → (k : ℕ) → k < lun + 1 → IsOwn rules all (groups ++ own) (slice_set first (lun + 1) (length (groups ++ own))) k
  own_more o c k h = elim (cases_lt k lun) [
    | inl a ↦ own_stays rules all groups own first lun k (length (groups ++ own)) a (o k a)
    | inr a ↦ (let e : lun ≡ k = omega arith in subst (IsOwn rules all (groups ++ own) (slice_set first (lun + 1) (length (groups ++ own)))) e (own_new rules all groups own first lun last (omega arith) c))
  ]

  pub opened_more : slice_index first 0 ≤ 8 → slice_index (slice_set first (lun + 1) (length (groups ++ own))) 0 ≤ 8
  opened_more h = let a : 0 ≢ lun + 1 = λ e. omega arith in rw (get_or-set_other first (lun + 1) 0 (length (groups ++ own)) 0 a) h

  pub last_more : slice_index (slice_set first (lun + 1) (length (groups ++ own))) (lun + 1) ≡ length (groups ++ own)
  last_more = get_or-set_same first (lun + 1) (length (groups ++ own)) 0 (omega arith)

  pub grown_more : (more : List (List Want)) → groups ≡ old ++ more → (all_more : List (List Want)) × (groups ++ own ≡ old ++ all_more)
  grown_more more e = (more ++ own, ap (λ z. z ++ own) e ∙ append_assoc old more own)

-- one LUN's state more
pub states_more : (groups new m : List (List Want)) (luns : List Lun) (states : List LunState) (at : ℕ) (x : LunState) (y : Lun) → at < length states → x ≡ get_or states at x → new ≡ groups ++ m → ((more : List (List Want)) → map (state_of (groups ++ more)) luns ≡ take at states) → ((more : List (List Want)) → state_of (new ++ more) y ≡ x) → (more : List (List Want)) → map (state_of (new ++ more)) (luns ++ y ∷ []) ≡ take (at + 1) states
states_more groups new m luns states at x y h i e old last more =
    let p = map_push (state_of (new ++ more)) luns y in
    let q : map (state_of (new ++ more)) luns ≡ take at states = ap (λ z. map (state_of (z ++ more)) luns) e ∙ (ap (λ z. map (state_of z) luns) (append_assoc groups m more) ∙ old (m ++ more)) in
    let r : state_of (new ++ more) y ≡ get_or states at x = last more ∙ i in
    let t = take_more states at x h in
    p ∙ (ap (λ z. z ++ state_of (new ++ more) y ∷ []) q ∙ (ap (λ (z : LunState). take at states ++ z ∷ []) r ∙ sym t))
