-- The last ends of LUNs, as a walk over moves finds them.
use Rattle.std.proofs.Common.{◌≡◌, ◌≢◌, ℕ, zero, suc, ◌+◌, ◌≤◌, ◌<◌, inl, inr, List, [], ◌∷◌, ◌++◌, length, take, get_or, Option, Some, None, refl, sym, ap, ◌∙◌, subst, arith, get_or-set_same, get_or-set_other}
use Rattle.std.specs.Prelude.{slice_set, max}
use Rattle.std.specs.List.{AllByRecursion as All}
use Rattle.std.proofs.lemmas.List.{take_more, map-append}
use Rattle.std.proofs.lemmas.Bool.{cases_lt, cases_eq}
use Rattle.onfi_request.specs.declared.want.Want.{Want}
use Rattle.onfi_problem.specs.declared.moves.Move.{Move as KeptMove}
use Rattle.onfi_problem.specs.Problem.{Problem}
use Rattle.onfi_problem.specs.Moves.{Move, IsMove, move_lun, after}
use Rattle.onfi_problem.specs.Position.{move_of, moves_of}
use Rattle.onfi_problem.proofs.Perm.{All-append, All-weaker, Has-append_left, Has-append_right}
use Rattle.onfi_check.specs.Ends.{IsLastEnd, later_of}

pub move_at : (p : Problem) (groups : List (List Want)) (ms : List KeptMove) (i : ℕ) (d : KeptMove) → i < length ms → All (IsMove p) (moves_of groups ms) → IsMove p (move_of groups (get_or ms i d))
move_at p groups [] i d h all = absurd (omega arith)
move_at p groups (m ∷ ms) zero d h all = all.0
move_at p groups (m ∷ ms) (suc i) d h all = move_at p groups ms i d (omega arith) all.1

pub one_more : (groups : List (List Want)) (ms : List KeptMove) (i : ℕ) (d : KeptMove) → i < length ms → moves_of groups (take (i + 1) ms) ≡ moves_of groups (take i ms) ++ move_of groups (get_or ms i d) ∷ []
one_more groups ms i d h = ap (moves_of groups) (take_more ms i d h) ∙ map-append (move_of groups) (take i ms) (get_or ms i d ∷ [])

-- a move of another LUN more
other_more : (p : Problem) (ms : List Move) (m : Move) (lun : ℕ) (o : Option ℕ) → move_lun m ≢ lun → IsLastEnd p ms lun o → IsLastEnd p (ms ++ m ∷ []) lun o
other_more p ms m lun None d h = All-append (λ n. move_lun n ≢ lun) ms (m ∷ []) h (d, tt)
other_more p ms m lun (Some e) d h =
    let k = h.0 in
    ((k.0, Has-append_left ms (m ∷ []) k.0 k.1, k.2, k.3), All-append (λ n. move_lun n ≡ lun → (after p n).bus_free ≤ e) ms (m ∷ []) h.1 ((λ q. absurd (d q)), tt))

own_last : (p : Problem) (ms : List Move) (m : Move) (lun e : ℕ) → move_lun m ≡ lun → (after p m).bus_free ≡ e → All (λ n. move_lun n ≡ lun → (after p n).bus_free ≤ e) ms → IsLastEnd p (ms ++ m ∷ []) lun (Some e)
own_last p ms m lun e q k below = ((m, Has-append_right ms (m ∷ []) m (inl refl), q, k), All-append (λ n. move_lun n ≡ lun → (after p n).bus_free ≤ e) ms (m ∷ []) below ((λ _. omega arith), tt))

-- .. and one of its own
own_more : (p : Problem) (ms : List Move) (m : Move) (lun : ℕ) (o : Option ℕ) → move_lun m ≡ lun → IsLastEnd p ms lun o → IsLastEnd p (ms ++ m ∷ []) lun (later_of o (after p m).bus_free)
own_more p ms m lun None q h = own_last p ms m lun _ q refl (All-weaker (λ n. move_lun n ≢ lun) _ (λ n d k. absurd (d k)) ms h)
own_more p ms m lun (Some e) q h =
    let end = (after p m).bus_free in
    elim (cases_lt e end) [
      | inl a ↦ (
          let s : end ≡ max e end = omega arith in
          subst (λ z. IsLastEnd p (ms ++ m ∷ []) lun (Some z)) s (own_last p ms m lun end q refl (All-weaker _ (λ n. move_lun n ≡ lun → (after p n).bus_free ≤ end) (λ n f k. let b = f k in omega arith) ms h.1)))
      | inr a ↦ (
          let s : e ≡ max e end = omega arith in
          let k = h.0 in
          let whole : IsLastEnd p (ms ++ m ∷ []) lun (Some e) = ((k.0, Has-append_left ms (m ∷ []) k.0 k.1, k.2, k.3), All-append (λ n. move_lun n ≡ lun → (after p n).bus_free ≤ e) ms (m ∷ []) h.1 ((λ _. a), tt)) in
          subst (λ z. IsLastEnd p (ms ++ m ∷ []) lun (Some z)) s whole)
    ]

-- after one more item, for its own LUN
pub end_own : (p : Problem) (groups : List (List Want)) (items : List KeptMove) (i lun end : ℕ) (d : KeptMove) (o : Option ℕ) → i < length items → move_lun (move_of groups (get_or items i d)) ≡ lun → end ≡ (after p (move_of groups (get_or items i d))).bus_free → IsLastEnd p (moves_of groups (take i items)) lun o → IsLastEnd p (moves_of groups (take (i + 1) items)) lun (later_of o end)
end_own p groups items i lun end d o h q e inv = rw (one_more groups items i d h, e) (own_more p (moves_of groups (take i items)) (move_of groups (get_or items i d)) lun o q inv)

-- .. and for another
pub end_other : (p : Problem) (groups : List (List Want)) (items : List KeptMove) (i lun : ℕ) (d : KeptMove) (o : Option ℕ) → i < length items → move_lun (move_of groups (get_or items i d)) ≢ lun → IsLastEnd p (moves_of groups (take i items)) lun o → IsLastEnd p (moves_of groups (take (i + 1) items)) lun o
end_other p groups items i lun d o h n inv = rw (one_more groups items i d h) (other_more p (moves_of groups (take i items)) (move_of groups (get_or items i d)) lun o n inv)

pub ends_more : (p : Problem) (groups : List (List Want)) (items : List KeptMove) (i own end : ℕ) (d : KeptMove) (ends : List (Option ℕ)) → i < length items → own < length ends → move_lun (move_of groups (get_or items i d)) ≡ own → end ≡ (after p (move_of groups (get_or items i d))).bus_free
    → ((lun : ℕ) → lun < 8 → IsLastEnd p (moves_of groups (take i items)) lun (get_or ends lun None))
    → (lun : ℕ) → lun < 8 → IsLastEnd p (moves_of groups (take (i + 1) items)) lun (get_or (slice_set ends own (later_of (get_or ends own None) end)) lun None)
ends_more p groups items i own end d ends h within q e inv lun small =
    let here = inv lun small in
    elim (cases_eq lun own) [
      | inl s ↦ rw (s, get_or-set_same ends own (later_of (get_or ends own None) end) None within) (end_own p groups items i own end d (get_or ends own None) h q e (subst (λ z. IsLastEnd p (moves_of groups (take i items)) z (get_or ends z None)) s here))
      | inr s ↦ rw (get_or-set_other ends own lun (later_of (get_or ends own None) end) None s) (end_other p groups items i lun d (get_or ends lun None) h (λ z. s (sym z ∙ q)) here)
    ]
