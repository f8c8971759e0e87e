-- Marks of waiting wants are given by the wants.
use Rattle.std.proofs.Common.{◌≡◌, ℕ, ◌≤◌, ◌<◌, Bool, true, false, List, [], ◌∷◌, length, take, map, get_or, zero, suc, inl, refl, sym, ap, ◌∙◌, subst, arith}
use Rattle.std.specs.Prelude.{IsTrue, ◌↔◌}
use Rattle.onfi_request.specs.declared.want.Want.{Want}
use Rattle.onfi_group.specs.Words.{Has, Pairs}
use Rattle.onfi_problem.specs.Problem.{Problem}
use Rattle.onfi_problem.specs.Position.{waiting_of}
use Rattle.onfi_problem.proofs.Firsts.{waiting_in}
use Rattle.onfi_problem.proofs.Perm.{All-has}
use Rattle.onfi_demand.specs.Left.{left_on}
use Rattle.onfi_demand.specs.Work.{left_of}
use Rattle.onfi_known_check.specs.declared.known.Known.{Known}
use Rattle.onfi_known_check.specs.Proves.{Describes}

-- marks past the last want mean nothing
waiting_take : (marks : List Bool) (ws : List Want) → waiting_of (take (length ws) marks) ws ≡ waiting_of marks ws
waiting_take marks [] = refl
waiting_take [] (w ∷ ws) = refl
waiting_take (true ∷ marks) (w ∷ ws) = ap (λ z. w ∷ z) (waiting_take marks ws)
waiting_take (false ∷ marks) (w ∷ ws) = waiting_take marks ws

abbrev Rising : List Want → Type 0
Rising ws = Pairs (λ a b. a.id < b.id) ws

behind : (x w : Want) (us vs : List Want) → x ∷ us ≡ w ∷ vs → us ≡ vs
behind x w us vs e = cc

not_waiting : (marks : List Bool) (w : Want) (ws us : List Want) → Rising (w ∷ ws) → w ∷ us ≡ waiting_of marks ws → ⊥
not_waiting marks w ws us r e =
    let has = waiting_in marks ws w (subst (λ z. Has z w) e (inl refl)) in
    let less = All-has (λ v. w.id < v.id) ws w r.0 has in
    omega arith

-- the same wants wait, so the marks are the same
same_marks : (a b : List Bool) (ws : List Want) → length ws ≤ length a → length ws ≤ length b → Rising ws → waiting_of a ws ≡ waiting_of b ws → take (length ws) a ≡ take (length ws) b
same_marks a b [] h k r e = refl
same_marks [] b (w ∷ ws) h k r e = absurd (omega arith)
same_marks (x ∷ a) [] (w ∷ ws) h k r e = absurd (omega arith)
same_marks (true ∷ a) (true ∷ b) (w ∷ ws) h k r e = ap (λ z. true ∷ z) (same_marks a b ws (omega arith) (omega arith) r.1 (behind w w _ _ e))
same_marks (true ∷ a) (false ∷ b) (w ∷ ws) h k r e = absurd (not_waiting b w ws (waiting_of a ws) r e)
same_marks (false ∷ a) (true ∷ b) (w ∷ ws) h k r e = absurd (not_waiting a w ws (waiting_of b ws) r (sym e))
same_marks (false ∷ a) (false ∷ b) (w ∷ ws) h k r e = ap (λ z. false ∷ z) (same_marks a b ws (omega arith) (omega arith) r.1 e)

-- whether the marks and what is left of the LUNs are the same
pub described : (all : List Want) (k : Known) (p : Problem) (marks : List Bool) (count : ℕ) (same left : Bool) → count ≡ length all → length all ≤ length k.waiting → length all ≤ length marks → Rising all → waiting_of marks all ≡ p.wants
    → IsTrue same ↔ (take count k.waiting ≡ take count marks) → IsTrue left ↔ (map left_of k.luns.items ≡ map left_on p.luns) → same ≡ true → IsTrue left ↔ Describes all k p
described all k p marks count same left c h g r w s l t =
    let equal : take (length all) k.waiting ≡ take (length all) marks = subst (λ n. take n k.waiting ≡ take n marks) c (s.0 t) in
    let wants : waiting_of k.waiting all ≡ p.wants = sym (waiting_take k.waiting all) ∙ (ap (λ z. waiting_of z all) equal ∙ (waiting_take marks all ∙ w)) in
    (λ e. record { wants = wants; luns = l.0 e }, λ d. l.1 d.luns)

pub not_described : (all : List Want) (k : Known) (p : Problem) (marks : List Bool) (count : ℕ) (same : Bool) → count ≡ length all → length all ≤ length k.waiting → length all ≤ length marks → Rising all → waiting_of marks all ≡ p.wants
    → IsTrue same ↔ (take count k.waiting ≡ take count marks) → same ≡ false → Describes all k p → ⊥
not_described all k p marks count same c h g r w s f d =
    let equal = same_marks k.waiting marks all h g r (d.wants ∙ sym w) in
    let t : same ≡ true = s.1 (subst (λ n. take n k.waiting ≡ take n marks) (sym c) equal) in
    cc

-- what holds of lists holds of what stands at a place
pub map_at : {A B : Type 0} (f : A → B) (xs ys : List A) (i : ℕ) (d : A) → i < length xs → length xs ≡ length ys → map f xs ≡ map f ys → f (get_or xs i d) ≡ f (get_or ys i d)
map_at f [] ys i d h l e = absurd (omega arith)
map_at f (x ∷ xs) [] i d h l e = absurd (omega arith)
map_at f (x ∷ xs) (y ∷ ys) zero d h l e = cc
map_at f (x ∷ xs) (y ∷ ys) (suc i) d h l e = map_at f xs ys i d (omega arith) (omega arith) (let more : map f xs ≡ map f ys = cc in more)
