-- What the children say of an opened node.
use Rattle.std.proofs.Common.{◌≡◌, ℕ, ◌≤◌, ◌⊎◌, inl, inr, List, [], ◌∷◌, Option, Some, None, refl, sym, subst, arith}
use Rattle.std.specs.List.{AllByRecursion as All}
use Rattle.onfi_problem.specs.Moves.{Move, IsMove, move_lun, after, AreMoves}
use Rattle.onfi_problem.specs.Problem.{Problem, IsProblem}
use Rattle.onfi_problem.proofs.Perm.{All-has}
use Rattle.onfi_check.proofs.Sound.{at_earliest}
use Rattle.onfi_schedule.proofs.Exchange.{yielding, not_done}
use Rattle.onfi_planner.specs.Opening.{yield_at, AreYields}
use Rattle.onfi_planner.specs.Planning.{Bounded}

-- each of these moves yields, or no run after it ends before e
abbrev pub Done : Problem → List (Option ℕ) → ℕ → List Move → Type 0
Done p yields e moves = All (λ m. yield_at yields (move_lun m) ≡ None → Bounded (after p m) e) moves

pub done_sooner : (p : Problem) (yields : List (Option ℕ)) (e e' : ℕ) (moves : List Move) → e' ≤ e → Done p yields e moves → Done p yields e' moves
done_sooner p yields e e' [] le d = tt
done_sooner p yields e e' (m ∷ moves) le d = ((λ y steps f run. let h = d.0 y steps f run in omega arith), done_sooner p yields e e' moves le d.1)

some_or_none : (o : Option ℕ) → (o ≡ None) ⊎ ((l : ℕ) × (o ≡ Some l))
some_or_none None = inl refl
some_or_none (Some l) = inr (l, refl)

pub opened : (p : Problem) (moves : List Move) (yields : List (Option ℕ)) (e : ℕ) (m : Move) → IsProblem p → AreMoves p moves → IsMove p m → AreYields p moves yields → Done p yields e moves → Bounded p e
opened p moves yields e m ip are im ay d [] f (done, q) = absurd (not_done p m done im)
opened p moves yields e m ip are im ay d (s ∷ steps) f (mv, on_time, run) =
    elim (some_or_none (yield_at yields (move_lun s.move))) [
      | inl n ↦ (
          let r = at_earliest p s.move s.start steps f mv on_time run in
          let le = All-has _ moves s.move d (are.each s.move mv) n steps r.0 r.2 in
          let le' = r.1 in omega arith)
      | inr (l, y) ↦ (
          let to = ay (move_lun s.move) l y in
          let r = yielding p s.move to.move s.start l f steps ip mv on_time run to.other (All-has (IsMove p) moves to.move are.moves_only to.has_move) to.of_lun (λ n i q. All-has _ moves n to.fits (are.each n i) q) in
          let stays = subst (λ i. yield_at yields i ≡ None) (sym r.of_lun) to.stays in
          let le = All-has _ moves r.move d (are.each r.move r.is_move) stays r.steps r.finish r.run in
          let le' = r.no_later in omega arith)
    ]
