-- What is said of the phase that is next.
use Rattle.std.proofs.Common.{◌≡◌, ℕ, ◌≤◌, inl, inr, List, ◌∷◌, length, Option, Some, None, sym, ap, ◌∙◌, subst}
use Rattle.std.specs.Prelude.{MatchOption, slice_get}
use Rattle.std.specs.List.{AllByRecursion as All}
use Rattle.onfi_problem.specs.declared.lun_state.LunState.{LunState}
use Rattle.onfi_problem.specs.Problem.{Problem}
use Rattle.onfi_problem.specs.Moves.{Move, IsMove, earliest, move_lun}
use Rattle.onfi_steady.specs.declared.next.NextPhase.{NextPhase}
use Rattle.onfi_steady.specs.Waiting.{Books, wants_of}
use Rattle.onfi_steady.specs.Next.{IsFirstGiven, IsFirstHeld, IsIdle, IsNextPhase, given_move, move_by, move_of_phase, own_move}
use Rattle.onfi_steady.specs.Kept.{IsHeldAt, NoneBelow}
use Rattle.onfi_steady.proofs.NextMove.{move_given, none_given}
use Rattle.onfi_steady.proofs.NextHeld.{due_given, due_held, first_held, held_is, idle}

pub second : (a b s t : ℕ) (xs ys : List ℕ) → a ∷ s ∷ xs ≡ b ∷ t ∷ ys → s ≡ t
second a b s t xs ys h = cc

module _ (books : Books) (small : All (λ w. w.want.plane ≤ 3) books.waiting) (p : Problem) (rules : p.rules ≡ books.rules) (wants : p.wants ≡ wants_of books.waiting) where
  -- where none gives any, what the lowest one holds
  pub held_phase : ((lun : ℕ) → given_move books p lun ≡ None) → (lun : ℕ) (state : LunState) (phase : NextPhase) →
      slice_get p.luns lun ≡ Some state → IsHeldAt p.bus_free state lun books (Some phase) → NoneBelow books p.luns lun → IsNextPhase books p phase
  held_phase none lun state phase there is below =
      let members = phase.members.items in
      let h = held_is books small p rules wants none lun state members phase.start there is.0 is.1 is.3 in
      let same : move_of_phase phase ≡ move_by lun members = ap (λ z. move_by z members) is.2 in
      record {
        next = inr (subst (IsFirstHeld books p) (sym same) (first_held books small p rules wants none lun members phase.start h below));
        move = subst (IsMove p) (sym same) h.move;
        lun = ap move_lun same ∙ (h.on ∙ sym is.2);
        start = h.soonest ∙ ap (earliest p) (sym same);
        due = λ w d some. due_held books small phase.lun w d p members (subst (λ z. own_move books p z ≡ Some (move_by z members)) (sym is.2) h.own) some;
      }
