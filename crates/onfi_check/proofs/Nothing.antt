-- A problem has no move exactly where nothing is left.
use Rattle.std.proofs.Common.{◌≡◌, ℕ, ◌≤◌, ◌<◌, ◌↔◌, Bool, IsTrue, List, [], ◌∷◌, length, Some, refl, sym, ◌∙◌, subst, arith}
use Rattle.std.specs.Prelude.{slice_get, ◌==◌}
use Rattle.std.specs.List.{AllByRecursion as All}
use Rattle.std.proofs.lemmas.Bool.{eqb-true}
use Rattle.onfi_request.specs.declared.want.Want.{Want}
use Rattle.onfi_group.proofs.Placing.{one_is_group}
use Rattle.onfi_problem.specs.Moves.{Next as NextPhase, Start as StartGroup, IsDone, AreMoves}
use Rattle.onfi_problem.specs.declared.lun_state.LunState.{LunState}
use Rattle.onfi_problem.specs.declared.lun_state.LunState.TheVariants.{Free, Running}
use Rattle.onfi_problem.specs.Problem.{Problem, IsProblem}
use Rattle.onfi_problem.specs.declared.moves.Move.{Move as KeptMove}
use Rattle.onfi_problem.specs.Position.{Position, moves_of}
use Rattle.onfi_problem.proofs.Places.{get_within}
use Rattle.onfi_schedule.proofs.Exchange.{not_done}
use Rattle.onfi_group.proofs.Firsts.{on_own_block}

-- where there is no move nothing is left
pub no_moves : (p : Problem) → IsProblem p → AreMoves p [] → IsDone p
no_moves p ip are = record { wants = go p.wants refl; free = λ l g n r at. are.each (NextPhase l) (g, n, r, at) }
  where
    at_lun : (w : Want) (ws : List Want) (x : LunState) → p.wants ≡ w ∷ ws → slice_get p.luns w.lun ≡ Some x → ⊥
    at_lun w ws (Running g n r) e at = are.each (NextPhase w.lun) (g, n, r, at)
    at_lun w ws (Free since) e at =
        are.each (StartGroup (w ∷ [])) (
          since,
          at,
          record {
            group = one_is_group p.rules w;
            first = (rw e (rw (on_own_block w) refl), tt);
          },
        )

    go : (ws : List Want) → p.wants ≡ ws → p.wants ≡ []
    go [] e = e
    go (w ∷ ws) e =
        let below = (subst (All (λ v. v.lun < length p.luns)) e ip.in_range).0 in
        let x = get_within p.luns w.lun below in
        absurd (at_lun w ws x.0 e x.1)

-- where that much time has passed it is over exactly where there is no move
pub over_where_none : (x : Position) (items : List KeptMove) (e : ℕ) (empty : Bool) → IsProblem x.problem → AreMoves x.problem (moves_of x.groups items) → e ≤ x.problem.bus_free → empty ≡ (length items == 0) → IsTrue empty ↔ (IsDone x.problem × (e ≤ x.problem.bus_free))
over_where_none x [] e empty ip are le q = ((λ _. (no_moves x.problem ip are, le)), λ _. rw q refl)
over_where_none x (s ∷ items) e empty ip are le q = ((λ h. let k = eqb-true (length (s ∷ items)) 0 (sym q ∙ h) in absurd (omega arith)), λ (d, _). absurd (not_done x.problem _ d are.moves_only.0))
