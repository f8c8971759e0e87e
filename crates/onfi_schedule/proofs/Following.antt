-- The phase of least start.
use Rattle.std.proofs.Common.{inl, inr, arith}
use Rattle.onfi_problem.specs.Moves.{earliest}
use Rattle.onfi_problem.proofs.Kept.{kept}
use Rattle.onfi_schedule.specs.Schedule.{phases}
use Rattle.onfi_schedule.specs.Laws.{FirstMoveLaw, NextLaw, DoneLaw}
use Rattle.onfi_schedule.proofs.Least.{none_left, some_or_none, next_of, first_of}
use Rattle.onfi_schedule.proofs.Exchange.{not_done}
use Rattle.onfi_schedule.proofs.Earlier.{earlier_legal}

pub first_move_law : FirstMoveLaw
first_move_law p s move start left ip lg next =
    let f = first_of p s ip lg move start left next in
    let early = earlier_legal p move (earliest p move) start left f.is_move f.on_time f.legal in
    record { is_move = f.is_move; on_time = f.on_time; problem = kept p move start ip f.is_move; legal = f.legal; same_finish = f.same_finish; legal_at_earliest = early.0; no_later = omega (arith, early.1, f.same_finish) }

pub next_law : NextLaw
next_law p s ip lg left = elim (some_or_none (phases p s)) [ inl none ↦ absurd (left (none_left p s ip lg (rw none tt))) | inr some ↦ next_of p s ip lg some ]

pub done_law : DoneLaw
done_law p s ip lg = (
  λ done. elim (some_or_none (phases p s)) [
    | inl none ↦ none
    | inr some ↦ (let n = next_of p s ip lg some in absurd (not_done p n.0 done (first_of p s ip lg n.0 n.1 n.2 n.3).is_move))
  ],
  λ none. none_left p s ip lg (rw none tt),
)
