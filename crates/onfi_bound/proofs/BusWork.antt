-- A move takes from the work that is left.
use Rattle.std.proofs.Common.{ℕ, ◌+◌, ◌≤◌, arith}
use Rattle.onfi_problem.specs.Moves.{Move, Next, Start, IsMove, earliest, placed, after}
use Rattle.onfi_problem.specs.Problem.{Problem, IsProblem}
use Rattle.onfi_group.proofs.PhaseLengths.{phase_some}
use Rattle.onfi_problem.specs.Left.{work}
use Rattle.onfi_bound.proofs.BusBound.{bus_placed}

pub work_placed : (p : Problem) (m : Move) (t : ℕ) → IsProblem p → IsMove p m → work (placed p m t) + 1 ≤ work p
work_placed p (Next l) t ip (g, n, r, at) =
    let one = phase_some p.timing g n (ip.running l g n r at).unfinished in
    let all = bus_placed p (Next l) t ip (g, n, r, at) in
    rw at (let behind = rw at at all in omega arith)
work_placed p (Start ms) t ip (since, at, st) =
    let some = st.group.some in
    let one = phase_some p.timing ms 0 (omega arith) in
    let all = bus_placed p (Start ms) t ip (since, at, st) in
    omega arith

pub work_after : (p : Problem) (m : Move) → IsProblem p → IsMove p m → work (after p m) + 1 ≤ work p
work_after p m ip im = work_placed p m (earliest p m) ip im
