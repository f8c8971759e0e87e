-- A node that is known, and a problem that goes on no sooner.
use Rattle.std.proofs.Common.{◌≡◌, ◌≤◌, ◌<◌, ℕ, List, refl, arith}
use Rattle.std.specs.Prelude.{slice_get, slice_index, Some}
use Rattle.onfi_request.specs.declared.want.Want.{Want}
use Rattle.onfi_problem.specs.Problem.{Problem}
use Rattle.onfi_problem.specs.Left.{InLimits}
use Rattle.onfi_demand.specs.Demand.{Meets}
use Rattle.onfi_demand.proofs.Opened.{left_there}
use Rattle.onfi_known_check.specs.Proves.{Describes, IsAgain, times_of}
use Rattle.onfi_known_check.specs.declared.known.Known.{Known}
use Rattle.onfi_known_plan.specs.Times.{AreTimes}

-- no LUN may go on sooner than the node asks
met_by : (p : Problem) (times : List ℕ) (known : Known) → InLimits p → AreTimes p times → ((lun : ℕ) → lun < 8 → slice_index known.times lun ≤ slice_index times lun) → Meets p (times_of known)
met_by p times known limits are asks = record {
  bus = omega arith;
  luns = λ lun has.
      let few = limits.small.few_luns in
      let there = left_there p lun limits.problem has in
      let own = are lun there in
      let asked = asks lun (omega arith) in
      omega arith;
}

-- so the node closes the problem, where it has the same left
pub again_by : (all : List Want) (p : Problem) (nodes : List Known) (number : ℕ) (times : List ℕ) (known : Known) → InLimits p → AreTimes p times → slice_get nodes number ≡ Some known → Describes all known p → ((lun : ℕ) → lun < 8 → slice_index known.times lun ≤ slice_index times lun) → IsAgain all p nodes number (record { bus = 0; luns = known.times })
again_by all p nodes number times known limits are at describes asks = (known, at, describes, met_by p times known limits are asks, record { bus = refl; luns = λ lun small. refl })
