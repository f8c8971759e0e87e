-- What a token that closes a node shows.
use Rattle.std.proofs.Common.{◌≡◌, ℕ, ◌≤◌, List, length, refl, arith}
use Rattle.std.specs.Prelude.{IfNone, IfOk, IfSome, Option, Some, None, Result, Ok, Err}
use Rattle.onfi_problem.specs.Left.{InLimits}
use Rattle.onfi_problem.specs.Position.{Position}
use Rattle.onfi_problem.proofs.Places.{within_get}
use Rattle.onfi_demand.specs.declared.demand.Demand.{Demand as Kept}
use Rattle.onfi_demand.proofs.Keeping.{kept_asks, left_few}
use Rattle.onfi_known_check.specs.declared.known.Known.{Known}
use Rattle.onfi_problem.specs.Problem.{Problem}
use Rattle.onfi_known_check.specs.declared.token.Token.{Token}
use Rattle.onfi_known_check.specs.declared.token.Token.TheVariants.{Branch, Bus, Lead, Trail, Die, Yield, End, Window, Again}
use Rattle.onfi_known_check.specs.declared.token.TheConstants.{MOST_KNOWN}
use Rattle.onfi_known_check.specs.Closing.{Closes, closing_demand}
use Rattle.onfi_known_check.specs.Proves.{IsAgain, closed, again}
use Rattle.onfi_known_check.proofs.Sound.{closing_asks}
use Rattle.onfi_known_plan.specs.declared.closing.Closing.{Closing}
use Rattle.onfi_known_plan.specs.Text.{nodes_at}
use Rattle.onfi_known_plan.specs.Walks.{ClosesBy, IsClosing}

-- what closes a node by a bound is the node's token
closing_node : (p : Problem) (e : ℕ) (token : Token) → Closes p e token → nodes_at token ≡ 1
closing_node p e (Branch width) c = absurd c
closing_node p e Bus c = refl
closing_node p e Lead c = refl
closing_node p e Trail c = refl
closing_node p e (Die lun) c = refl
closing_node p e (Yield lun) c = absurd c
closing_node p e End c = refl
closing_node p e (Window start tail) c = refl
closing_node p e (Again number) c = absurd c

-- by a bound
pub closed_by : (e : ℕ) (x : Position) (known : List Known) (closing : Closing) → InLimits x.problem → ClosesBy x.problem e closing → IsClosing e x known closing
closed_by e x known closing limits c = record {
  in_range = c.in_range;
  node = closing_node x.problem e closing.token c.closes;
  met = (kept_asks x.problem e closing.demand (closing_demand x.problem e closing.token) limits.problem limits.small c.asks (closing_asks x.problem e closing.token limits.problem c.closes)).meets;
  proves = λ rest. closed x.problem known closing.token closing.demand rest c.closes c.asks;
}

-- by a window, where one is found
pub windows_close : {E : Type 0} (e : ℕ) (x : Position) (known : List Known) (found : Result (Option Closing) E) → InLimits x.problem → IfOk found (λ o. IfSome o (ClosesBy x.problem e)) → IfOk found (λ o. IfSome o (IsClosing e x known))
windows_close e x known (Ok (Some closing)) limits c = closed_by e x known closing limits c
windows_close e x known (Ok None) limits c = tt
windows_close e x known (Err fault) limits c = tt

-- a node that no bound closes is open, whatever is found
pub open_still : {E : Type 0} (P : Type 0) (found : Result (Option Closing) E) → P → IfOk found (λ o. IfNone o P)
open_still P (Ok (Some closing)) p = tt
open_still P (Ok None) p = p
open_still P (Err fault) p = tt

-- by a node that is known
pub closed_again : (e : ℕ) (x : Position) (known : List Known) (number : ℕ) (d : Kept) → InLimits x.problem → length known ≤ MOST_KNOWN → IsAgain x.all x.problem known number d → IsClosing e x known (record { token = Again number; demand = d })
closed_again e x known number d limits few (k, at, describes, meets, kept) =
    let within = within_get known number k at in
    let b = kept.bus in
    record {
      in_range = omega arith;
      node = refl;
      met = record { bus = omega arith; luns = λ lun has. let a = kept.luns lun (left_few x.problem lun limits.problem limits.small has) in let m = meets.luns lun has in omega arith };
      proves = λ rest. again x.problem known number d rest (k, at, describes, meets, kept);
    }
