-- What a certificate shows.
use Rattle.std.proofs.Common.{ℕ, List}
use Rattle.onfi_request.specs.declared.want.Want.{Want}
use Rattle.onfi_cert.specs.declared.token.Token.{Token}
use Rattle.onfi_problem.specs.Problem.{Problem, IsProblem, IsSmall}
use Rattle.onfi_schedule.specs.Schedule.{finish}
use Rattle.onfi_schedule.proofs.Least.{legal_run}
use Rattle.onfi_check.specs.Tree.{AcceptsTokens}
use Rattle.onfi_check.proofs.Sound.{sound}
use Rattle.onfi_known_check.specs.Laws.{NoneBefore}
use Rattle.onfi_known_check.proofs.Sound.{proved_is_below}
use Rattle.onfi_plan.specs.Certificate.{ShowsBelow}
use Rattle.onfi_plan.specs.declared.plan.Certificate.{Certificate}
use Rattle.onfi_plan.specs.declared.plan.Certificate.TheVariants.{Tokens, Text}

plain_below : (p : Problem) (tokens : List Token) (below : ℕ) → IsProblem p → AcceptsTokens tokens p below → NoneBefore p below
plain_below p tokens below ip (tree, is, accepts) s legal = let r = legal_run p s ip legal in sound tree p below ip accepts r.0 (finish p s) r.1

pub shown_below : (cert : Certificate) (all : List Want) (p : Problem) (below : ℕ) → IsProblem p → IsSmall p → ShowsBelow cert all p below → NoneBefore p below
shown_below (Tokens tokens) all p below ip small accepted = plain_below p tokens.items below ip accepted
shown_below (Text text) all p below ip small (tokens, is, proves) = proved_is_below all p tokens below ip small proves
