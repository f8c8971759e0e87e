-- What the bounds say of a node.
use Rattle.std.proofs.Common.{◌≡◌, ℕ, ◌≤◌, ◌<◌, inl, inr, sym, ap, subst}
use Rattle.std.proofs.lemmas.Bool.{cases_lt}
use Rattle.onfi_problem.specs.Problem.{Problem}
use Rattle.onfi_bound.specs.Bounds.{bus, lead, die}
use Rattle.onfi_bound.specs.declared.bound.Bound.{Bound}
use Rattle.onfi_bound.specs.declared.bound.Bound.TheVariants.{Bus, Lead, Trail, Die}
use Rattle.onfi_bound.specs.Reaching.{Reaches, NoneReaches}
use Rattle.onfi_cert.specs.declared.token.Token.TheVariants.{Die as DieToken}
use Rattle.onfi_check.specs.Tree.{Closing, ByDie, Closes, token_of}
use Rattle.onfi_check.specs.Nodes.{IsOpen}

less : (a e : ℕ) → (e ≤ a → ⊥) → a < e
less a e h = elim (cases_lt a e) [
  | inl k ↦ k
  | inr k ↦ absurd (h k)
]

pub none_open : (p : Problem) (e : ℕ) → NoneReaches p e → IsOpen e p
none_open p e none = record {
  bus = less (bus p) e (none Bus);
  lead = less (lead p) e (none Lead);
  trail = λ t q. less t e (λ k. none Trail (t, q, k));
  die = λ lun there. less (die p lun) e (λ k. none (Die lun) (there, k));
}

-- a die bound that reaches e, shown by a token of the same LUN
pub by_die : (p : Problem) (e lun n : ℕ) (b : Bound) → b ≡ Die lun → n ≡ lun → Reaches p e b → (c : Closing) × (token_of c ≡ DieToken n) × Closes p e c
by_die p e lun n b q k r = (ByDie lun, ap DieToken (sym k), subst (Reaches p e) q r)
