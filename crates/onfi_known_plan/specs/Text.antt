-- What the text of a certificate shows.
use Rattle.std.specs.Prelude.{◌≡◌, ℕ, ◌+◌, List, [], ◌∷◌}
use Rattle.onfi_problem.specs.Problem.{Problem}
use Rattle.onfi_known_check.specs.declared.token.Token.{Token}
use Rattle.onfi_known_check.specs.declared.token.Token.TheVariants.{Yield}
use Rattle.onfi_known_check.specs.Text.{IsCertificate}
use Rattle.onfi_plan.specs.declared.plan.Certificate.{Certificate}
use Rattle.onfi_plan.specs.declared.plan.Certificate.TheVariants.{Tokens, Text}

-- each token is a node, but that of a move that yields
abbrev pub nodes_at : Token → ℕ
nodes_at (Yield lun) = 0
nodes_at _ = 1

-- how many nodes tokens have
abbrev pub nodes_in : List Token → ℕ
nodes_in [] = 0
nodes_in (token ∷ tokens) = nodes_at token + nodes_in tokens

-- a certificate that remembers states is the text of tokens with that many nodes, under the problem's option
abbrev pub HasNodesIn : Problem → Certificate → ℕ → Type 0
HasNodesIn p (Tokens tokens) n = ⊥
HasNodesIn p (Text text) n = (tokens : List Token) × IsCertificate text.items p.rules.strict tokens × (nodes_in tokens ≡ n)
