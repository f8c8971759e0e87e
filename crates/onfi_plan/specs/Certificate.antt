-- What certificates show.
use Rattle.std.specs.Prelude.{◌≡◌, ℕ, Bool, List, Vec}
use Rattle.std.specs.Global.{Global}
use Rattle.onfi_request.specs.declared.want.Want.{Want}
use Rattle.onfi_cert.specs.declared.token.Token.{Token}
use Rattle.onfi_cert.specs.Text.{IsCertificate as IsTokenText}
use Rattle.onfi_problem.specs.Problem.{Problem}
use Rattle.onfi_problem.specs.Position.{Position}
use Rattle.onfi_check.specs.Tree.{AcceptsTokens}
use Rattle.onfi_check.specs.Nodes.{OpensNodes}
use Rattle.onfi_known_check.specs.declared.token.Token.{Token as KnownToken}
use Rattle.onfi_known_check.specs.Proves.{ProvesTokens}
use Rattle.onfi_known_check.specs.Text.{IsCertificate}
use Rattle.onfi_plan.specs.declared.plan.Certificate.{Certificate}
use Rattle.onfi_plan.specs.declared.plan.Certificate.TheVariants.{Tokens, Text}
use Rattle.onfi_plan.specs.declared.plan.Plan.{Plan}

abbrev pub IsPlain : Certificate → Type 0
IsPlain cert = (tokens : Vec Token Global) × (cert ≡ Tokens tokens)

abbrev pub IsRemembering : Certificate → Type 0
IsRemembering cert = (text : Vec ℕ Global) × (cert ≡ Text text)

-- it is accepted for that number, under the problem's option; `all` are the wants that the problem began with
abbrev pub ShowsBelow : Certificate → List Want → Problem → ℕ → Type 0
ShowsBelow (Tokens tokens) all p below = AcceptsTokens tokens.items p below
ShowsBelow (Text text) all p below = (tokens : List KnownToken) × IsCertificate text.items p.rules.strict tokens × ProvesTokens all tokens p below

-- its text, under the problem's option
abbrev pub IsSpelled : Bool → Certificate → List ℕ → Type 0
IsSpelled strict (Tokens tokens) text = IsTokenText text strict tokens.items
IsSpelled strict (Text own) text = text ≡ own.items

-- the plain search opened as many nodes as the plan says, whatever the limit
abbrev pub IsCounted : Position → ℕ → Plan → Type 0
IsCounted x limit plan = OpensNodes x.problem plan.finish plan.opened
