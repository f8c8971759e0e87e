-- How many nodes a search may open.
use Rattle.std.specs.Prelude.{◌≤◌, ℕ}
use Rattle.onfi_script.specs.declared.command.Command.{Command}
use Rattle.onfi_script.specs.declared.command.Command.TheVariants.{Plan, Check, PlanBy, CheckWithin, Legal}

abbrev pub IsLimit : ℕ → Type 0
IsLimit limit = (1 ≤ limit) × (limit ≤ 1048576)

abbrev pub IsLimited : Command → Type 0
IsLimited (Plan limit trace) = IsLimit limit
IsLimited (PlanBy options) = IsLimit options.limit
IsLimited Check = Unit {0}
IsLimited CheckWithin = Unit {0}
IsLimited Legal = Unit {0}
