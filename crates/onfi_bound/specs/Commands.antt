-- How many commands of each operation are left, and what a walk keeps beside them.
use Rattle.std.specs.Prelude.{◌≡◌, ℕ, ◌+◌, if◌then◌else◌, length}
use Rattle.onfi_timing.specs.Kinds.{operation_of}
use Rattle.onfi_timing.specs.declared.operation.Operation.{Operation}
use Rattle.onfi_timing.specs.declared.operation.Operation.TheVariants.{Read, Program, Erase}
use Rattle.onfi_request.specs.declared.want.Want.{Want}
use Rattle.onfi_group.specs.Words.{total}
use Rattle.onfi_group.specs.Group.{group_operation, kind_of}
use Rattle.onfi_problem.specs.declared.lun_state.LunState.{LunState}
use Rattle.onfi_problem.specs.declared.lun_state.LunState.TheVariants.{Free, Running}
use Rattle.onfi_problem.specs.Problem.{Problem}
use Rattle.onfi_problem.specs.Left.{commands_left}
use Rattle.onfi_bound.specs.declared.commands.Commands.{Commands}
use Rattle.onfi_bound.specs.declared.node.NodeBounds.{NodeBounds}
use Rattle.onfi_bound.specs.Bounds.{bus, same_operation}

-- those of that operation that are left of a LUN's running group
abbrev pub commands_on : Operation → LunState → ℕ
commands_on operation (Free since) = 0
commands_on operation (Running group next ready) = if same_operation operation (group_operation group) then commands_left (length group) next else 0

-- a want of that operation has one
abbrev pub one_of : Operation → Want → ℕ
one_of operation w = if same_operation operation (operation_of w.kind) then 1 else 0

abbrev pub commands_of : Problem → Operation → ℕ
commands_of p operation = total (commands_on operation) p.luns + total (one_of operation) p.wants

abbrev pub count_of : Commands → Operation → ℕ
count_of counts Read = counts.read
count_of counts Program = counts.program
count_of counts Erase = counts.erase

-- the counts are those of the commands that are left to the problem
abbrev pub AreCommands : Problem → Commands → Type 0
AreCommands p counts = (operation : Operation) → count_of counts operation ≡ commands_of p operation

-- the bus bound and the commands are those of the problem
pub record AreNodeBounds (p : Problem) (bounds : NodeBounds) : Type 0 where
  pub bus : bounds.bus ≡ bus p
  pub commands : AreCommands p bounds.commands
