-- The bus after a line.
use Rattle.std.proofs.Common.{◌≤◌, List, [], Option, None, Some, inl, inr, arith}
use Rattle.std.specs.Prelude.{slice_get}
use Rattle.std.proofs.lemmas.Bool.{cases_Bool}
use Rattle.onfi_request.specs.declared.want.Want.{Want}
use Rattle.onfi_audit.specs.declared.line.Line.{Line}
use Rattle.onfi_audit.specs.declared.stage.LunStage.{LunStage}
use Rattle.onfi_audit.specs.declared.stage.LunStage.TheVariants as stage
use Rattle.onfi_audit.specs.Audit.{Audit, after_on, first_at, joined_by}
use Rattle.onfi_audit.specs.Laws.{BusLaw}

after_joining : (a : Audit) (line : Line) (ms : List Want) (o : Option Want) → a.bus_free ≤ (joined_by a line ms o).bus_free
after_joining a line ms None = omega arith
after_joining a line ms (Some w) = omega arith

free_after : (a : Audit) (line : Line) (o : Option LunStage) → a.bus_free ≤ (after_on a line o).bus_free
free_after a line None = omega arith
free_after a line (Some (stage.Free since)) = after_joining a line [] (first_at a.wants line.lun line.block)
free_after a line (Some (stage.Running group next ready)) = omega arith
free_after a line (Some (stage.Open group more ready)) = elim (cases_Bool line.is_post) [
  | inl post ↦ rw post (omega arith)
  | inr command ↦ rw command (after_joining a line group (first_at a.wants line.lun line.block))
]

pub bus_law : BusLaw
bus_law a line = free_after a line (slice_get a.luns line.lun)
