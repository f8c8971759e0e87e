use Rattle.std.proofs.Common.{◌≡◌, ◌∙◌, ap, sym, subst, true}
use Rattle.std.specs.Prelude.{slice_get}
use Rattle.onfi_core.specs.declared.way.By.TheVariants as by
use Rattle.onfi_core.specs.State.{Way}
use Rattle.onfi_core.specs.Steps.{is_in_array}
use Rattle.onfi_core.specs.Ways.{way_in}
use Rattle.onfi_core.proofs.Booked.{array_runs}
use Rattle.onfi_core.proofs.way.Way.ready.Goals as goal

pub ready-requires : goal.ready-requires
ready-requires c =
    let same : way_in (by.Plan c.in-Plan.flight) ≡ c.args.self.now = sym (ap way_in c.in-Plan.is) ∙ c.self.view_is in
    array_runs _ (subst (λ (w : Way). is_in_array (slice_get w.now.luns c.args.lun) ≡ true) (sym same) c.requires.in_array)
