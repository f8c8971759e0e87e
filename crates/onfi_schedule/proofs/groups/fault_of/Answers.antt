use Rattle.std.proofs.Common.{◌-◌, get_or, length, refl}
use Rattle.onfi_schedule.specs.Tells.{IsSinglePlane}
use Rattle.onfi_schedule.proofs.Twos.{any_has}
use Rattle.onfi_schedule.proofs.Telling.{no_want, single_plane}
use Rattle.onfi_schedule.proofs.groups.fault_of.Goals as goal

pub returns-in-Some-clause-told : goal.returns-in-Some-clause-told
returns-in-Some-clause-told c = λ p s starts er there few not. c.in-Some.ensures.told p s starts er there

pub returns-in-Some-plane_order-clause-told : goal.returns-in-Some-plane_order-clause-told
returns-in-Some-plane_order-clause-told c = λ p s starts er there few not. c.in-Some-plane_order.ensures.told p s starts there

pub returns-clause-told : goal.returns-clause-told
returns-clause-told c = λ p s starts er there few not.
    let ms = c.args.members.now in
    any_has (IsSinglePlane p.rules (get_or ms 0 no_want).id (get_or ms (length ms - 1) no_want).id) s.groups (record { members = ms; starts = starts }) there
    (rw er (single_plane c.args.rules.now ms starts c.requires.some few not (c.in_default.ensures.none refl) (c.in_default-plane_order.ensures.none refl)))
