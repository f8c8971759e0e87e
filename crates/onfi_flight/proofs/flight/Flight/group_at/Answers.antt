use Rattle.std.proofs.Common.{◌≡◌, get_or, Some, refl, sym, ap, ◌∙◌}
use Rattle.std.specs.Prelude.{slice_get}
use Rattle.std.proofs.lemmas.Option.{slice_get_read}
use Rattle.onfi_schedule.specs.Schedule.{Placed}
use Rattle.onfi_flight.specs.Flight.{Flight}
use Rattle.onfi_flight.proofs.flight.Flight.group_at.Goals as goal

pub returns : goal.returns
returns c =
    let g = c.index-groups-place.result in
    let same = c.groups.ensures.value ∙ ap (λ (f : Flight). f.left.groups) c.self.view_is in
    let there : slice_get c.args.self.now.left.groups c.args.place ≡ Some g = slice_get_read c.args.self.now.left.groups _ c.args.place g refl c.requires (c.index-groups-place.is ∙ ap (λ gs. get_or gs c.args.place g) same) in
    (g.starts, there ∙ ap (λ ms. let x : Placed = record { members = ms; starts = g.starts } in Some x) (sym c.members.ensures))
