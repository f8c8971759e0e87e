use Rattle.std.proofs.Common.{◌≡◌, ◌+◌, ◌++◌, [], length, map, take, drop, suc, refl, sym, ap, ◌∙◌, arith, length-take-le}
use Rattle.std.specs.List.{list_any}
use Rattle.std.proofs.lemmas.List.{length-map, map-append}
use Rattle.onfi_calls.specs.InOrder.{is_odd_group}
use Rattle.onfi_calls.specs.Delay.{later_said, others}
use Rattle.onfi_calls.specs.PlainSchedule.{filled, no_group}
use Rattle.onfi_calls.proofs.RanInPlace.{none_before, none_behind, part_behind}
use Rattle.onfi_calls.proofs.delay.delay_groups.Goals as goal

pub put_groups-requires-in-Some-clause-good : goal.put_groups-requires-in-Some-clause-good
put_groups-requires-in-Some-clause-good c = none_before is_odd_group c.in-Some.at c.args.said.now c.requires.good

pub put_groups-requires-in-Some-2-clause-good : goal.put_groups-requires-in-Some-2-clause-good
put_groups-requires-in-Some-2-clause-good c = ap (list_any is_odd_group) (part_behind (c.in-Some.at + 1) c.args.said.now) ∙ none_behind is_odd_group (c.in-Some.at + 1) c.args.said.now c.requires.good

pub returns-in-None : goal.returns-in-None
returns-in-None c = λ wants.
    c.put_groups.ensures wants [] refl refl ∙ ap (λ o. filled 8 no_group (map (later_said c.args.by wants) (others o c.args.said.now))) (sym c.in-None.is)

pub returns-in-Some : goal.returns-in-Some
returns-in-Some c = λ wants.
    let f = later_said c.args.by wants in
    let at = c.in-Some.at in
    let said = c.args.said.now in
    let low = c.requires.place at c.in-Some.is in
    let front = map f (take at said) in
    let count : length front ≡ at = length-map (take at said) f ∙ length-take-le at said (omega (arith, low)) in
    let one : at + 1 ≡ suc at = omega arith in
    c.put_groups-in-Some-2.ensures wants front count (c.put_groups-in-Some.ensures wants [] refl refl)
    ∙ ap (λ xs. filled 8 no_group (front ++ map f xs)) (part_behind (at + 1) said) ∙ ap (λ n. filled 8 no_group (front ++ map f (drop n said))) one
    ∙ ap (filled 8 no_group) (sym (map-append f (take at said) (drop (suc at) said))) ∙ ap (λ o. filled 8 no_group (map f (others o said))) (sym c.in-Some.is)
