use Rattle.std.proofs.Common.{◌≡◌, ◌<◌, ◌≤◌, None, sym, subst, ap, ◌∙◌, arith}
use Rattle.std.specs.List.{AllByRecursion as All}
use Rattle.onfi_request.specs.declared.want.Want.{Want}
use Rattle.onfi_core.specs.State.{want_of}
use Rattle.onfi_core.specs.Steps.{accept_refusal}
use Rattle.onfi_core.specs.Ways.{way_with}
use Rattle.onfi_core.specs.View.{HalfView, IsNext}
use Rattle.onfi_core.proofs.Accept.{wants_below}
use Rattle.onfi_core.proofs.Plan.{is_want}
use Rattle.onfi_core.proofs.Window.{few_wait, fields_accepted, places_fit}
use Rattle.onfi_core.proofs.half.Half.accept.Goals as goal

pub overflow_add-self : goal.overflow_add-self
overflow_add-self c = omega (arith, places_fit _ c.self.invariant.numbered, c.self.invariant.count)

pub accept-requires-clause-plane : goal.accept-requires-clause-plane
accept-requires-clause-plane c =
    let next = subst (λ (h : HalfView). IsNext h.setup h.state c.args.item) (sym c.self.view_is) c.requires.next in
    subst (λ (w : Want). w.plane ≤ 3) (sym c.want_of-want.ensures) (is_want c.self.inside.setup c.self.inside.accepted c.args.item next.in_range).plane

pub accept-requires-clause-lun : goal.accept-requires-clause-lun
accept-requires-clause-lun c =
    let next = subst (λ (h : HalfView). IsNext h.setup h.state c.args.item) (sym c.self.view_is) c.requires.next in
    let low = next.in_range.lun in
    let e = ap (λ (w : Want). w.lun) c.want_of-want.ensures in
    let l = c.self.invariant.sound.luns in
    omega (arith, low, e, l)

pub accept-requires-clause-room : goal.accept-requires-clause-room
accept-requires-clause-room c =
    let open' = subst (λ (h : HalfView). accept_refusal h.state ≡ None) (sym c.self.view_is) c.requires.open in
    few_wait c.self.inside.setup _ c.self.invariant.sound open'

pub accept-requires-clause-next : goal.accept-requires-clause-next
accept-requires-clause-next c =
    let e = ap (λ (w : Want). w.id) c.want_of-want.ensures ∙ c.self.invariant.count in
    subst (λ n. All (λ (w : Want). w.id < n) c.self.inside.way.now.wants) (sym e) (wants_below c.self.inside.setup _ c.self.invariant.sound c.args.item)

pub planned_with-self-inside-requires : goal.planned_with-self-inside-requires
planned_with-self-inside-requires c = omega (arith, places_fit _ c.self.invariant.numbered, c.self.invariant.sound.planned)

pub invariant_of-self : goal.invariant_of-self
invariant_of-self c =
    let f = c.self.invariant in
    let e = c.with_accepted-self-inside.ensures in
    let i = c.insert_reserved.ensures in
    let v = sym c.self.view_is in
    let open' = subst (λ (h : HalfView). accept_refusal h.state ≡ None) v c.requires.open in
    let next = subst (λ (h : HalfView). IsNext h.setup h.state c.args.item) v c.requires.next in
    let way = c.accept.ensures ∙ ap (λ (w : Want). way_with w c.self.inside.way) (c.want_of-want.ensures ∙ ap (λ n. want_of c.self.inside.setup.geometry n c.args.item) f.count) in
    fields_accepted _ _ _ _ _ _ _ _ _ _ _ c.args.item _ _ _ _ _ f open' next i.updates i.capacity i.len i.key_in_range i.was_vacant e.0 e.1 e.2 e.3 way c.planned_with-self-inside.ensures
