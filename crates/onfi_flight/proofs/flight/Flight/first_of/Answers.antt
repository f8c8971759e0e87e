use Rattle.std.proofs.Common.{◌≡◌, true, None, Some, sym, ap, ◌∙◌, subst, length, arith}
use Rattle.std.specs.Prelude.{max, slice_get}
use Rattle.onfi_group.specs.Group.{IsStartable, lun_of}
use Rattle.onfi_problem.specs.declared.lun_state.LunState.TheVariants.{Free, Running}
use Rattle.onfi_flight.specs.Flight.{Flight}
use Rattle.onfi_flight.proofs.Begins.{first_is_due, first_is_stuck}
use Rattle.onfi_flight.proofs.flight.Flight.first_of.Goals.{then-first-max-via-then-first-max, then-first-max-via-else-first-max+then-rest-lun}
use Rattle.onfi_flight.proofs.flight.Flight.first_of.Goals as goal

pub returns-in_default : goal.returns-in_default
returns-in_default c = first_is_stuck c.args.self.now c.args.first c.requires.turn _ c.group_at-group.ensures.1 (λ since free late startable low.
    let luns = c.args.self.now.now.luns in
    let e : None ≡ Some (Free since) = sym c.in_default.ensures.state ∙ ap (slice_get luns) (c.from-lun.ensures ∙ c.lun.ensures) ∙ free in
    cc)

pub returns-in_default-state : goal.returns-in_default-state
returns-in_default-state c = first_is_stuck c.args.self.now c.args.first c.requires.turn _ c.group_at-group.ensures.1 (λ since free late startable low.
    let luns = c.args.self.now.now.luns in
    let other = c.in_default-state in
    let e : Some (Free since) ≡ Some (Running other.field-0 other.field-1 other.field-2) =
    sym free ∙ ap (slice_get luns) (sym (c.from-lun.ensures ∙ c.lun.ensures)) ∙ c.in-Some.ensures.state ∙ ap Some other.is in
    cc)

pub returns-then-first-max : goal.returns-then-first-max
returns-then-first-max c =
    let f = c.args.self.now in
    let lun = c.from-lun.ensures ∙ c.lun.ensures in
    let free : slice_get f.now.luns (lun_of c.group_at-group.result.now) ≡ Some (Free c.in-Free.since) = ap (slice_get f.now.luns) (sym lun) ∙ c.in-Some.ensures.state ∙ ap Some c.in-Free.is in
    let bus = ap (λ (x : Flight). x.now.bus_free) c.self.view_is in
    let same = ap (λ (x : Flight). length x.left.rest) c.self.view_is in
    first_is_stuck f c.args.first c.requires.turn _ c.group_at-group.ensures.1 (λ since there late startable low.
    let e : Some (Free c.in-Free.since) ≡ Some (Free since) = sym free ∙ there in
    let one : c.in-Free.since ≡ since = cc in
    let top = ap (max f.now.bus_free) one in
    elim c.then-first-max.branch [
      | then-first-max-via-then-first-max w ↦ omega (arith, late, top, bus, c.max.ensures, w.if-first-max.true)
      | then-first-max-via-else-first-max+then-rest-lun w ↦ (let rest = ap length w.rest.ensures.value in omega (arith, low, lun, rest, same, w.if-rest-lun.true))
    ])

pub returns-then-not-is_startable : goal.returns-then-not-is_startable
returns-then-not-is_startable c = first_is_stuck c.args.self.now c.args.first c.requires.turn _ c.group_at-group.ensures.1 (λ since there late startable low.
    let inside = subst (λ (x : Flight). IsStartable x.now.rules c.wants.result.now c.group_at-group.result.now) (sym c.self.view_is)
    (subst (λ ws. IsStartable c.args.self.now.now.rules ws c.group_at-group.result.now) (sym c.wants.ensures.value) startable) in
    let yes : c.is_startable.result ≡ true = c.is_startable.ensures.1 inside in
    let no = c.if-not-is_startable.true in
    cc)

pub returns : goal.returns
returns c =
    let f = c.args.self.now in
    let lun = c.from-lun.ensures ∙ c.lun.ensures in
    let free : slice_get f.now.luns (lun_of c.group_at-group.result.now) ≡ Some (Free c.in-Free.since) = ap (slice_get f.now.luns) (sym lun) ∙ c.in-Some.ensures.state ∙ ap Some c.in-Free.is in
    let bus = ap (λ (x : Flight). x.now.bus_free) c.self.view_is in
    let rest = ap length c.rest.ensures.value in
    let same = ap (λ (x : Flight). length x.left.rest) c.self.view_is in
    let startable = subst (λ ws. IsStartable f.now.rules ws c.group_at-group.result.now) c.wants.ensures.value
    (subst (λ (x : Flight). IsStartable x.now.rules c.wants.result.now c.group_at-group.result.now) c.self.view_is (c.is_startable.ensures.0 c.if-not-is_startable.false)) in
    first_is_due f c.args.first c.requires.turn _ c.group_at-group.ensures.1 c.copy.result c.in-Free.since c.lun-2.result free (omega (arith, bus, c.max.ensures, c.if-first-max.false)) startable
    (omega (arith, lun, rest, same, c.if-rest-lun.false, c.lun-2.ensures)) c.requires.time c.copy.ensures c.lun-2.ensures
