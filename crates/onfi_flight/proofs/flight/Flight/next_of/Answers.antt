use Rattle.std.proofs.Common.{◌≡◌, None, Some, inl, inr, refl, sym, ap, ◌∙◌, arith}
use Rattle.std.specs.Prelude.{slice_get}
use Rattle.onfi_problem.specs.declared.lun_state.LunState.TheVariants.{Free, Running}
use Rattle.onfi_flight.specs.Flight.{Flight}
use Rattle.onfi_flight.proofs.Begins.{next_is_due, next_is_stuck, nothing_runs}
use Rattle.onfi_flight.proofs.flight.Flight.next_of.Goals.{then-next-max-via-then-next-max, then-next-max-via-else-next-max+then-len-from}
use Rattle.onfi_flight.proofs.flight.Flight.next_of.Goals as goal

pub returns-in_default : goal.returns-in_default
returns-in_default c = nothing_runs c.args.self.now c.args.next c.requires.turn (λ group phase ready there.
    let e : None ≡ Some (Running group phase ready) = sym c.in_default.ensures.state ∙ there in
    cc)

pub returns-in_default-state : goal.returns-in_default-state
returns-in_default-state c = nothing_runs c.args.self.now c.args.next c.requires.turn (λ group phase ready there.
    let other = c.in_default-state in
    let e : Some (Free other.field-0) ≡ Some (Running group phase ready) = sym (c.in-Some.ensures.state ∙ ap Some other.is) ∙ there in
    cc)

pub returns-then-next-max : goal.returns-then-next-max
returns-then-next-max c =
    let f = c.args.self.now in
    let run = c.in-Running in
    let there : slice_get f.now.luns c.args.next.at ≡ Some (Running run.group run.phase run.ready) = c.in-Some.ensures.state ∙ ap Some run.is in
    let bus = ap (λ (x : Flight). x.now.bus_free) c.self.view_is in
    next_is_stuck f c.args.next c.requires.turn run.group run.phase run.ready there (elim c.then-next-max.branch [
      | then-next-max-via-then-next-max w ↦ inl (omega (arith, bus, c.max.ensures, w.if-next-max.true))
      | then-next-max-via-else-next-max+then-len-from w ↦ inr (omega (arith, w.len.ensures.value, w.from.ensures, w.if-len-from.true))
    ])

pub overflow_cast-result : goal.overflow_cast-result
overflow_cast-result c = omega (arith, c.in-Some.ensures.few)

pub returns : goal.returns
returns c =
    let f = c.args.self.now in
    let run = c.in-Running in
    let there : slice_get f.now.luns c.args.next.at ≡ Some (Running run.group run.phase run.ready) = c.in-Some.ensures.state ∙ ap Some run.is in
    let bus = ap (λ (x : Flight). x.now.bus_free) c.self.view_is in
    next_is_due f c.args.next c.requires.turn run.group c.copy.result run.phase run.ready c.args.next.at there (omega (arith, bus, c.max.ensures, c.if-next-max.false))
    (omega (arith, c.len.ensures.value, c.from.ensures, c.if-len-from.false)) c.requires.time c.copy.ensures refl
