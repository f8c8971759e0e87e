use Rattle.std.proofs.Common.{◌≡◌, Result, Ok, Err, OnErr, ap, ◌∙◌}
use Rattle.std.proofs.lemmas.Result.{on_ok_weaker, on_err_weaker}
use Rattle.onfi_request.specs.declared.request.Request.{Request}
use Rattle.onfi_timing.specs.Kinds.{spans_of}
use Rattle.onfi_chip.specs.Sim.{Sim, chip_of}
use Rattle.onfi_chip.proofs.Lanes.{sim_still, chip_same, commanded_is, same_request, view}
use Rattle.onfi_chip.proofs.dies.Dies.take.Goals as goal

on_err : {A E P : Type 0} (r : Result A E) → P → OnErr r P
on_err (Ok x) p = tt
on_err (Err e) p = p

pub invariant_of-self : goal.invariant_of-self
invariant_of-self c = sim_still c.self.inside.geometry c.self.inside.store c.keep.new.self c.self.inside.lanes.items c.self.invariant c.keep.ensures.device c.keep.ensures.others

pub returns-in_err-keep-clause-err : goal.returns-in_err-keep-clause-err
returns-in_err-keep-clause-err c =
    let s = c.self.inside in
    on_err c.from_residual-in_err-keep.result
    (chip_same s.geometry s.timing s.store c.keep.new.self s.lanes.items c.args.self.now c.self.view_is c.keep.ensures.device c.keep.ensures.blocks)

pub invariant_of-self-2 : goal.invariant_of-self-2
invariant_of-self-2 c = sim_still c.self.inside.geometry c.self.inside.store c.keep.new.self c.self.inside.lanes.items c.self.invariant c.keep.ensures.device c.keep.ensures.others

pub returns-clause-ok : goal.returns-clause-ok
returns-clause-ok c =
    let s = c.self.inside in
    let r : Request = record { kind = c.args.opener; place = c.args.place; bytes = c.args.bytes.now } in
    let same : chip_of (view s.geometry s.timing c.keep.new.self s.lanes.items) ≡ chip_of c.args.self.now = chip_same s.geometry s.timing s.store c.keep.new.self s.lanes.items c.args.self.now c.self.view_is c.keep.ensures.device c.keep.ensures.blocks in
    let carried = same_request c.args.self.now.geometry c.args.opener c.args.place c.args.bytes.now c.in_ok-operation.operation c.requires.fits.data_length c.in_ok-operation.ensures.kind c.in_ok-operation.ensures.data in
    let spans : c.spans.result ≡ spans_of c.args.self.now.timing c.args.opener = c.spans.ensures ∙ ap (λ (y : Sim). spans_of y.timing c.args.opener) c.self.view_is in
    on_ok_weaker c.add.result
    (λ h. h ∙ commanded_is c.args.closer (chip_of c.args.self.now) _ r _ c.args.now c.hold-length.result c.spans.result same carried spans c.hold-length.ensures)
    c.add.ensures.ok

pub returns-clause-err : goal.returns-clause-err
returns-clause-err c =
    let s = c.self.inside in
    on_err_weaker c.add.result
    (λ h. h ∙ chip_same s.geometry s.timing s.store c.keep.new.self s.lanes.items c.args.self.now c.self.view_is c.keep.ensures.device c.keep.ensures.blocks)
    c.add.ensures.err
