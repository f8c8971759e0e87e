use Rattle.std.proofs.Common.{Result, Ok, Err, OnOk, refl, ap}
use Rattle.std.proofs.lemmas.Result.{on_ok_weaker, on_err_weaker}
use Rattle.onfi_chip.specs.Sim.{Sim, request_in, over_at}
use Rattle.onfi_chip.proofs.Lanes.{lane_open, sim_set, chip_back, more_added, last_added}
use Rattle.onfi_chip.proofs.dies.Dies.add.Goals as goal

both : {T E P Q R : Type 0} (r : Result T E) → (P → Q → R) → OnOk r P → OnOk r Q → OnOk r R
both (Ok x) f p q = f p q
both (Err e) f p q = tt

pub invariant_of-self-in-Last : goal.invariant_of-self-in-Last
invariant_of-self-in-Last c =
    let s = c.self.inside in
    sim_set s.geometry s.store c.close.new.store s.lanes.items c.from.result c.close.new.lane c.self.invariant c.close.ensures.device c.close.ensures.others c.close.ensures.formed

pub returns-in-More-clause-ok : goal.returns-in-More-clause-ok
returns-in-More-clause-ok c =
    let s = c.self.inside in
    let l = lane_open s.lanes.items c.args.self.now.luns c.from.result c.args.member.place.lun (ap (λ (y : Sim). y.luns) c.self.view_is) c.from.ensures c.requires.open in
    on_ok_weaker c.queue.result
    (more_added s.geometry s.timing s.store s.lanes.items c.args.self.now c.from.result c.index_mut-lane.result.now c.queue.new.self (request_in c.args.member) (over_at c.args.wait) c.args.closer c.self.view_is l c.index_mut-lane.ensures.value c.from.ensures c.in-More.is)
    c.queue.ensures.ok

pub returns-in-More-clause-err : goal.returns-in-More-clause-err
returns-in-More-clause-err c =
    let s = c.self.inside in
    on_err_weaker c.queue.result
    (λ h. chip_back s.geometry s.timing s.store s.store s.lanes.items c.from.result c.index_mut-lane.result.now c.queue.new.self c.args.self.now c.self.view_is c.index_mut-lane.ensures.value h refl)
    c.queue.ensures.err

pub returns-in-Last-clause-ok : goal.returns-in-Last-clause-ok
returns-in-Last-clause-ok c =
    let s = c.self.inside in
    let l = lane_open s.lanes.items c.args.self.now.luns c.from.result c.args.member.place.lun (ap (λ (y : Sim). y.luns) c.self.view_is) c.from.ensures c.requires.open in
    both c.close.result
    (last_added s.geometry s.timing s.store c.close.new.store s.lanes.items c.args.self.now c.from.result c.index_mut-lane.result.now c.close.new.lane (request_in c.args.member) (over_at c.args.wait) c.args.closer c.self.view_is l c.index_mut-lane.ensures.value c.from.ensures c.in-Last.is c.self.invariant.shape c.close.ensures.device)
    c.close.ensures.blocks c.close.ensures.posting

pub returns-in-Last-clause-err : goal.returns-in-Last-clause-err
returns-in-Last-clause-err c =
    let s = c.self.inside in
    on_err_weaker c.close.result
    (λ h. chip_back s.geometry s.timing s.store c.close.new.store s.lanes.items c.from.result c.index_mut-lane.result.now c.close.new.lane c.args.self.now c.self.view_is c.index_mut-lane.ensures.value h.0 h.1)
    c.close.ensures.err
