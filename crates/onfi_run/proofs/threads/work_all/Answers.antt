use Rattle.std.proofs.Common.{◌∙◌, arith, get_or, map, sym}
use Rattle.std.proofs.lemmas.Simd.{map-map}
use Rattle.onfi_run.specs.declared.station.Station.{Station}
use Rattle.onfi_run.specs.declared.threads.Worker.TheVariants.{Unused}
use Rattle.onfi_run.specs.Keys.{port_key}
use Rattle.onfi_run.proofs.ByHost.{map_by_place}
use Rattle.onfi_run.proofs.threads.work_all.Goals as goal

pub returns : goal.returns
returns g c =
    let started = c.in_ok-workers.ensures.ok in
    let finished = c.map.ensures.items in
    let ports = λ (s : Station). s.ports.items in
    let same = map_by_place (λ s. map port_key s.ports.items) (λ s. map port_key s.ports.items) c.args.stations c.map.result 4 (omega arith) finished.long
    (λ i d e h.
    let s = started.at i d (Unused d) h in
    let f = finished.at i (Unused d) e h in
    f.2.met.1 s.0.2.now.rows.now (get_or c.args.stations i d).number _ s.2.met.1) in
    map-map (map port_key) ports c.map.result ∙ same ∙ sym (map-map (map port_key) ports c.args.stations)
