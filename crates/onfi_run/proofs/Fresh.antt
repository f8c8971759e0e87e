-- Hosts as they open.
use Rattle.std.proofs.Common.{◌≡◌, ℕ, ◌+◌, List, [], ◌∷◌, map, refl, sym, ap, ◌∙◌, subst, arith}
use Rattle.std.specs.List.{AllByRecursion as Each}
use Rattle.std.proofs.lemmas.List.FromFn.{map-range_with_len_more}
use Rattle.std.proofs.lemmas.Simd.{map-map}
use Rattle.onfi_queue.specs.Ends.{HostView, IntakeView, four_hosts}
use Rattle.onfi_script.specs.declared.row.Row.{Row}
use Rattle.onfi_run.specs.declared.port.Port.{Port}
use Rattle.onfi_run.specs.declared.station.Station.{Station}
use Rattle.onfi_run.specs.Answers.{awaiting}
use Rattle.onfi_run.specs.ByHost.{host_numbers, with_each}
use Rattle.onfi_run.specs.Keys.{port_places, ports_of}
use Rattle.onfi_run.specs.Opening.{AreNew, AreNewPorts, IsUnsent}
use Rattle.onfi_run.specs.Arriving.{expected_of, expected_on}
use Rattle.onfi_run.specs.Report.{AnswersView, places}
use Rattle.onfi_run.proofs.ByHost.{each_with, told_with}
use Rattle.onfi_run.proofs.Suited.{places_awaited}

unsent : (ports : List Port) → Each (λ (h : HostView). h.sent ≡ []) (map (λ (p : Port). p.host) ports) → Each IsUnsent ports
unsent [] all = tt
unsent (p ∷ ports) (here, all) = (here, unsent ports all)

no_places : (rows : List Row) (channel : ℕ) (hosts : List ℕ) → map places (map (λ host. awaiting (expected_on rows host channel)) hosts) ≡ map (λ host. expected_on rows host channel) hosts
no_places rows channel [] = refl
no_places rows channel (host ∷ hosts) =
    ap (λ k. k ∷ map places (map (λ h. awaiting (expected_on rows h channel)) hosts)) (places_awaited (expected_on rows host channel)) ∙ ap (λ l. expected_on rows host channel ∷ l) (no_places rows channel hosts)

pub new_ports : (rows : List Row) (channel : ℕ) (t : IntakeView) (ports : List Port) (got : List AnswersView) → map (λ (p : Port). p.host) ports ≡ four_hosts t
    → map (λ (p : Port). p.answers) ports ≡ got
    → got ≡ map (λ host. awaiting (expected_on rows host channel)) host_numbers → AreNewPorts rows channel ports
new_ports rows channel t ports got hosts answers is = record {
  unsent = unsent ports (subst (Each (λ (h : HostView). h.sent ≡ [])) (sym hosts) (refl, (refl, (refl, (refl, tt)))));
  places = sym (map-map places (λ (p : Port). p.answers) ports) ∙ ap (map places) (answers ∙ is) ∙ no_places rows channel host_numbers;
}

pub new_more : (rows : List Row) (channels : ℕ) (behind before : List Station) (ports : List Port)
    → map (λ (s : Station). s.number) behind ≡ map (λ (s : Station). s.number) before
    → ports_of behind ≡ with_each (ports_of before) ports → AreNew rows channels before → AreNewPorts rows channels ports → AreNew rows (channels + 1) behind
new_more rows channels behind before ports numbers more all one = record {
  numbers = numbers ∙ all.numbers;
  unsent = subst (Each (Each IsUnsent)) (sym more) (each_with IsUnsent (ports_of before) ports all.unsent one.unsent);
  places =
      ap (map (map port_places)) more
      ∙ told_with port_places (expected_of rows channels) (λ host. expected_on rows host channels) (expected_of rows (channels + 1)) host_numbers (ports_of before) ports
      (λ host. sym (map-range_with_len_more (expected_on rows host) 0 channels channels (omega arith))) all.places one.places;
}
