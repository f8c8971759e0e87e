-- The opening state.
use Rattle.std.proofs.Common.{◌≡◌, ℕ, zero, suc, ◌+◌, ◌<◌, ◌^◌, ◌⊎◌, inl, inr, false, List, [], Some, None, refl, sym, ◌∙◌, arith}
use Rattle.std.specs.Prelude.{slice_get, replicate}
use Rattle.std.specs.List.{flat_map}
use Rattle.std.proofs.lemmas.List.{length-replicate}
use Rattle.onfi_request.specs.declared.request.Item.{Item}
use Rattle.onfi_timing.specs.declared.timing.Timing.{Timing}
use Rattle.onfi_request.specs.declared.fault.Fault.{Fault}
use Rattle.onfi_request.specs.declared.want.Want.{Want}
use Rattle.onfi_group.specs.Words.{number}
use Rattle.onfi_problem.specs.Problem.{has_id, IsProblem}
use Rattle.onfi_problem.specs.declared.lun_state.LunState.TheVariants.{Free, Running}
use Rattle.onfi_schedule.specs.Schedule.{Legal, rest_phases}
use Rattle.onfi_die.specs.Shapes.{Device, device_of}
use Rattle.onfi_chip.specs.Chip.{Failures}
use Rattle.onfi_chip.specs.Chip.Lun.{Idle}
use Rattle.onfi_core.specs.declared.setup.Choice.{Choice}
use Rattle.onfi_core.specs.declared.setup.Choice.TheVariants.{InOrder, NextPhase}
use Rattle.onfi_problem.specs.Moves.{free_from}
use Rattle.onfi_core.specs.Kept.{GoesBy, first_books, first_left, IsSound, first_half, unposted, first_problem, first, IsReached, LunAgrees, commanding}
use Rattle.onfi_core.specs.declared.setup.Setup.{Setup}

-- each is that one
pub get_same : {A : Type 0} (n : ℕ) (x : A) (i : ℕ) → (slice_get (replicate n x) i ≡ None) ⊎ (slice_get (replicate n x) i ≡ Some x)
get_same zero x i = inl refl
get_same (suc n) x zero = inr refl
get_same (suc n) x (suc i) = get_same n x i

pub same_element : {A : Type 0} (n : ℕ) (x : A) (i : ℕ) (y : A) → slice_get (replicate n x) i ≡ Some y → x ≡ y
same_element n x i y h = let c = get_same n x i in elim c [ inl k ↦ (let e = sym k ∙ h in cc) | inr k ↦ (let e = sym k ∙ h in cc) ]

no_phase : (timing : Timing) (from n : ℕ) → rest_phases timing from (replicate n (Free 0)) (replicate n []) ≡ []
no_phase timing from zero = refl
no_phase timing from (suc n) = no_phase timing (from + 1) n

-- on each of them the chip's LUN does nothing
pub idle : (device : Device) (items : List Item) (n i : ℕ) → LunAgrees device items (slice_get (replicate n (Free 0)) i) (slice_get (replicate n Idle) i)
idle device items zero i = refl
idle device items (suc n) zero = refl
idle device items (suc n) (suc i) = idle device items n i

nothing_commanded : (n i : ℕ) → commanding (slice_get (replicate n (Free 0)) i) ≡ []
nothing_commanded n i = elim (get_same n (Free 0) i) [ inl k ↦ rw k refl | inr k ↦ rw k refl ]

pub none_running : (n lun : ℕ) (group : List Want) (next ready : ℕ) → slice_get (replicate n (Free 0)) lun ≡ Some (Running group next ready) → ⊥
none_running n lun group next ready h = let e = same_element n (Free 0) lun _ h in cc

pub opened_legal : (s : Setup) → Legal (first_problem s) (record { rest = replicate s.geometry.lun_count []; groups = [] })
opened_legal s = record {
  shape = record {
    luns = length-replicate s.geometry.lun_count [] ∙ sym (length-replicate s.geometry.lun_count (Free 0));
    rest = λ lun group next ready starts h k. absurd (none_running s.geometry.lun_count lun group next ready h);
    no_rest = λ lun since starts h k. sym (same_element s.geometry.lun_count [] lun starts k);
    starts = tt;
    wants_only = tt;
    once = λ id. refl;
  };
  from_bus_free = let e = no_phase s.timing 0 s.geometry.lun_count in rw e tt;
  no_overlap = let e = no_phase s.timing 0 s.geometry.lun_count in rw e tt;
  rest_waits = λ lun group next ready starts h k. absurd (none_running s.geometry.lun_count lun group next ready h);
  waits = tt;
  running_first = tt;
  turns = tt;
  from_since = tt;
  block_order = tt;
  group = tt;
}

nothing_unposted : (i n : ℕ) → number (has_id i) (flat_map unposted (replicate n (Free 0))) ≡ 0
nothing_unposted i zero = refl
nothing_unposted i (suc n) = nothing_unposted i n

opened_problem : (s : Setup) → IsProblem (first_problem s)
opened_problem s = record { wants = tt; in_range = tt; ids = tt; running = λ lun group next ready h. absurd (none_running s.geometry.lun_count lun group next ready h) }

free_in_time : (n lun : ℕ) → free_from (slice_get (replicate n (Free 0)) lun) < 2 ^ 62
free_in_time zero lun = omega arith
free_in_time (suc n) zero = omega arith
free_in_time (suc n) (suc lun) = free_in_time n lun

-- it goes on by what the setup chose
opened_way : (s : Setup) (choice : Choice) → s.choice ≡ choice → GoesBy s (first_books choice s) (first_problem s) (first_left choice s) (record { planned = 0; accepted = 0; outdated = false; stopped = None })
opened_way s InOrder is = record { choice = is; few = omega arith; legal = opened_legal s }
opened_way s NextPhase is = record {
  choice = is;
  waiting = refl;
  rules = refl;
  all = refl;
  current = refl;
  in_time = λ going. record { bus = omega arith; luns = λ lun. free_in_time s.geometry.lun_count lun };
}

pub opened_sound : (s : Setup) → IsSound s (first_half s)
opened_sound s = record {
  planned = omega arith;
  some_batch = s.some_batch;
  few_batch = s.small_batch;
  timing = refl;
  rules = refl;
  problem = opened_problem s;
  luns = length-replicate s.geometry.lun_count (Free 0);
  way = opened_way s s.choice refl;
  in_range = tt;
  wants = tt;
  running = λ lun group next ready h. absurd (none_running s.geometry.lun_count lun group next ready h);
  once = λ i. omega (arith, nothing_unposted i s.geometry.lun_count);
  last = tt;
}

pub opened : (s : Setup) (faults : List Fault) (failures : Failures) → IsReached s (first s faults failures)
opened s faults failures = record {
  half = record { sound = opened_sound s; held = tt; posted = tt; made = λ host. record { faults = tt; each = tt; within = tt; rise = tt } };
  chip = λ going. record {
    geometry = refl;
    timing = refl;
    blocks = λ lun block. record { ran = []; contents = refl; order = let e = nothing_commanded s.geometry.lun_count lun in rw e refl };
    luns = λ lun. idle (device_of s.geometry faults) [] s.geometry.lun_count lun;
  };
  sent = refl;
  in_range = tt;
  hosts = tt;
  fit = λ host. omega arith;
  serials = λ host. tt;
  collected = λ host. ([], refl);
}
