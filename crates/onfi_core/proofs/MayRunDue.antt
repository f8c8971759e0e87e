-- The due phase of a half that agrees with its chip may run on a LUN.
use Rattle.std.proofs.Common.{◌≡◌, ℕ, ◌-◌, ◌<◌, inl, inr, List, length, Some, take, sym, ap, subst, ◌∙◌, arith}
use Rattle.std.specs.Prelude.{slice_get, nat_lt, if◌then◌else◌}
use Rattle.std.proofs.lemmas.List.{length-map, length-take-le}
use Rattle.onfi_addr.specs.declared.geometry.Geometry.{Geometry}
use Rattle.onfi_request.specs.Range.{Fits}
use Rattle.onfi_request.specs.declared.request.Item.{Item}
use Rattle.onfi_request.specs.declared.want.Want.{Want}
use Rattle.onfi_group.specs.Group.{lun_of}
use Rattle.onfi_group.specs.Words.{Has}
use Rattle.onfi_problem.specs.declared.lun_state.LunState.TheVariants.{Free, Running}
use Rattle.onfi_problem.specs.Moves.{Move, Next, Start, IsMove, move_lun}
use Rattle.onfi_problem.specs.Problem.{Problem, IsProblem}
use Rattle.onfi_problem.proofs.Perm.{All-has}
use Rattle.onfi_chip.specs.Chip.{Chip, taken}
use Rattle.onfi_flight.specs.declared.due.Due.{Due}
use Rattle.onfi_core.specs.declared.setup.Setup.{Setup}
use Rattle.onfi_lun.specs.Drive.{MayRun}
use Rattle.onfi_flight.specs.Flight.{IsPhase, member_of, move_of}
use Rattle.onfi_core.specs.Dues.{IsDue}
use Rattle.onfi_core.specs.Kept.{IsSound, IsTaken, ChipAgrees, LunAgrees}
use Rattle.onfi_core.specs.State.{HalfState, device_for, item_at, request_of}
use Rattle.onfi_core.proofs.Stepping.{due_of}
use Rattle.onfi_core.proofs.Driving.{fits_is, may_run, ready_for}
use Rattle.onfi_core.proofs.Lists.{get_has}
use Rattle.onfi_core.proofs.Members.{place_lun}
use Rattle.onfi_lun.specs.declared.target.Target.{Target}
use Rattle.onfi_lun.specs.Lanes.{MayRunDue}

-- the LUN of a move is that of its group
pub group_lun : (p : Problem) → IsProblem p → (move : Move) (g : List Want) (n : ℕ) → IsPhase p move g n → lun_of g ≡ move_lun move
group_lun p is (Next l) g n (ready, at) = (is.running l g n ready at).lun
group_lun p is (Start members) g n (same, none) = ap lun_of (sym same)

-- the chip's LUN took the commands before this one
taken_before : (s : Setup) (h : HalfState) (chip : Chip) → IsSound s h → ChipAgrees s h chip → (move : Move) → IsMove h.now move → (g : List Want) (n : ℕ)
    → IsPhase h.now move g n → n < length g → length (taken (slice_get chip.luns (move_lun move))) ≡ n
taken_before s h chip sound agrees (Next l) m g n (ready, at) lt =
    let a : LunAgrees (device_for s chip) h.accepted (Some (Running g n ready)) (slice_get chip.luns l) =
    subst (λ o. LunAgrees (device_for s chip) h.accepted o (slice_get chip.luns l)) at (agrees.luns l) in
    elim a [
      | inl x ↦ ap (λ o. length (taken o)) x.1 ∙ length-map (take n g) (request_of h.accepted) ∙ length-take-le n g (omega (arith, lt))
      | inr x ↦ absurd (let y = x.0 in omega (arith, y, lt))
    ]
taken_before s h chip sound agrees (Start members) (since, at, st) g n (same, none) lt =
    let a : LunAgrees (device_for s chip) h.accepted (Some (Free since)) (slice_get chip.luns (lun_of members)) =
    subst (λ o. LunAgrees (device_for s chip) h.accepted o (slice_get chip.luns (lun_of members))) at (agrees.luns (lun_of members)) in
    ap (λ o. length (taken o)) a ∙ sym none

-- whoever holds a half and a chip that agree may run what is due
pub may_run_due : (s : Setup) (target : Target) (h : HalfState) (chip : Chip) → s.geometry ≡ target.geometry → s.timing ≡ target.timing → IsSound s h
    → ChipAgrees s h chip → (due : Due) → IsDue h due → (m : Want) → member_of due.group due.phase ≡ Some m → (item : Item) → item ≡ item_at h.accepted m.id
    → MayRunDue target chip due item
may_run_due s target h chip geometry timing sound agrees due is m at item item_is =
    let ready = ready_for s h chip due sound agrees is in
    let has : Has due.group m = get_has due.group (if nat_lt due.phase (length due.group) then due.phase else due.phase - length due.group) m at in
    let there : IsTaken s h.planned h.accepted m = All-has (IsTaken s h.planned h.accepted) due.group m ready.members has in
    let d = due_of s h due sound is in
    let here : lun_of due.group ≡ due.lun = group_lun h.now sound.problem (move_of due) due.group due.phase d.phase ∙ d.lun in
    record {
      of = record { geometry = agrees.geometry ∙ geometry; timing = agrees.timing ∙ timing };
      may_run = subst (λ (x : Geometry). MayRun chip x due item) geometry (may_run s h chip sound agrees due is m at item item_is);
      fits = subst (λ (x : Geometry). Fits x item.request) geometry (subst (λ (x : Item). Fits s.geometry x.request) (sym item_is) (fits_is s h sound m there));
      lun = ap (λ (x : Item). x.request.place.lun) item_is ∙ place_lun s h m there ∙ All-has (λ (v : Want). v.lun ≡ lun_of due.group) due.group m
          ready.group.lun has ∙ here;
      before = λ lt. ap (λ l. length (taken (slice_get chip.luns l))) (sym d.lun) ∙ taken_before s h chip sound agrees (move_of due) d.is_move due.group due.phase
          d.phase lt;
      time = d.time;
    }
