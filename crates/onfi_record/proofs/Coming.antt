-- How a chip comes to stand where it does.
use Rattle.std.proofs.Common.{◌≡◌, ◌⊎◌, ℕ, Bool, inl, inr, true, false, IsTrue, List, [], ◌∷◌, ◌++◌, Option, Some, None, refl, sym, ap, ◌∙◌, subst}
use Rattle.std.specs.Prelude.{IfSome}
use Rattle.std.specs.List.{flat_map}
use Rattle.onfi_schedule.specs.Trace.{line_text}
use Rattle.onfi_addr.specs.declared.geometry.Geometry.{Geometry}
use Rattle.onfi_timing.specs.declared.kind.Kind.{Kind}
use Rattle.onfi_timing.specs.declared.timing.Timing.{Timing}
use Rattle.onfi_request.specs.declared.request.Request.{Request}
use Rattle.onfi_schedule.specs.declared.trace_line.TraceLine.{TraceLine}
use Rattle.onfi_chip.specs.declared.closer.Closer.{Closer}
use Rattle.onfi_chip.specs.declared.post.Post.{Post}
use Rattle.onfi_chip.specs.declared.fault.ChipFault.{ChipFault}
use Rattle.onfi_chip.specs.declared.fault.ChipFault.TheVariants as fault
use Rattle.onfi_chip.specs.declared.fault.PostFault.TheVariants as post_fault
use Rattle.onfi_chip.specs.Calls.{AfterFault, HasDone, IsUnread, IsNextCommand, IsNextPost, command_of}
use Rattle.onfi_chip.specs.Chip.{Chip, found_ready, posted}
use Rattle.onfi_record.specs.declared.bus_log.BusLog.{BusLog}
use Rattle.onfi_record.specs.Carried.{IsCommandLine, IsPostLine, IsSameDevice, SaysMore}
use Rattle.onfi_record.specs.Recording.{GoesBy, IsCommandRun, IsPostRun, IsRecorded, IsTraceText, RanAll}

-- a call failed
pub lost_goes : (fault : ChipFault) (old new : Chip) → AfterFault fault old new → GoesBy old new
lost_goes fault.Bus old new lost = inr (inr (post_fault.Bus, lost))
lost_goes fault.Memory old new same = inl same

pub unread_goes : (old new : Chip) → IsUnread old new → GoesBy old new
unread_goes old new (inl same) = inl same
unread_goes old new (inr lost) = inr (inr (post_fault.Bus, lost))

-- a LUN was asked
pub polled_goes : (said : Bool) (lun now : ℕ) (old new : Chip) → (IsTrue said → new ≡ found_ready old lun now) → (said ≡ false → new ≡ old) → GoesBy old new
polled_goes true lun now old new ready busy = inr (inl (lun, now, ready refl))
polled_goes false lun now old new ready busy = inl (busy refl)

-- nothing was carried
pub recorded_by : (log : BusLog) (old new : Chip) → IsRecorded log old → GoesBy old new → IsRecorded log new
recorded_by log old new recorded goes whole =
    let ran = recorded whole in
    record { steps = None ∷ ran.steps; came = (old, ran.came, goes); lines_are = ran.lines_are }

module _ (log log' : BusLog) (old new : Chip) (same : IsSameDevice log log') (recorded : IsRecorded log old) (line : TraceLine) (more : SaysMore line log log') where
  moved : RanAll log.geometry log.timing log'.lines.items new → RanAll log'.geometry log'.timing log'.lines.items new
  moved ran =
      subst (λ g. RanAll g log'.timing log'.lines.items new) (sym same.geometry_is)
      (subst (λ t. RanAll log.geometry t log'.lines.items new) (sym same.timing_is) ran)

  command_ran : IsCommandRun log.geometry log.timing line old new → RanAll log'.geometry log'.timing log'.lines.items new
  command_ran is =
      let ran = recorded more.before in
      moved (record { steps = Some line ∷ ran.steps; came = (old, ran.came, inl is); lines_are = more.more ∙ ap (λ ls. ls ++ line ∷ []) ran.lines_are })

  post_ran : IsPostRun log.geometry log.timing log.lines.items line old new → RanAll log'.geometry log'.timing log'.lines.items new
  post_ran is =
      let ran = recorded more.before in
      let run = subst (λ ls. IsPostRun log.geometry log.timing ls line old new) ran.lines_are is in
      moved (record { steps = Some line ∷ ran.steps; came = (old, ran.came, inr run); lines_are = more.more ∙ ap (λ ls. ls ++ line ∷ []) ran.lines_are })

-- a command was carried
pub recorded_command : (log log' : BusLog) (old new : Chip) (start row : ℕ) (kind : Kind) (closer : Closer) (bytes : List ℕ) → IsSameDevice log log' → IsRecorded log old
    → ((r : Request) × IsNextCommand old start row kind bytes r)
    → ((r : Request) → IsNextCommand old start row kind bytes r → HasDone (command_of closer old r start) new)
    → (log'.is_whole ≡ true → (line : TraceLine) × IsCommandLine log.geometry log.timing start row kind closer line × SaysMore line log log')
    → IsRecorded log' new
recorded_command log log' old new start row kind closer bytes same recorded (r, next) done more whole =
    let m = more whole in
    command_ran log log' old new same recorded m.0 m.2
    (record { start = start; row = row; kind = kind; closer = closer; bytes = bytes; request = r; next = next; done = done r next; told = m.1 })

-- a post was carried
pub recorded_post : (log log' : BusLog) (old new : Chip) (start row : ℕ) (post : Post) (left : List Post) → IsSameDevice log log' → IsRecorded log old
    → IsNextPost old start row post left → HasDone (posted old post left start) new
    → (log'.is_whole ≡ true → (line : TraceLine) × IsPostLine log.geometry log.timing log.lines.items start row line × SaysMore line log log')
    → IsRecorded log' new
recorded_post log log' old new start row post left same recorded next done more whole =
    let m = more whole in
    post_ran log log' old new same recorded m.0 m.2 (record { start = start; row = row; post = post; left = left; next = next; done = done; told = m.1 })

-- the text of a log that isn't cut
pub trace_told : {V : Type 0} (items : V → List ℕ) (log : BusLog) (chip : Chip) (lines : List TraceLine) (o : Option V) → RanAll log.geometry log.timing log.lines.items chip
    → lines ≡ log.lines.items → IfSome o (λ v. items v ≡ flat_map (line_text true) lines) → IfSome o (λ v. IsTraceText (items v))
trace_told items log chip lines None ran same is = tt
trace_told items log chip lines (Some v) ran same is =
    record { geometry = log.geometry; timing = log.timing; chip = chip; lines = log.lines.items; ran = ran; is = is ∙ ap (flat_map (line_text true)) same }
