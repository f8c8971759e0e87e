-- What a run came to, and its text.
use Rattle.std.specs.Prelude.{ℕ, ◌+◌, ◌==◌, if◌then◌else◌, Bool, true, false, List, [], ◌∷◌, ◌++◌, map, Option, Some, None, codes}
use Rattle.std.specs.Fmt.{decimal}
use Rattle.std.specs.List.{list_all, list_any}
use Rattle.std.specs.Option.{is_some}
use Rattle.hex.specs.Hex.{encode_upper}
use Rattle.onfi_core.specs.declared.outcome.Cause.{Cause}
use Rattle.onfi_core.specs.declared.outcome.Cause.TheVariants.{Bus, NotReady, Clock}
use Rattle.onfi_request.specs.declared.answer.Answer.{Answer}
use Rattle.onfi_request.specs.declared.answer.Answer.TheVariants as answer
use Rattle.onfi_run.specs.declared.bus_use.BusUse.{BusUse}
use Rattle.onfi_run.specs.declared.channel_end.ChannelEnd.{ChannelEnd}
use Rattle.onfi_run.specs.declared.channel_end.ChannelEnd.TheVariants as end
use Rattle.onfi_run.specs.declared.clock_report.ClockReport.{ClockReport}
use Rattle.onfi_run.specs.declared.completion.Completion.{Completion}
use Rattle.onfi_run.specs.declared.latency.Latency.{Latency}
use Rattle.onfi_script.specs.Text.{Answer as Written}
use Rattle.onfi_run.specs.Arriving.{Expected, expected}

-- what a host got from a channel: what is known of each of its operations there, by serial from 0
abbrev pub AnswersView : Type 0
AnswersView = List Completion

-- .. from each channel
abbrev pub GotView : Type 0
GotView = List AnswersView

-- the operation of which something is kept: its kind, and when it arrives
abbrev pub place : Completion → Expected
place c = expected c.arrives c.kind

abbrev pub places : AnswersView → List Expected
places got = map place got

-- what each host got, how each channel ended, whether memory was refused on the way, and what a clock showed
pub record ReportView : Type 0 where
  pub got : List GotView
  pub ends : List ChannelEnd
  pub short_of_memory : Bool
  pub clock : Option ClockReport

-- the pieces of a list's elements, which are numbered from `number` on
unfoldable pub numbered : {X : Type 0} → (ℕ → X → List ℕ) → ℕ → List X → List ℕ
numbered piece number [] = []
numbered piece number (x ∷ xs) = piece number x ++ numbered piece (number + 1) xs

abbrev pub are_all : ℕ → List ℕ → Bool
are_all byte bytes = list_all (λ b. b == byte) bytes

-- a page: the one byte that it holds throughout, or all its bytes
abbrev pub page_text : List ℕ → List ℕ
page_text [] = []
page_text (byte ∷ bytes) = if are_all byte bytes then codes "*" ++ encode_upper (byte ∷ []) else encode_upper (byte ∷ bytes)

abbrev pub answer_text : Answer → List ℕ
answer_text (answer.Read bytes) = codes "read," ++ page_text bytes
answer_text answer.Done = codes "done"
answer_text answer.Failed = codes "failed"

-- the moment of a reply, where a clock gives it
abbrev pub at_text : Bool → ℕ → List ℕ
at_text true at = decimal at ++ codes ","
at_text false at = []

-- the line of a reply that was collected at a moment, where it came
abbrev pub reply_text : Bool → ℕ → ℕ → ℕ → ℕ → Option Answer → List ℕ
reply_text clocked host channel serial at None = []
reply_text clocked host channel serial at (Some a) =
    (codes "reply," ++ (decimal host ++ (codes "," ++ (decimal channel ++ (codes "," ++ (decimal serial ++ codes ",")))))) ++ (at_text clocked at ++ (answer_text a ++ codes "\n"))

abbrev pub reply_line : Bool → ℕ → ℕ → ℕ → Completion → List ℕ
reply_line clocked host channel serial c = reply_text clocked host channel serial c.at c.answer

-- the replies of a channel to a host by serial
abbrev pub answers_lines : Bool → ℕ → ℕ → AnswersView → List ℕ
answers_lines clocked host channel got = numbered (reply_line clocked host channel) 0 got

-- the replies to a host by channel and serial
abbrev pub got_lines : Bool → ℕ → GotView → List ℕ
got_lines clocked host channels = numbered (answers_lines clocked host) 0 channels

-- all replies by host, channel and serial
abbrev pub reply_lines : Bool → List GotView → List ℕ
reply_lines clocked got = numbered (got_lines clocked) 0 got

abbrev pub stop_line : ℕ → Cause → List ℕ
stop_line channel Bus = codes "stopped," ++ (decimal channel ++ codes ",Bus\n")
stop_line channel (NotReady lun) = codes "stopped," ++ (decimal channel ++ (codes ",NotReady " ++ (decimal lun ++ codes "\n")))
stop_line channel Clock = codes "stopped," ++ (decimal channel ++ codes ",Clock\n")

-- the line of a channel that did not end as it should
abbrev pub end_line : ℕ → ChannelEnd → List ℕ
end_line channel end.Done = []
end_line channel (end.Stopped cause) = stop_line channel cause
end_line channel (end.Over opened) = codes "over," ++ (decimal channel ++ (codes "," ++ (decimal opened ++ codes "\n")))
end_line channel end.Unfinished = codes "unfinished," ++ (decimal channel ++ codes "\n")

-- the line of a bus: how long it was busy, and when its last phase ended
abbrev pub bus_line : ℕ → BusUse → List ℕ
bus_line channel bus = codes "bus," ++ (decimal channel ++ (codes "," ++ (decimal bus.busy ++ (codes "," ++ (decimal bus.until ++ codes "\n")))))

-- the line of a kind that has replies
abbrev pub latency_line : List ℕ → Option Latency → List ℕ
latency_line kind None = []
latency_line kind (Some l) =
    codes "latency," ++ (kind ++ (codes "," ++ (decimal l.count ++ (codes "," ++ (decimal l.mean ++ (codes "," ++ (decimal l.most_of_99 ++ codes "\n")))))))

-- the lines of a clock
abbrev pub clock_lines : Option ClockReport → List ℕ
clock_lines None = []
clock_lines (Some clock) =
    numbered bus_line 0 clock.buses.items
    ++ (latency_line (codes "read") clock.reads ++ (latency_line (codes "program") clock.programs ++ latency_line (codes "erase") clock.erases))

abbrev pub closing_line : Bool → List ℕ
closing_line true = codes "memory\n"
closing_line false = codes "closed\n"

-- it stopped or was left unfinished
abbrev pub is_cut_short : ChannelEnd → Bool
is_cut_short (end.Stopped cause) = true
is_cut_short end.Unfinished = true
is_cut_short _ = false

abbrev pub is_over : ChannelEnd → Bool
is_over (end.Over opened) = true
is_over _ = false

abbrev pub is_any_cut_short : List ChannelEnd → Bool
is_any_cut_short ends = list_any is_cut_short ends

abbrev pub is_any_over : List ChannelEnd → Bool
is_any_over ends = list_any is_over ends

-- 4 where memory was refused, else 3 where a channel stopped or was left unfinished, else 6 where one was over, else 0
abbrev pub status_of : Bool → List ChannelEnd → ℕ
status_of true ends = 4
status_of false ends = if is_any_cut_short ends then 3 else if is_any_over ends then 6 else 0

abbrev pub report_text : ReportView → List ℕ
report_text r = (reply_lines (is_some r.clock) r.got ++ numbered end_line 0 r.ends) ++ (clock_lines r.clock ++ closing_line r.short_of_memory)

-- what is written of a run
abbrev pub report_answer : ReportView → Written
report_answer r = record { text = report_text r; status = status_of r.short_of_memory r.ends }
