-- What comes of channels at the end of a run.
use Rattle.std.specs.Prelude.{◌≡◌, ℕ, ◌||◌, Bool, false, List, [], ◌∷◌, ◌++◌, length, map, None, IsTrue}
use Rattle.std.specs.List.{list_all, zip, AllZip, AllByRecursion as Each}
use Rattle.onfi_request.specs.declared.reply.Reply.{Reply}
use Rattle.onfi_reply.specs.Ends.{InboxView}
use Rattle.onfi_run.specs.declared.channel.Drained.{Drained}
use Rattle.onfi_run.specs.declared.channel_end.ChannelEnd.{ChannelEnd}
use Rattle.onfi_run.specs.declared.channel_end.ChannelEnd.TheVariants.{Done}
use Rattle.onfi_run.specs.declared.finishing.Finished.{Finished}
use Rattle.onfi_run.specs.declared.port.Port.{Port}
use Rattle.onfi_run.specs.Answers.{AddsReplies, IsComplete, IsSuited, is_complete, with_replies}
use Rattle.onfi_run.specs.Ending.{channel_end}
use Rattle.onfi_run.specs.ByHost.{with_each}
use Rattle.onfi_run.specs.Keys.{port_places}
use Rattle.onfi_run.specs.Report.{AnswersView, ReportView, places}

-- ---- one channel
-- an inbox gave replies at that moment until none was left, first those that it had taken in, and they are with the answers beside it
pub record Empties (now : ℕ) (old new : InboxView × AnswersView) : Type 0 where
  pub replies : List Reply
  pub given : new.0.given ≡ old.0.given ++ replies
  pub later : List Reply
  pub taken_in : replies ≡ old.0.waiting ++ later
  pub none : new.0.waiting ≡ []
  pub kept : new.1 ≡ with_replies now old.1 replies

abbrev pub are_complete : List AnswersView → Bool
are_complete got = list_all is_complete got

-- a channel is reported as done only where each operation has its answer, unless memory was refused; each answer suits its operation
pub record IsFinished (f : Finished) : Type 0 where
  pub suited : Each (Each IsSuited) f.got
  pub complete : f.end ≡ Done → f.short_of_memory ≡ false → IsTrue (are_complete f.got)

-- A channel came to that, whose thread ended so and whose hosts had these answers: it was drained; all that its inboxes had then, or took still, is with
-- the answers; and draining, thread and answers say how it ended, and whether memory was refused.
pub record Concludes (drains : Drained → List InboxView → Type 0) (now : ℕ) (thread : ChannelEnd) (short : Bool) (answers : List AnswersView) (f : Finished) : Type 0 where
  pub drained : Drained
  pub inboxes : List InboxView
  pub drained_so : drains drained inboxes
  pub after : List InboxView
  pub emptied : AllZip (Empties now) (zip inboxes answers) (zip after f.got)
  pub end_is : f.end ≡ channel_end drained.end thread (are_complete f.got) f.short_of_memory
  pub short_is : f.short_of_memory ≡ (short || drained.short_of_memory)

-- ---- all channels
-- of no channel
abbrev pub report_of_none : Bool → ReportView
report_of_none short = record { got = [] ∷ [] ∷ [] ∷ [] ∷ []; ends = []; short_of_memory = short; clock = None }

-- one channel more
abbrev pub report_with : ReportView → Finished → ReportView
report_with r f = record { got = with_each r.got f.got; ends = r.ends ++ f.end ∷ []; short_of_memory = r.short_of_memory || f.short_of_memory; clock = r.clock }

-- all channels are done, and memory wasn't refused
pub record AreDone (r : ReportView) : Type 0 where
  pub ends : Each (λ e. e ≡ Done) r.ends
  pub short_is : r.short_of_memory ≡ false

-- what a host got from a channel are the answers of its port, with replies that were collected at that moment
abbrev pub AddsTo : ℕ → Port → AnswersView → Type 0
AddsTo now p got = AddsReplies now p.answers got

-- what each host got are the answers of its ports, and replies collected at that moment, with answers that suit; where all channels are done and memory
-- wasn't refused, each place has its answer
pub record IsGathered (now : ℕ) (ports : List (List Port)) (channels : ℕ) (r : ReportView) : Type 0 where
  pub replies : AllZip (AllZip (AddsTo now)) ports r.got
  pub count : length r.ends ≡ channels
  pub places : map (map places) r.got ≡ map (map port_places) ports
  pub suited : Each (Each (Each IsSuited)) r.got
  pub no_clock : r.clock ≡ None
  pub complete : AreDone r → Each (Each IsComplete) r.got
