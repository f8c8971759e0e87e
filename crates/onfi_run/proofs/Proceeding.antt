-- What turns and drainings come to.
use Rattle.std.proofs.Common.{◌≡◌, ℕ, Bool, true, false, refl, sym, ap, ◌∙◌, inl, inr}
use Rattle.std.specs.Prelude.{IsTrue}
use Rattle.onfi_seq.specs.declared.turn.TurnAt.{TurnAt}
use Rattle.onfi_seq.specs.declared.turn.TurnAt.TheVariants as turn
use Rattle.onfi_seq.specs.Sequencer.{Seen}
use Rattle.onfi_seq.specs.Turned.{Turned}
use Rattle.onfi_run.specs.declared.channel_end.ChannelEnd.{ChannelEnd}
use Rattle.onfi_run.specs.declared.channel_end.ChannelEnd.TheVariants as end
use Rattle.onfi_run.specs.declared.progress.Progress.{Progress}
use Rattle.onfi_run.specs.Ending.{channel_end, is_refusal, progress_of}

by_answer : (now : ℕ) (q q' : Seen) (none : Bool) (t : TurnAt) → Turned now q t q' → IsTrue (is_refusal (progress_of none t)) → q'.0.short ≡ true
by_answer now q q' none (turn.Stopped cause) turned refused = absurd (cc)
by_answer now q q' true (turn.Over opened) turned refused = absurd (cc)
by_answer now q q' false (turn.Over opened) turned refused = absurd (cc)
by_answer now q q' none turn.Memory (mid, passes, inl p, planned) refused = ap (λ (x : Seen). x.0.short) p.after
by_answer now q q' none turn.Memory (mid, passes, inr (start, r), planned) refused = ap (λ (x : Seen). x.0.short) r.after
by_answer now q q' none (turn.Waits until) turned refused = absurd (cc)
by_answer now q q' none turn.Phase turned refused = absurd (cc)
by_answer now q q' none turn.Planned turned refused = absurd (cc)
by_answer now q q' none turn.Posted turned refused = absurd (cc)
by_answer now q q' none turn.Accepted turned refused = absurd (cc)
by_answer now q q' none turn.PostFull turned refused = absurd (cc)
by_answer now q q' none turn.Idle turned refused = absurd (cc)

-- a turn that memory was refused to is kept
pub refused_kept : (now : ℕ) (q q' : Seen) (none : Bool) (t : TurnAt) (p : Progress) → Turned now q t q' → p ≡ progress_of none t → IsTrue (is_refusal p) → IsTrue q'.0.short
refused_kept now q q' none t p turned told refused = by_answer now q q' none t turned (sym (ap is_refusal told) ∙ refused)

-- a channel is reported as done only where each operation has its answer, or memory was refused
pub done_complete : (drained thread : ChannelEnd) (complete short : Bool) → channel_end drained thread complete short ≡ end.Done → short ≡ false → IsTrue complete
done_complete end.Done thread true short done none = refl
done_complete end.Done thread false true done none = absurd (cc)
done_complete end.Done (end.Stopped cause) false false done none = absurd (cc)
done_complete end.Done (end.Over opened) false false done none = absurd (cc)
done_complete end.Done end.Done false false done none = absurd (cc)
done_complete end.Done end.Unfinished false false done none = absurd (cc)
done_complete (end.Stopped cause) thread complete short done none = absurd (cc)
done_complete (end.Over opened) thread complete short done none = absurd (cc)
done_complete end.Unfinished thread complete short done none = absurd (cc)
