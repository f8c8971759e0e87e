-- The answer to a log, from a line on.
use Rattle.std.proofs.Common.{◌≡◌, ◌<◌, ℕ, ◌+◌, Bool, true, false, List, [], ◌∷◌, ◌++◌, length, Option, Some, None, Ok, Err, sym, subst, arith}
use Rattle.std.specs.Prelude.{Result, IfOk}
use Rattle.onfi_audit.specs.Audit.{Audit}
use Rattle.onfi_log.specs.declared.breach.LineBreach.{LineBreach}
use Rattle.onfi_log.specs.declared.entry.LogEntry.{LogEntry}
use Rattle.onfi_log.specs.declared.manner.Manner.{Manner}
use Rattle.onfi_log.specs.declared.readies.Readies.{Readies}
use Rattle.onfi_log.specs.declared.requests.Requests.{Requests}
use Rattle.onfi_log.specs.Entry.{entry_of, lun_in, phases_in}
use Rattle.onfi_log.specs.Judging.{IsFresh, Judged, Takes, beginning}
use Rattle.onfi_log.specs.Parts.{parts}
use Rattle.onfi_log.specs.Text.{Answer, AnswersFrom, AnswersLogBy, OnBreach, OnEntry, breach_text, broken, wrong}
use Rattle.onfi_log.proofs.PartsLemmas.{some_parts}

-- a line breaks a condition, or none, and the log goes on
abbrev pub Goes : Readies → Bool → Judged → ℕ → ℕ → List ℕ → List (List ℕ) → Answer → LogEntry → Type 0
Goes readies all j number phases found more answer entry =
    (b : Option LineBreach) × (k : Judged) × Takes j entry b k
    × OnBreach b all number (lun_in entry) found answer (λ found'. AnswersFrom readies all k (number + 1) (phases + phases_in entry) found' more answer)

at_line : (readies : Readies) (all : Bool) (j : Judged) (number phases : ℕ) (found text : List ℕ) (more : List (List ℕ)) (answer : Answer) → 0 < length more
    → OnEntry (entry_of readies text) number found answer (Goes readies all j number phases found more answer) → AnswersFrom readies all j number phases found (text ∷ more) answer
at_line readies all j number phases found text [] answer h on = absurd (omega arith)
at_line readies all j number phases found text (next ∷ more) answer h on = on

module _ (readies : Readies) (all : Bool) (j : Judged) (number phases : ℕ) (found left text behind : List ℕ) (answer : Answer) (cut : parts 10 left ≡ text ∷ parts 10 behind) where
  abbrev rest : LogEntry → Type 0
  rest = Goes readies all j number phases found (parts 10 behind) answer

  from_line : OnEntry (entry_of readies text) number found answer rest → AnswersFrom readies all j number phases found (parts 10 left) answer
  from_line on =
      subst (λ ts. AnswersFrom readies all j number phases found ts answer) (sym cut) (at_line readies all j number phases found text (parts 10 behind) answer (some_parts 10 behind) on)

  -- the line says nothing
  pub wrong_at : None ≡ entry_of readies text → answer ≡ wrong number found → AnswersFrom readies all j number phases found (parts 10 left) answer
  wrong_at none e = from_line (subst (λ o. OnEntry o number found answer rest) none e)

  module _ (entry : LogEntry) (k : Judged) (some : Some entry ≡ entry_of readies text) where
    abbrev then : List ℕ → Type 0
    then found' = AnswersFrom readies all k (number + 1) (phases + phases_in entry) found' (parts 10 behind) answer

    from_step : (b : Option LineBreach) → Takes j entry b k → OnBreach b all number (lun_in entry) found answer then → AnswersFrom readies all j number phases found (parts 10 left) answer
    from_step b step on = from_line (subst (λ o. OnEntry o number found answer rest) some (b, k, step, on))

    -- it breaks no condition
    pub right_at : Takes j entry None k → then found → AnswersFrom readies all j number phases found (parts 10 left) answer
    right_at step goes = from_step None step goes

    -- it breaks one, and all are asked for
    pub broken_on : (b : LineBreach) → Takes j entry (Some b) k → all ≡ true → then (found ++ breach_text number (lun_in entry) b)
        → AnswersFrom readies all j number phases found (parts 10 left) answer
    broken_on b step each goes = from_step (Some b) step (subst (λ e. OnBreach (Some b) e number (lun_in entry) found answer then) (sym each) goes)

    -- .. or the first alone
    pub broken_at : (b : LineBreach) → Takes j entry (Some b) k → all ≡ false → answer ≡ broken (found ++ breach_text number (lun_in entry) b)
        → AnswersFrom readies all j number phases found (parts 10 left) answer
    broken_at b step first e = from_step (Some b) step (subst (λ f. OnBreach (Some b) f number (lun_in entry) found answer then) (sym first) e)

-- the answer from the first line on is that to the log
pub answered : (manner : Manner) (all : Bool) (requests : Requests) (audit : Audit) (j : Judged) (text : List ℕ) (answer : Answer) → j ≡ beginning requests manner audit j.greatest
    → IsFresh requests j.greatest → AnswersFrom manner.readies all j 1 0 [] (parts 10 text) answer → AnswersLogBy requests manner audit all text answer
answered manner all requests audit j text answer begins fresh h = (j.greatest, fresh, subst (λ k. AnswersFrom manner.readies all k 1 0 [] (parts 10 text) answer) begins h)

pub if_ok : {A E : Type 0} (P Q : A → Type 0) (r : Result A E) → ((x : A) → P x → Q x) → IfOk r P → IfOk r Q
if_ok P Q (Ok x) more h = more x h
if_ok P Q (Err e) more h = h
