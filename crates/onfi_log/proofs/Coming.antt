-- The lines of a log that is answered as legal.
use Rattle.std.proofs.Common.{◌≡◌, ◌<◌, ℕ, ◌+◌, Bool, true, false, List, [], ◌∷◌, ◌++◌, length, Option, Some, None, refl, sym, ap, ◌∙◌, subst, arith}
use Rattle.std.specs.Prelude.{if◌then◌else◌}
use Rattle.onfi_audit.specs.declared.line.Line.{Line}
use Rattle.onfi_log.specs.declared.breach.LineBreach.{LineBreach}
use Rattle.onfi_log.specs.declared.entry.LogEntry.TheVariants as says
use Rattle.onfi_log.specs.declared.line.LogLine.{LogLine}
use Rattle.onfi_log.specs.declared.readies.Readies.TheVariants.{Stated}
use Rattle.onfi_log.specs.Entry.{phase_of}
use Rattle.onfi_log.specs.Judging.{Judged, Takes, beginning}
use Rattle.onfi_log.specs.Laws.{AllCome, ComesLaw, phases_of, with_phase}
use Rattle.onfi_log.specs.Line.{and_then, is_comment, line_of}
use Rattle.onfi_log.specs.Manner.{exact}
use Rattle.onfi_log.specs.Parts.{parts}
use Rattle.onfi_log.specs.Text.{Answer, AnswersFrom, OnBreach, OnEntry, breach_text, ended, used_of}
use Rattle.onfi_log.proofs.Answering.{Goes}
use Rattle.onfi_log.proofs.LegalLogs.{IsExact, never, plain_step}
use Rattle.onfi_log.proofs.PartsLemmas.{some_parts}

-- what those lines of a log do that come after it
abbrev Come : Judged → List Line → Type 0
Come j lines = AllCome j.requests j.audit lines

come_after : (j k : Judged) (line : LogLine) (lines : List Line) → IsExact j → Takes j (says.Phase line) None k → (IsExact k → Come k lines) → Come j (line.phase ∷ lines)
come_after j k line lines exactly takes rest =
    let plain = plain_step j k line exactly takes in
    let there : AllCome j.requests k.audit lines = subst (λ r. AllCome r k.audit lines) plain.requests (rest plain.exact) in
    (plain.may, subst (λ a. AllCome j.requests a lines) plain.after there)

come_step : (b : Option LineBreach) (all : Bool) (j k : Judged) (line : LogLine) (number phases : ℕ) (texts : List (List ℕ)) (answer : Answer) (lines : List Line) → IsExact j
    → Takes j (says.Phase line) b k → OnBreach b all number line.phase.lun [] answer (λ f. AnswersFrom Stated all k (number + 1) phases f texts answer) → answer.status ≡ 0
    → (IsExact k → AnswersFrom Stated all k (number + 1) phases [] texts answer → Come k lines) → Come j (line.phase ∷ lines)
come_step None all j k line number phases texts answer lines exactly takes goes z rest = come_after j k line lines exactly takes (λ still. rest still goes)
come_step (Some b) true j k line number phases texts answer lines exactly step goes z rest =
    absurd (never texts Stated true k (number + 1) phases (breach_text number line.phase.lun b) answer goes (omega arith) z)
come_step (Some b) false j k line number phases texts answer lines exactly step e z rest = let q : answer.status ≡ 2 = ap (λ (a : Answer). a.status) e in cc

-- a comment breaks nothing and changes nothing
come_remark : (b : Option LineBreach) (all : Bool) (j k : Judged) (number phases : ℕ) (texts : List (List ℕ)) (answer : Answer) (lines : List Line) → IsExact j
    → Takes j says.Comment b k → OnBreach b all number 0 [] answer (λ f. AnswersFrom Stated all k (number + 1) phases f texts answer)
    → (IsExact k → AnswersFrom Stated all k (number + 1) phases [] texts answer → Come k lines) → Come j lines
come_remark None all j k number phases texts answer lines exactly (none, e) goes rest = subst (λ (x : Judged). Come x lines) e (rest (subst IsExact (sym e) exactly) goes)
come_remark (Some b) all j k number phases texts answer lines exactly (none, e) goes rest = cc

come_line : (remark : Bool) (o : Option LogLine) (all : Bool) (j : Judged) (number phases : ℕ) (texts : List (List ℕ)) (answer : Answer) → IsExact j
    → OnEntry (if remark then Some says.Comment else and_then o phase_of) number [] answer (Goes Stated all j number phases [] texts answer) → answer.status ≡ 0
    → ((k : Judged) (n : ℕ) → IsExact k → AnswersFrom Stated all k (number + 1) n [] texts answer → Come k (phases_of texts))
    → Come j (if remark then phases_of texts else with_phase o (phases_of texts))
come_line true o all j number phases texts answer exactly (b, k, step, goes) z rest = come_remark b all j k number (phases + 0) texts answer (phases_of texts) exactly step goes (rest k (phases + 0))
come_line false None all j number phases texts answer exactly e z rest = tt
come_line false (Some line) all j number phases texts answer exactly (b, k, step, goes) z rest =
    come_step b all j k line number (phases + 1) texts answer (phases_of texts) exactly step goes z (rest k (phases + 1))

come_last : (last : List ℕ) (j : Judged) (number phases : ℕ) (used : Option ℕ) → (ended number phases used [] last).status ≡ 0 → Come j (phases_of (last ∷ []))
come_last [] j number phases used z = tt
come_last (c ∷ last) j number phases used z = cc

come : (texts : List (List ℕ)) (all : Bool) (j : Judged) (number phases : ℕ) (answer : Answer) → IsExact j → AnswersFrom Stated all j number phases [] texts answer → answer.status ≡ 0
    → Come j (phases_of texts)
come [] all j number phases answer exactly e z = tt
come (last ∷ []) all j number phases answer exactly e z = come_last last j number phases (used_of j) (sym (ap (λ (a : Answer). a.status) e) ∙ z)
come (text ∷ next ∷ more) all j number phases answer exactly on z =
    come_line (is_comment text) (line_of text) all j number phases (next ∷ more) answer exactly on z (λ k n still goes. come (next ∷ more) all k (number + 1) n answer still goes z)

pub comes_law : ComesLaw
comes_law requests a all text answer (greatest, fresh, answers) z =
    come (parts 10 text) all (beginning requests exact a greatest) 1 0 answer (record { tolerance = refl; statuses = refl }) answers z
