-- A log that is answered as legal, with reports of statuses or without.
use Rattle.std.proofs.Common.{◌≡◌, ◌<◌, ◌≤◌, ℕ, ◌+◌, Bool, true, false, inl, inr, List, [], ◌∷◌, ◌++◌, length, map, Option, Some, None, refl, sym, ap, ◌∙◌, subst, arith}
use Rattle.std.specs.Prelude.{slice_get, nat_le, nat_lt, if◌then◌else◌}
use Rattle.std.proofs.lemmas.Bool.{cases_Bool, eqb-true, false≢true}
use Rattle.std.proofs.lemmas.Bool.Decides.{nat_tests}
use Rattle.std.proofs.lemmas.List.{length-append}
use Rattle.onfi_timing.specs.Kinds.{IsStated}
use Rattle.onfi_timing.specs.declared.kind.Kind.TheVariants as kind
use Rattle.onfi_timing.specs.declared.operation.Operation.{Operation}
use Rattle.onfi_timing.specs.declared.operation.Operation.TheVariants.{Read, Program, Erase}
use Rattle.onfi_timing.specs.declared.timing.Timing.{Timing}
use Rattle.onfi_problem.specs.Moves.{placed}
use Rattle.onfi_problem.specs.Problem.{IsProblem, Problem}
use Rattle.onfi_problem.proofs.Places.{within_get}
use Rattle.onfi_audit.specs.declared.breach.LogBreach.TheVariants.{BusNotFree, NoLun}
use Rattle.onfi_audit.specs.declared.line.Line.{Line}
use Rattle.onfi_audit.specs.declared.stage.LunStage.{LunStage}
use Rattle.onfi_audit.specs.Audit.{Audit, IsAccepted, MayCome, accepting, after_line, request_of}
use Rattle.onfi_audit.specs.Legal.{Accept, Audited, Entry, Leads, Phase, lines_of, wants_of, with_wants}
use Rattle.onfi_audit.proofs.Judging.{few_planes}
use Rattle.onfi_audit.proofs.Later.{may_by}
use Rattle.onfi_log.specs.declared.breach.LineBreach.{LineBreach}
use Rattle.onfi_log.specs.declared.breach.LineBreach.TheVariants.{Condition}
use Rattle.onfi_log.specs.declared.entry.LogEntry.{LogEntry}
use Rattle.onfi_log.specs.declared.entry.LogEntry.TheVariants as says
use Rattle.onfi_log.specs.declared.entry.Sign.{Sign}
use Rattle.onfi_log.specs.declared.entry.Sign.TheVariants.{Status, Edge}
use Rattle.onfi_log.specs.declared.line.LogLine.{LogLine}
use Rattle.onfi_log.specs.declared.manner.Statuses.{Statuses}
use Rattle.onfi_log.specs.declared.manner.Statuses.TheVariants.{EachPlane, OneForAll}
use Rattle.onfi_log.specs.declared.readies.Readies.{Readies}
use Rattle.onfi_log.specs.declared.readies.Readies.TheVariants.{Stated}
use Rattle.onfi_log.specs.declared.requests.Requests.{Requests}
use Rattle.onfi_log.specs.declared.requests.Requests.TheVariants.{Accepted, Mentioned}
use Rattle.onfi_log.specs.Entry.{entry_of, lun_in, phase_of, phases_in}
use Rattle.onfi_log.specs.Judging.{ComesBy, FacesBy, IsRight, Judged, Takes, after_report, beginning, begins, begins_on, brings, brings_by, kind_of, misreported, ran, takes_page, with_brought}
use Rattle.onfi_log.specs.Laws.{Event, IsSaid, IsSeen, LeadsBy, LegalLaw, Mentions, Remarks, ReportedLaw, Reports, Runs, Says, SaysBy, SaysFirst, event_of, mentioned, ready_by}
use Rattle.onfi_log.specs.Line.{and_then, is_comment, line_of}
use Rattle.onfi_log.specs.Manner.{exact_by}
use Rattle.onfi_log.specs.Parts.{parts}
use Rattle.onfi_log.specs.Text.{Answer, AnswersFrom, OnBreach, OnEntry, breach_text, ended, used_of}
use Rattle.onfi_log.proofs.Answering.{Goes}
use Rattle.onfi_log.proofs.PartsLemmas.{some_parts}
use Rattle.onfi_log.proofs.Reports.{AuditedBy, leads_all, problem_all}
use Rattle.onfi_log.proofs.Steps.{brought_is}

-- Requests that are brought

brings_parts : (r : Requests) (a : Audit) (line : Line) → brings_by r a line ≡ true → (begins a line ≡ true) × (takes_page line.operation line.page ≡ true)
brings_parts Accepted a line h = absurd (false≢true h)
brings_parts Mentioned a line h = elim (cases_Bool (begins a line)) [
  | inl k ↦ (let q : takes_page line.operation line.page ≡ true = rw k at h in (k, q))
  | inr k ↦ (let q : false ≡ true = rw k at h in absurd (false≢true q))
]

there_on : (luns : List LunStage) (lun : ℕ) (o : Option LunStage) → slice_get luns lun ≡ o → begins_on o ≡ true → lun < length luns
there_on luns lun None e h = absurd (false≢true h)
there_on luns lun (Some x) e h = within_get luns lun x e

begins_there : (a : Audit) (line : Line) → begins a line ≡ true → line.lun < length a.luns
begins_there a line h = elim (cases_Bool line.is_post) [
  | inl k ↦ (let q : false ≡ true = rw k at h in absurd (false≢true q))
  | inr k ↦ (let q : begins_on (slice_get a.luns line.lun) ≡ true = rw k at h in there_on a.luns line.lun (slice_get a.luns line.lun) refl q)
]

names_page : (operation : Operation) (page : ℕ) → takes_page operation page ≡ true → kind_of operation ≡ kind.Erase → page ≡ 0
names_page Read page h e = cc
names_page Program page h e = cc
names_page Erase page h e = eqb-true page 0 h

whole_stated : (timing : Timing) (operation : Operation) → IsStated timing (kind_of operation)
whole_stated timing Read = refl
whole_stated timing Program = refl
whole_stated timing Erase = refl

accepted : (j : Judged) (line : Line) → brings j line ≡ true → IsAccepted j.audit (request_of j.audit (kind_of line.operation) line.lun line.block line.page)
accepted j line h =
    let parts = brings_parts j.requests j.audit line h in
    record {
      number = refl;
      want = record { plane = few_planes j.audit.rules.plane_bits line.block j.audit.rules.few_planes; erase = names_page line.operation line.page parts.1 };
      lun = begins_there j.audit line parts.0;
      placed = refl;
      stated = whole_stated j.audit.timing line.operation;
    }

-- Answers after a condition that is broken

ended_broken : (number phases : ℕ) (used : Option ℕ) (found last : List ℕ) → 0 < length found → (ended number phases used found last).status ≡ 0 → ⊥
ended_broken number phases used [] last h e = absurd (omega arith)
ended_broken number phases used (c ∷ found) [] h e = cc
ended_broken number phases used (c ∷ found) (d ∷ last) h e = cc

breach_never : (b : Option LineBreach) (all : Bool) (number lun : ℕ) (found : List ℕ) (answer : Answer) (Then : List ℕ → Type 0)
    → OnBreach b all number lun found answer Then → 0 < length found → answer.status ≡ 0 → ((f : List ℕ) → Then f → 0 < length f → ⊥) → ⊥
breach_never None all number lun found answer Then goes h z rest = rest found goes h
breach_never (Some b) true number lun found answer Then goes h z rest = let size = length-append found (breach_text number lun b) in rest (found ++ breach_text number lun b) goes (omega arith)
breach_never (Some b) false number lun found answer Then e h z rest = let q : answer.status ≡ 2 = ap (λ (a : Answer). a.status) e in cc

line_never : (o : Option LogEntry) (readies : Readies) (all : Bool) (j : Judged) (number phases : ℕ) (found : List ℕ) (more : List (List ℕ)) (answer : Answer)
    → OnEntry o number found answer (Goes readies all j number phases found more answer) → 0 < length found → answer.status ≡ 0
    → ((k : Judged) (n : ℕ) (f : List ℕ) → AnswersFrom readies all k (number + 1) n f more answer → 0 < length f → ⊥) → ⊥
line_never None readies all j number phases found more answer e h z rest = let q : answer.status ≡ 2 = ap (λ (a : Answer). a.status) e in cc
line_never (Some entry) readies all j number phases found more answer (b, k, step, goes) h z rest =
    breach_never b all number (lun_in entry) found answer _ goes h z (rest k (phases + phases_in entry))

pub never : (texts : List (List ℕ)) (readies : Readies) (all : Bool) (j : Judged) (number phases : ℕ) (found : List ℕ) (answer : Answer)
    → AnswersFrom readies all j number phases found texts answer → 0 < length found → answer.status ≡ 0 → ⊥
never [] readies all j number phases found answer e h z = ended_broken number phases (used_of j) found [] h (sym (ap (λ (a : Answer). a.status) e) ∙ z)
never (last ∷ []) readies all j number phases found answer e h z = ended_broken number phases (used_of j) found last h (sym (ap (λ (a : Answer). a.status) e) ∙ z)
never (text ∷ next ∷ more) readies all j number phases found answer on h z =
    line_never (entry_of readies text) readies all j number phases found (next ∷ more) answer on h z (λ k n f goes some. never (next ∷ more) readies all k (number + 1) n f answer goes some z)

-- Events that were judged

-- what was given to an audit, whose phases and reports the texts say
record Given (readies : Readies) (a : Audit) (texts : List (List ℕ)) : Type 0 where
  pub events : List Event
  pub left : Audit
  pub audited : AuditedBy a events left
  pub says : SaysBy readies texts events

-- the line's phase first, with its request before it where it brings that
given_phase : (readies : Readies) (j k : Judged) (line : LogLine) (text : List ℕ) (more : List (List ℕ)) → entry_of readies text ≡ Some (says.Phase line)
    → MayCome (with_brought j line.phase) line.phase → k.audit ≡ after_line (with_brought j line.phase) line.phase → Given readies k.audit more → Given readies j.audit (text ∷ more)
given_phase readies j k line text more said may e rest =
    let w = request_of j.audit (kind_of line.phase.operation) line.phase.lun line.phase.block line.phase.page in
    let goes = subst (λ a. AuditedBy a rest.events rest.left) e rest.audited in
    elim (cases_Bool (brings j line.phase)) [
      | inl b ↦ (
          let is = brought_is j line.phase b in
          record {
            events = Mentions w ∷ Runs line.phase ∷ rest.events;
            left = rest.left;
            audited = (accepted j line.phase b, subst (λ a. MayCome a line.phase × AuditedBy (after_line a line.phase) rest.events rest.left) is (may, goes));
            says = ((line, said, refl), rest.says);
          })
      | inr b ↦ (
          let is : with_brought j line.phase ≡ j.audit = rw b refl in
          record {
            events = Runs line.phase ∷ rest.events;
            left = rest.left;
            audited = subst (λ a. MayCome a line.phase × AuditedBy (after_line a line.phase) rest.events rest.left) is (may, goes);
            says = ((line, said, refl), rest.says);
          })
    ]

-- nothing is amiss with a report of a LUN that is there, when the bus is free
pub in_order : (sign : Sign) (a : Audit) (lun moment : ℕ) → None ≡ misreported a lun moment sign → (lun < length a.luns) × IsSeen sign moment a.bus_free
in_order Status a lun moment e = elim (cases_Bool (nat_le (length a.luns) lun)) [
  | inl b ↦ (let q : None ≡ Some (Condition (NoLun lun)) = rw b at e in absurd (cc))
  | inr b ↦ (elim (cases_Bool (nat_lt moment a.bus_free)) [
    | inl d ↦ (let q : None ≡ Some (Condition (BusNotFree moment a.bus_free)) = rw (b, d) at e in absurd (cc))
    | inr d ↦ (grind (arith, nat_tests), grind (arith, nat_tests))
  ])
]
in_order Edge a lun moment e = elim (cases_Bool (nat_le (length a.luns) lun)) [
  | inl b ↦ (let q : None ≡ Some (Condition (NoLun lun)) = rw b at e in absurd (cc))
  | inr b ↦ (grind (arith, nat_tests), tt)
]

-- A log that is taken to the ns, with a status of each plane

pub record IsExact (j : Judged) : Type 0 where
  pub tolerance : j.tolerance ≡ 0
  pub statuses : j.statuses ≡ EachPlane

-- a line that breaks no condition is judged after what is there, may come, and runs
pub record Plain (j : Judged) (line : LogLine) (k : Judged) : Type 0 where
  pub may : MayCome (with_brought j line.phase) line.phase
  pub after : k.audit ≡ after_line (with_brought j line.phase) line.phase
  pub requests : k.requests ≡ j.requests
  pub exact : IsExact k

comes_exactly : (tolerance : ℕ) (a : Audit) (line : Line) → tolerance ≡ 0 → ComesBy tolerance a line → MayCome a line
comes_exactly tolerance a line none comes =
    let (moment, small, may) = comes.may in
    let in_time = comes.in_time in
    may_by a line moment line.start (omega (arith, none, in_time)) may

faces_same : (statuses : Statuses) (j h : Judged) (line : Line) → statuses ≡ EachPlane → FacesBy statuses j line h → h ≡ j
faces_same EachPlane j h line e same = same
faces_same OneForAll j h line e faces = cc

right_plain : (j k : Judged) (line : LogLine) → IsExact j → IsRight j line → k ≡ ran j line → Plain j line k
right_plain j k line exact right e = record {
  may = comes_exactly j.tolerance (with_brought j line.phase) line.phase exact.tolerance right.comes;
  after = ap (λ (x : Judged). x.audit) e;
  requests = ap (λ (x : Judged). x.requests) e;
  exact = record {
    tolerance = ap (λ (x : Judged). x.tolerance) e ∙ exact.tolerance;
    statuses = ap (λ (x : Judged). x.statuses) e ∙ exact.statuses;
  };
}

pub plain_step : (j k : Judged) (line : LogLine) → IsExact j → Takes j (says.Phase line) None k → Plain j line k
plain_step j k line exact (h, faces, (right, e)) =
    let same = faces_same j.statuses j h line.phase exact.statuses faces in
    right_plain j k line exact (subst (λ (x : Judged). IsRight x line) same right) (e ∙ ap (λ (x : Judged). ran x line) same)

-- .. a report leaves it so
pub report_exact : (j k : Judged) (lun moment : ℕ) (b : Option LineBreach) → IsExact j → k ≡ after_report j lun moment b → (k.requests ≡ j.requests) × IsExact k
report_exact j k lun moment None exact e = (
  ap (λ (x : Judged). x.requests) e,
  record { tolerance = ap (λ (x : Judged). x.tolerance) e ∙ exact.tolerance; statuses = ap (λ (x : Judged). x.statuses) e ∙ exact.statuses },
)
report_exact j k lun moment (Some b) exact e = (
  ap (λ (x : Judged). x.requests) e,
  record { tolerance = ap (λ (x : Judged). x.tolerance) e ∙ exact.tolerance; statuses = ap (λ (x : Judged). x.statuses) e ∙ exact.statuses },
)

given_first : (readies : Readies) (entry : LogEntry) (j k : Judged) (text : List ℕ) (more : List (List ℕ)) → entry_of readies text ≡ Some entry → IsExact j → Takes j entry None k
    → Given readies k.audit more → Given readies j.audit (text ∷ more)
given_first readies (says.Phase line) j k text more said exact takes rest =
    let plain = plain_step j k line exact takes in
    given_phase readies j k line text more said plain.may plain.after rest
given_first readies (says.Ready lun moment sign) j k text more said exact (none, e) rest =
    let order = in_order sign j.audit lun moment none in
    record {
      events = Reports lun moment sign ∷ rest.events;
      left = rest.left;
      audited = (order.0, order.1, subst (λ a. AuditedBy a rest.events rest.left) (ap (λ (x : Judged). x.audit) e) rest.audited);
      says = (said, rest.says);
    }
given_first readies says.Comment j k text more said exact (none, e) rest = record {
  events = Remarks ∷ rest.events;
  left = rest.left;
  audited = subst (λ a. AuditedBy a rest.events rest.left) (ap (λ (x : Judged). x.audit) e) rest.audited;
  says = (said, rest.says);
}

exact_after : (entry : LogEntry) (j k : Judged) → IsExact j → Takes j entry None k → IsExact k
exact_after (says.Phase line) j k exact takes = (plain_step j k line exact takes).exact
exact_after (says.Ready lun moment sign) j k exact (none, e) = (report_exact j k lun moment None exact e).1
exact_after says.Comment j k exact (none, e) = subst IsExact (sym e) exact

given_step : (b : Option LineBreach) (readies : Readies) (all : Bool) (j k : Judged) (number phases : ℕ) (entry : LogEntry) (text : List ℕ) (more : List (List ℕ)) (answer : Answer)
    → entry_of readies text ≡ Some entry → IsExact j → Takes j entry b k
    → OnBreach b all number (lun_in entry) [] answer (λ f. AnswersFrom readies all k (number + 1) (phases + phases_in entry) f more answer) → answer.status ≡ 0
    → (IsExact k → AnswersFrom readies all k (number + 1) (phases + phases_in entry) [] more answer → Given readies k.audit more) → Given readies j.audit (text ∷ more)
given_step None readies all j k number phases entry text more answer said exact step goes z rest =
    given_first readies entry j k text more said exact step (rest (exact_after entry j k exact step) goes)
given_step (Some b) readies true j k number phases entry text more answer said exact step goes z rest =
    absurd (never more readies true k (number + 1) (phases + phases_in entry) (breach_text number (lun_in entry) b) answer goes (omega arith) z)
given_step (Some b) readies false j k number phases entry text more answer said exact step e z rest = let q : answer.status ≡ 2 = ap (λ (a : Answer). a.status) e in cc

given_line : (o : Option LogEntry) (readies : Readies) (all : Bool) (j : Judged) (number phases : ℕ) (text : List ℕ) (more : List (List ℕ)) (answer : Answer) → entry_of readies text ≡ o
    → IsExact j → OnEntry o number [] answer (Goes readies all j number phases [] more answer) → answer.status ≡ 0
    → ((k : Judged) (n : ℕ) → IsExact k → AnswersFrom readies all k (number + 1) n [] more answer → Given readies k.audit more) → Given readies j.audit (text ∷ more)
given_line None readies all j number phases text more answer said exact e z rest = let q : answer.status ≡ 2 = ap (λ (a : Answer). a.status) e in cc
given_line (Some entry) readies all j number phases text more answer said exact (b, k, step, goes) z rest =
    given_step b readies all j k number phases entry text more answer said exact step goes z (rest k (phases + phases_in entry))

-- texts that are cut are one at least
given : (texts : List (List ℕ)) (readies : Readies) (all : Bool) (j : Judged) (number phases : ℕ) (answer : Answer) → 0 < length texts
    → IsExact j → AnswersFrom readies all j number phases [] texts answer → answer.status ≡ 0 → Given readies j.audit texts
given [] readies all j number phases answer some exact e z = absurd (omega arith)
given (last ∷ []) readies all j number phases answer some exact e z = record { events = []; left = j.audit; audited = refl; says = refl }
given (text ∷ next ∷ more) readies all j number phases answer some exact on z =
    given_line (entry_of readies text) readies all j number phases text (next ∷ more) answer refl exact on z
    (λ k n still goes. given (next ∷ more) readies all k (number + 1) n answer (omega arith) still goes z)

audited_on : (before : List Entry) (events : List Event) (a b c : Audit) → Audited a before b → AuditedBy b events c → AuditedBy a (map event_of before ++ events) c
audited_on [] events a b c e h = subst (λ x. AuditedBy x events c) (sym e) h
audited_on (Accept w ∷ before) events a b c (is, rest) h = (is, audited_on before events (accepting a w) b c rest h)
audited_on (Phase line ∷ before) events a b c (may, rest) h = (may, audited_on before events (after_line a line) b c rest h)

pub reported_law : ReportedLaw
reported_law p before a requests readies all text answer ip audited (greatest, fresh, answers) z =
    let exact : IsExact (beginning requests (exact_by readies) a greatest) = record { tolerance = refl; statuses = refl } in
    let g = given (parts 10 text) readies all (beginning requests (exact_by readies) a greatest) 1 0 answer (some_parts 10 text) exact answers z in
    let whole = map event_of before ++ g.events in
    let all_audited = audited_on before g.events _ a g.left audited g.audited in
    (g.events, _, g.says, problem_all p whole g.left ip all_audited, leads_all p whole g.left ip all_audited)

-- Logs without reports

abbrev entries_of : List Event → List Entry
entries_of [] = []
entries_of (Mentions w ∷ events) = Accept w ∷ entries_of events
entries_of (Runs line ∷ events) = Phase line ∷ entries_of events
entries_of (Reports lun moment sign ∷ events) = entries_of events
entries_of (Remarks ∷ events) = entries_of events

abbrev without_remarks : List Event → List Event
without_remarks [] = []
without_remarks (Mentions w ∷ events) = Mentions w ∷ without_remarks events
without_remarks (Runs line ∷ events) = Runs line ∷ without_remarks events
without_remarks (Reports lun moment sign ∷ events) = Reports lun moment sign ∷ without_remarks events
without_remarks (Remarks ∷ events) = without_remarks events

-- none of these is a report
abbrev AreEntries : List Event → Type 0
AreEntries events = without_remarks events ≡ map event_of (entries_of events)

none_said : (events : List Event) → SaysBy Stated [] events → ⊥
none_said [] h = cc
none_said (Mentions w ∷ events) h = none_said events h
none_said (Runs line ∷ events) h = h
none_said (Reports lun moment sign ∷ events) h = h
none_said (Remarks ∷ events) h = h

phase_some : (o : Option LogLine) (l : LogLine) → and_then o phase_of ≡ Some (says.Phase l) → o ≡ Some l
phase_some None l e = cc
phase_some (Some m) l e = cc

report_none : (o : Option LogLine) (lun moment : ℕ) (sign : Sign) → and_then o phase_of ≡ Some (says.Ready lun moment sign) → ⊥
report_none None lun moment sign e = cc
report_none (Some m) lun moment sign e = cc

remark_none : (o : Option LogLine) → and_then o phase_of ≡ Some says.Comment → ⊥
remark_none None e = cc
remark_none (Some m) e = cc

-- a phase is no comment
plain_phase : (b : Bool) (o : Option LogLine) (l : LogLine) → (if b then Some says.Comment else and_then o phase_of) ≡ Some (says.Phase l) → (b ≡ false) × (o ≡ Some l)
plain_phase true o l e = cc
plain_phase false o l e = (refl, phase_some o l e)

no_report : (b : Bool) (o : Option LogLine) (lun moment : ℕ) (sign : Sign) → (if b then Some says.Comment else and_then o phase_of) ≡ Some (says.Ready lun moment sign) → ⊥
no_report true o lun moment sign e = cc
no_report false o lun moment sign e = report_none o lun moment sign e

plain_remark : (b : Bool) (o : Option LogLine) → (if b then Some says.Comment else and_then o phase_of) ≡ Some says.Comment → b ≡ true
plain_remark true o e = refl
plain_remark false o e = absurd (remark_none o e)

plain_events : (events : List Event) (texts : List (List ℕ)) → SaysBy Stated texts events → AreEntries events
plain_events [] texts h = refl
plain_events (Mentions w ∷ events) texts h = ap (λ es. Mentions w ∷ es) (plain_events events texts h)
plain_events (Runs line ∷ events) [] h = absurd h
plain_events (Runs line ∷ events) (text ∷ texts) (said, rest) = ap (λ es. Runs line ∷ es) (plain_events events texts rest)
plain_events (Reports lun moment sign ∷ events) [] h = absurd h
plain_events (Reports lun moment sign ∷ events) (text ∷ texts) (e, rest) = absurd (no_report (is_comment text) (line_of text) lun moment sign e)
plain_events (Remarks ∷ events) [] h = absurd h
plain_events (Remarks ∷ events) (text ∷ texts) (e, rest) = plain_events events texts rest

says_first : (text : List ℕ) (texts : List (List ℕ)) (line : Line) (lines : List Line) → 0 < length texts → is_comment text ≡ false → IsSaid text line → Says texts lines → Says (text ∷ texts) (line ∷ lines)
says_first text [] line lines some plain said h = absurd (omega arith)
says_first text (next ∷ more) line lines some plain said h = subst (λ c. SaysFirst c text (line ∷ lines) (λ rest. Says (next ∷ more) rest)) (sym plain) (said, h)

says_remark : (text : List ℕ) (texts : List (List ℕ)) (lines : List Line) → 0 < length texts → is_comment text ≡ true → Says texts lines → Says (text ∷ texts) lines
says_remark text [] lines some remark h = absurd (omega arith)
says_remark text (next ∷ more) lines some remark h = subst (λ c. SaysFirst c text lines (λ rest. Says (next ∷ more) rest)) (sym remark) h

some_said : (texts : List (List ℕ)) (events : List Event) → SaysBy Stated texts events → 0 < length texts
some_said [] events h = absurd (none_said events h)
some_said (text ∷ texts) events h = omega arith

plain_says : (events : List Event) (texts : List (List ℕ)) → SaysBy Stated texts events → Says texts (lines_of (entries_of events))
plain_says [] [] h = refl
plain_says [] (last ∷ []) h = refl
plain_says [] (text ∷ next ∷ more) h = absurd (omega arith)
plain_says (Mentions w ∷ events) texts h = plain_says events texts h
plain_says (Runs line ∷ events) [] h = absurd h
plain_says (Runs line ∷ events) (text ∷ texts) ((l, said, is), rest) =
    let (plain, one) = plain_phase (is_comment text) (line_of text) l said in
    says_first text texts line (lines_of (entries_of events)) (some_said texts events rest) plain (l, one, is) (plain_says events texts rest)
plain_says (Reports lun moment sign ∷ events) [] h = absurd h
plain_says (Reports lun moment sign ∷ events) (text ∷ texts) (e, rest) = absurd (no_report (is_comment text) (line_of text) lun moment sign e)
plain_says (Remarks ∷ events) [] h = absurd h
plain_says (Remarks ∷ events) (text ∷ texts) (e, rest) =
    says_remark text texts (lines_of (entries_of events)) (some_said texts events rest) (plain_remark (is_comment text) (line_of text) e) (plain_says events texts rest)

leads_without : (events : List Event) (p q : Problem) → LeadsBy p events q → LeadsBy p (without_remarks events) q
leads_without [] p q e = e
leads_without (Mentions w ∷ events) p q h = leads_without events p q h
leads_without (Runs line ∷ events) p q (move, is, rest) = (move, is, leads_without events (placed p move line.start) q rest)
leads_without (Reports lun moment sign ∷ events) p q (there, seen, rest) = (there, seen, leads_without events (ready_by p lun moment) q rest)
leads_without (Remarks ∷ events) p q h = leads_without events p q h

mentioned_without : (events : List Event) → mentioned events ≡ mentioned (without_remarks events)
mentioned_without [] = refl
mentioned_without (Mentions w ∷ events) = ap (λ ws. w ∷ ws) (mentioned_without events)
mentioned_without (Runs line ∷ events) = mentioned_without events
mentioned_without (Reports lun moment sign ∷ events) = mentioned_without events
mentioned_without (Remarks ∷ events) = mentioned_without events

without_on : (before : List Entry) (events : List Event) → without_remarks (map event_of before ++ events) ≡ map event_of before ++ without_remarks events
without_on [] events = refl
without_on (Accept w ∷ before) events = ap (λ es. Mentions w ∷ es) (without_on before events)
without_on (Phase line ∷ before) events = ap (λ es. Runs line ∷ es) (without_on before events)

plain_leads : (entries : List Entry) (p q : Problem) → LeadsBy p (map event_of entries) q → Leads p (lines_of entries) q
plain_leads [] p q e = e
plain_leads (Accept w ∷ entries) p q h = plain_leads entries p q h
plain_leads (Phase line ∷ entries) p q (move, is, rest) = (move, is, plain_leads entries (placed p move line.start) q rest)

plain_wants : (entries : List Entry) → mentioned (map event_of entries) ≡ wants_of entries
plain_wants [] = refl
plain_wants (Accept w ∷ entries) = ap (λ ws. w ∷ ws) (plain_wants entries)
plain_wants (Phase line ∷ entries) = plain_wants entries

map_on : (before entries : List Entry) → map event_of before ++ map event_of entries ≡ map event_of (before ++ entries)
map_on [] entries = refl
map_on (e ∷ before) entries = ap (λ es. event_of e ∷ es) (map_on before entries)

pub legal_law : LegalLaw
legal_law p before a requests all text answer ip audited answers z =
    let (events, q, said, is, leads) = reported_law p before a requests Stated all text answer ip audited answers z in
    let entries = entries_of events in
    let whole = before ++ entries in
    let all_events = map event_of before ++ events in
    let same : without_remarks all_events ≡ map event_of whole =
    without_on before events ∙ ap (λ es. map event_of before ++ es) (plain_events events (parts 10 text) said) ∙ map_on before entries in
    let clean = subst (λ ws. LeadsBy (with_wants p ws) (without_remarks all_events) q) (mentioned_without all_events) (leads_without all_events (with_wants p (mentioned all_events)) q leads) in
    let led : LeadsBy (with_wants p (mentioned (map event_of whole))) (map event_of whole) q = subst (λ es. LeadsBy (with_wants p (mentioned es)) es q) same clean in
    let wants : mentioned all_events ≡ wants_of whole = mentioned_without all_events ∙ ap mentioned same ∙ plain_wants whole in
    let problem = subst (λ ws. IsProblem (with_wants p ws)) wants is in
    (entries, q, plain_says events (parts 10 text) said, problem, plain_leads whole (with_wants p (wants_of whole)) q (subst (λ ws. LeadsBy (with_wants p ws) (map event_of whole) q) (plain_wants whole) led))
