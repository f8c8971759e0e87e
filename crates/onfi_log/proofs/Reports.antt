-- Whole logs with reports of statuses: what is accepted is legal where LUNs are ready as reported.
use Rattle.std.proofs.Common.{◌≡◌, ℕ, ◌<◌, List, [], ◌∷◌, length, Option, None, Some, refl, sym, ap, ◌∙◌, subst, inl, inr}
use Rattle.std.specs.Prelude.{slice_get, slice_set}
use Rattle.std.specs.List.{AllByRecursion as All}
use Rattle.std.proofs.lemmas.List.{length-map}
use Rattle.onfi_request.specs.declared.want.Want.{Want}
use Rattle.onfi_problem.specs.declared.lun_state.LunState.{LunState}
use Rattle.onfi_problem.specs.Problem.{Problem, IsProblem}
use Rattle.onfi_problem.proofs.Places.{get_set_same, get_set_other, length_set, same_place}
use Rattle.onfi_audit.specs.declared.stage.LunStage.{LunStage}
use Rattle.onfi_audit.specs.declared.stage.LunStage.TheVariants as stage
use Rattle.onfi_audit.specs.Audit.{Audit, IsAccepted, MayCome, accepting, after_line, opening, readied, readied_on, readied_stage, stage_of}
use Rattle.onfi_audit.specs.Legal.{Fits, IsAudit, IsChoice, IsStage, closed, problem_at, state_at, states_at, with_wants}
use Rattle.onfi_audit.proofs.Logs.{AreAccepted, SameFrame, accepted_same, after_more, all_wait, choice_none, closed_is, frame_on, kept, kept_accepting, later_numbers, may_more, more_kept, more_next, more_none, opening_is, opening_none, stages_set, with_more}
use Rattle.onfi_audit.proofs.States.{opening_states, states_back, states_get, states_length, states_set}
use Rattle.onfi_audit.proofs.Steps.{back, same_parts}
use Rattle.onfi_log.specs.Laws.{Event, IsSeen, LeadsBy, Mentions, Remarks, Reports, Runs, mentioned, ready_by, ready_on, ready_state}

-- each event in its turn
abbrev pub AuditedBy : Audit → List Event → Audit → Type 0
AuditedBy a [] b = a ≡ b
AuditedBy a (Mentions w ∷ events) b = IsAccepted a w × AuditedBy (accepting a w) events b
AuditedBy a (Runs line ∷ events) b = MayCome a line × AuditedBy (after_line a line) events b
AuditedBy a (Reports lun moment sign ∷ events) b = (lun < length a.luns) × IsSeen sign moment a.bus_free × AuditedBy (readied a lun moment) events b
AuditedBy a (Remarks ∷ events) b = AuditedBy a events b

-- A LUN that is reported ready

readied_state : (x : LunStage) (moment : ℕ) (later : List Want) → state_at (readied_stage moment x) later ≡ ready_state moment (state_at x later)
readied_state (stage.Free since) moment later = refl
readied_state (stage.Running group next ready) moment later = refl
readied_state (stage.Open group more ready) moment [] = refl
readied_state (stage.Open group more ready) moment (m ∷ later) = refl

stage_kept : (a : Audit) (lun : ℕ) (x : LunStage) (moment : ℕ) → IsStage a.rules lun x → IsStage a.rules lun (readied_stage moment x)
stage_kept a lun (stage.Free since) moment is = is
stage_kept a lun (stage.Running group next ready) moment is = is
stage_kept a lun (stage.Open group more ready) moment is = is

fits_before : (a : Audit) (x : LunStage) (moment : ℕ) (later : List Want) → Fits a (Some (readied_stage moment x)) later → Fits a (Some x) later
fits_before a (stage.Free since) moment later fits = fits
fits_before a (stage.Running group next ready) moment later fits = fits
fits_before a (stage.Open group more ready) moment later fits = fits

-- members fit whatever other LUNs do
fits_beside : (a : Audit) (luns : List LunStage) (o : Option LunStage) (later : List Want) → Fits (let b : Audit = record a { luns = luns } in b) o later → Fits a o later
fits_beside a luns None later fits = fits
fits_beside a luns (Some (stage.Free since)) later fits = fits
fits_beside a luns (Some (stage.Running group next ready)) later fits = fits
fits_beside a luns (Some (stage.Open group more ready)) later fits = fits

none_stands : (luns : List LunStage) (f : ℕ → List Want) (lun : ℕ) → slice_get luns lun ≡ None → slice_get (states_at luns f) lun ≡ None
none_stands luns f lun none = by_state (slice_get (states_at luns f) lun) refl
  where
    by_state : (o : Option LunState) → slice_get (states_at luns f) lun ≡ o → o ≡ None
    by_state None e = refl
    by_state (Some s) e = let back = states_back luns f lun s e in let there = back.there in absurd (cc)

module _ (a : Audit) (lun moment : ℕ) where
  kept_as : (o : Option LunStage) → slice_get a.luns lun ≡ o → IsAudit a → IsAudit (readied_on a lun moment o)
  kept_as None there ia = ia
  kept_as (Some x) there ia =
      let now = readied_stage moment x in
      record {
        wants = ia.wants;
        placed = ia.placed;
        in_range = subst (λ n. All (λ (w : Want). w.lun < n) a.wants) (sym (length_set a.luns lun now)) ia.in_range;
        ids = ia.ids;
        numbers = ia.numbers;
        stages = stages_set a ia lun x now there (stage_kept a lun x moment (ia.stages lun x there));
      }

  report_kept : IsAudit a → IsAudit (readied a lun moment)
  report_kept ia = kept_as (slice_get a.luns lun) refl ia

  choice_at : (later : ℕ → List Want) (o : Option LunStage) → slice_get a.luns lun ≡ o → IsChoice (readied_on a lun moment o) later → IsChoice a later
  choice_at later None there choice = choice
  choice_at later (Some x) there choice = λ n.
      let now = readied_stage moment x in
      let luns = slice_set a.luns lun now in
      elim (same_place n lun) [
        | inl e ↦ (
            let fits = subst (λ o. Fits a o (later lun)) (get_set_same a.luns lun x now there) (fits_beside a luns (slice_get luns lun) (later lun) (choice lun)) in
            let here : Fits a (slice_get a.luns lun) (later lun) = subst (λ o. Fits a o (later lun)) (sym there) (fits_before a x moment (later lun) fits) in
            subst (λ m. Fits a (slice_get a.luns m) (later m)) (sym e) here)
        | inr d ↦ subst (λ o. Fits a o (later n)) (get_set_other a.luns lun n now d) (fits_beside a luns (slice_get luns n) (later n) (choice n))
      ]

  -- what may stand after the report could before it
  choice_before : (later : ℕ → List Want) → IsChoice (readied a lun moment) later → IsChoice a later
  choice_before later choice = choice_at later (slice_get a.luns lun) refl choice

  leaves_at : (later : ℕ → List Want) (o : Option LunStage) → slice_get a.luns lun ≡ o → problem_at (readied_on a lun moment o) later ≡ ready_by (problem_at a later) lun moment
  leaves_at later None there = sym (ap (ready_on (problem_at a later) lun moment) (none_stands a.luns later lun there))
  leaves_at later (Some x) there =
      same_parts a.timing a.rules _ _ _ _ _ _ refl
      (states_set a.luns lun (readied_stage moment x) later later (λ n d. refl) ∙ ap (slice_set (states_at a.luns later) lun) (readied_state x moment (later lun))) refl
      ∙ sym (ap (ready_on (problem_at a later) lun moment) (states_get a.luns later lun x there))

  report_leaves : (later : ℕ → List Want) → problem_at (readied a lun moment) later ≡ ready_by (problem_at a later) lun moment
  report_leaves later = leaves_at later (slice_get a.luns lun) refl

  more_at : (more : List Want) (o : Option LunStage) → readied_on (with_more a more) lun moment o ≡ with_more (readied_on a lun moment o) more
  more_at more None = refl
  more_at more (Some x) = refl

  report_more : (more : List Want) → readied (with_more a more) lun moment ≡ with_more (readied a lun moment) more
  report_more more = more_at more (slice_get a.luns lun)

  frame_at : (o : Option LunStage) → SameFrame (readied_on a lun moment o) a
  frame_at None = record { timing = refl; rules = refl; luns = refl; accepted = refl }
  frame_at (Some x) = record { timing = refl; rules = refl; luns = length_set a.luns lun (readied_stage moment x); accepted = refl }

  report_frame : SameFrame (readied a lun moment) a
  report_frame = frame_at (slice_get a.luns lun)

-- Requests that are accepted before the first line

are_accepted : (events : List Event) (a b : Audit) → AuditedBy a events b → AreAccepted a (mentioned events)
are_accepted [] a b h = tt
are_accepted (Mentions w ∷ events) a b (is, rest) = (is, are_accepted events (accepting a w) b rest)
are_accepted (Runs line ∷ events) a b (may, rest) =
    accepted_same (mentioned events) (after_line a line) a (frame_on a line (slice_get a.luns line.lun)) (are_accepted events (after_line a line) b rest)
are_accepted (Reports lun moment sign ∷ events) a b (there, free, rest) =
    accepted_same (mentioned events) (readied a lun moment) a (report_frame a lun moment) (are_accepted events (readied a lun moment) b rest)
are_accepted (Remarks ∷ events) a b rest = are_accepted events a b rest

audited_kept : (events : List Event) (a b : Audit) → IsAudit a → AuditedBy a events b → IsAudit b
audited_kept [] a b ia e = subst IsAudit e ia
audited_kept (Mentions w ∷ events) a b ia (is, rest) = audited_kept events (accepting a w) b (kept_accepting a w ia is) rest
audited_kept (Runs line ∷ events) a b ia (may, rest) = audited_kept events (after_line a line) b (kept a ia line may) rest
audited_kept (Reports lun moment sign ∷ events) a b ia (there, free, rest) = audited_kept events (readied a lun moment) b (report_kept a lun moment ia) rest
audited_kept (Remarks ∷ events) a b ia rest = audited_kept events a b ia rest

-- phases and reports alone
abbrev JudgedBy : Audit → List Event → Audit → Type 0
JudgedBy a [] b = a ≡ b
JudgedBy a (Mentions w ∷ events) b = JudgedBy a events b
JudgedBy a (Runs line ∷ events) b = MayCome a line × JudgedBy (after_line a line) events b
JudgedBy a (Reports lun moment sign ∷ events) b = (lun < length a.luns) × IsSeen sign moment a.bus_free × JudgedBy (readied a lun moment) events b
JudgedBy a (Remarks ∷ events) b = JudgedBy a events b

-- the same with all requests accepted up front
up_front : (events : List Event) (a b : Audit) → IsAudit a → AuditedBy a events b → JudgedBy (with_more a (mentioned events)) events b
up_front [] a b ia e = more_none a ∙ e
up_front (Mentions w ∷ events) a b ia (is, rest) =
    subst (λ c. JudgedBy c events b) (more_next a w (mentioned events)) (up_front events (accepting a w) b (kept_accepting a w ia is) rest)
up_front (Runs line ∷ events) a b ia (may, rest) =
    let more = mentioned events in
    let later = later_numbers more a (are_accepted (Runs line ∷ events) a b (may, rest)) in
    let o = slice_get a.luns line.lun in (
      may_more a more line o may,
      subst (λ c. JudgedBy c events b) (sym (after_more a more line o ia later may)) (up_front events (after_line a line) b (kept a ia line may) rest),
    )
up_front (Reports lun moment sign ∷ events) a b ia (there, free, rest) =
    let more = mentioned events in (
      there,
      free,
      subst (λ c. JudgedBy c events b) (sym (report_more a lun moment more)) (up_front events (readied a lun moment) b (report_kept a lun moment ia) rest),
    )
up_front (Remarks ∷ events) a b ia rest = up_front events a b ia rest

-- what may stand after events comes from what may have stood before them
record LedBy (a : Audit) (events : List Event) (q : Problem) : Type 0 where
  pub before : ℕ → List Want
  pub choice : IsChoice a before
  pub leads : LeadsBy (problem_at a before) events q

led_by : (events : List Event) (a b : Audit) → IsAudit a → JudgedBy a events b → (after : ℕ → List Want) → IsChoice b after → LedBy a events (problem_at b after)
led_by [] a b ia e after choice = record { before = after; choice = subst (λ c. IsChoice c after) (sym e) choice; leads = ap (λ c. problem_at c after) e }
led_by (Mentions w ∷ events) a b ia judged after choice =
    let r = led_by events a b ia judged after choice in
    record { before = r.before; choice = r.choice; leads = r.leads }
led_by (Runs line ∷ events) a b ia (may, judged) after choice =
    let r = led_by events (after_line a line) b (kept a ia line may) judged after choice in
    let c = back a ia line may r.before r.choice in
    record { before = c.before; choice = c.choice; leads = (c.move, c.is, subst (λ p. LeadsBy p events (problem_at b after)) (sym c.leaves) r.leads) }
led_by (Remarks ∷ events) a b ia judged after choice =
    let r = led_by events a b ia judged after choice in
    record { before = r.before; choice = r.choice; leads = r.leads }
led_by (Reports lun moment sign ∷ events) a b ia (there, free, judged) after choice =
    let r = led_by events (readied a lun moment) b (report_kept a lun moment ia) judged after choice in
    let here : lun < length (problem_at a r.before).luns = subst (λ n. lun < n) (sym (states_length a.luns r.before)) there in
    record {
      before = r.before;
      choice = choice_before a lun moment r.before r.choice;
      leads = (here, free, subst (λ p. LeadsBy p events (problem_at b after)) (report_leaves a lun moment r.before) r.leads);
    }

-- the opening with all requests that are mentioned is a problem
pub problem_all : (p : Problem) (events : List Event) (a : Audit) → IsProblem p → AuditedBy (opening p) events a → IsProblem (with_wants p (mentioned events))
problem_all p events a ip audited =
    let wants = mentioned events in
    let first_is = more_kept wants (opening p) (opening_is p ip) (are_accepted events (opening p) a audited) in
    record {
      wants = first_is.wants;
      in_range = subst (λ n. All (λ (w : Want). w.lun < n) wants) (length-map p.luns stage_of) first_is.in_range;
      ids = first_is.ids;
      running = ip.running;
    }

-- from the opening, with all requests that are mentioned, they lead to what the audit has left
pub leads_all : (p : Problem) (events : List Event) (a : Audit) → IsProblem p → AuditedBy (opening p) events a → LeadsBy (with_wants p (mentioned events)) events (closed a)
leads_all p events a ip audited =
    let wants = mentioned events in
    let first = with_more (opening p) wants in
    let ia = opening_is p ip in
    let r = led_by events first a (more_kept wants (opening p) ia (are_accepted events (opening p) a audited)) (up_front events (opening p) a ia audited)
    (λ n. []) (choice_none a (audited_kept events (opening p) a ia audited)) in
    let begins : problem_at first r.before ≡ with_wants p wants =
    same_parts p.timing p.rules _ _ _ _ _ _ refl (opening_states p.luns r.before) (all_wait r.before wants (λ n. opening_none first p.luns n (r.before n) (r.choice n))) in
    subst (λ q. LeadsBy (with_wants p wants) events q) (closed_is a) (subst (λ q. LeadsBy q events (problem_at a (λ n. []))) begins r.leads)
