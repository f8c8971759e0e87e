-- Each line that breaks a condition is named, and lines that overlap break one.
use Rattle.std.proofs.Common.{◌≡◌, ◌≢◌, ℕ, ◌+◌, ◌-◌, ◌≤◌, ◌<◌, inl, inr, Bool, true, List, [], ◌∷◌, ◌++◌, Option, None, Some, refl, sym, ap, ◌∙◌, subst, append_assoc, append-nil, arith}
use Rattle.std.specs.Prelude.{◌==◌, max, nat_le, nat_lt, slice_get, length}
use Rattle.std.specs.List.{AllByRecursion as All}
use Rattle.std.proofs.lemmas.Bool.{cases_Bool, eqb-true}
use Rattle.onfi_request.specs.declared.want.Want.{Want}
use Rattle.onfi_group.specs.Words.{Pairs}
use Rattle.onfi_group.proofs.Lists.{All-weaker}
use Rattle.onfi_audit.specs.Audit.{Audit, after_line, earliest, readied_on}
use Rattle.onfi_audit.specs.declared.line.Line.{Line}
use Rattle.onfi_audit.specs.declared.stage.LunStage.{LunStage}
use Rattle.onfi_audit.proofs.Bus.{bus_law}
use Rattle.onfi_log.specs.declared.breach.LineBreach.{LineBreach}
use Rattle.onfi_log.specs.declared.breach.LineBreach.TheVariants.{OtherEnd}
use Rattle.onfi_log.specs.declared.entry.LogEntry.{LogEntry}
use Rattle.onfi_log.specs.declared.entry.LogEntry.TheVariants as says
use Rattle.onfi_log.specs.declared.entry.Sign.TheVariants.{Status, Edge}
use Rattle.onfi_log.specs.declared.line.LogLine.{LogLine}
use Rattle.onfi_log.specs.declared.manner.Statuses.{Statuses}
use Rattle.onfi_log.specs.declared.manner.Statuses.TheVariants.{EachPlane, OneForAll}
use Rattle.onfi_log.specs.declared.readies.Readies.{Readies}
use Rattle.onfi_log.specs.Entry.{entry_of, lun_in, phases_in}
use Rattle.onfi_log.specs.Judging.{FacesBy, Judged, Regains, Steps, Takes, after_report, beginning, brings, or_else, other_end, ran, staged, with_brought}
use Rattle.onfi_log.specs.Laws.{AreLines, EachLaw, EndsAsSaid, Follow, Found, IsEach, IsOver, Overlaps, found_text, found_texts}
use Rattle.onfi_log.specs.Parts.{parts}
use Rattle.onfi_log.specs.Text.{Answer, AnswersFrom, OnBreach, OnEntry, breach_text, ended, ended_by, used_of, wrong}
use Rattle.onfi_log.proofs.Answering.{Goes}
use Rattle.onfi_log.proofs.LegalLogs.{in_order}

-- The bus

abbrev bus : Judged → ℕ
bus j = j.audit.bus_free

free_brought : (j : Judged) (line : Line) → (with_brought j line).bus_free ≡ bus j
free_brought j line = elim (cases_Bool (brings j line)) [ inl b ↦ rw b refl | inr b ↦ rw b refl ]

free_faced : (statuses : Statuses) (j h : Judged) (line : Line) → FacesBy statuses j line h → bus h ≡ bus j
free_faced EachPlane j h line e = ap (λ (x : Judged). bus x) e
free_faced OneForAll j h line (inl (x, alone, e)) = ap (λ (x : Judged). bus x) e
free_faced OneForAll j h line (inr (none, e)) = ap (λ (x : Judged). bus x) e

tolerance_faced : (statuses : Statuses) (j h : Judged) (line : Line) → FacesBy statuses j line h → h.tolerance ≡ j.tolerance
tolerance_faced EachPlane j h line e = ap (λ (x : Judged). x.tolerance) e
tolerance_faced OneForAll j h line (inl (x, alone, e)) = ap (λ (x : Judged). x.tolerance) e
tolerance_faced OneForAll j h line (inr (none, e)) = ap (λ (x : Judged). x.tolerance) e

-- what ran leaves the bus free no sooner
ran_later : (j k : Judged) (line : LogLine) → k ≡ ran j line → bus j ≤ bus k
ran_later j k line e =
    let same = free_brought j line.phase in
    let later = bus_law (with_brought j line.phase) line.phase in
    let is : bus k ≡ (after_line (with_brought j line.phase) line.phase).bus_free = ap (λ (x : Judged). bus x) e in
    omega (arith, same, later, is)

free_readied : (a : Audit) (lun moment : ℕ) (o : Option LunStage) → (readied_on a lun moment o).bus_free ≡ a.bus_free
free_readied a lun moment None = refl
free_readied a lun moment (Some x) = refl

report_later : (j k : Judged) (lun moment : ℕ) (b : Option LineBreach) → k ≡ after_report j lun moment b → bus j ≤ bus k
report_later j k lun moment None e =
    let same : bus k ≡ bus j = ap (λ (x : Judged). bus x) e ∙ free_readied j.audit lun moment (slice_get j.audit.luns lun) in
    omega (arith, same)
report_later j k lun moment (Some b) e = let same : bus k ≡ bus j = ap (λ (x : Judged). bus x) e in omega (arith, same)

past_later : (j k : Judged) (line : LogLine) → Regains j line k → bus j ≤ bus k
past_later j k line (inl past) = elim past.runs [
  | inl (may, e) ↦ ran_later (staged j line.phase.lun past.stage) k line e
  | inr (none, e) ↦ (let same : bus k ≡ bus j = ap (λ (x : Judged). bus x) e in omega (arith, same))
]
past_later j k line (inr (stray, e)) = let same : bus k ≡ bus j = ap (λ (x : Judged). bus x) e in omega (arith, same)

steps_later : (j k : Judged) (line : LogLine) (b : Option LineBreach) → Steps j line b k → bus j ≤ bus k
steps_later j k line None (right, e) = ran_later j k line e
steps_later j k line (Some b) (breaks, inl (may, e)) = ran_later j k line e
steps_later j k line (Some b) (breaks, inr (none, regains)) = past_later j k line regains

-- the bus never goes back
taken_later : (j k : Judged) (entry : LogEntry) (b : Option LineBreach) → Takes j entry b k → bus j ≤ bus k
taken_later j k (says.Phase line) b (h, faces, steps) =
    let same = free_faced j.statuses j h line.phase faces in
    let later = steps_later h k line b steps in
    omega (arith, same, later)
taken_later j k (says.Ready lun moment sign) b (is, e) = report_later j k lun moment b e
taken_later j k says.Comment b (is, e) = let same : bus k ≡ bus j = ap (λ (x : Judged). bus x) e in omega (arith, same)

-- what breaks no condition isn't over what is on the bus
right_on_time : (j k : Judged) (entry : LogEntry) (moment : ℕ) → Takes j entry None k → moment ≤ bus j → IsOver entry j.tolerance moment → ⊥
right_on_time j k (says.Phase line) moment (h, faces, (right, e)) low over =
    let a = with_brought h line.phase in
    let same = free_brought h line.phase in
    let faced = free_faced j.statuses j h line.phase faces in
    let tolerance = tolerance_faced j.statuses j h line.phase faces in
    let in_time : earliest a line.phase - line.phase.start ≤ h.tolerance = right.comes.in_time in
    let free : a.bus_free ≤ earliest a line.phase = omega arith in
    absurd (omega (arith, same, faced, tolerance, in_time, free, low, over))
right_on_time j k (says.Ready lun time Status) moment (none, e) low over = let seen = (in_order Status j.audit lun time none).1 in absurd (omega (arith, seen, low, over))
right_on_time j k (says.Ready lun time Edge) moment (none, e) low over = over
right_on_time j k says.Comment moment (none, e) low over = over

-- Lines that overlap

-- from that moment on the bus was free no sooner
abbrev NoSooner : ℕ → List Found → Type 0
NoSooner moment found = All (λ f. moment ≤ bus f.before) found

no_sooner : (found : List Found) (j : Judged) (moment : ℕ) → moment ≤ bus j → Follow j found → NoSooner moment found
no_sooner [] j moment low follow = tt
no_sooner (f ∷ found) j moment low (e, follow) =
    let same : bus f.before ≡ bus j = ap (λ (x : Judged). bus x) e in
    let later = taken_later f.before f.after f.entry f.breach f.takes in
    (omega (arith, same, low), no_sooner found f.after moment (omega (arith, same, low, later)) follow)

named : (f : Found) (moment : ℕ) → moment ≤ bus f.before → IsOver f.entry f.before.tolerance moment → f.breach ≢ None
named f moment low over none = right_on_time f.before f.after f.entry moment (subst (λ b. Takes f.before f.entry b f.after) none f.takes) low over

each_overlap : (found : List Found) (j : Judged) → Follow j found → Pairs (λ earlier later. Overlaps earlier later → later.breach ≢ None) found
each_overlap [] j follow = tt
each_overlap (f ∷ found) j (e, follow) = (
  All-weaker (λ (l : Found). bus f.after ≤ bus l.before) (λ (l : Found). Overlaps f l → l.breach ≢ None) (λ l low soon. named l (bus f.after) low soon) found
      (no_sooner found f.after (bus f.after) (omega arith) follow),
  each_overlap found f.after follow,
)

-- Lines that say when they end

end_is : (said : Option ℕ) (ends end : ℕ) (other : Option LineBreach) → or_else (other_end said ends) other ≡ None → said ≡ Some end → ends ≡ end
end_is None ends end other none is = cc
end_is (Some x) ends end other none is =
    let same : x ≡ end = cc in
    elim (cases_Bool (x == ends)) [
      | inl k ↦ sym (eqb-true x ends k) ∙ same
      | inr k ↦ (let q : Some (OtherEnd x ends) ≡ None = rw k at none in absurd (cc))
    ]

ends_as_said : (f : Found) → EndsAsSaid f
ends_as_said f line end is none said =
    let of_line : Takes f.before (says.Phase line) f.breach f.after = subst (λ e. Takes f.before e f.breach f.after) is f.takes in
    let takes : Takes f.before (says.Phase line) None f.after = subst (λ b. Takes f.before (says.Phase line) b f.after) none of_line in
    let (h, faces, steps) = takes in
    let (right, e) = steps in
    ap (λ (x : Judged). bus x) e ∙ end_is line.end (after_line (with_brought h line.phase) line.phase).bus_free end _ right.fits said

each_ends : (found : List Found) → All EndsAsSaid found
each_ends [] = tt
each_ends (f ∷ found) = (ends_as_said f, each_ends found)

-- The answer

-- what the answer says from a line on, where it has said so much
record IsFound (readies : Readies) (j : Judged) (number : ℕ) (said : List ℕ) (texts : List (List ℕ)) (answer : Answer) : Type 0 where
  pub found : List Found
  pub follow : Follow j found
  pub lines : AreLines readies texts found
  pub rest : List ℕ
  pub text : answer.text ≡ (said ++ found_texts number found) ++ rest

record IsEnd (said : List ℕ) (answer : Answer) : Type 0 where
  pub rest : List ℕ
  pub text : answer.text ≡ said ++ rest

ends : (number phases : ℕ) (used : Option ℕ) (said last : List ℕ) (answer : Answer) → answer ≡ ended number phases used said last → IsEnd said answer
ends number phases used [] [] answer e = record { rest = (ended_by phases used []).text; text = ap (λ (a : Answer). a.text) e }
ends number phases used (c ∷ said) [] answer e = record { rest = []; text = ap (λ (a : Answer). a.text) e ∙ sym (append-nil (c ∷ said)) }
ends number phases used said (c ∷ last) answer e = record { rest = _; text = ap (λ (a : Answer). a.text) e }

none_found : (readies : Readies) (j : Judged) (number : ℕ) (said : List ℕ) (texts : List (List ℕ)) (answer : Answer) → AreLines readies texts [] → IsEnd said answer
    → IsFound readies j number said texts answer
none_found readies j number said texts answer lines end = record {
  found = [];
  follow = tt;
  lines = lines;
  rest = end.rest;
  text = end.text ∙ ap (λ t. t ++ end.rest) (sym (append-nil said));
}

-- a line that was judged, and those after it
one_found : (readies : Readies) (j k : Judged) (number : ℕ) (said text next : List ℕ) (more : List (List ℕ)) (answer : Answer) (entry : LogEntry) (b : Option LineBreach)
    → entry_of readies text ≡ Some entry → Takes j entry b k → IsFound readies k (number + 1) (said ++ found_text number entry b) (next ∷ more) answer
    → IsFound readies j number said (text ∷ next ∷ more) answer
one_found readies j k number said text next more answer entry b is takes rest =
    let f : Found = record { before = j; entry = entry; breach = b; after = k; takes = takes } in
    record {
      found = f ∷ rest.found;
      follow = (refl, rest.follow);
      lines = (is, rest.lines);
      rest = rest.rest;
      text = rest.text ∙ ap (λ t. t ++ rest.rest) (append_assoc said (found_text number entry b) (found_texts (number + 1) rest.found));
    }

on_breach : (readies : Readies) (j k : Judged) (number phases : ℕ) (said text next : List ℕ) (more : List (List ℕ)) (answer : Answer) (entry : LogEntry) (b : Option LineBreach)
    → entry_of readies text ≡ Some entry → Takes j entry b k
    → OnBreach b true number (lun_in entry) said answer (λ s. AnswersFrom readies true k (number + 1) (phases + phases_in entry) s (next ∷ more) answer)
    → ((s : List ℕ) → AnswersFrom readies true k (number + 1) (phases + phases_in entry) s (next ∷ more) answer → IsFound readies k (number + 1) s (next ∷ more) answer)
    → IsFound readies j number said (text ∷ next ∷ more) answer
on_breach readies j k number phases said text next more answer entry None is takes goes rest =
    one_found readies j k number said text next more answer entry None is takes
    (subst (λ s. IsFound readies k (number + 1) s (next ∷ more) answer) (sym (append-nil said)) (rest said goes))
on_breach readies j k number phases said text next more answer entry (Some b) is takes goes rest =
    one_found readies j k number said text next more answer entry (Some b) is takes (rest (said ++ breach_text number (lun_in entry) b) goes)

on_entry : (o : Option LogEntry) (readies : Readies) (j : Judged) (number phases : ℕ) (said text next : List ℕ) (more : List (List ℕ)) (answer : Answer)
    → entry_of readies text ≡ o → OnEntry o number said answer (Goes readies true j number phases said (next ∷ more) answer)
    → ((k : Judged) (n : ℕ) (s : List ℕ) → AnswersFrom readies true k (number + 1) n s (next ∷ more) answer → IsFound readies k (number + 1) s (next ∷ more) answer)
    → IsFound readies j number said (text ∷ next ∷ more) answer
on_entry None readies j number phases said text next more answer is e rest =
    none_found readies j number said (text ∷ next ∷ more) answer is (record { rest = _; text = ap (λ (a : Answer). a.text) e })
on_entry (Some entry) readies j number phases said text next more answer is (b, k, takes, goes) rest =
    on_breach readies j k number phases said text next more answer entry b is takes goes (rest k (phases + phases_in entry))

found_from : (texts : List (List ℕ)) (readies : Readies) (j : Judged) (number phases : ℕ) (said : List ℕ) (answer : Answer)
    → AnswersFrom readies true j number phases said texts answer → IsFound readies j number said texts answer
found_from [] readies j number phases said answer e = none_found readies j number said [] answer refl (ends number phases (used_of j) said [] answer e)
found_from (last ∷ []) readies j number phases said answer e = none_found readies j number said (last ∷ []) answer refl (ends number phases (used_of j) said last answer e)
found_from (text ∷ next ∷ more) readies j number phases said answer on =
    on_entry (entry_of readies text) readies j number phases said text next more answer refl on (λ k n s goes. found_from (next ∷ more) readies k (number + 1) n s answer goes)

pub each_law : EachLaw
each_law audit requests manner text answer (greatest, fresh, answers) =
    let j = beginning requests manner audit greatest in
    let is = found_from (parts 10 text) manner.readies j 1 0 [] answer answers in
    (j, refl, refl, record { found = is.found; follow = is.follow; lines = is.lines; rest = is.rest; text = is.text; overlaps = each_overlap is.found j is.follow; ends = each_ends is.found })
