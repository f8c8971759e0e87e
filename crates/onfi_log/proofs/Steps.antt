-- A log after a line.
use Rattle.std.proofs.Common.{◌≡◌, ◌<◌, ◌^◌, ◌-◌, ℕ, List, [], ◌∷◌, zero, suc, Bool, true, false, Option, Some, None, Ok, Err, inl, inr, refl, sym, ap, ◌∙◌, subst, arith}
use Rattle.std.specs.Prelude.{if◌then◌else◌, max, OnOk, Result, slice_get, slice_set}
use Rattle.onfi_audit.specs.Audit.{Audit, IsRegained, MayCome, accepting, after_line, earliest, request_of}
use Rattle.onfi_audit.proofs.Later.{may_on_time}
use Rattle.onfi_audit.specs.declared.stage.LunStage.{LunStage}
use Rattle.onfi_audit.specs.declared.line.Line.{Line}
use Rattle.onfi_log.specs.declared.breach.LineBreach.{LineBreach}
use Rattle.onfi_log.specs.declared.line.LogLine.{LogLine}
use Rattle.onfi_log.specs.Judging.{BreaksBy, ComesBy, GoesOnBy, Judged, RanBy, Regains, RunsPast, Steps, amiss, begins, bringing, brings, gone_by, kind_of, last_known, misfit, misfit_by, ran, staged, with_brought, with_notes}

pub brought_is : (j : Judged) (line : Line) → brings j line ≡ true → with_brought j line ≡ accepting j.audit (request_of j.audit (kind_of line.operation) line.lun line.block line.page)
brought_is j line h = rw h refl

pub nothing_brought : (j : Judged) (line : Line) → brings j line ≡ false → bringing j line ≡ j
nothing_brought j line h = ap (λ b. let k : Judged = record j { audit = (if b then accepting j.audit (request_of j.audit (kind_of line.operation) line.lun line.block line.page) else j.audit) } in k) h

-- the phase ran, and what its line says was noted
pub ran_is : (j s r n : Judged) (line : LogLine) (b : Bool) → s ≡ bringing j line.phase → b ≡ begins j.audit line.phase → r ≡ gone_by s line.phase
    → n ≡ with_notes r b line → n ≡ ran j line
ran_is j s r n line b es eb er en =
    en ∙ ap (λ (x : Judged). with_notes x b line) er
    ∙ ap (λ (x : Judged). with_notes (gone_by x line.phase) b line) es
    ∙ ap (λ c. with_notes (gone_by (bringing j line.phase) line.phase) c line) eb

-- a line whose phase may come and with which nothing else is amiss ran, whether or not its fields are those of the phase
right_steps : (j k : Judged) (line : LogLine) → amiss j line ≡ None → ComesBy j.tolerance (with_brought j line.phase) line.phase → k ≡ ran j line
    → (o : Option LineBreach) → misfit j line ≡ o → Steps j line o k
right_steps j k line named comes is None e = (record { named = named; comes = comes; fits = e }, is)
right_steps j k line named comes is (Some b) e = (inr (record { named = named; comes = comes; misfit = e }), inl (comes.may, is))

-- .. as it is noted
pub noted_steps : (j s r n : Judged) (line : LogLine) (b : Bool) (known : Option Bool) (o : Option LineBreach) → s ≡ bringing j line.phase → b ≡ begins j.audit line.phase
    → r ≡ gone_by s line.phase → n ≡ with_notes r b line → known ≡ last_known j.audit line.phase → o ≡ misfit_by known n.audit.bus_free line
    → amiss j line ≡ None → ComesBy s.tolerance s.audit line.phase → Steps j line o n
noted_steps j s r n line b known o es eb er en ek eo named comes =
    let is = ran_is j s r n line b es eb er en in
    let whole : misfit j line ≡ o = sym (eo ∙ ap (λ k. misfit_by k n.audit.bus_free line) ek ∙ ap (λ (x : Judged). misfit_by (last_known j.audit line.phase) x.audit.bus_free line) is) in
    right_steps j n line named (subst (λ (x : Judged). ComesBy x.tolerance x.audit line.phase) es comes) is o whole

-- Phases that are taken as missing

set_back : {A : Type 0} (xs : List A) (i : ℕ) (a b : A) → slice_get xs i ≡ Some b → slice_set (slice_set xs i a) i b ≡ xs
set_back [] i a b h = cc
set_back (x ∷ xs) zero a b h = cc
set_back (x ∷ xs) (suc i) a b h = ap (λ ys. x ∷ ys) (set_back xs i a b h)

staged_back : (j : Judged) (lun : ℕ) (before stage : LunStage) → slice_get j.audit.luns lun ≡ Some before → staged (staged j lun stage) lun before ≡ j
staged_back j lun before stage there =
    ap (λ xs. let a : Audit = record j.audit { luns = xs } in let k : Judged = record j { audit = a } in k) (set_back j.audit.luns lun stage before there)

-- the line runs neither way, and the LUN does again what it did
pub not_past : (j s r k : Judged) (line : LogLine) (before stage : LunStage) → slice_get j.audit.luns line.phase.lun ≡ Some before → IsRegained before line.phase stage
    → s ≡ staged j line.phase.lun stage → RanBy false s line r → k ≡ staged r line.phase.lun before → Regains j line k
not_past j s r k line before stage there regained es (none, er) ek = inl (record {
  before = before;
  there = there;
  stage = stage;
  regained = regained;
  runs = inr (
    subst (λ (x : Judged). RanBy false x line x) es (none, refl),
    ek ∙ ap (λ (x : Judged). staged x line.phase.lun before) (er ∙ es) ∙ staged_back j line.phase.lun before stage there,
  );
})

-- A phase that comes in time

-- what may come does so by no tolerance
pub comes_in_time : (tolerance : ℕ) (a : Audit) (line : Line) → line.start < 2 ^ 62 → MayCome a line → ComesBy tolerance a line
comes_in_time tolerance a line time may = let late = may_on_time a line may in record { may = (line.start, time, may); in_time = omega (arith, late) }

-- .. and it comes too soon by nothing
pub gone_in_time : (j k : Judged) (line : Line) → MayCome j.audit line → k ≡ (record j { audit = after_line j.audit line }) → k ≡ gone_by j line
gone_in_time j k line may e =
    let late = may_on_time j.audit line may in
    let none : max j.early (earliest j.audit line - line.start) ≡ j.early = omega (arith, late) in
    e ∙ ap (λ n. let x : Judged = record j { audit = after_line j.audit line; early = n } in x) (sym none)

-- A line that breaks a condition

pub broken_steps : (j s k : Judged) (line : LogLine) (b : LineBreach) (found : Option LineBreach) → s ≡ bringing j line.phase → found ≡ amiss j line
    → BreaksBy found s.tolerance s.audit line.phase b → GoesOnBy j line k → (o : Option LineBreach) → o ≡ Some b → Steps j line o k
broken_steps j s k line b found es ef breaks goes o e =
    let of_state = subst (λ (x : Judged). BreaksBy found x.tolerance x.audit line.phase b) es breaks in
    let whole = subst (λ f. BreaksBy f j.tolerance (with_brought j line.phase) line.phase b) ef of_state in
    subst (λ x. Steps j line x k) (sym e) (inl whole, goes)

pub on_ok : {A E : Type 0} (P Q : Type 0) (r : Result A E) → (P → Q) → OnOk r P → OnOk r Q
on_ok P Q (Ok x) more h = more h
on_ok P Q (Err e) more h = h
