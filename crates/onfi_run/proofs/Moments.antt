-- What changes at a moment, one call after another.
use Rattle.std.proofs.Common.{◌≡◌, ◌⊎◌, inl, inr, ◌<◌, ◌≤◌, ℕ, zero, suc, Bool, true, false, List, [], ◌∷◌, length, get_or, map, refl, sym, ◌∙◌, subst, arith, Some}
use Rattle.std.specs.Prelude.{max, set, slice_get}
use Rattle.std.specs.List.{AllZip}
use Rattle.std.proofs.Math.Bool.{cond}
use Rattle.std.proofs.Math.Seq.{map-set_same}
use Rattle.std.proofs.lemmas.Bool.{cases_lt}
use Rattle.std.proofs.lemmas.Option.{slice_get-get_or, slice_get_past}
use Rattle.std.proofs.lemmas.Simd.{map-map}
use Rattle.onfi_request.specs.declared.answer.Answer.{Answer}
use Rattle.onfi_request.specs.declared.request.Request.{Request}
use Rattle.onfi_run.specs.declared.completion.Completion.{Completion}
use Rattle.onfi_run.specs.declared.port.Port.{Port}
use Rattle.onfi_run.specs.declared.station.Station.{Station}
use Rattle.onfi_run.specs.Answers.{came, changed, submitted, suits}
use Rattle.onfi_run.specs.Keys.{Collects, HasSamePorts, HaveSamePorts, LeavesOut, Submits, port_key, is_behind, is_refused, is_sent, is_too_late}
use Rattle.onfi_run.specs.Moments.{AllAtMoment, AtMoment, ChangedAt, IsMoment, Makes, OnPort, is_absent, is_short, is_submitted, is_there}
use Rattle.onfi_run.specs.Report.{AnswersView}

-- ---- pairs
zip_same : {X : Type 0} (R : X → X → Type 0) → ((x : X) → R x x) → (xs : List X) → AllZip R xs xs
zip_same R same [] = tt
zip_same R same (x ∷ xs) = (same x, zip_same R same xs)

zip_then : {X : Type 0} (R : X → X → Type 0) → ((x y z : X) → R x y → R y z → R x z) → (xs ys zs : List X) → AllZip R xs ys → AllZip R ys zs → AllZip R xs zs
zip_then R both [] [] [] a b = tt
zip_then R both [] [] (z ∷ zs) a b = absurd b
zip_then R both [] (y ∷ ys) zs a b = absurd a
zip_then R both (x ∷ xs) [] zs a b = absurd a
zip_then R both (x ∷ xs) (y ∷ ys) [] a b = absurd b
zip_then R both (x ∷ xs) (y ∷ ys) (z ∷ zs) a b = (both x y z a.0 b.0, zip_then R both xs ys zs a.1 b.1)

zip_changed : {X : Type 0} (R : X → X → Type 0) → ((x : X) → R x x) → (f : X → X) → ((x : X) → R x (f x)) → (xs : List X) (at : ℕ) → AllZip R xs (changed f xs at)
zip_changed R same f one [] at = tt
zip_changed R same f one (x ∷ xs) zero = (one x, zip_same R same xs)
zip_changed R same f one (x ∷ xs) (suc at) = (same x, zip_changed R same f one xs at)

-- one element went on, and the others are as they were
zip_set : {X : Type 0} (R : X → X → Type 0) → ((x : X) → R x x) → (xs : List X) (at : ℕ) (p q : X) → slice_get xs at ≡ Some p → R p q → AllZip R xs (set xs at q)
zip_set R same [] at p q there went = tt
zip_set R same (x ∷ xs) zero p q there went = let e : x ≡ p = cc in (subst (λ z. R z q) (sym e) went, zip_same R same xs)
zip_set R same (x ∷ xs) (suc at) p q there went = (same x, zip_set R same xs at p q there went)

-- ---- operations
unchanged : (now : ℕ) (c : Completion) → ChangedAt now c c
unchanged now c = record { sent = inr (inl refl); at = inr (inr refl) }

moment_before : (now : ℕ) (a b : Completion) (m : ℕ) → ChangedAt now a b → IsMoment now b m → IsMoment now a m
moment_before now a b m went (inl e) = inl e
moment_before now a b m went (inr (inl e)) = subst (IsMoment now a) (sym e) went.sent
moment_before now a b m went (inr (inr e)) = subst (IsMoment now a) (sym e) went.at

changed_then : (now : ℕ) (a b c : Completion) → ChangedAt now a b → ChangedAt now b c → ChangedAt now a c
changed_then now a b c first second = record { sent = moment_before now a b c.sent first second.sent; at = moment_before now a b c.at first second.at }

submitted_at : (now : ℕ) (c : Completion) → ChangedAt now c (submitted now c)
submitted_at now c = record { sent = inl refl; at = inl refl }

later_of : (a b : ℕ) → (max a b ≡ a) ⊎ (max a b ≡ b)
later_of a b = by_order (cases_lt a b)
  where
    by_order : (a < b) ⊎ (b ≤ a) → (max a b ≡ a) ⊎ (max a b ≡ b)
    by_order (inl h) = inr (omega (arith, h))
    by_order (inr h) = inl (omega (arith, h))

came_at : (now : ℕ) (a : Answer) (c : Completion) → ChangedAt now c (came now a c)
came_at now a c = by_test (suits c.kind a)
  where
    came_so : (max now c.sent ≡ now) ⊎ (max now c.sent ≡ c.sent) → ChangedAt now c (record c { answer = Some a; at = max now c.sent })
    came_so (inl e) = record { sent = inr (inl refl); at = inl e }
    came_so (inr e) = record { sent = inr (inl refl); at = inr (inl e) }

    by_test : (b : Bool) → ChangedAt now c (cond b (let d : Completion = record c { answer = Some a; at = max now c.sent } in d) c)
    by_test true = came_so (later_of now c.sent)
    by_test false = unchanged now c

-- ---- ports
all_unchanged : (now : ℕ) (got : AnswersView) → AllZip (ChangedAt now) got got
all_unchanged now got = zip_same (ChangedAt now) (unchanged now) got

pub same_moment : (now : ℕ) (old new : List Port) → new ≡ old → AtMoment now old new
same_moment now old new e = subst (AtMoment now old) (sym e) (zip_same _ (λ (p : Port). all_unchanged now p.answers) old)

pub moment_then : (now : ℕ) (a b c : List Port) → AtMoment now a b → AtMoment now b c → AtMoment now a c
moment_then now a b c first second =
    zip_then _ (λ (x y z : Port) e f. zip_then (ChangedAt now) (changed_then now) x.answers y.answers z.answers e f) a b c first second

at_moment : (now : ℕ) (went : Port → Port → Type 0) (channel : ℕ) (old new : List Port) → ((p q : Port) → went p q → AllZip (ChangedAt now) p.answers q.answers)
    → OnPort went channel old new → AtMoment now old new
at_moment now went channel old new each (is_there p q there how is) =
    subst (AtMoment now old) (sym is) (zip_set _ (λ (p : Port). all_unchanged now p.answers) old channel p q there (each p q how))
at_moment now went channel old new each (is_absent none is) = same_moment now old new is

collected_at : (now : ℕ) (came : Bool) (p q : Port) → Collects now came p q → AllZip (ChangedAt now) p.answers q.answers
collected_at now true p q took =
    subst (AllZip (ChangedAt now) p.answers) (sym took.answers) (zip_changed (ChangedAt now) (unchanged now) (came now took.reply.answer) (came_at now took.reply.answer) p.answers took.reply.serial)
collected_at now false p q same = subst (λ (x : Port). AllZip (ChangedAt now) p.answers x.answers) (sym same) (all_unchanged now p.answers)

left_at : (now : ℕ) (p q : Port) → LeavesOut p q → AllZip (ChangedAt now) p.answers q.answers
left_at now p q is = subst (λ (x : Port). AllZip (ChangedAt now) p.answers x.answers) (sym is) (all_unchanged now p.answers)

submits_at : (now : ℕ) (request : Request) (ended : Bool) (p q : Port) → Submits now request ended p q → AllZip (ChangedAt now) p.answers q.answers
submits_at now request ended p q (is_sent goes_on is) =
    subst (λ (x : Port). AllZip (ChangedAt now) p.answers x.answers) (sym is) (zip_changed (ChangedAt now) (unchanged now) (submitted now) (submitted_at now) p.answers (length p.host.sent))
submits_at now request ended p q (is_behind left is) = subst (λ (x : Port). AllZip (ChangedAt now) p.answers x.answers) (sym is) (all_unchanged now p.answers)
submits_at now request ended p q (is_refused never is) = left_at now p q is
submits_at now request ended p q (is_too_late late full is) = left_at now p q is

pub collect_moment : (now channel : ℕ) (came : Bool) (old new : List Port) → OnPort (Collects now came) channel old new → AtMoment now old new
collect_moment now channel came old new how = at_moment now (Collects now came) channel old new (collected_at now came) how

pub makes_moment : (now channel : ℕ) (request : Request) (ended : Bool) (old new : Station) → Makes now channel request ended old new → AtMoment now old.ports.items new.ports.items
makes_moment now channel request ended old new (is_submitted how short) = at_moment now (Submits now request ended) channel old.ports.items new.ports.items (submits_at now request ended) how
makes_moment now channel request ended old new (is_short how short) = at_moment now LeavesOut channel old.ports.items new.ports.items (left_at now) how

-- ---- one port
pub there_went : (went : Port → Port → Type 0) (ports : List Port) (at : ℕ) (d new : Port) → at < length ports → went (get_or ports at d) new → OnPort went at ports (set ports at new)
there_went went ports at d new h how = is_there (get_or ports at d) new (slice_get-get_or ports at d h) how refl

pub none_went : (went : Port → Port → Type 0) (ports : List Port) (at : ℕ) → length ports ≤ at → OnPort went at ports ports
none_went went ports at h = is_absent (slice_get_past ports at h) refl

-- ---- all hosts
pub all_same_moment : (now : ℕ) (stations : List Station) → AllAtMoment now stations stations
all_same_moment now stations = zip_same _ (λ (s : Station). same_moment now s.ports.items s.ports.items refl) stations

pub all_moment_then : (now : ℕ) (a b c : List Station) → AllAtMoment now a b → AllAtMoment now b c → AllAtMoment now a c
all_moment_then now a b c first second = zip_then _ (λ (x y z : Station). moment_then now x.ports.items y.ports.items z.ports.items) a b c first second

-- one host went on
pub one_moment : (now : ℕ) (stations : List Station) (at : ℕ) (d new : Station) → at < length stations → AtMoment now (get_or stations at d).ports.items new.ports.items
    → AllAtMoment now stations (set stations at new)
one_moment now stations at d new h went =
    zip_set _ (λ (s : Station). same_moment now s.ports.items s.ports.items refl) stations at (get_or stations at d) new (slice_get-get_or stations at d h) went

pub one_same : (stations : List Station) (at : ℕ) (d new : Station) → HasSamePorts (get_or stations at d).ports.items new.ports.items
    → HaveSamePorts stations (set stations at new)
one_same stations at d new same =
    map-map (map port_key) (λ (s : Station). s.ports.items) (set stations at new)
    ∙ map-set_same (λ (s : Station). map port_key s.ports.items) stations at new d same
    ∙ sym (map-map (map port_key) (λ (s : Station). s.ports.items) stations)
