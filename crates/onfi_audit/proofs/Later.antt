-- Lines that may come, at a later moment.
use Rattle.std.proofs.Common.{◌≡◌, ℕ, ◌≤◌, inl, inr, List, [], length, Option, None, Some, Bool, true, false, refl, ◌∙◌, subst, arith}
use Rattle.std.specs.Prelude.{slice_get, max, nat_lt, not, if◌then◌else◌}
use Rattle.std.proofs.lemmas.Bool.Decides.{nat_tests}
use Rattle.onfi_request.specs.declared.want.Want.{Want}
use Rattle.onfi_audit.specs.declared.line.Line.{Line}
use Rattle.onfi_audit.specs.declared.stage.LunStage.{LunStage}
use Rattle.onfi_audit.specs.declared.stage.LunStage.TheVariants as stage
use Rattle.onfi_audit.specs.Audit.{Audit, GoesOn, IsPhaseOf, Joins, MayCome, MayComeOn, Names, earliest, from_on, started}

named_then : (line : Line) (n : ℕ) (w : Want) → Names line w → Names (started n line) w
named_then line n w h = record { operation = h.operation; lun = h.lun; block = h.block; page = h.page }

phase_then : (line : Line) (n : ℕ) (group : List Want) (phase : ℕ) → IsPhaseOf line group phase → IsPhaseOf (started n line) group phase
phase_then line n group phase h = record { member = h.member; there = h.there; named = named_then line n h.member h.named; part = h.part }

joins_then : (a : Audit) (line : Line) (n : ℕ) (members : List Want) (from : ℕ) → line.start ≤ n → Joins a line members from → Joins a (started n line) members from
joins_then a line n members from later h = record {
  command = h.command;
  want = h.want;
  first = h.first;
  named = named_then line n h.want h.named;
  group = h.group;
  on_time = let t = h.on_time in omega arith;
}

goes_then : (a : Audit) (line : Line) (n : ℕ) (group : List Want) (phase ready : ℕ) → line.start ≤ n → GoesOn a line group phase ready → GoesOn a (started n line) group phase ready
goes_then a line n group phase ready later h = record { is = phase_then line n group phase h.is; on_time = let t = h.on_time in omega arith }

then_on : (a : Audit) (line : Line) (n : ℕ) (o : Option LunStage) → line.start ≤ n → MayComeOn a line o → MayComeOn a (started n line) o
then_on a line n None later may = absurd may
then_on a line n (Some (stage.Free since)) later j = joins_then a line n [] since later j
then_on a line n (Some (stage.Running group next ready)) later goes = goes_then a line n group next ready later goes
then_on a line n (Some (stage.Open group more ready)) later (inl j) = inl (joins_then a line n group more later j)
then_on a line n (Some (stage.Open group more ready)) later (inr goes) = inr (goes_then a line n group (length group) ready later goes)

-- what may come at a moment may come later
pub may_then : (a : Audit) (line : Line) (moment n : ℕ) → moment ≤ n → MayCome a (started moment line) → MayCome a (started n line)
may_then a line moment n later may = then_on a (started moment line) n (slice_get a.luns line.lun) later may

-- From when on

-- the first post of a group is a post
post_first : (line : Line) (group : List Want) → IsPhaseOf line group (length group) → line.is_post ≡ true
post_first line group is = let e : nat_lt (length group) (length group) ≡ false = grind (arith, nat_tests) in is.part ∙ rw e refl

joins_by : (a : Audit) (line : Line) (m n : ℕ) (members : List Want) (from : ℕ) → max a.bus_free from ≤ n → Joins a (started m line) members from → Joins a (started n line) members from
joins_by a line m n members from late h = record {
  command = h.command;
  want = h.want;
  first = h.first;
  named = named_then (started m line) n h.want h.named;
  group = h.group;
  on_time = late;
}

goes_by : (a : Audit) (line : Line) (m n : ℕ) (group : List Want) (phase ready : ℕ) → max a.bus_free ready ≤ n → GoesOn a (started m line) group phase ready
    → GoesOn a (started n line) group phase ready
goes_by a line m n group phase ready late h = record { is = phase_then (started m line) n group phase h.is; on_time = late }

by_on : (a : Audit) (line : Line) (m n : ℕ) (o : Option LunStage) → max a.bus_free (from_on o line) ≤ n → MayComeOn a (started m line) o → MayComeOn a (started n line) o
by_on a line m n None late may = absurd may
by_on a line m n (Some (stage.Free since)) late j = joins_by a line m n [] since late j
by_on a line m n (Some (stage.Running group next ready)) late goes = goes_by a line m n group next ready late goes
by_on a line m n (Some (stage.Open group more ready)) late (inl j) =
    inl (joins_by a line m n group more (subst (λ b. max a.bus_free (if b then ready else more) ≤ n) j.command late) j)
by_on a line m n (Some (stage.Open group more ready)) late (inr goes) =
    inr (goes_by a line m n group (length group) ready (subst (λ b. max a.bus_free (if b then ready else more) ≤ n) (post_first (started m line) group goes.is) late) goes)

-- what may come at a moment may come at each from when on it may
pub may_by : (a : Audit) (line : Line) (m n : ℕ) → earliest a line ≤ n → MayCome a (started m line) → MayCome a (started n line)
may_by a line m n late may = by_on a line m n (slice_get a.luns line.lun) late may

on_time_on : (a : Audit) (line : Line) (o : Option LunStage) → MayComeOn a line o → max a.bus_free (from_on o line) ≤ line.start
on_time_on a line None may = absurd may
on_time_on a line (Some (stage.Free since)) j = j.on_time
on_time_on a line (Some (stage.Running group next ready)) goes = goes.on_time
on_time_on a line (Some (stage.Open group more ready)) (inl j) = let t = j.on_time in rw j.command t
on_time_on a line (Some (stage.Open group more ready)) (inr goes) = let t = goes.on_time in rw (post_first line group goes.is) t

-- what may come comes no sooner
pub may_on_time : (a : Audit) (line : Line) → MayCome a line → earliest a line ≤ line.start
may_on_time a line may = on_time_on a line (slice_get a.luns line.lun) may
