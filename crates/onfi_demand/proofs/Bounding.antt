-- The demands of the bounds.
use Rattle.std.proofs.Common.{◌≡◌, ℕ, ◌+◌, ◌-◌, ◌≤◌, ◌<◌, inl, inr, true, List, [], ◌∷◌, length, Option, Some, None, refl, sym, ap, ◌∙◌, subst, arith}
use Rattle.std.specs.Prelude.{slice_get}
use Rattle.std.specs.List.{AllByRecursion as All}
use Rattle.std.specs.Option.{option_map}
use Rattle.std.proofs.lemmas.Bool.{cases_Bool, eq-eqb, ne_eqb}
use Rattle.onfi_timing.specs.declared.timing.Timing.{Timing}
use Rattle.onfi_request.specs.declared.want.Want.{Want}
use Rattle.onfi_problem.specs.declared.lun_state.LunState.{LunState}
use Rattle.onfi_problem.specs.declared.lun_state.LunState.TheVariants.{Free, Running}
use Rattle.onfi_problem.specs.Problem.{Problem, IsProblem}
use Rattle.onfi_problem.specs.Moves.{may_go}
use Rattle.onfi_problem.specs.Left.{all_posts}
use Rattle.onfi_group.specs.Words.{Has}
use Rattle.onfi_problem.proofs.Perm.{All-has, All-each}
use Rattle.onfi_problem.proofs.Places.{same_place}
use Rattle.onfi_bound.specs.Bounds.{lead, die, least, least_with, to_post, post_starts, on_lun}
use Rattle.onfi_bound.proofs.BusBound.{bus_bound}
use Rattle.onfi_bound.proofs.LeadBound.{lead_bound, least_all, least_has, starts_have, start_of}
use Rattle.onfi_bound.proofs.TrailBound.{trail_bound}
use Rattle.onfi_bound.proofs.DieBound.{die_bound}
use Rattle.onfi_demand.specs.Left.{LunLeft, left_on, SameLeft, has_left_at, has_left}
use Rattle.onfi_demand.specs.Demand.{Meets, Bounded, Holds, of_bus, of_one, of_luns, before_post, lead_at, lead_demand}
use Rattle.onfi_demand.specs.Laws.{Asks, BusLaw, LeadLaw, TrailLaw, DieLaw, EndLaw}
use Rattle.onfi_demand.proofs.Agreeing.{runs_alike_at}
use Rattle.onfi_demand.proofs.Alike.{alike_at, of_same, with_times, same_has, same_luns}
use Rattle.onfi_demand.proofs.Sums.{same_commands, same_posts, trail_alike, post_alike, die_is, die_idle, work_at, work_alike}

bus_holds : (p : Problem) (e : ℕ) → Holds e p (of_bus e)
bus_holds p e q s iq m steps f run = let a = bus_bound steps q f iq run in let b = m.bus in omega arith

bus_asks_all : (p : Problem) (e : ℕ) → e ≤ p.bus_free → Asks e p (of_bus e)
bus_asks_all p e le = record { holds = bus_holds p e; meets = record { bus = le; luns = λ l h. omega arith } }

pub end_asks : EndLaw
end_asks p e done le = bus_asks_all p e le

pub bus_asks : BusLaw
bus_asks p e ip le = record {
  holds = λ q s iq m steps f run.
      let a = bus_bound steps q f iq run in
      let c = same_commands p q s in
      let d = same_posts p q ip iq s in
      omega arith;
  meets = record { bus = omega arith; luns = λ l h. omega arith };
}

pub trail_asks : TrailLaw
trail_asks p e t is le = record {
  holds = λ q s iq m steps f run.
      let u = trail_alike p q t s is in
      let a = trail_bound steps q f (q.bus_free + u.0) iq u.2 run in
      omega arith;
  meets = record { bus = omega arith; luns = λ l h. omega arith };
}

one_here : (l n : ℕ) → (of_one l n).lun l ≡ n
one_here l n = rw (eq-eqb l l refl) refl

die_left : (p : Problem) (e lun : ℕ) → IsProblem p → lun < length p.luns → e ≤ die p lun → has_left p lun ≡ true → Asks e p (of_one lun (e - (die p lun - may_go p lun)))
die_left p e lun ip within le has = record {
  holds = λ q s iq m steps f run.
      let long : length q.luns ≡ length p.luns = sym (same_luns p q s) in
      let a = die_bound steps q f lun iq (omega arith) run in
      let h = sym (same_has p q lun s) ∙ has in
      let b : e - (die p lun - may_go p lun) ≤ may_go q lun = subst (λ n. n ≤ may_go q lun) (one_here lun (e - (die p lun - may_go p lun))) (m.luns lun h) in
      let c = die_is p lun (on_lun lun p.wants) (slice_get p.luns lun) has in
      let d = die_is q lun (on_lun lun q.wants) (slice_get q.luns lun) h in
      let w = same_work p q lun ip iq s in
      omega arith;
  meets = record { bus = omega arith; luns = met };
}
  where
    same_work : (p q : Problem) (l : ℕ) → IsProblem p → IsProblem q → SameLeft p q → work_at p.timing p.rules (on_lun l p.wants) (slice_get p.luns l) ≡ work_at q.timing q.rules (on_lun l q.wants) (slice_get q.luns l)
    same_work p q l ip iq s = of_same (λ z. work_at p.timing p.rules (on_lun l p.wants) (slice_get p.luns l) ≡ work_at z.timing z.rules (on_lun l z.wants) (slice_get z.luns l)) p q s (work_alike p.timing p.rules (on_lun l p.wants) (slice_get p.luns l) (slice_get q.luns l) (runs_alike_at p l ip) (runs_alike_at q l iq) (alike_at p.luns q.luns l s.luns))

    met : (l : ℕ) → has_left p l ≡ true → (of_one lun (e - (die p lun - may_go p lun))).lun l ≤ may_go p l
    met l h = elim (same_place l lun) [
      | inl k ↦ rw k (rw (one_here lun (e - (die p lun - may_go p lun))) (omega arith))
      | inr d ↦ rw (ne_eqb l lun d) (omega arith)
    ]

pub die_asks : DieLaw
die_asks p e lun ip within le = elim (cases_Bool (has_left p lun)) [
  | inl h ↦ rw h (die_left p e lun ip within le h)
  | inr h ↦ rw h (let b = die_idle p lun (on_lun lun p.wants) (slice_get p.luns lun) h in bus_asks_all p e (omega arith))
]

least_above : (xs : List ℕ) (e v : ℕ) → All (λ x. e ≤ x) xs → least xs ≡ Some v → e ≤ v
least_above [] e v a h = cc
least_above (x ∷ []) e v a h = let q : x ≡ v = cc in let b = a.0 in omega arith
least_above (x ∷ y ∷ xs) e v a h =
    let q : least_with x (Some (least_with y (least xs))) ≡ v = cc in
    let c = least_above (y ∷ xs) e (least_with y (least xs)) a.1 refl in
    omega arith

least_listed : (xs : List ℕ) (v : ℕ) → least xs ≡ Some v → (x : ℕ) × Has xs x
least_listed [] v h = cc
least_listed (x ∷ xs) v h = (x, inl refl)

pub some_state : (o : Option LunState) (l : LunLeft) → option_map left_on o ≡ Some l → (x : LunState) × (o ≡ Some x) × (left_on x ≡ l)
some_state None l h = cc
some_state (Some x) l h = (x, refl, cc)

pub post_has : (timing : Timing) (ws : List Want) (x : LunState) (b : ℕ) → to_post timing ws x ≡ Some b → has_left_at ws (Some x) ≡ true
post_has timing ws (Running g n r) b h = refl
post_has timing [] (Free a) b h = cc
post_has timing (w ∷ ws) (Free a) b h = refl

-- the demand of a LUN by how long it takes to its first post
lead_at_is : (p : Problem) (e l : ℕ) (ws : List Want) (o : Option LunState) (y : LunState) (b : ℕ) → option_map left_on o ≡ Some (left_on y) → to_post p.timing ws y ≡ Some b → lead_at p e ws o ≡ e - all_posts p - b
lead_at_is p e l ws None y b h k = cc
lead_at_is p e l ws (Some x) y b h k = let same = post_alike p.timing ws x y (cc) in rw (same, k) refl

lead_some : (p : Problem) (e first : ℕ) → IsProblem p → least (post_starts p 0 p.luns) ≡ Some first → e ≤ first + all_posts p → Asks e p (of_luns (λ l. lead_at p e (on_lun l p.wants) (slice_get p.luns l)))
lead_some p e first ip is le = record { holds = λ q s. of_same (λ z. IsProblem z → Meets z (of_luns (λ l. lead_at p e (on_lun l p.wants) (slice_get p.luns l))) → Bounded z e) p q s (bounded q s); meets = record { bus = omega arith; luns = met } }
  where
    met_at : (l : ℕ) (o : Option LunState) → slice_get p.luns l ≡ o → lead_at p e (on_lun l p.wants) o ≤ may_go p l
    met_at l None at = omega arith
    met_at l (Some x) at = go (to_post p.timing (on_lun l p.wants) x) refl
      where
        go : (o : Option ℕ) → to_post p.timing (on_lun l p.wants) x ≡ o → before_post (e - all_posts p) o ≤ may_go p l
        go None k = omega arith
        go (Some b) k = let a = All-has (λ v. first ≤ v) (post_starts p 0 p.luns) (may_go p l + b) (least_all (post_starts p 0 p.luns) first is) (starts_have p l x b at k) in omega arith

    met : (l : ℕ) → has_left p l ≡ true → lead_at p e (on_lun l p.wants) (slice_get p.luns l) ≤ may_go p l
    met l h = met_at l (slice_get p.luns l) refl

    bounded : (q : Problem) → SameLeft p q → IsProblem (with_times p.timing p.rules p.wants q.bus_free q.luns) → Meets (with_times p.timing p.rules p.wants q.bus_free q.luns) (of_luns (λ l. lead_at p e (on_lun l p.wants) (slice_get p.luns l))) → Bounded (with_times p.timing p.rules p.wants q.bus_free q.luns) e
    bounded q s iz m steps f run =
        let z = with_times p.timing p.rules p.wants q.bus_free q.luns in
        let all = All-each (λ v. e - all_posts p ≤ v) (post_starts z 0 q.luns) (λ v h.
        let t = start_of z v h in
        let d = m.luns t.lun (subst (λ o. has_left_at (on_lun t.lun p.wants) o ≡ true) (sym t.at) (post_has p.timing (on_lun t.lun p.wants) t.state t.wait t.post)) in
        let w = lead_at_is p e t.lun (on_lun t.lun p.wants) (slice_get p.luns t.lun) t.state t.wait (alike_at p.luns q.luns t.lun s.luns ∙ ap (option_map left_on) t.at) t.post in
        omega arith) in
        let one = least_listed (post_starts p 0 p.luns) first is in
        let t = start_of p one.0 one.1 in
        let y = some_state (slice_get q.luns t.lun) (left_on t.state) (sym (alike_at p.luns q.luns t.lun s.luns) ∙ ap (option_map left_on) t.at) in
        let u = least_has (post_starts z 0 q.luns) _ (starts_have z t.lun y.0 t.wait y.1 (post_alike p.timing (on_lun t.lun p.wants) y.0 t.state y.2 ∙ t.post)) in
        let above = least_above (post_starts z 0 q.luns) (e - all_posts p) u.0 all u.1 in
        let there = u.1 in
        let value : lead z ≡ u.0 + all_posts z = rw there refl in
        let a = lead_bound steps z f iz run in
        let posts = same_posts p z ip iz (record { timing = refl; rules = refl; luns = s.luns; wants = refl }) in
        omega arith

pub lead_asks : LeadLaw
lead_asks p e ip le = go (least (post_starts p 0 p.luns)) refl
  where
    go : (o : Option ℕ) → least (post_starts p 0 p.luns) ≡ o → Asks e p (lead_demand p e)
    go None q = let v : lead p ≡ p.bus_free = rw q refl in rw q (bus_asks_all p e (omega arith))
    go (Some first) q = let v : lead p ≡ first + all_posts p = rw q refl in rw q (lead_some p e first ip q (omega arith))
