-- What is accepted bounds each run.
use Rattle.std.proofs.Common.{◌≡◌, ◌≢◌, ℕ, zero, suc, ◌+◌, ◌-◌, ◌≤◌, ◌<◌, ◌⊎◌, inl, inr, List, [], ◌∷◌, ◌++◌, length, Some, refl, sym, ap, ◌∙◌, subst, arith}
use Rattle.std.specs.Prelude.{slice_get, slice_index, true, ◌==◌}
use Rattle.std.specs.List.{AllByRecursion as All}
use Rattle.std.proofs.lemmas.Bool.{cases_Bool, eq-eqb, ne_eqb, eqb-true}
use Rattle.onfi_timing.specs.declared.timing.Timing.{Timing}
use Rattle.onfi_request.specs.declared.want.Want.{Want}
use Rattle.onfi_group.specs.declared.rules.Rules.{Rules}
use Rattle.onfi_group.specs.Words.{Has}
use Rattle.onfi_problem.specs.Problem.{Problem, IsProblem, IsSmall}
use Rattle.onfi_problem.specs.Moves.{Move, Next, Start, IsMove, AreMoves, move_lun, may_go, placed, after, earliest}
use Rattle.onfi_problem.proofs.Kept.{kept, kept_small}
use Rattle.onfi_problem.proofs.Perm.{All-has, All-append, Has-append_cases, Has-append_left, Has-append_right}
use Rattle.onfi_schedule.specs.Schedule.{finish}
use Rattle.onfi_schedule.proofs.Exchange.{bus_after}
use Rattle.onfi_schedule.proofs.Least.{legal_run}
use Rattle.onfi_check.specs.Ends.{IsLastEnd}
use Rattle.onfi_demand.specs.Left.{SameLeft, has_left}
use Rattle.onfi_demand.specs.Demand.{Demand, Meets, Holds, of_luns, asked}
use Rattle.onfi_demand.specs.Asked.{AreRaised}
use Rattle.onfi_demand.specs.Laws.{Asks, Shows, GivesWay}
use Rattle.onfi_demand.specs.Kept.{demand_of, IsKept}
use Rattle.onfi_demand.specs.declared.demand.Demand.{Demand as Kept}
use Rattle.onfi_demand.proofs.Bounding.{bus_asks, lead_asks, trail_asks, die_asks, end_asks}
use Rattle.onfi_demand.proofs.Keeping.{kept_asks, left_few, small_same}
use Rattle.onfi_demand.proofs.Opened.{open_asks, asked_is_met, same_self}
use Rattle.onfi_demand.proofs.Sooner.{move_has}
use Rattle.onfi_demand.proofs.WindowAsks.{window_asks}
use Rattle.onfi_known_check.specs.declared.given.Given.{Given}
use Rattle.onfi_known_check.specs.declared.known.Known.{Known}
use Rattle.onfi_known_check.specs.declared.token.Token.{Token}
use Rattle.onfi_known_check.specs.declared.token.Token.TheVariants.{Branch, Bus, Lead, Trail, Die, Yield, End, Window, Again}
use Rattle.onfi_known_check.specs.Closing.{Closes, closing_demand}
use Rattle.onfi_known_check.specs.Laws.{BelowLaw, ProvedLaw}
use Rattle.onfi_known_check.specs.Proves.{Describes, times_of, MayYield, with_yields, Proves, Children, closed, again, opened, none, tree, yielded}

-- what closes a node shows that its demand holds each run
pub closing_asks : (p : Problem) (e : ℕ) (t : Token) → IsProblem p → Closes p e t → Asks e p (closing_demand p e t)
closing_asks p e Bus ip c = bus_asks p e ip c
closing_asks p e Lead ip c = lead_asks p e ip c
closing_asks p e Trail ip (t, is, le) = rw is (trail_asks p e t is le)
closing_asks p e (Die lun) ip c = die_asks p e lun ip c.0 c.1
closing_asks p e End ip c = end_asks p e c.0 c.1
closing_asks p e (Window start tail) ip c = window_asks p e start tail ip c
closing_asks p e (Branch width) ip c = absurd c
closing_asks p e (Yield lun) ip c = absurd c
closing_asks p e (Again number) ip c = absurd c

get_each : {A : Type 0} (P : A → Type 0) (xs : List A) (i : ℕ) (x : A) → All P xs → slice_get xs i ≡ Some x → P x
get_each P [] i x all at = cc
get_each P (y ∷ xs) zero x all at = let e : y ≡ x = cc in subst P e all.0
get_each P (y ∷ xs) (suc i) x all at = get_each P xs i x all.1 at

kept_timing : (p : Problem) (m : Move) (t : ℕ) → IsMove p m → (placed p m t).timing ≡ p.timing
kept_timing p (Next l) t (g, n, r, at) = rw at refl
kept_timing p (Start ms) t im = refl

kept_rules : (p : Problem) (m : Move) (t : ℕ) → IsMove p m → (placed p m t).rules ≡ p.rules
kept_rules p (Next l) t (g, n, r, at) = rw at refl
kept_rules p (Start ms) t im = refl

-- a yield, whatever yields beside it
record Fitting (p : Problem) (moves : List Move) (y : Given) : Type 0 where
  end : ℕ
  last : IsLastEnd p moves y.lun (Some end)
  fits : end ≤ may_go p y.own
  longest : y.longest ≡ end - may_go p y.lun

-- the greatest of what is asked
pub with_above : (asks : List ℕ) (given : List Given) (l : ℕ) → slice_index asks l ≤ with_yields asks given l
with_above asks [] l = omega arith
with_above asks (y ∷ given) l =
    let e = with_above asks given l in
    elim (cases_Bool (l == y.own)) [ inl k ↦ rw k (omega arith) | inr k ↦ rw k (omega arith) ]

with_has : (asks : List ℕ) (given : List Given) (y : Given) → Has given y → slice_index asks y.lun + y.longest ≤ with_yields asks given y.own
with_has asks [] y h = absurd h
with_has asks (z ∷ given) y (inl e) = subst (λ v. slice_index asks v.lun + v.longest ≤ with_yields asks (z ∷ given) v.own) e (rw (eq-eqb z.own z.own refl) (omega arith))
with_has asks (z ∷ given) y (inr h) =
    let e = with_has asks given y h in
    elim (cases_Bool (y.own == z.own)) [ inl k ↦ rw k (omega arith) | inr k ↦ rw k (omega arith) ]

with_same : (asks : List ℕ) (given : List Given) (l : ℕ) → ((y : Given) → Has given y → y.own ≢ l) → with_yields asks given l ≡ slice_index asks l
with_same asks [] l h = refl
with_same asks (y ∷ given) l h = rw (ne_eqb l y.own (λ e. h y (inl refl) (sym e))) (with_same asks given l (λ z i. h z (inr i)))

with_below : (asks : List ℕ) (given : List Given) (l v : ℕ) → slice_index asks l ≤ v → ((y : Given) → Has given y → y.own ≡ l → slice_index asks y.lun + y.longest ≤ v) → with_yields asks given l ≤ v
with_below asks [] l v h k = h
with_below asks (y ∷ given) l v h k =
    let e = with_below asks given l v h (λ z i. k z (inr i)) in
    elim (cases_Bool (l == y.own)) [
      | inl q ↦ (let a = k y (inl refl) (sym (eqb-true l y.own q)) in rw q (omega arith))
      | inr q ↦ rw q (omega arith)
    ]

module _ (e : ℕ) (all : List Want) (timing : Timing) (rules : Rules) where
  -- a problem of the walk
  record IsOf (p : Problem) : Type 0 where
    timing_is : p.timing ≡ timing
    rules_are : p.rules ≡ rules
    problem : IsProblem p
    small : IsSmall p

  -- what is known holds
  abbrev Remembered : Known → Type 0
  Remembered k = (p : Problem) → IsOf p → Describes all k p → Holds e p (times_of k)

  of_after : (p : Problem) (m : Move) → IsOf p → IsMove p m → IsOf (after p m)
  of_after p m o mv = record {
    timing_is = kept_timing p m (earliest p m) mv ∙ o.timing_is;
    rules_are = kept_rules p m (earliest p m) mv ∙ o.rules_are;
    problem = kept p m (earliest p m) o.problem mv;
    small = kept_small p m (earliest p m) o.small mv;
  }

  same_described : (k : Known) (p q : Problem) → IsOf p → IsOf q → Describes all k p → Describes all k q → SameLeft p q
  same_described k p q a b c d = record { timing = a.timing_is ∙ sym b.timing_is; rules = a.rules_are ∙ sym b.rules_are; luns = sym c.luns ∙ d.luns; wants = sym c.wants ∙ d.wants }

  -- what the children that were read say
  record Facts (p : Problem) (moves ms : List Move) (asks : List ℕ) (given : List Given) : Type 0 where
    shown : (m : Move) → Has ms m → ((d : Demand) × Asks e (after p m) d × ((l : ℕ) → l < 8 → asked p m d l ≤ slice_index asks l)) ⊎ ((y : Given) × Has given y × (y.own ≡ move_lun m))
    met : (l : ℕ) → l < 8 → has_left p l ≡ true → slice_index asks l ≤ may_go p l
    apart : (y z : Given) → Has given y → Has given z → y.own ≢ z.lun
    fitting : (y : Given) → Has given y → Fitting p moves y

  no_child : (p : Problem) (moves : List Move) (asks : List ℕ) → ((l : ℕ) → slice_index asks l ≡ 0) → Facts p moves [] asks []
  no_child p moves asks zeros = record { shown = λ m h. absurd h; met = λ l small h. let z = zeros l in omega arith; apart = λ y z h k. absurd h; fitting = λ y h. absurd h }

  one_tree : (p : Problem) (moves ms : List Move) (m : Move) (asks raised : List ℕ) (given : List Given) (d : Kept) → IsOf p → IsMove p m → Facts p moves ms asks given → Asks e (after p m) (demand_of d) → AreRaised p m d asks raised → Facts p moves (ms ++ m ∷ []) raised given
  one_tree p moves ms m asks raised given d o mv f a more = record {
    shown = λ n h. elim (Has-append_cases ms (m ∷ []) n h) [
      | inl k ↦ elim (f.shown n k) [
        | inl (c, asks', below) ↦ inl (c, asks', λ l small. let b = below l small in let r = more l small in omega arith)
        | inr y ↦ inr y
      ]
      | inr (inl q) ↦ inl (demand_of d, subst (λ z. Asks e (after p z) (demand_of d)) q a, λ l small. let r = more l small in let s : asked p m (demand_of d) l ≡ asked p n (demand_of d) l = ap (λ z. asked p z (demand_of d) l) q in omega arith)
      | inr (inr k) ↦ absurd k
    ];
    met = λ l small h. let r = more l small in let b = f.met l small h in let c = asked_is_met p m (demand_of d) l o.problem mv a.meets h in omega arith;
    apart = f.apart;
    fitting = f.fitting;
  }

  one_yield : (p : Problem) (moves ms : List Move) (m : Move) (asks : List ℕ) (given : List Given) (y : Given) → Facts p moves ms asks given → MayYield p moves given m y → Facts p moves (ms ++ m ∷ []) asks (given ++ y ∷ [])
  one_yield p moves ms m asks given y f may = record {
    shown = λ n h. elim (Has-append_cases ms (m ∷ []) n h) [
      | inl k ↦ elim (f.shown n k) [ inl c ↦ inl c | inr (z, here, own) ↦ inr (z, Has-append_left given (y ∷ []) z here, own) ]
      | inr (inl q) ↦ inr (y, Has-append_right given (y ∷ []) y (inl refl), may.own ∙ ap move_lun q)
      | inr (inr k) ↦ absurd k
    ];
    met = f.met;
    apart = λ a b h k. elim (Has-append_cases given (y ∷ []) a h) [
      | inl i ↦ elim (Has-append_cases given (y ∷ []) b k) [
        | inl j ↦ f.apart a b i j
        | inr (inl q) ↦ λ s. All-has (λ g. g.own ≢ y.lun) given a may.stays i (s ∙ ap (λ g. g.lun) (sym q))
        | inr (inr z) ↦ absurd z
      ]
      | inr (inl p') ↦ elim (Has-append_cases given (y ∷ []) b k) [
        | inl j ↦ λ s. All-has (λ g. g.lun ≢ y.own) given b may.unasked j (sym s ∙ ap (λ g. g.own) (sym p'))
        | inr (inl q) ↦ λ s. may.other (ap (λ g. g.lun) q ∙ (sym s ∙ ap (λ g. g.own) (sym p')))
        | inr (inr z) ↦ absurd z
      ]
      | inr (inr z) ↦ absurd z
    ];
    fitting = λ a h. elim (Has-append_cases given (y ∷ []) a h) [
      | inl i ↦ f.fitting a i
      | inr (inl q) ↦ subst (Fitting p moves) q (record { end = may.end; last = may.last; fits = may.fits; longest = may.longest })
      | inr (inr z) ↦ absurd z
    ];
  }

  -- what the LUN that is yielded to asks for leaves time for its longest phase
  yield_met : (p : Problem) (moves ms : List Move) (asks : List ℕ) (given : List Given) → IsOf p → AreMoves p moves → Facts p moves ms asks given → (y : Given) → Has given y → slice_index asks y.lun + y.longest ≤ may_go p y.own
  yield_met p moves ms asks given o are f y h =
      let fit = f.fitting y h in
      let m = fit.last.0 in
      let mv = All-has _ moves m.0 are.moves_only m.1 in
      let has = subst (λ l. has_left p l ≡ true) m.2 (move_has p m.0 mv) in
      let met = f.met y.lun (left_few p y.lun o.problem o.small has) has in
      let bus = bus_after p m.0 (earliest p m.0) mv in
      let same : may_go p (move_lun m.0) ≡ may_go p y.lun = ap (may_go p) m.2 in
      let end = m.3 in
      let fits = fit.fits in
      let long = fit.longest in
      omega arith

  node_asks : (p : Problem) (moves : List Move) (asks : List ℕ) (given : List Given) → IsOf p → AreMoves p moves → 1 ≤ length moves → Facts p moves moves asks given → Asks e p (of_luns (with_yields asks given))
  node_asks p moves asks given o are some f = record {
    holds = open_asks p e moves (with_yields asks given) o.problem are some shows;
    meets = record { bus = omega arith; luns = λ l h. with_below asks given l (may_go p l) (f.met l (left_few p l o.problem o.small h) h) (λ y i q. let b = yield_met p moves moves asks given o are f y i in let s : may_go p y.own ≡ may_go p l = ap (may_go p) q in omega arith) };
  }
    where
      few : (l : ℕ) → l < length p.luns → l < 8
      few l h = let s = o.small.few_luns in omega arith

      as_shown : (m : Move) → (d : Demand) × Asks e (after p m) d × ((l : ℕ) → l < 8 → asked p m d l ≤ slice_index asks l) → Shows e p (with_yields asks given) m
      as_shown m (d, a, below) = (d, a, λ l h. let b = below l (few l h) in let w = with_above asks given l in omega arith)

      tree_of : (y : Given) → Has given y → (n : Move) → Has moves n → move_lun n ≡ y.lun → Shows e p (with_yields asks given) n
      tree_of y h n i at = elim (f.shown n i) [ inl c ↦ as_shown n c | inr (z, k, own) ↦ absurd (f.apart z y k h (own ∙ at)) ]

      gives : (m : Move) (y : Given) → Has given y → y.own ≡ move_lun m → GivesWay e p moves (with_yields asks given) m
      gives m y h own =
          let fit = f.fitting y h in
          let last = fit.last.0 in
          record {
            lun = y.lun;
            other = λ q. f.apart y y h h (own ∙ sym q);
            move = last.0;
            has_move = last.1;
            of_lun = last.2;
            shows = tree_of y h;
            fits = λ n i at.
                let le = All-has (λ n. move_lun n ≡ y.lun → (after p n).bus_free ≤ fit.end) moves n fit.last.1 i at in
                let a = with_same asks given y.lun (λ z k. f.apart z y k h) in
                let b = with_has asks given y h in
                let c : with_yields asks given y.own ≡ with_yields asks given (move_lun m) = ap (with_yields asks given) own in
                let s : may_go p (move_lun n) ≡ may_go p y.lun = ap (may_go p) at in
                let long = fit.longest in
                omega arith;
          }

      shows : (m : Move) → Has moves m → Shows e p (with_yields asks given) m ⊎ GivesWay e p moves (with_yields asks given) m
      shows m h = elim (f.shown m h) [ inl c ↦ inl (as_shown m c) | inr (y, k, own) ↦ inr (gives m y k own) ]

  again_asks : (p : Problem) (k : Known) (d : Kept) → IsOf p → Remembered k → Describes all k p → Meets p (times_of k) → IsKept d (times_of k) → Asks e p (demand_of d)
  again_asks p k d o holds is meets same = kept_asks p e d (times_of k) o.problem o.small same (record { holds = holds p o is; meets = meets })

  -- what a node shows is remembered for all with the same left
  remember : (p : Problem) (k : Known) (d : Kept) (needs : Demand) → IsOf p → Describes all k p → IsKept d (times_of k) → Asks e p (demand_of d) → Remembered k
  remember p k d needs o is same asks q oq iq r s ir meets = asks.holds r (record { timing = t.timing ∙ s.timing; rules = t.rules ∙ s.rules; luns = t.luns ∙ s.luns; wants = t.wants ∙ s.wants }) ir (record { bus = let b = meets.bus in let c = same.bus in omega arith; luns = λ l h. let a = meets.luns l h in let b = same.luns l (small l h) in omega arith })
    where
      t : SameLeft p q
      t = same_described k p q o oq is iq

      small : (l : ℕ) → has_left r l ≡ true → l < 8
      small l h = left_few r l ir (small_same q r s oq.small) h

  mutual
    sound : (p : Problem) (known : List Known) (tokens : List Token) (d : Kept) (behind : List Known) (rest : List Token) → Proves e all p known tokens d behind rest → IsOf p → All Remembered known → Asks e p (demand_of d) × All Remembered behind
    sound _ _ _ _ _ _ (closed p known token d rest c is) o k = (kept_asks p e d (closing_demand p e token) o.problem o.small is (closing_asks p e token o.problem c), k)
    sound _ _ _ _ _ _ (again p known number d rest (r, at, is, meets, same)) o k = (again_asks p r d o (get_each Remembered known number r k at) is meets same, k)
    sound _ _ _ _ _ _ (opened p known width more moves asks given r d middle rest are some wide children fit is needs same) o k =
        let f = sound_children p moves moves known more asks given middle rest children o are (λ m h. h) k in
        let a = kept_asks p e d (of_luns (with_yields asks given)) o.problem o.small needs (node_asks p moves asks given o are some f.0) in
        (a, All-append Remembered middle (r ∷ []) f.1 (remember p r d (times_of r) o is same a, tt))

    sound_children : (p : Problem) (moves ms : List Move) (known : List Known) (tokens : List Token) (asks : List ℕ) (given : List Given) (behind : List Known) (rest : List Token) → Children e all p moves ms known tokens asks given behind rest → IsOf p → AreMoves p moves → ((m : Move) → Has ms m → Has moves m) → All Remembered known → Facts p moves ms asks given × All Remembered behind
    sound_children _ _ _ _ _ _ _ _ _ (none p moves known tokens asks zeros) o are within k = (no_child p moves asks zeros, k)
    sound_children _ _ _ _ _ _ _ _ _ (tree p moves firsts ms m known tokens before asks given middle left d behind rest is firsts_are child raised) o are within k =
        let f = sound_children p moves firsts known tokens before given middle left firsts_are o are (λ n h. within n (subst (λ xs. Has xs n) (sym is) (Has-append_left firsts (m ∷ []) n h))) k in
        let mv = All-has _ moves m are.moves_only (within m (subst (λ xs. Has xs m) (sym is) (Has-append_right firsts (m ∷ []) m (inl refl)))) in
        let a = sound (after p m) middle left d behind rest child (of_after p m o mv) f.1 in
        (subst (λ xs. Facts p moves xs asks given) (sym is) (one_tree p moves firsts m before asks given d o mv f.0 a.0 raised), a.1)
    sound_children _ _ _ _ _ _ _ _ _ (yielded p moves firsts ms m known tokens asks before y behind rest is firsts_are may) o are within k =
        let f = sound_children p moves firsts known tokens asks before behind (Yield y.lun ∷ rest) firsts_are o are (λ n h. within n (subst (λ xs. Has xs n) (sym is) (Has-append_left firsts (m ∷ []) n h))) k in
        (subst (λ xs. Facts p moves xs asks (before ++ y ∷ [])) (sym is) (one_yield p moves firsts m asks before y f.0 may), f.1)

pub proved_is_below : BelowLaw
proved_is_below all p tokens e ip small (d, behind, proves, few) s legal =
    let r = legal_run p s ip legal in
    let a = sound e all p.timing p.rules p [] tokens d behind [] proves (record { timing_is = refl; rules_are = refl; problem = ip; small = small }) tt in
    a.0.holds p (same_self p) ip a.0.meets r.0 (finish p s) r.1

pub proved_is_optimal : ProvedLaw
proved_is_optimal all p s tokens ip small legal accepted = record { legal = legal; least = proved_is_below all p tokens (finish p s) ip small accepted }
