-- Tokens are read in one way, whichever way the same is known before them.
use Rattle.std.proofs.Common.{◌≡◌, ◌≢◌, ℕ, zero, suc, ◌+◌, ◌-◌, ◌≤◌, ◌<◌, inl, List, [], ◌∷◌, ◌++◌, length, Some, refl, sym, ap, ◌∙◌, subst, arith, length-append}
use Rattle.std.specs.Prelude.{slice_get, slice_index, max, nat_le, ◌==◌, if◌then◌else◌}
use Rattle.std.specs.List.{AllByRecursion as All}
use Rattle.std.proofs.lemmas.List.{same_from_push}
use Rattle.onfi_request.specs.declared.want.Want.{Want}
use Rattle.onfi_group.specs.Words.{Has}
use Rattle.onfi_problem.specs.Problem.{Problem, IsProblem, IsSmall}
use Rattle.onfi_problem.specs.Moves.{Move, IsMove, AreMoves, move_lun, may_go, after, earliest}
use Rattle.onfi_problem.proofs.Kept.{kept, kept_small}
use Rattle.onfi_problem.proofs.OneList.{one_list}
use Rattle.onfi_problem.proofs.Perm.{All-append, All-has, Has-append_left, Has-append_right}
use Rattle.onfi_demand.specs.Asked.{AreRaised}
use Rattle.onfi_demand.specs.Demand.{Demand, asked, greatest, length_of, of_luns, of_own, through_bus, wait_of}
use Rattle.onfi_demand.specs.Left.{has_left}
use Rattle.onfi_demand.specs.Kept.{demand_of, IsKept}
use Rattle.onfi_demand.specs.declared.demand.Demand.{Demand as Kept}
use Rattle.onfi_demand.proofs.Keeping.{left_few}
use Rattle.onfi_demand.proofs.Sooner.{move_has}
use Rattle.onfi_check.specs.Ends.{IsLastEnd}
use Rattle.onfi_known_check.specs.declared.given.Given.{Given}
use Rattle.onfi_known_check.specs.declared.known.Known.{Known}
use Rattle.onfi_known_check.specs.declared.token.Token.{Token}
use Rattle.onfi_known_check.specs.declared.token.Token.TheVariants.{Branch, Yield, Again}
use Rattle.onfi_known_check.specs.Closing.{Closes, closing_demand}
use Rattle.onfi_known_check.specs.Proves.{Children, Describes, IsAgain, MayYield, Proves, times_of, with_yields, closed, again, opened, none, tree, yielded}
use Rattle.onfi_known_check.specs.Refused.{AreAlike, IsAlike}
use Rattle.onfi_known_check.proofs.Views.{Begin, Last, begin_of, by_closing, by_again, by_opening, last_of, last_tree, last_yield, no_child}
use Rattle.onfi_known_check.proofs.Yielding.{one_last}

-- what a problem of a walk is
pub record Stands (p : Problem) : Type 0 where
  pub problem : IsProblem p
  pub small : IsSmall p

pub stands_after : (p : Problem) (m : Move) → Stands p → IsMove p m → Stands (after p m)
stands_after p m s mv = record { problem = kept p m (earliest p m) s.problem mv; small = kept_small p m (earliest p m) s.small mv }

few : (p : Problem) (l : ℕ) → Stands p → l < length p.luns → l < 8
few p l s h = let k = s.small.few_luns in omega arith

own_few : (p : Problem) (m : Move) → Stands p → IsMove p m → move_lun m < 8
own_few p m s mv = left_few p (move_lun m) s.problem s.small (move_has p m mv)

-- two demands ask the same of each LUN
pub record SameAsked (d c : Kept) : Type 0 where
  pub bus : d.bus ≡ c.bus
  pub luns : (l : ℕ) → l < 8 → slice_index d.luns l ≡ slice_index c.luns l

abbrev pub SameAsks : List ℕ → List ℕ → Type 0
SameAsks a b = (l : ℕ) → l < 8 → slice_index a l ≡ slice_index b l

both_kept : (d c : Kept) (needs other : Demand) → IsKept d needs → IsKept c other → needs.bus ≡ other.bus → ((l : ℕ) → l < 8 → needs.lun l ≡ other.lun l) → SameAsked d c
both_kept d c needs other h k b l = record { bus = let x = h.bus in let y = k.bus in omega arith; luns = λ n f. h.luns n f ∙ (l n f ∙ sym (k.luns n f)) }

same_greatest : (n : ℕ) (f g : ℕ → ℕ) → ((i : ℕ) → i < n → f i ≡ g i) → greatest n f ≡ greatest n g
same_greatest zero f g h = refl
same_greatest (suc n) f g h = let a = h n (omega arith) in let b = same_greatest n f g (λ i k. h i (omega arith)) in omega arith

-- so do they after a move
same_asked : (p : Problem) (m : Move) (d c : Kept) → Stands p → IsMove p m → SameAsked d c → (l : ℕ) → l < 8 → asked p m (demand_of d) l ≡ asked p m (demand_of c) l
same_asked p m d c s mv same l h =
    let own = same.luns (move_lun m) (own_few p m s mv) in
    let bus = same.bus in
    let through : greatest (length p.luns) (through_bus p m (demand_of d)) ≡ greatest (length p.luns) (through_bus p m (demand_of c)) = same_greatest (length p.luns) (through_bus p m (demand_of d)) (through_bus p m (demand_of c)) (λ i k. ap (λ v. if i == move_lun m then 0 else (if nat_le v (after p m).bus_free then v - length_of p m else 0)) (same.luns i (few p i s k))) in
    let of_it : of_own p m (demand_of d) ≡ of_own p m (demand_of c) = ap (λ v. if has_left (after p m) (move_lun m) then v - (length_of p m + wait_of p m) else 0) own in
    let whole : max (d.bus - length_of p m) (max (of_own p m (demand_of d)) (greatest (length p.luns) (through_bus p m (demand_of d)))) ≡ max (c.bus - length_of p m) (max (of_own p m (demand_of c)) (greatest (length p.luns) (through_bus p m (demand_of c)))) = omega arith in
    let other : (if nat_le (slice_index d.luns l) (after p m).bus_free then 0 else slice_index d.luns l) ≡ (if nat_le (slice_index c.luns l) (after p m).bus_free then 0 else slice_index c.luns l) = ap (λ v. if nat_le v (after p m).bus_free then 0 else v) (same.luns l h) in
    ap (λ v. if l == move_lun m then v else (if nat_le (slice_index d.luns l) (after p m).bus_free then 0 else slice_index d.luns l)) whole ∙ ap (λ v. if l == move_lun m then max (c.bus - length_of p m) (max (of_own p m (demand_of c)) (greatest (length p.luns) (through_bus p m (demand_of c)))) else v) other

pub same_yields : (a b : List ℕ) (given : List Given) → All (λ y. y.lun < 8) given → SameAsks a b → (l : ℕ) → l < 8 → with_yields a given l ≡ with_yields b given l
same_yields a b [] g h l k = h l k
same_yields a b (y ∷ given) g h l k =
    let more = same_yields a b given g.1 h l k in
    let own = h y.lun g.0 in
    ap (λ v. if l == y.own then v else with_yields a given l) (let e : max (slice_index a y.lun + y.longest) (with_yields a given l) ≡ max (slice_index b y.lun + y.longest) (with_yields b given l) = omega arith in e)
    ∙ ap (λ v. if l == y.own then max (slice_index b y.lun + y.longest) (with_yields b given l) else v) more

-- what is alike is alike in all
pub alike_length : (all : List Want) (ks ls : List Known) → AreAlike all ks ls → length ks ≡ length ls
alike_length all [] [] a = refl
alike_length all [] (l ∷ ls) a = absurd a
alike_length all (k ∷ ks) [] a = absurd a
alike_length all (k ∷ ks) (l ∷ ls) a = let e = alike_length all ks ls a.1 in omega arith

pub alike_self : (all : List Want) (ks : List Known) → AreAlike all ks ks
alike_self all [] = tt
alike_self all (k ∷ ks) = (record { wants = refl; luns = refl; times = λ l h. refl }, alike_self all ks)

alike_append : (all : List Want) (ks ls : List Known) (k l : Known) → AreAlike all ks ls → IsAlike all k l → AreAlike all (ks ++ k ∷ []) (ls ++ l ∷ [])
alike_append all [] [] k l a h = (h, tt)
alike_append all [] (y ∷ ls) k l a h = absurd a
alike_append all (x ∷ ks) [] k l a h = absurd a
alike_append all (x ∷ ks) (y ∷ ls) k l a h = (a.0, alike_append all ks ls k l a.1 h)

alike_at : (all : List Want) (ks ls : List Known) (n : ℕ) (k l : Known) → AreAlike all ks ls → slice_get ks n ≡ Some k → slice_get ls n ≡ Some l → IsAlike all k l
alike_at all [] ls n k l a g h = cc
alike_at all (x ∷ ks) [] n k l a g h = absurd a
alike_at all (x ∷ ks) (y ∷ ls) zero k l a g h =
    let e : x ≡ k = cc in
    let f : y ≡ l = cc in
    subst (λ z. IsAlike all z l) e (subst (λ z. IsAlike all x z) f a.0)
alike_at all (x ∷ ks) (y ∷ ls) (suc n) k l a g h = alike_at all ks ls n k l a.1 g h

pub alike_there : (all : List Want) (ks ls : List Known) (n : ℕ) (l : Known) → AreAlike all ks ls → slice_get ls n ≡ Some l → (k : Known) × (slice_get ks n ≡ Some k) × IsAlike all k l
alike_there all ks [] n l a h = cc
alike_there all [] (y ∷ ls) n l a h = absurd a
alike_there all (x ∷ ks) (y ∷ ls) zero l a h = let f : y ≡ l = cc in (x, refl, subst (λ z. IsAlike all x z) f a.0)
alike_there all (x ∷ ks) (y ∷ ls) (suc n) l a h = alike_there all ks ls n l a.1 h

-- tokens of different kinds
pub same_token : (t u : Token) (ts us : List Token) → t ∷ ts ≡ u ∷ us → t ≡ u
same_token t u ts us e = cc

pub same_left : (t u : Token) (ts us : List Token) → t ∷ ts ≡ u ∷ us → ts ≡ us
same_left t u ts us e = cc

pub no_yield : (e : ℕ) (all : List Want) (p : Problem) (known : List Known) (lun : ℕ) (rest left : List Token) (d : Kept) (behind : List Known) → Proves e all p known (Yield lun ∷ rest) d behind left → ⊥
no_yield e all p known lun rest left d behind h = by_begin (begin_of e all p known (Yield lun ∷ rest) d behind left h)
  where
    by_begin : Begin e all p known (Yield lun ∷ rest) d behind left → ⊥
    by_begin (by_closing t s c k b) = subst (Closes p e) (sym (same_token (Yield lun) t rest left s)) c
    by_begin (by_again n s i b) = let x = same_token (Yield lun) (Again n) rest left s in cc
    by_begin (by_opening o) = let x = same_token (Yield lun) (Branch o.width) rest o.left o.tokens_are in cc

-- LUNs that are yielded to are there
pub given_few : (e : ℕ) (all : List Want) (p : Problem) (moves ms : List Move) (known : List Known) (tokens : List Token) (asks : List ℕ) (given : List Given) (behind : List Known) (rest : List Token) → Children e all p moves ms known tokens asks given behind rest → Stands p → All (IsMove p) moves → All (λ y. y.lun < 8) given
given_few e all _ _ _ _ _ _ _ _ _ (none p moves known tokens asks zeros) s each = tt
given_few e all _ _ _ _ _ _ _ _ _ (tree p moves firsts ms m known tokens before asks given middle left d behind rest is firsts_are child raised) s each = given_few e all p moves firsts known tokens before given middle left firsts_are s each
given_few e all _ _ _ _ _ _ _ _ _ (yielded p moves firsts ms m known tokens asks before y behind rest is firsts_are may) s each =
    let x = may.last.0 in
    let small = own_few p x.0 s (All-has (IsMove p) moves x.0 each x.1) in
    let same : move_lun x.0 ≡ y.lun = x.2 in
    All-append (λ y. y.lun < 8) before (y ∷ []) (given_few e all p moves firsts known tokens asks before behind (Yield y.lun ∷ rest) firsts_are s each) (omega arith, tt)

-- nothing that is known is forgotten
mutual
  pub grows : (e : ℕ) (all : List Want) (p : Problem) (known : List Known) (tokens : List Token) (d : Kept) (behind : List Known) (rest : List Token) → Proves e all p known tokens d behind rest → length known ≤ length behind
  grows e all _ _ _ _ _ _ (closed p known token d rest c is) = omega arith
  grows e all _ _ _ _ _ _ (again p known number d rest is) = omega arith
  grows e all _ _ _ _ _ _ (opened p known width more moves asks given k d middle rest are some wide children fit is needs same) =
      let g = children_grow e all p moves moves known more asks given middle rest children in
      let l = length-append middle (k ∷ []) in
      omega arith

  pub children_grow : (e : ℕ) (all : List Want) (p : Problem) (moves ms : List Move) (known : List Known) (tokens : List Token) (asks : List ℕ) (given : List Given) (behind : List Known) (rest : List Token) → Children e all p moves ms known tokens asks given behind rest → length known ≤ length behind
  children_grow e all _ _ _ _ _ _ _ _ _ (none p moves known tokens asks zeros) = omega arith
  children_grow e all _ _ _ _ _ _ _ _ _ (tree p moves firsts ms m known tokens before asks given middle left d behind rest is firsts_are child raised) =
      let a = children_grow e all p moves firsts known tokens before given middle left firsts_are in
      let b = grows e all (after p m) middle left d behind rest child in
      omega arith
  children_grow e all _ _ _ _ _ _ _ _ _ (yielded p moves firsts ms m known tokens asks before y behind rest is firsts_are may) = children_grow e all p moves firsts known tokens asks before behind (Yield y.lun ∷ rest) firsts_are

pub snoc_some : (xs : List Move) (x : Move) → xs ++ x ∷ [] ≢ []
snoc_some [] x e = cc
snoc_some (a ∷ xs) x e = cc

pub record SameRead (all : List Want) (d c : Kept) (b1 b2 : List Known) (r1 r2 : List Token) : Type 0 where
  pub demand : SameAsked d c
  pub known : AreAlike all b1 b2
  pub left : r1 ≡ r2

pub record SameChildren (all : List Want) (a1 a2 : List ℕ) (g1 g2 : List Given) (b1 b2 : List Known) (r1 r2 : List Token) : Type 0 where
  pub asks : SameAsks a1 a2
  pub given : g1 ≡ g2
  pub known : AreAlike all b1 b2
  pub left : r1 ≡ r2

module _ (e : ℕ) (all : List Want) where
  -- two openings of one branch, whose children are the same
  same_opening : (p : Problem) (moves : List Move) (a1 a2 : List ℕ) (g1 g2 : List Given) (k1 k2 : Known) (d1 d2 : Kept) (m1 m2 : List Known) (r1 r2 : List Token) → SameChildren all a1 a2 g1 g2 m1 m2 r1 r2 → All (λ y. y.lun < 8) g1 → Describes all k1 p → Describes all k2 p
      → IsKept d1 (of_luns (with_yields a1 g1)) → IsKept d2 (of_luns (with_yields a2 g2)) → IsKept d1 (times_of k1) → IsKept d2 (times_of k2) → SameRead all d1 d2 (m1 ++ k1 ∷ []) (m2 ++ k2 ∷ []) r1 r2
  same_opening p moves a1 a2 g1 g2 k1 k2 d1 d2 m1 m2 r1 r2 c g x y n1 n2 t1 t2 =
      let needs : (l : ℕ) → l < 8 → with_yields a1 g1 l ≡ with_yields a2 g2 l = λ l h. same_yields a1 a2 g1 g c.asks l h ∙ ap (λ z. with_yields a2 z l) c.given in
      let demand = both_kept d1 d2 (of_luns (with_yields a1 g1)) (of_luns (with_yields a2 g2)) n1 n2 refl needs in
      record {
        demand = demand;
        known = alike_append all m1 m2 k1 k2 c.known (record { wants = x.wants ∙ sym y.wants; luns = x.luns ∙ sym y.luns; times = λ l h. sym (t1.luns l h) ∙ (demand.luns l h ∙ t2.luns l h) });
        left = c.left;
      }

  same_again : (p : Problem) (k1 k2 : List Known) (n m : ℕ) (d1 d2 : Kept) (r1 r2 : List Token) → AreAlike all k1 k2 → IsAgain all p k1 n d1 → IsAgain all p k2 m d2 → n ≡ m → r1 ≡ r2 → SameRead all d1 d2 k1 k2 r1 r2
  same_again p k1 k2 n m d1 d2 r1 r2 a (x, at, _, _, h) (y, at', _, _, k) q r =
      let alike = alike_at all k1 k2 n x y a at (ap (slice_get k2) q ∙ at') in
      record { demand = both_kept d1 d2 (times_of x) (times_of y) h k refl alike.times; known = a; left = r }

  raised_same : (p : Problem) (m : Move) (d1 d2 : Kept) (b1 b2 a1 a2 : List ℕ) → Stands p → IsMove p m → SameAsked d1 d2 → SameAsks b1 b2 → AreRaised p m d1 b1 a1 → AreRaised p m d2 b2 a2 → SameAsks a1 a2
  raised_same p m d1 d2 b1 b2 a1 a2 s mv d b r1 r2 = λ l h.
      let x = r1 l h in
      let y = r2 l h in
      let z = b l h in
      let w = same_asked p m d1 d2 s mv d l h in
      omega arith

  given_same : (p : Problem) (moves : List Move) (m n : Move) (g1 g2 : List Given) (y z : Given) → m ≡ n → y.lun ≡ z.lun → MayYield p moves g1 m y → MayYield p moves g2 n z → y ≡ z
  given_same p moves m n g1 g2 y z q l a b =
      let own : y.own ≡ z.own = a.own ∙ (ap move_lun q ∙ sym b.own) in
      let end = one_last p moves z.lun a.end b.end (subst (λ v. IsLastEnd p moves v (Some a.end)) l a.last) b.last in
      let go : may_go p y.lun ≡ may_go p z.lun = ap (may_go p) l in
      let long : y.longest ≡ z.longest = let u = a.longest in let v = b.longest in omega arith in
      ap (λ v. record { own = v; lun = y.lun; longest = y.longest }) own ∙ (ap (λ v. record { own = z.own; lun = v; longest = y.longest }) l ∙ ap (λ v. record { own = z.own; lun = z.lun; longest = v }) long)

  mutual
    -- what is read is read in one way
    pub unique : (p : Problem) (k1 k2 : List Known) (tokens : List Token) (d1 d2 : Kept) (b1 b2 : List Known) (r1 r2 : List Token) → Proves e all p k1 tokens d1 b1 r1 → Proves e all p k2 tokens d2 b2 r2 → Stands p → AreAlike all k1 k2 → SameRead all d1 d2 b1 b2 r1 r2
    unique _ _ k2 _ _ d2 _ b2 _ r2 (closed p known token d rest c is) other s a = by_begin (begin_of e all p k2 (token ∷ rest) d2 b2 r2 other)
      where
        by_begin : Begin e all p k2 (token ∷ rest) d2 b2 r2 → SameRead all d d2 known b2 rest r2
        by_begin (by_closing t q c' is' g) =
            let same = same_token token t rest r2 q in
            record { demand = both_kept d d2 (closing_demand p e token) (closing_demand p e t) is is' (ap (λ z. (closing_demand p e z).bus) same) (λ l h. ap (λ z. (closing_demand p e z).lun l) same); known = subst (AreAlike all known) (sym g) a; left = same_left token t rest r2 q }
        by_begin (by_again n q i g) = absurd (subst (Closes p e) (same_token token (Again n) rest r2 q) c)
        by_begin (by_opening o) = absurd (subst (Closes p e) (same_token token (Branch o.width) rest o.left o.tokens_are) c)
    unique _ _ k2 _ _ d2 _ b2 _ r2 (again p known number d rest i) other s a = by_begin (begin_of e all p k2 (Again number ∷ rest) d2 b2 r2 other)
      where
        by_begin : Begin e all p k2 (Again number ∷ rest) d2 b2 r2 → SameRead all d d2 known b2 rest r2
        by_begin (by_closing t q c' is' g) = absurd (subst (Closes p e) (sym (same_token (Again number) t rest r2 q)) c')
        by_begin (by_again n q i' g) =
            let same = same_token (Again number) (Again n) rest r2 q in
            let number_is : number ≡ n = cc in
            subst (λ z. SameRead all d d2 known z rest r2) (sym g) (same_again p known k2 number n d d2 rest r2 a i i' number_is (same_left (Again number) (Again n) rest r2 q))
        by_begin (by_opening o) = let same = same_token (Again number) (Branch o.width) rest o.left o.tokens_are in cc
    unique _ _ k2 _ _ d2 _ b2 _ r2 (opened p known width more moves asks given k d middle rest are some wide children fit is needs same) other s a = by_begin (begin_of e all p k2 (Branch width ∷ more) d2 b2 r2 other) (λ asks' given' middle' left' others. unique_children p moves moves known k2 more asks asks' given given' middle middle' rest left' children others s are (λ m h. h) a)
      where
        by_begin : Begin e all p k2 (Branch width ∷ more) d2 b2 r2 → ((asks' : List ℕ) (given' : List Given) (middle' : List Known) (left' : List Token) → Children e all p moves moves k2 more asks' given' middle' left' → SameChildren all asks asks' given given' middle middle' rest left') → SameRead all d d2 (middle ++ k ∷ []) b2 rest r2
        by_begin (by_closing t q c' is' g) same_of = absurd (subst (Closes p e) (sym (same_token (Branch width) t more r2 q)) c')
        by_begin (by_again n q i g) same_of = let x = same_token (Branch width) (Again n) more r2 q in cc
        by_begin (by_opening o) same_of =
            let moves_are = one_list p o.moves moves o.are are in
            let left_is = sym (same_left (Branch width) (Branch o.width) more o.left o.tokens_are) in
            let others = subst (λ z. Children e all p moves moves k2 z o.asks o.given o.middle r2) left_is (subst (λ z. Children e all p z z k2 o.left o.asks o.given o.middle r2) moves_are o.children) in
            let read = same_opening p moves asks o.asks given o.given k o.node d d2 middle o.middle rest r2 (same_of o.asks o.given o.middle r2 others) (given_few e all p moves moves known more asks given middle rest children s are.moves_only) is o.describes needs o.needs same o.same in
            subst (λ z. SameRead all d d2 (middle ++ k ∷ []) z rest r2) (sym o.grown) read

    pub unique_children : (p : Problem) (moves ms : List Move) (k1 k2 : List Known) (tokens : List Token) (a1 a2 : List ℕ) (g1 g2 : List Given) (b1 b2 : List Known) (r1 r2 : List Token) → Children e all p moves ms k1 tokens a1 g1 b1 r1 → Children e all p moves ms k2 tokens a2 g2 b2 r2 → Stands p → AreMoves p moves → ((m : Move) → Has ms m → Has moves m) → AreAlike all k1 k2 → SameChildren all a1 a2 g1 g2 b1 b2 r1 r2
    unique_children _ _ _ _ k2 _ _ a2 _ g2 _ b2 _ r2 (none p moves known tokens asks zeros) other s are within a = by_last (last_of e all p moves [] k2 tokens a2 g2 b2 r2 other)
      where
        by_last : Last e all p moves [] k2 tokens a2 g2 b2 r2 → SameChildren all asks a2 [] g2 known b2 tokens r2
        by_last (no_child q z g b r) = record { asks = λ l h. zeros l ∙ sym (z l); given = sym g; known = subst (AreAlike all known) (sym b) a; left = sym r }
        by_last (last_tree t) = absurd (snoc_some t.firsts t.move (sym t.is))
        by_last (last_yield t) = absurd (snoc_some t.firsts t.move (sym t.is))
    unique_children _ _ _ _ k2 _ _ a2 _ g2 _ b2 _ r2 (tree p moves firsts ms m known tokens before asks given middle left d behind rest is firsts_are child raised) other s are within a =
        by_last (last_of e all p moves ms k2 tokens a2 g2 b2 r2 other)
        (λ asks' given' middle' left' others. unique_children p moves firsts known k2 tokens before asks' given given' middle middle' left left' firsts_are others s are (λ n h. within n (subst (λ xs. Has xs n) (sym is) (Has-append_left firsts (m ∷ []) n h))) a)
        (λ middle' d' others alike. unique (after p m) middle middle' left d d' behind b2 rest r2 child others (stands_after p m s mv) alike)
      where
        mv : IsMove p m
        mv = All-has (IsMove p) moves m are.moves_only (within m (subst (λ xs. Has xs m) (sym is) (Has-append_right firsts (m ∷ []) m (inl refl))))

        by_last : Last e all p moves ms k2 tokens a2 g2 b2 r2 → ((asks' : List ℕ) (given' : List Given) (middle' : List Known) (left' : List Token) → Children e all p moves firsts k2 tokens asks' given' middle' left' → SameChildren all before asks' given given' middle middle' left left')
            → ((middle' : List Known) (d' : Kept) → Proves e all (after p m) middle' left d' b2 r2 → AreAlike all middle middle' → SameRead all d d' behind b2 rest r2) → SameChildren all asks a2 given g2 behind b2 rest r2
        by_last (no_child q z g b r) firsts_of tree_of = absurd (snoc_some firsts m (sym is ∙ q))
        by_last (last_tree t) firsts_of tree_of =
            let same = same_from_push t.firsts firsts t.move m (sym t.is ∙ is) in
            let f = firsts_of t.before g2 t.middle t.left (subst (λ z. Children e all p moves z k2 tokens t.before g2 t.middle t.left) same.0 t.children) in
            let proves = subst (λ z. Proves e all (after p z) t.middle left t.demand b2 r2) same.1 (subst (λ z. Proves e all (after p t.move) t.middle z t.demand b2 r2) (sym f.left) t.proves) in
            let r = tree_of t.middle t.demand proves f.known in
            record { asks = raised_same p m d t.demand before t.before asks a2 s mv r.demand f.asks raised (subst (λ z. AreRaised p z t.demand t.before a2) same.1 t.raised); given = f.given; known = r.known; left = r.left }
        by_last (last_yield t) firsts_of tree_of =
            let same = same_from_push t.firsts firsts t.move m (sym t.is ∙ is) in
            let f = firsts_of a2 t.before b2 (Yield t.yield.lun ∷ r2) (subst (λ z. Children e all p moves z k2 tokens a2 t.before b2 (Yield t.yield.lun ∷ r2)) same.0 t.children) in
            absurd (no_yield e all (after p m) middle t.yield.lun r2 rest d behind (subst (λ z. Proves e all (after p m) middle z d behind rest) f.left child))
    unique_children _ _ _ _ k2 _ _ a2 _ g2 _ b2 _ r2 (yielded p moves firsts ms m known tokens asks before y behind rest is firsts_are may) other s are within a =
        by_last (last_of e all p moves ms k2 tokens a2 g2 b2 r2 other)
        (λ asks' given' middle' left' others. unique_children p moves firsts known k2 tokens asks asks' before given' behind middle' (Yield y.lun ∷ rest) left' firsts_are others s are (λ n h. within n (subst (λ xs. Has xs n) (sym is) (Has-append_left firsts (m ∷ []) n h))) a)
      where
        by_last : Last e all p moves ms k2 tokens a2 g2 b2 r2 → ((asks' : List ℕ) (given' : List Given) (middle' : List Known) (left' : List Token) → Children e all p moves firsts k2 tokens asks' given' middle' left' → SameChildren all asks asks' before given' behind middle' (Yield y.lun ∷ rest) left') → SameChildren all asks a2 (before ++ y ∷ []) g2 behind b2 rest r2
        by_last (no_child q z g b r) firsts_of = absurd (snoc_some firsts m (sym is ∙ q))
        by_last (last_tree t) firsts_of =
            let same = same_from_push t.firsts firsts t.move m (sym t.is ∙ is) in
            let f = firsts_of t.before g2 t.middle t.left (subst (λ z. Children e all p moves z k2 tokens t.before g2 t.middle t.left) same.0 t.children) in
            absurd (no_yield e all (after p t.move) t.middle y.lun rest r2 t.demand b2 (subst (λ z. Proves e all (after p t.move) t.middle z t.demand b2 r2) (sym f.left) t.proves))
        by_last (last_yield t) firsts_of =
            let same = same_from_push t.firsts firsts t.move m (sym t.is ∙ is) in
            let f = firsts_of a2 t.before b2 (Yield t.yield.lun ∷ r2) (subst (λ z. Children e all p moves z k2 tokens a2 t.before b2 (Yield t.yield.lun ∷ r2)) same.0 t.children) in
            let token = same_token (Yield y.lun) (Yield t.yield.lun) rest r2 f.left in
            let lun : y.lun ≡ t.yield.lun = cc in
            let yield = given_same p moves m t.move before t.before y t.yield (sym same.1) lun may t.may in
            record { asks = f.asks; given = ap (λ z. z ++ y ∷ []) f.given ∙ (ap (λ z. t.before ++ z ∷ []) yield ∙ sym t.grown); known = f.known; left = same_left (Yield y.lun) (Yield t.yield.lun) rest r2 f.left }
