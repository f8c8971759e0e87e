-- How the token, the child or the tree that was read bears on the whole.
use Rattle.std.proofs.Common.{◌≡◌, ◌≢◌, ℕ, ◌+◌, ◌≤◌, ◌<◌, List, [], ◌∷◌, ◌++◌, length, take, get_or, Some, refl, sym, ap, ◌∙◌, subst, arith}
use Rattle.std.specs.Prelude.{Option, slice_index, max}
use Rattle.std.specs.List.{AllByRecursion as All}
use Rattle.std.proofs.lemmas.List.{map-append, take_more}
use Rattle.onfi_request.specs.declared.want.Want.{Want}
use Rattle.onfi_problem.specs.Problem.{Problem}
use Rattle.onfi_problem.specs.Moves.{Move, AreMoves, move_lun, may_go, after, earliest}
use Rattle.onfi_problem.specs.declared.moves.Move.{Move as KeptMove}
use Rattle.onfi_problem.specs.Position.{Position, move_of, moves_of}
use Rattle.onfi_check.specs.Ends.{AreLastEnds, IsLastEnd}
use Rattle.onfi_check.proofs.OneList.{map_length}
use Rattle.onfi_demand.specs.Asked.{AreRaised, GoesOn, IsStep, asked_by}
use Rattle.onfi_demand.specs.Demand.{of_luns}
use Rattle.onfi_demand.specs.Kept.{demand_of, IsKept}
use Rattle.onfi_demand.specs.declared.asked.Step.{Step}
use Rattle.onfi_demand.specs.declared.demand.Demand.{Demand as Kept}
use Rattle.onfi_demand.proofs.Stepping.{step_asks}
use Rattle.onfi_known_check.specs.declared.known.Known.{Known}
use Rattle.onfi_known_check.specs.declared.standing.Standing.{Standing}
use Rattle.onfi_known_check.specs.declared.token.Token.{Token}
use Rattle.onfi_known_check.specs.declared.token.Token.TheVariants.{Branch, Yield, Again}
use Rattle.onfi_known_check.specs.Proves.{FitTimes, IsAgain, times_of, MayYield, with_yields, Proves, Children, Remembers, Yielded, Below, Grows, again, opened, tree, yielded}
pub use Rattle.onfi_check.proofs.Walking.{on_ok, fewer_left}

-- a yield was read
pub yield_grows : (e : ℕ) (all : List Want) (p : Problem) (moves : List Move) (m : Move) (before behind : Standing) (known : List Known) (ends : List (Option ℕ)) (own lun n : ℕ) (token : Token) (tokens left : List Token) → token ≡ Yield lun → n ≡ lun → n < 8 → own ≡ move_lun m → tokens ≡ token ∷ left → AreLastEnds p moves ends → behind.asked ≡ before.asked → Yielded p ends before.given.items own n behind.given.items → Grows e all p moves m before known tokens behind known left
yield_grows e all p moves m before behind known ends own lun n token tokens left t q few o ts last same y = λ firsts first begun children.
    let given = y.given in
    let token_is : tokens ≡ Yield given.lun ∷ left = ts ∙ ap (λ z. z ∷ left) (t ∙ ap Yield (sym q ∙ sym y.lun_is)) in
    let at : IsLastEnd p moves n (Some y.end) = subst (IsLastEnd p moves n) y.last (last n few) in
    let may : MayYield p moves before.given.items m given = record {
      own = y.own_is ∙ o;
      other = λ s. y.other (sym y.lun_is ∙ (s ∙ y.own_is));
      end = y.end;
      last = subst (λ z. IsLastEnd p moves z (Some y.end)) (sym y.lun_is) at;
      fits = let f = y.fits in let s : may_go p given.own ≡ may_go p own = ap (may_go p) y.own_is in omega arith;
      longest = let l = y.longest in let s : may_go p given.lun ≡ may_go p n = ap (may_go p) y.lun_is in omega arith;
      unasked = subst (λ z. All (λ g. g.lun ≢ z) before.given.items) (sym y.own_is) y.unasked;
      stays = subst (λ z. All (λ g. g.own ≢ z) before.given.items) (sym y.lun_is) y.stays;
    } in
    let grown = yielded p moves firsts (firsts ++ m ∷ []) m first begun before.asked before.given.items given known left refl (subst (λ z. Children e all p moves firsts first begun before.asked before.given.items known z) token_is children) may in
    subst (λ z. Children e all p moves (firsts ++ m ∷ []) first begun z behind.given.items known left) (sym same) (subst (λ z. Children e all p moves (firsts ++ m ∷ []) first begun before.asked z known left) (sym y.grown) grown)

-- a tree was read after a move
pub below_grows : (e : ℕ) (all : List Want) (p : Problem) (moves : List Move) (m : Move) (before behind : Standing) (known known' : List Known) (token : Token) (tokens left next : List Token) → tokens ≡ token ∷ left → behind.given ≡ before.given → Below e all p m known (token ∷ left) before.asked behind.asked known' next → Grows e all p moves m before known tokens behind known' next
below_grows e all p moves m before behind known known' token tokens left next ts same (d, proves, raised) = λ firsts first begun children.
    let grown = tree p moves firsts (firsts ++ m ∷ []) m first begun before.asked behind.asked before.given.items known (token ∷ left) d known' next refl (subst (λ z. Children e all p moves firsts first begun before.asked before.given.items known z) ts children) proves raised in
    subst (λ z. Children e all p moves (firsts ++ m ∷ []) first begun behind.asked z known' next) (ap (λ z. z.items) (sym same)) grown

-- what is asked before a move, in its numbers
pub raised_by : (p : Problem) (m : Move) (d : Kept) (step : Step) (count : ℕ) (before behind : List ℕ) → IsStep p m step → count ≡ length p.luns → ((lun : ℕ) → lun < 8 → slice_index behind lun ≡ max (slice_index before lun) (asked_by step count (demand_of d) lun)) → AreRaised p m d before behind
raised_by p m d step count before behind is luns h = λ lun few.
    let a = h lun few in
    let b = step_asks p m step (demand_of d) lun is in
    let c : asked_by step count (demand_of d) lun ≡ asked_by step (length p.luns) (demand_of d) lun = ap (λ z. asked_by step z (demand_of d) lun) luns in
    omega arith

pub step_is : (p : Problem) (m : Move) (step : Step) (own start : ℕ) → step.lun ≡ own → own ≡ move_lun m → step.start ≡ start → start ≡ earliest p m → step.end ≡ (after p m).bus_free → GoesOn (after p m) own step.go → IsStep p m step
step_is p m step own start l o s a e g = record { lun = l ∙ o; start = s ∙ a; end = e; go = subst (λ z. GoesOn (after p m) z step.go) o g }

-- one child more
pub moves_more : (x : Position) (items : List KeptMove) (i : ℕ) (d : KeptMove) → i < length items → moves_of x.groups (take (i + 1) items) ≡ moves_of x.groups (take i items) ++ move_of x.groups (get_or items i d) ∷ []
moves_more x items i d h = ap (moves_of x.groups) (take_more items i d h) ∙ map-append (move_of x.groups) (take i items) (get_or items i d ∷ [])

pub children_more : (e : ℕ) (x : Position) (items : List KeptMove) (i : ℕ) (d : KeptMove) (before behind : Standing) (first known known' : List Known) (begun tokens left : List Token) → i < length items → Grows e x.all x.problem (moves_of x.groups items) (move_of x.groups (get_or items i d)) before known tokens behind known' left → Children e x.all x.problem (moves_of x.groups items) (moves_of x.groups (take i items)) first begun before.asked before.given.items known tokens → Children e x.all x.problem (moves_of x.groups items) (moves_of x.groups (take (i + 1) items)) first begun behind.asked behind.given.items known' left
children_more e x items i d before behind first known known' begun tokens left h grows children = rw (moves_more x items i d h) (grows (moves_of x.groups (take i items)) first begun children)

-- a branch was read
pub branch_proves : (e : ℕ) (x : Position) (items : List KeptMove) (width : ℕ) (s : Standing) (times : List ℕ) (first known known' : List Known) (tokens left : List Token) (d : Kept) → AreMoves x.problem (moves_of x.groups items) → length items ≡ width → 1 ≤ width → Children e x.all x.problem (moves_of x.groups items) (moves_of x.groups items) first tokens s.asked s.given.items known left → ((lun : ℕ) → lun < 8 → slice_index times lun ≡ with_yields s.asked s.given.items lun) → FitTimes s.asked s.given.items → Remembers x.all x.problem times known known' d → Proves e x.all x.problem first (Branch width ∷ tokens) d known' left
branch_proves e x items width s times first known known' tokens left d are wide some children needs fit r =
    let long = map_length x items in
    let k : IsKept d (of_luns (with_yields s.asked s.given.items)) = record { bus = r.bus; luns = λ l h. ap (λ z. slice_index z l) r.luns ∙ needs l h } in
    let k' : IsKept d (times_of r.node) = record { bus = r.bus; luns = λ l h. ap (λ z. slice_index z l) (r.luns ∙ sym r.times_are) } in
    let proves = opened x.problem first width tokens (moves_of x.groups items) s.asked s.given.items r.node d known left are (omega arith) (omega arith) children fit r.describes k k' in
    subst (λ z. Proves e x.all x.problem first (Branch width ∷ tokens) d z left) (sym r.grown) proves

pub again_proves : (e : ℕ) (all : List Want) (p : Problem) (known : List Known) (number : ℕ) (token : Token) (left : List Token) (d : Kept) → token ≡ Again number → IsAgain all p known number d → Proves e all p known (token ∷ left) d known left
again_proves e all p known number token left d t h = subst (λ z. Proves e all p known (z ∷ left) d known left) (sym t) (again p known number d left h)
