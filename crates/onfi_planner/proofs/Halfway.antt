-- A search between two children of a node.
use Rattle.std.proofs.Common.{◌≡◌, ℕ, zero, suc, ◌+◌, ◌-◌, ◌≤◌, ◌<◌, inl, inr, Bool, true, false, List, [], ◌∷◌, ◌++◌, length, map, take, get_or, Option, Some, None, refl, sym, ap, ◌∙◌, subst, arith}
use Rattle.std.specs.Prelude.{◌==◌, MatchOption}
use Rattle.std.specs.Option.{is_some}
use Rattle.std.specs.List.{AllByRecursion as All}
use Rattle.std.proofs.lemmas.List.{take_all}
use Rattle.std.proofs.lemmas.Bool.{false≢true}
use Rattle.onfi_request.specs.declared.want.Want.{Want}
use Rattle.onfi_problem.specs.Moves.{Move, move_lun, AreMoves, ComesBefore}
use Rattle.onfi_group.specs.Words.{Has, Pairs}
use Rattle.onfi_problem.specs.Problem.{Problem, IsProblem}
use Rattle.onfi_schedule.specs.Runs.{Run}
use Rattle.onfi_cert.specs.declared.token.Token.{Token}
use Rattle.onfi_check.specs.Tree.{Closing, Closes, token_of, AtEnd, Forest, Closed, Opened, NoMore, Child, Yields}
use Rattle.onfi_problem.specs.Starts.{IsNamed}
use Rattle.onfi_problem.proofs.Lists.{All-map, all_at}
use Rattle.onfi_problem.proofs.Perm.{All-append, All-has, All-weaker, Has-append_right}
use Rattle.onfi_check.proofs.Sound.{sound}
use Rattle.onfi_problem.specs.declared.moves.Move.{Move as KeptMove}
use Rattle.onfi_problem.specs.declared.moves.Move.TheVariants.{Next}
use Rattle.onfi_planner.specs.declared.search.Best.{Best}
use Rattle.onfi_problem.specs.Position.{Position, move_of, moves_of, moved, lun_named}
use Rattle.onfi_planner.specs.Opening.{yield_at, AreYields}
use Rattle.onfi_check.specs.Nodes.{IsOpen, HasNodes, nodes_below}
use Rattle.onfi_planner.specs.Planning.{Bounded, run_of, Searched, HasOpened, IsOver}
use Rattle.onfi_planner.proofs.Paths.{Among, node_one, among_none, among_more, among_skip, among_all}
use Rattle.onfi_planner.proofs.Opening.{Done, done_sooner, opened}
use Rattle.onfi_planner.proofs.Turns.{some_of}
use Rattle.onfi_planner.proofs.Grown.{Grown, joined, grown_joined, grown_sooner, grown_accepts, nodes_joined}
use Rattle.onfi_check.proofs.LastEnds.{move_at}
pub use Rattle.onfi_check.proofs.LastEnds.{one_more}
pub use Rattle.onfi_check.proofs.Nothing.{no_moves}
pub use Rattle.onfi_check.proofs.OneList.{map_length}

-- the moves of a node are listed, and name their LUNs
pub record Listed (x : Position) (items : List KeptMove) : Type 0 where
  pub are : AreMoves x.problem (moves_of x.groups items)
  pub named : All (IsNamed x.groups) items

pub listed : (x : Position) (items moves : List KeptMove) → items ≡ moves → AreMoves x.problem (moves_of x.groups moves) → All (IsNamed x.groups) moves
    → Listed x items
listed x items moves e are named = subst (Listed x) (sym e) (record { are = are; named = named })

pub record Halfway (x : Position) (items : List KeptMove) (yields : List (Option ℕ)) (i : ℕ) (old best : Best) (improved : Bool) (began count limit : ℕ) : Type 0 where
  pub sooner : best.finish ≤ old.finish
  pub done : Done x.problem yields best.finish (moves_of x.groups (take i items))
  pub run : improved ≡ true → Run x.problem (run_of x.groups best.steps.items) best.finish
  pub kept : improved ≡ false → best ≡ old
  pub more : began + 1 ≤ count
  pub within : count ≤ limit
  pub nodes : (f : ℕ) → old.finish ≤ f → Among f x.problem (moves_of x.groups (take i items)) (count - (began + 1))
  pub grown : (f : Forest) × Grown x.problem yields best.finish (moves_of x.groups (take i items)) f × (nodes_below f ≡ count - (began + 1))

pub started : (x : Position) (items : List KeptMove) (yields : List (Option ℕ)) (best : Best) (began limit : ℕ) → began + 1 ≤ limit → Halfway x items yields 0 best best false began (began + 1) limit
started x items yields best began limit h = record {
  sooner = omega arith;
  done = tt;
  run = λ e. absurd (false≢true e);
  kept = λ e. refl;
  more = omega arith;
  within = h;
  nodes = λ f le. let z : 0 ≡ began + 1 - (began + 1) = omega arith in subst (Among f x.problem []) z (among_none f x.problem);
  grown = let z : 0 ≡ began + 1 - (began + 1) = omega arith in (NoMore, tt, z);
}

pub Pairs-cross : {A : Type 0} (R : A → A → Type 0) (xs ys : List A) (y x : A) → Pairs R (xs ++ y ∷ ys) → Has xs x → R x y
Pairs-cross R [] ys y x h k = absurd k
Pairs-cross R (z ∷ xs) ys y x h (inl e) = subst (λ w. R w y) e (All-has (R z) (xs ++ y ∷ ys) y h.0 (Has-append_right xs (y ∷ ys) y (inl refl)))
Pairs-cross R (z ∷ xs) ys y x h (inr k) = Pairs-cross R xs ys y x h.1 k

pub not_before_itself : (p : Problem) (m : Move) → ComesBefore p m m → ⊥
not_before_itself p m (inl a) = omega arith
not_before_itself p m (inr a) = let b = a.1 in omega arith

fresh : {A B : Type 0} (R : B → B → Type 0) (f : A → B) (xs : List A) (i : ℕ) (d : A) → ((m : B) → R m m → ⊥) → i < length xs → Pairs R (map f xs) → Has (map f (take i xs)) (f (get_or xs i d)) → ⊥
fresh R f [] i d irr h p k = absurd (omega arith)
fresh R f (x ∷ xs) zero d irr h p k = absurd k
fresh R f (x ∷ xs) (suc i) d irr h p (inl e) = irr (f (get_or xs i d)) (subst (λ z. R z (f (get_or xs i d))) e (all_at (λ y. R (f x) (f y)) xs i d (omega arith) (All-map f (R (f x)) xs p.0)))
fresh R f (x ∷ xs) (suc i) d irr h p (inr k) = fresh R f xs i d irr (omega arith) p.1 k

-- no move is listed twice
pub new_move : (x : Position) (items : List KeptMove) (i : ℕ) (d : KeptMove) → AreMoves x.problem (moves_of x.groups items) → i < length items → Has (moves_of x.groups (take i items)) (move_of x.groups (get_or items i d)) → ⊥
new_move x items i d are h k = fresh (ComesBefore x.problem) (move_of x.groups) items i d (not_before_itself x.problem) h are.order k

pub open_later : (f g : ℕ) (p : Problem) → f ≤ g → IsOpen f p → IsOpen g p
open_later f g p le o = record {
  bus = let h = o.bus in omega arith;
  lead = let h = o.lead in omega arith;
  trail = λ t e. let h = o.trail t e in omega arith;
  die = λ l k. let h = o.die l k in omega arith;
}

pub none_some : (o : Option ℕ) (l : ℕ) → o ≡ Some l → o ≡ None → ⊥
none_some o l e n = cc

-- the child of one more move
one_grown : (x : Position) (items : List KeptMove) (yields : List (Option ℕ)) (i e n more all : ℕ) (s : KeptMove) → moves_of x.groups (take (i + 1) items) ≡ moves_of x.groups (take i items) ++ move_of x.groups s ∷ [] → (last : Forest) → nodes_below last ≡ more → Grown x.problem yields e (move_of x.groups s ∷ []) last → n + more ≡ all → (f : Forest) × Grown x.problem yields e (moves_of x.groups (take i items)) f × (nodes_below f ≡ n) → (f : Forest) × Grown x.problem yields e (moves_of x.groups (take (i + 1) items)) f × (nodes_below f ≡ all)
one_grown x items yields i e n more all s m last l g sum (f, h, k) =
    let j = nodes_joined f last in (
      joined f last,
      subst (λ z. Grown x.problem yields e z (joined f last)) (sym m) (grown_joined x.problem yields e (moves_of x.groups (take i items)) (move_of x.groups s ∷ []) f last h g),
      omega arith,
    )

pub skipped : (x : Position) (items : List KeptMove) (yields : List (Option ℕ)) (i : ℕ) (old best : Best) (improved : Bool) (began count limit l : ℕ) (d : KeptMove) → Listed x items → i < length items → yield_at yields (lun_named (get_or items i d)) ≡ Some l
    → Halfway x items yields i old best improved began count limit → Halfway x items yields (i + 1) old best improved began count limit
skipped x items yields i old best improved began count limit l d all h y w =
    let s = get_or items i d in
    let m = one_more x.groups items i d h in
    let y' : yield_at yields (move_lun (move_of x.groups s)) ≡ Some l = ap (yield_at yields) (all_at (IsNamed x.groups) items i d h all.named).lun ∙ y in
    let sum : count - (began + 1) + 0 ≡ count - (began + 1) = omega arith in
    record {
      sooner = w.sooner;
      done = subst (Done x.problem yields best.finish) (sym m) (All-append _ (moves_of x.groups (take i items)) (move_of x.groups s ∷ []) w.done ((λ q. absurd (none_some _ l y' q)), tt));
      run = w.run;
      kept = w.kept;
      more = w.more;
      within = w.within;
      nodes = λ f le. subst (λ z. Among f x.problem z (count - (began + 1))) (sym m) (among_skip f x.problem (moves_of x.groups (take i items)) (move_of x.groups s ∷ []) (count - (began + 1)) (w.nodes f le));
      grown = one_grown x items yields i best.finish (count - (began + 1)) 0 (count - (began + 1)) s m (Yields l NoMore) refl (y', tt) sum w.grown;
    }

pub visited : (x : Position) (items : List KeptMove) (yields : List (Option ℕ)) (i : ℕ) (old best best' : Best) (improved improved' : Bool) (began count count' limit : ℕ) (d : KeptMove) → Listed x items → IsOpen old.finish x.problem → i < length items → Halfway x items yields i old best improved began count limit
    → best'.finish ≤ best.finish → Bounded (moved x (get_or items i d)).problem best'.finish → HasOpened (moved x (get_or items i d)).problem best.finish best'.finish count count' → count' ≤ limit
    → (improved' ≡ true → Run x.problem (run_of x.groups best'.steps.items) best'.finish) → (improved' ≡ false → best' ≡ old) → Halfway x items yields (i + 1) old best' improved' began count' limit
visited x items yields i old best best' improved improved' began count count' limit d all o h w le b more lim run kept =
    let s = get_or items i d in
    let m = one_more x.groups items i d h in
    let so = w.sooner in
    let mo = w.more in
    let mo' = more.more in
    let sum : count - (began + 1) + (count' - count) ≡ count' - (began + 1) = omega arith in
    record {
      sooner = omega arith;
      done = subst (Done x.problem yields best'.finish) (sym m) (All-append _ (moves_of x.groups (take i items)) (move_of x.groups s ∷ []) (done_sooner x.problem yields best.finish best'.finish (moves_of x.groups (take i items)) le w.done) ((λ q. b), tt));
      run = run;
      kept = kept;
      more = omega arith;
      within = lim;
      nodes = λ f k.
          let a = among_more f x.problem (moves_of x.groups (take i items)) (move_of x.groups s) (count - (began + 1)) (count' - count) (w.nodes f k) (open_later old.finish f x.problem k o) (move_at x.problem x.groups items i d h all.are.moves_only) (new_move x items i d all.are h) (more.nodes f (omega arith)) in
          subst (λ z. Among f x.problem z (count' - (began + 1))) (sym m) (subst (Among f x.problem (moves_of x.groups (take i items) ++ move_of x.groups s ∷ [])) sum a);
      grown =
          let (child, a, k) = more.accepted in
          let (front, g, q) = w.grown in
          let z : nodes_below (Child child NoMore) ≡ count' - count = omega arith in
          one_grown x items yields i best'.finish (count - (began + 1)) (count' - count) (count' - (began + 1)) s m (Child child NoMore) z (a, tt) sum (front, grown_sooner x.problem yields best.finish best'.finish (moves_of x.groups (take i items)) front le g, q);
    }

pub given_up : (x : Position) (items : List KeptMove) (yields : List (Option ℕ)) (i : ℕ) (old best : Best) (improved : Bool) (began count count' limit : ℕ) (d : KeptMove) → Listed x items → IsOpen old.finish x.problem → i < length items → Halfway x items yields i old best improved began count limit
    → IsOver (moved x (get_or items i d)).problem best.finish count count' limit → IsOver x.problem old.finish began count' limit
given_up x items yields i old best improved began count count' limit d all o h w over =
    let s = get_or items i d in
    let so = w.sooner in
    let mo = w.more in
    let li = w.within in
    let sum : 1 + (count - (began + 1) + (limit - count + 1)) ≡ limit - began + 1 = omega arith in
    record {
      limit = over.limit;
      nodes = λ f k.
          let a = among_more f x.problem (moves_of x.groups (take i items)) (move_of x.groups s) (count - (began + 1)) (limit - count + 1) (w.nodes f k) (open_later old.finish f x.problem k o) (move_at x.problem x.groups items i d h all.are.moves_only) (new_move x items i d all.are h) (over.nodes f (omega arith)) in
          subst (HasNodes f x.problem) sum (among_all f x.problem _ _ a);
    }

pub ended : (x : Position) (items : List KeptMove) (yields : List (Option ℕ)) (i : ℕ) (old best : Best) (improved : Bool) (began count limit : ℕ) → IsProblem x.problem → Listed x items → AreYields x.problem (moves_of x.groups items) yields → 1 ≤ length items → length items ≤ i
    → Halfway x items yields i old best improved began count limit → Searched x old best improved
ended x items yields i old best improved began count limit ip all ay some h w =
    let m = move_at x.problem x.groups items 0 (Next 0) some all.are.moves_only in
    record {
      sooner = w.sooner;
      least = opened x.problem (moves_of x.groups items) yields best.finish _ ip all.are m ay (subst (λ z. Done x.problem yields best.finish (moves_of x.groups z)) (take_all i items h) w.done);
      run = w.run;
      kept = w.kept;
    }

pub ended_count : (x : Position) (items : List KeptMove) (yields : List (Option ℕ)) (i : ℕ) (old best : Best) (improved : Bool) (began count limit : ℕ) → Listed x items → AreYields x.problem (moves_of x.groups items) yields → 1 ≤ length items → length items ≤ i
    → Halfway x items yields i old best improved began count limit → HasOpened x.problem old.finish best.finish began count
ended_count x items yields i old best improved began count limit listed ay some h w =
    let long = map_length x items in
    let mo = w.more in
    let sum : 1 + (count - (began + 1)) ≡ count - began = omega arith in
    let (front, g, k) = w.grown in
    let all = subst (λ z. Grown x.problem yields best.finish (moves_of x.groups z) front) (take_all i items h) g in
    record {
      more = omega arith;
      nodes = λ f k. subst (HasNodes f x.problem) sum (among_all f x.problem _ _ (w.nodes f k));
      accepted = (Opened front, grown_accepts x.problem yields best.finish (moves_of x.groups items) front listed.are (omega arith) ay all, omega arith);
    }

-- a node that is opened, and nothing below it
pub one_opened : (p : Problem) (finish found began : ℕ) → (c : Closing) × Closes p found c → HasOpened p finish found began (began + 1)
one_opened p finish found began (c, h) = let e : 1 ≡ began + 1 - began = omega arith in record { more = omega arith; nodes = λ f k. subst (HasNodes f p) e (node_one f p); accepted = (Closed c, h, e) }

pub one_over : (p : Problem) (finish began limit : ℕ) → began ≡ limit → IsOver p finish began began limit
one_over p finish began limit h = let e : 1 ≡ limit - began + 1 = omega arith in record { limit = h; nodes = λ f k. subst (HasNodes f p) e (node_one f p) }

-- what closes a node that was reported as closed
pub closed_by : (p : Problem) (f : ℕ) (o : Option Token) → true ≡ is_some o → MatchOption o (IsOpen f p) (λ t. (c : Closing) × (token_of c ≡ t) × Closes p f c) → (c : Closing) × Closes p f c
closed_by p f None s h = absurd (false≢true (sym s))
closed_by p f (Some t) s h = (h.0, h.2)

-- and one with nothing left
pub closed_at_end : (x : Position) (items : List KeptMove) (finish : ℕ) → IsProblem x.problem → AreMoves x.problem (moves_of x.groups items) → length items ≡ 0 → finish ≡ x.problem.bus_free → (c : Closing) × Closes x.problem finish c
closed_at_end x [] finish ip are z e = (AtEnd, (no_moves x.problem ip are, omega arith))
closed_at_end x (s ∷ items) finish ip are z e = absurd (omega arith)

-- what a found closing says
pub closed_node : (x : Position) (best : Best) (o : Option Token) → IsProblem x.problem → true ≡ is_some o → MatchOption o (IsOpen best.finish x.problem) (λ t. (c : Closing) × (token_of c ≡ t) × Closes x.problem best.finish c) → Searched x best best false
closed_node x best None ip s h = absurd (false≢true (sym s))
closed_node x best (Some t) ip s h = record {
  sooner = omega arith;
  least = sound (Closed h.0) x.problem best.finish ip h.2;
  run = λ e. absurd (false≢true e);
  kept = λ e. refl;
}

pub open_node : (x : Position) (f : ℕ) (o : Option Token) (P : Token → Type 0) → is_some o ≡ false → MatchOption o (IsOpen f x.problem) P → IsOpen f x.problem
open_node x f None P s h = h
open_node x f (Some t) P s h = absurd (false≢true (sym s))

-- a node with nothing left
pub done_node : (x : Position) (items : List KeptMove) (old new : Best) → IsProblem x.problem → AreMoves x.problem (moves_of x.groups items) → length items ≡ 0 → new.finish ≡ x.problem.bus_free → new.steps.items ≡ [] → IsOpen old.finish x.problem → Searched x old new true
done_node x [] old new ip are z e n o =
    let d = no_moves x.problem ip are in
    let u = o.bus in
    record {
      sooner = omega arith;
      least = λ steps f run. let le = sound (Closed AtEnd) x.problem x.problem.bus_free ip (d, omega arith) steps f run in omega arith;
      run = λ _. rw n (d, sym e);
      kept = λ q. absurd (false≢true (sym q));
    }
done_node x (s ∷ items) old new ip are z e n o = absurd (omega arith)

pub yields_some : (yields : List (Option ℕ)) (j j' : ℕ) → j ≡ j' → is_some (get_or yields j None) ≡ true → (l : ℕ) × (yield_at yields j' ≡ Some l)
yields_some yields j j' e n = let (l, q) = some_of (get_or yields j None) n in (l, subst (λ z. get_or yields z None ≡ Some l) e q)

pub steps_same : (x : Position) (a b : List KeptMove) → a ≡ b → AreMoves x.problem (moves_of x.groups b) → AreMoves x.problem (moves_of x.groups a)
steps_same x a b e h = subst (λ z. AreMoves x.problem (moves_of x.groups z)) (sym e) h

-- the moves name their LUNs
pub luns_of : (groups : List (List Want)) (items : List KeptMove) → All (IsNamed groups) items → All (λ s. move_lun (move_of groups s) ≡ lun_named s) items
luns_of groups items named = All-weaker (IsNamed groups) (λ s. move_lun (move_of groups s) ≡ lun_named s) (λ s n. n.lun) items named

pub some_items : (items : List KeptMove) → false ≡ (length items == 0) → 1 ≤ length items
some_items [] h = absurd (false≢true h)
some_items (s ∷ items) h = omega arith
