-- Choosing the move that goes first among those of a list.
use Rattle.std.proofs.Common.{◌≡◌, ℕ, zero, suc, ◌+◌, ◌≤◌, ◌<◌, ◌⊎◌, inl, inr, true, false, List, [], ◌∷◌, ◌++◌, length, map, take, drop, get_or, refl, sym, ap, ◌∙◌, subst, arith}
use Rattle.std.specs.List.{AllByRecursion as All}
use Rattle.std.proofs.lemmas.List.{take_more, map-append, take_all, drop_more}
use Rattle.std.proofs.lemmas.Bool.{cases_eq, cases_lt, eq-eqb, ne_eqb, lt-ltb, le-ltb, false≢true}
use Rattle.onfi_request.specs.declared.want.Want.{Want}
use Rattle.onfi_group.specs.Words.{Has, Pairs}
use Rattle.onfi_problem.specs.Problem.{Problem}
use Rattle.onfi_problem.specs.Moves.{Move, IsMove, AreMoves, ComesBefore, earliest}
use Rattle.onfi_problem.specs.declared.moves.Move.{Move as KeptMove}
use Rattle.onfi_problem.specs.Position.{move_of, moves_of}
use Rattle.onfi_problem.specs.Starts.{IsNamed}
use Rattle.onfi_problem.proofs.Perm.{All-append, All-has, All-weaker}
use Rattle.onfi_check.specs.First.{wants_started, starts_before, GoesFirst, IsFirstChoice}
use Rattle.onfi_group.proofs.Lists.{Has-get}
use Rattle.onfi_check.proofs.LastEnds.{move_at}

-- what a comparison says
abbrev Sooner : Problem → Move → Move → Type 0
Sooner p m n = (earliest p m < earliest p n) ⊎ ((earliest p m ≡ earliest p n) × (wants_started n < wants_started m))

abbrev NotLater : Problem → Move → Move → Type 0
NotLater p m n = (earliest p m < earliest p n) ⊎ ((earliest p m ≡ earliest p n) × (wants_started n ≤ wants_started m))

is_sooner : (p : Problem) (m n : Move) → starts_before p m n ≡ true → Sooner p m n
is_sooner p m n h = elim (cases_eq (earliest p m) (earliest p n)) [
  | inl e ↦ elim (cases_lt (wants_started n) (wants_started m)) [
    | inl k ↦ inr (e, k)
    | inr k ↦ (let a : starts_before p m n ≡ false = rw (eq-eqb (earliest p m) (earliest p n) e) (le-ltb (wants_started n) (wants_started m) k) in absurd (false≢true (sym a ∙ h)))
  ]
  | inr d ↦ elim (cases_lt (earliest p m) (earliest p n)) [
    | inl k ↦ inl k
    | inr k ↦ (let a : starts_before p m n ≡ false = rw (ne_eqb (earliest p m) (earliest p n) d) (le-ltb (earliest p m) (earliest p n) k) in absurd (false≢true (sym a ∙ h)))
  ]
]

is_not_later : (p : Problem) (m n : Move) → starts_before p m n ≡ false → NotLater p n m
is_not_later p m n h = elim (cases_eq (earliest p m) (earliest p n)) [
  | inl e ↦ elim (cases_lt (wants_started n) (wants_started m)) [
    | inl k ↦ (let a : starts_before p m n ≡ true = rw (eq-eqb (earliest p m) (earliest p n) e) (lt-ltb (wants_started n) (wants_started m) k) in absurd (false≢true (sym h ∙ a)))
    | inr k ↦ inr (sym e, k)
  ]
  | inr d ↦ elim (cases_lt (earliest p m) (earliest p n)) [
    | inl k ↦ (let a : starts_before p m n ≡ true = rw (ne_eqb (earliest p m) (earliest p n) d) (lt-ltb (earliest p m) (earliest p n) k) in absurd (false≢true (sym h ∙ a)))
    | inr k ↦ inl (omega arith)
  ]
]

-- the move, or one after it
abbrev OrFirst : Problem → Move → Move → Type 0
OrFirst p c n = (n ≡ c) ⊎ GoesFirst p c n

abbrev OrBefore : Problem → Move → Move → Type 0
OrBefore p c n = (n ≡ c) ⊎ ComesBefore p c n

-- the choice among the first i moves, which stands before all others or is the next
pub record Chosen (p : Problem) (groups : List (List Want)) (moves : List KeptMove) (i : ℕ) (choice : KeptMove) : Type 0 where
  pub has : Has moves choice
  pub first : All (OrFirst p (move_of groups choice)) (moves_of groups (take i moves))
  pub before : All (OrBefore p (move_of groups choice)) (moves_of groups (drop i moves))

pub chosen_begin : (p : Problem) (groups : List (List Want)) (moves : List KeptMove) (d : KeptMove) → 1 ≤ length moves → AreMoves p (moves_of groups moves) → Chosen p groups moves 0 (get_or moves 0 d)
chosen_begin p groups [] d h are = absurd (omega arith)
chosen_begin p groups (m ∷ moves) d h are = record {
  has = inl refl;
  first = tt;
  before = (inl refl, All-weaker _ _ (λ n k. inr k) (moves_of groups moves) are.order.0);
}

one_more : (groups : List (List Want)) (moves : List KeptMove) (i : ℕ) (s d : KeptMove) → get_or moves i d ≡ s → i < length moves → moves_of groups (take (i + 1) moves) ≡ moves_of groups (take i moves) ++ move_of groups s ∷ []
one_more groups moves i s d e h =
    ap (moves_of groups) (take_more moves i d h) ∙ (map-append (move_of groups) (take i moves) (get_or moves i d ∷ []) ∙ ap (λ z. moves_of groups (take i moves) ++ move_of groups z ∷ []) e)

next_is : (groups : List (List Want)) (moves : List KeptMove) (i : ℕ) (s d : KeptMove) → get_or moves i d ≡ s → i < length moves → moves_of groups (drop i moves) ≡ move_of groups s ∷ moves_of groups (drop (i + 1) moves)
next_is groups moves i s d e h = ap (moves_of groups) (drop_more moves i d h ∙ ap (λ z. z ∷ drop (i + 1) moves) e)

pairs_behind : {A : Type 0} (R : A → A → Type 0) (groups : List (List Want)) (f : KeptMove → A) (moves : List KeptMove) (i : ℕ) (d : KeptMove) → i < length moves → Pairs R (map f moves) → All (R (f (get_or moves i d))) (map f (drop (suc i) moves))
pairs_behind R groups f [] i d h k = absurd (omega arith)
pairs_behind R groups f (m ∷ moves) zero d h k = k.0
pairs_behind R groups f (m ∷ moves) (suc i) d h k = pairs_behind R groups f moves i d (omega arith) k.1

drop_same : {A : Type 0} (xs : List A) (i : ℕ) → drop (i + 1) xs ≡ drop (suc i) xs
drop_same xs i = let e : i + 1 ≡ suc i = omega arith in ap (λ j. drop j xs) e

-- the next move starts no sooner
pub chosen_kept : (p : Problem) (groups : List (List Want)) (moves : List KeptMove) (i : ℕ) (choice s d : KeptMove) → get_or moves i d ≡ s → i < length moves → starts_before p (move_of groups s) (move_of groups choice) ≡ false → Chosen p groups moves i choice → Chosen p groups moves (i + 1) choice
chosen_kept p groups moves i choice s d e h b c =
    let n = next_is groups moves i s d e h in
    let rest = subst (All (OrBefore p (move_of groups choice))) n c.before in
    let le = is_not_later p (move_of groups s) (move_of groups choice) b in
    record {
      has = c.has;
      first = subst (All (OrFirst p (move_of groups choice))) (sym (one_more groups moves i s d e h)) (All-append _ (moves_of groups (take i moves)) (move_of groups s ∷ []) c.first (now rest.0 le, tt));
      before = rest.1;
    }
  where
    now : OrBefore p (move_of groups choice) (move_of groups s) → NotLater p (move_of groups choice) (move_of groups s) → OrFirst p (move_of groups choice) (move_of groups s)
    now (inl q) le = inl q
    now (inr q) (inl k) = inr (inl k)
    now (inr q) (inr (k, l)) = elim (cases_lt (wants_started (move_of groups s)) (wants_started (move_of groups choice))) [
      | inl m ↦ inr (inr (k, inl m))
      | inr m ↦ inr (inr (k, inr (omega arith, q)))
    ]

-- the next move starts sooner
pub chosen_new : (p : Problem) (groups : List (List Want)) (moves : List KeptMove) (i : ℕ) (choice s d : KeptMove) → get_or moves i d ≡ s → i < length moves → AreMoves p (moves_of groups moves) → starts_before p (move_of groups s) (move_of groups choice) ≡ true → Chosen p groups moves i choice → Chosen p groups moves (i + 1) s
chosen_new p groups moves i choice s d e h are b c =
    let k = is_sooner p (move_of groups s) (move_of groups choice) b in
    let behind = pairs_behind (ComesBefore p) groups (move_of groups) moves i d h are.order in
    record {
      has = subst (Has moves) e (Has-get moves i d h);
      first = subst (All (OrFirst p (move_of groups s))) (sym (one_more groups moves i s d e h)) (All-append _ (moves_of groups (take i moves)) (move_of groups s ∷ []) (All-weaker _ _ (λ n q. inr (later n q k)) (moves_of groups (take i moves)) c.first) (inl refl, tt));
      before = subst (λ z. All (OrBefore p (move_of groups s)) (moves_of groups z)) (sym (drop_same moves i)) (subst (λ z. All (OrBefore p (move_of groups z)) (moves_of groups (drop (suc i) moves))) e (All-weaker _ _ (λ n q. inr q) (moves_of groups (drop (suc i) moves)) behind));
    }
  where
    later : (n : Move) → OrFirst p (move_of groups choice) n → Sooner p (move_of groups s) (move_of groups choice) → GoesFirst p (move_of groups s) n
    later n (inl q) (inl k) = inl (rw q k)
    later n (inl q) (inr (k, l)) = inr (rw q k, inl (rw q l))
    later n (inr (inl q)) (inl k) = inl (omega arith)
    later n (inr (inl q)) (inr (k, l)) = inl (omega arith)
    later n (inr (inr (q, r))) (inl k) = inl (omega arith)
    later n (inr (inr (q, inl r))) (inr (k, l)) = inr (omega arith, inl (omega arith))
    later n (inr (inr (q, inr r))) (inr (k, l)) = let r0 = r.0 in inr (omega arith, inl (omega arith))

moves_has : (groups : List (List Want)) (moves : List KeptMove) (s : KeptMove) → Has moves s → Has (moves_of groups moves) (move_of groups s)
moves_has groups [] s h = absurd h
moves_has groups (m ∷ moves) s (inl e) = inl (ap (move_of groups) e)
moves_has groups (m ∷ moves) s (inr k) = inr (moves_has groups moves s k)

pub chosen_move : (p : Problem) (groups : List (List Want)) (moves : List KeptMove) (i : ℕ) (choice : KeptMove) → AreMoves p (moves_of groups moves) → Chosen p groups moves i choice → IsMove p (move_of groups choice)
chosen_move p groups moves i choice are c = All-has (IsMove p) (moves_of groups moves) (move_of groups choice) are.moves_only (moves_has groups moves choice c.has)

pub chosen_named : (p : Problem) (groups : List (List Want)) (moves : List KeptMove) (i : ℕ) (choice : KeptMove) → All (IsNamed groups) moves → Chosen p groups moves i choice → IsNamed groups choice
chosen_named p groups moves i choice named c = All-has (IsNamed groups) moves choice named c.has

pub chosen_all : (p : Problem) (groups : List (List Want)) (moves : List KeptMove) (i : ℕ) (choice : KeptMove) → length moves ≤ i → AreMoves p (moves_of groups moves) → Chosen p groups moves i choice → IsFirstChoice p (move_of groups choice)
chosen_all p groups moves i choice h are c =
    let all = subst (λ z. All (OrFirst p (move_of groups choice)) (moves_of groups z)) (take_all i moves h) c.first in
    record {
      is_move = chosen_move p groups moves i choice are c;
      first = λ n im. All-has _ (moves_of groups moves) n all (are.each n im);
    }

pub item_move : (p : Problem) (groups : List (List Want)) (moves : List KeptMove) (i : ℕ) (d : KeptMove) → i < length moves → AreMoves p (moves_of groups moves) → IsMove p (move_of groups (get_or moves i d))
item_move p groups moves i d h are = move_at p groups moves i d h are.moves_only
