-- When a tree isn't accepted.
use Rattle.std.proofs.Common.{◌≡◌, ◌≢◌, ◌⊎◌, ℕ, zero, suc, ◌+◌, ◌≤◌, ◌<◌, List, [], ◌∷◌, ◌++◌, length, take, drop, get_or, inl, inr, refl, sym, ap, ◌∙◌, subst, arith, append_assoc, append-nil, length-append}
use Rattle.std.specs.Prelude.{Result, Ok, Err, IfErr, slice_get}
use Rattle.std.proofs.lemmas.List.{same_from_push}
use Rattle.onfi_request.specs.declared.want.Want.{Want}
use Rattle.onfi_group.specs.Words.{Has}
use Rattle.onfi_problem.specs.Problem.{Problem}
use Rattle.onfi_problem.specs.Moves.{Move, AreMoves, after}
use Rattle.onfi_problem.specs.declared.moves.Move.{Move as KeptMove}
use Rattle.onfi_problem.specs.Position.{Position, move_of, moves_of}
use Rattle.onfi_problem.proofs.OneList.{one_list}
use Rattle.onfi_problem.proofs.Perm.{Has-append_left}
use Rattle.onfi_demand.specs.declared.demand.Demand.{Demand as Kept}
use Rattle.onfi_demand.proofs.Keeping.{left_few}
use Rattle.onfi_known_check.specs.declared.fault.KnownFault.{KnownFault}
use Rattle.onfi_check.specs.declared.fault.CertFault.TheVariants.{Illegal}
use Rattle.onfi_known_check.specs.declared.fault.KnownFault.TheVariants.{Cert, Above}
use Rattle.onfi_known_check.specs.declared.given.Given.{Given}
use Rattle.onfi_known_check.specs.declared.known.Known.{Known}
use Rattle.onfi_known_check.specs.declared.token.Token.{Token}
use Rattle.onfi_known_check.specs.declared.token.Token.TheVariants.{Branch, Yield, Again}
use Rattle.onfi_known_check.specs.declared.token.TheConstants.{MOST_KNOWN}
use Rattle.onfi_known_check.specs.Closing.{Closes}
use Rattle.onfi_known_check.specs.Faults.{IsNameFault, OfTokens}
use Rattle.onfi_known_check.specs.Proves.{Children, FitTimes, IsAgain, MayYield, Proves, ProvesTokens, with_yields}
use Rattle.onfi_known_check.specs.Refused.{AreAlike, Refuses, RefusesChild, RefusesChildren}
use Rattle.onfi_known_check.proofs.Causes.{cause_all, cause_so}
use Rattle.onfi_known_check.proofs.Unique.{Stands, alike_length, alike_self, alike_there, given_few, grows, no_yield, same_left, same_token, same_yields, snoc_some, unique, unique_children}
use Rattle.onfi_known_check.proofs.Views.{Begin, Last, begin_of, by_closing, by_again, by_opening, last_of, last_tree, last_yield, no_child}

pub of_so : (f : KnownFault) (P Q : Type 0) → (P → Q) → OfTokens f P → OfTokens f Q
of_so f P Q g h = cause_so f (λ z. z) (λ z. z) (λ z. z) g h

-- a fault that says one thing says another
pub err_so : {A : Type 0} (r : Result A KnownFault) (P Q : Type 0) → (P → Q) → IfErr r (λ f. OfTokens f P) → IfErr r (λ f. OfTokens f Q)
err_so (Ok x) P Q g h = h
err_so (Err f) P Q g h = of_so f P Q g h

pub err_of : {A : Type 0} (r : Result A KnownFault) (P Q : Type 0) (Fits : KnownFault → Type 0) → (P → Q) → (Fits (Cert Illegal) → ⊥) → (Fits Above → ⊥) → IfErr r (λ _. P) → IfErr r Fits → IfErr r (λ f. OfTokens f Q)
err_of (Ok x) P Q Fits g never nor h k = tt
err_of (Err f) P Q Fits g never nor h k = cause_all f (λ e. never (subst Fits e k)) tt (λ e. nor (subst Fits e k)) (g h)

-- a name's fault isn't one of the schedule
pub name_of_tokens : (place : ℕ) (f : KnownFault) → (f ≡ Cert Illegal) ⊎ (f ≡ Above) → IsNameFault place f → ⊥
name_of_tokens place f (inl s) (inl e) = cc
name_of_tokens place f (inl s) (inr (inl e)) = cc
name_of_tokens place f (inl s) (inr (inr e)) = cc
name_of_tokens place f (inr s) (inl e) = cc
name_of_tokens place f (inr s) (inr (inl e)) = cc
name_of_tokens place f (inr s) (inr (inr e)) = cc

module _ (e : ℕ) (all : List Want) where
  -- tokens that begin with none that closes or opens the node
  pub closing_refuses : (p : Problem) (known : List Known) (token : Token) (left : List Token) → ((w : ℕ) → token ≡ Branch w → ⊥) → ((n : ℕ) → token ≡ Again n → ⊥) → (Closes p e token → ⊥) → Refuses e all p known (token ∷ left)
  closing_refuses p known token left nb na nc others d behind rest a proves few = by_begin (begin_of e all p others (token ∷ left) d behind rest proves)
    where
      by_begin : Begin e all p others (token ∷ left) d behind rest → ⊥
      by_begin (by_closing t q c k b) = nc (subst (Closes p e) (sym (same_token token t left rest q)) c)
      by_begin (by_again n q i b) = na n (same_token token (Again n) left rest q)
      by_begin (by_opening o) = nb o.width (same_token token (Branch o.width) left o.left o.tokens_are)

  pub none_refuses : (p : Problem) (known : List Known) → Refuses e all p known []
  none_refuses p known others d behind rest a proves few = by_begin (begin_of e all p others [] d behind rest proves)
    where
      by_begin : Begin e all p others [] d behind rest → ⊥
      by_begin (by_closing t q c k b) = cc
      by_begin (by_again n q i b) = cc
      by_begin (by_opening o) = let q = o.tokens_are in cc

  -- a node that was read is known whichever way
  known_again : (p : Problem) (known others : List Known) (n m : ℕ) (d : Kept) → Stands p → AreAlike all known others → n ≡ m → IsAgain all p others m d → IsAgain all p known n d
  known_again p known others n m d s a q (l, at, describes, meets, is) =
      let k = alike_there all known others m l a at in
      let alike = k.2 in (
        k.0,
        ap (slice_get known) q ∙ k.1,
        record { wants = alike.wants ∙ describes.wants; luns = alike.luns ∙ describes.luns },
        record { bus = meets.bus; luns = λ x h. let same = alike.times x (left_few p x s.problem s.small h) in let le = meets.luns x h in omega arith },
        record { bus = is.bus; luns = λ x h. is.luns x h ∙ sym (alike.times x h) },
      )

  pub again_refuses : (p : Problem) (known : List Known) (token : Token) (n : ℕ) (left : List Token) → Stands p → token ≡ Again n → ((d : Kept) → IsAgain all p known n d → ⊥) → Refuses e all p known (token ∷ left)
  again_refuses p known token n left s t none others d behind rest a proves few = by_begin (begin_of e all p others (token ∷ left) d behind rest proves)
    where
      by_begin : Begin e all p others (token ∷ left) d behind rest → ⊥
      by_begin (by_closing u q c k b) = subst (Closes p e) (sym (same_token token u left rest q) ∙ t) c
      by_begin (by_again m q i b) =
          let same = sym t ∙ same_token token (Again m) left rest q in
          let number : n ≡ m = cc in
          none d (known_again p known others n m d s a number i)
      by_begin (by_opening o) = let same = sym t ∙ same_token token (Branch o.width) left o.left o.tokens_are in cc

  -- what an opening of a branch says, where these are the moves
  record OpensAs (p : Problem) (moves : List Move) (others : List Known) (width : ℕ) (left : List Token) (behind : List Known) : Type 0 where
    wide : width ≡ length moves
    some : 1 ≤ length moves
    asks : List ℕ
    given : List Given
    middle : List Known
    rest : List Token
    children : Children e all p moves moves others left asks given middle rest
    fit : FitTimes asks given
    more : length behind ≡ length middle + 1

  opens_as : (p : Problem) (moves : List Move) (others : List Known) (width : ℕ) (left : List Token) (d : Kept) (behind : List Known) (rest : List Token) → AreMoves p moves → Proves e all p others (Branch width ∷ left) d behind rest → OpensAs p moves others width left behind
  opens_as p moves others width left d behind rest are proves = by_begin (begin_of e all p others (Branch width ∷ left) d behind rest proves)
    where
      by_begin : Begin e all p others (Branch width ∷ left) d behind rest → OpensAs p moves others width left behind
      by_begin (by_closing t q c k b) = absurd (subst (Closes p e) (sym (same_token (Branch width) t left rest q)) c)
      by_begin (by_again n q i b) = let same = same_token (Branch width) (Again n) left rest q in cc
      by_begin (by_opening o) =
          let same = same_token (Branch width) (Branch o.width) left o.left o.tokens_are in
          let width_is : width ≡ o.width = cc in
          let moves_are = one_list p o.moves moves o.are are in
          let left_is = sym (same_left (Branch width) (Branch o.width) left o.left o.tokens_are) in
          let long = ap length o.grown ∙ length-append o.middle (o.node ∷ []) in
          record {
            wide = width_is ∙ (o.wide ∙ ap length moves_are);
            some = subst (λ z. 1 ≤ length z) moves_are o.some;
            asks = o.asks;
            given = o.given;
            middle = o.middle;
            rest = rest;
            children = subst (λ z. Children e all p moves moves others z o.asks o.given o.middle rest) left_is (subst (λ z. Children e all p z z others o.left o.asks o.given o.middle rest) moves_are o.children);
            fit = o.fit;
            more = long;
          }

  pub width_refuses : (p : Problem) (moves : List Move) (known : List Known) (width : ℕ) (left : List Token) → AreMoves p moves → width ≢ length moves → Refuses e all p known (Branch width ∷ left)
  width_refuses p moves known width left are other others d behind rest a proves few = other (opens_as p moves others width left d behind rest are proves).wide

  pub children_refuse : (p : Problem) (moves : List Move) (known : List Known) (width : ℕ) (left : List Token) → AreMoves p moves → RefusesChildren e all p moves known left → Refuses e all p known (Branch width ∷ left)
  children_refuse p moves known width left are none others d behind rest a proves few =
      let o = opens_as p moves others width left d behind rest are proves in
      let more = o.more in
      none others o.asks o.given o.middle o.rest a o.children (omega arith)

  pub times_refuse : (p : Problem) (moves : List Move) (known middle : List Known) (width : ℕ) (left next : List Token) (asks : List ℕ) (given : List Given) → Stands p → AreMoves p moves → Children e all p moves moves known left asks given middle next → (FitTimes asks given → ⊥) → Refuses e all p known (Branch width ∷ left)
  times_refuse p moves known middle width left next asks given s are read none others d behind rest a proves few =
      let o = opens_as p moves others width left d behind rest are proves in
      let same = unique_children e all p moves moves known others left asks o.asks given o.given middle o.middle next o.rest read o.children s are (λ m h. h) a in
      let there = given_few e all p moves moves known left asks given middle next read s are.moves_only in
      none (λ l h. let f = o.fit l h in let y = same_yields asks o.asks given there same.asks l h ∙ ap (λ z. with_yields o.asks z l) same.given in omega arith)

  pub many_refuse : (p : Problem) (moves : List Move) (known middle : List Known) (width : ℕ) (left next : List Token) (asks : List ℕ) (given : List Given) → Stands p → AreMoves p moves → Children e all p moves moves known left asks given middle next → MOST_KNOWN ≤ length middle → Refuses e all p known (Branch width ∷ left)
  many_refuse p moves known middle width left next asks given s are read full others d behind rest a proves few =
      let o = opens_as p moves others width left d behind rest are proves in
      let same = unique_children e all p moves moves known others left asks o.asks given o.given middle o.middle next o.rest read o.children s are (λ m h. h) a in
      let long = alike_length all middle o.middle same.known in
      let more = o.more in
      omega arith

  pub yield_child : (p : Problem) (moves : List Move) (m : Move) (given : List Given) (known : List Known) (tokens left : List Token) (token : Token) (lun : ℕ) → tokens ≡ token ∷ left → token ≡ Yield lun → ((y : Given) → y.lun ≡ lun → MayYield p moves given m y → ⊥) → RefusesChild e all p moves m given known tokens
  yield_child p moves m given known tokens left token lun ts t none = record {
    tree = λ others d behind rest a proves few. no_yield e all (after p m) others lun left rest d behind (subst (λ z. Proves e all (after p m) others z d behind rest) (ts ∙ ap (λ z. z ∷ left) t) proves);
    yields = λ y rest q may. let same = same_token (Yield lun) (Yield y.lun) left rest (sym (ts ∙ ap (λ z. z ∷ left) t) ∙ q) in let is : y.lun ≡ lun = cc in none y is may;
  }

  pub tree_child : (p : Problem) (moves : List Move) (m : Move) (given : List Given) (known : List Known) (tokens left : List Token) (token : Token) → tokens ≡ token ∷ left → ((l : ℕ) → token ≡ Yield l → ⊥) → Refuses e all (after p m) known (token ∷ left) → RefusesChild e all p moves m given known tokens
  tree_child p moves m given known tokens left token ts other none = record { tree = subst (Refuses e all (after p m) known) (sym ts) none; yields = λ y rest q may. other y.lun (same_token token (Yield y.lun) left rest (sym ts ∙ q)) }

  -- accepted children of the first moves of a node
  record Part (p : Problem) (moves ms : List Move) (known : List Known) (tokens : List Token) (size : ℕ) : Type 0 where
    asks : List ℕ
    given : List Given
    behind : List Known
    rest : List Token
    children : Children e all p moves ms known tokens asks given behind rest
    small : length behind ≤ size

  front : (p : Problem) (moves xs : List Move) (x : Move) (known : List Known) (tokens : List Token) (size : ℕ) → Part p moves (xs ++ x ∷ []) known tokens size → Part p moves xs known tokens size
  front p moves xs x known tokens size part = by_last (last_of e all p moves (xs ++ x ∷ []) known tokens part.asks part.given part.behind part.rest part.children)
    where
      by_last : Last e all p moves (xs ++ x ∷ []) known tokens part.asks part.given part.behind part.rest → Part p moves xs known tokens size
      by_last (no_child q z g b r) = absurd (snoc_some xs x q)
      by_last (last_tree t) =
          let same = same_from_push xs t.firsts x t.move t.is in
          let more = grows e all (after p t.move) t.middle t.left t.demand part.behind part.rest t.proves in
          let small = part.small in
          record { asks = t.before; given = part.given; behind = t.middle; rest = t.left; children = subst (λ z. Children e all p moves z known tokens t.before part.given t.middle t.left) (sym same.0) t.children; small = omega arith }
      by_last (last_yield t) =
          let same = same_from_push xs t.firsts x t.move t.is in
          record { asks = part.asks; given = t.before; behind = part.behind; rest = Yield t.yield.lun ∷ part.rest; children = subst (λ z. Children e all p moves z known tokens part.asks t.before part.behind (Yield t.yield.lun ∷ part.rest)) (sym same.0) t.children; small = part.small }

  parts : (p : Problem) (moves xs ys : List Move) (known : List Known) (tokens : List Token) (size : ℕ) → Part p moves (xs ++ ys) known tokens size → Part p moves xs known tokens size
  parts p moves xs [] known tokens size part = subst (λ z. Part p moves z known tokens size) (append-nil xs) part
  parts p moves xs (y ∷ ys) known tokens size part = front p moves xs y known tokens size (parts p moves (xs ++ y ∷ []) ys known tokens size (subst (λ z. Part p moves z known tokens size) (sym (append_assoc xs (y ∷ []) ys)) part))

  -- no child of a move after those that were read
  pub child_refuses : (p : Problem) (moves xs ys : List Move) (m : Move) (known middle : List Known) (tokens left : List Token) (asks : List ℕ) (given : List Given) → Stands p → AreMoves p moves → moves ≡ xs ++ m ∷ ys → Children e all p moves xs known tokens asks given middle left → RefusesChild e all p moves m given middle left → RefusesChildren e all p moves known tokens
  child_refuses p moves xs ys m known middle tokens left asks given s are is read none others asks' given' behind rest a children few =
      let whole : Part p moves ((xs ++ m ∷ []) ++ ys) others tokens (length behind) = subst (λ z. Part p moves z others tokens (length behind)) (is ∙ sym (append_assoc xs (m ∷ []) ys)) (record { asks = asks'; given = given'; behind = behind; rest = rest; children = children; small = omega arith }) in
      by_last (parts p moves (xs ++ m ∷ []) ys others tokens (length behind) whole) (last_of e all p moves (xs ++ m ∷ []) others tokens _ _ _ _ (parts p moves (xs ++ m ∷ []) ys others tokens (length behind) whole).children)
    where
      within : (n : Move) → Has xs n → Has moves n
      within n h = subst (λ z. Has z n) (sym is) (Has-append_left xs (m ∷ ys) n h)

      by_last : (part : Part p moves (xs ++ m ∷ []) others tokens (length behind)) → Last e all p moves (xs ++ m ∷ []) others tokens part.asks part.given part.behind part.rest → ⊥
      by_last part (no_child q z g b r) = snoc_some xs m q
      by_last part (last_tree t) =
          let same = same_from_push xs t.firsts m t.move t.is in
          let u = unique_children e all p moves xs known others tokens asks t.before given part.given middle t.middle left t.left read (subst (λ z. Children e all p moves z others tokens t.before part.given t.middle t.left) (sym same.0) t.children) s are within a in
          let proves = subst (λ z. Proves e all (after p z) t.middle left t.demand part.behind part.rest) (sym same.1) (subst (λ z. Proves e all (after p t.move) t.middle z t.demand part.behind part.rest) (sym u.left) t.proves) in
          let small = part.small in
          none.tree t.middle t.demand part.behind part.rest u.known proves (omega arith)
      by_last part (last_yield t) =
          let same = same_from_push xs t.firsts m t.move t.is in
          let u = unique_children e all p moves xs known others tokens asks part.asks given t.before middle part.behind left (Yield t.yield.lun ∷ part.rest) read (subst (λ z. Children e all p moves z others tokens part.asks t.before part.behind (Yield t.yield.lun ∷ part.rest)) (sym same.0) t.children) s are within a in
          let may = subst (λ z. MayYield p moves z m t.yield) (sym u.given) (subst (λ z. MayYield p moves t.before z t.yield) (sym same.1) t.may) in
          none.yields t.yield part.rest u.left may

  pub trailing : (p : Problem) (tokens left more : List Token) (token : Token) (d : Kept) (behind : List Known) → Stands p → Proves e all p [] tokens d behind left → left ≡ token ∷ more → ProvesTokens all tokens p e → ⊥
  trailing p tokens left more token d behind s proves t (d', behind', proves', few) =
      let u = unique e all p [] [] tokens d d' behind behind' left [] proves proves' s (alike_self all []) in
      let bad = sym t ∙ u.left in
      cc

-- the moves before one, that one, and those after it
moves_around : (groups : List (List Want)) (items : List KeptMove) (i : ℕ) (d : KeptMove) → i < length items → moves_of groups items ≡ moves_of groups (take i items) ++ move_of groups (get_or items i d) ∷ moves_of groups (drop (suc i) items)
moves_around groups [] i d h = absurd (omega arith)
moves_around groups (m ∷ items) zero d h = refl
moves_around groups (m ∷ items) (suc i) d h = ap (λ z. move_of groups m ∷ z) (moves_around groups items i d (omega arith))

pub child_at : (e : ℕ) (x : Position) (items : List KeptMove) (i : ℕ) (d : KeptMove) (known middle : List Known) (tokens left : List Token) (asks : List ℕ) (given : List Given) → i < length items → Stands x.problem → AreMoves x.problem (moves_of x.groups items)
    → Children e x.all x.problem (moves_of x.groups items) (moves_of x.groups (take i items)) known tokens asks given middle left → RefusesChild e x.all x.problem (moves_of x.groups items) (move_of x.groups (get_or items i d)) given middle left → RefusesChildren e x.all x.problem (moves_of x.groups items) known tokens
child_at e x items i d known middle tokens left asks given h s are read none = child_refuses e x.all x.problem (moves_of x.groups items) (moves_of x.groups (take i items)) (moves_of x.groups (drop (suc i) items)) (move_of x.groups (get_or items i d)) known middle tokens left asks given s are (moves_around x.groups items i d h) read none
