-- Reading the children of a node one by one.
use Rattle.std.proofs.Common.{◌≡◌, ◌≢◌, ℕ, zero, suc, ◌+◌, ◌<◌, ◌↔◌, inl, inr, Bool, true, false, List, [], ◌∷◌, ◌++◌, length, drop, get_or, refl, sym, ap, ◌∙◌, subst, arith, append_assoc}
use Rattle.std.specs.Prelude.{slice_set}
use Rattle.std.specs.List.{AllByRecursion as All}
use Rattle.std.proofs.lemmas.Bool.{false≢true, cases_Bool}
use Rattle.std.proofs.lemmas.List.{drop_more}
use Rattle.onfi_problem.specs.Moves.{Move, move_lun, after}
use Rattle.onfi_cert.specs.declared.token.Token.{Token}
use Rattle.onfi_cert.specs.declared.token.Token.TheVariants.{Yield}
use Rattle.onfi_problem.specs.Problem.{Problem}
use Rattle.onfi_check.specs.Tree.{Forest, preorder, preorders, NoneYields, AcceptsEach, Closed, Opened, NoMore, Child, Yields}
use Rattle.onfi_problem.proofs.Perm.{All-has}
use Rattle.onfi_check.proofs.Spelled.{one_tree, not_yield}
use Rattle.onfi_problem.specs.declared.moves.Move.{Move as KeptMove}
use Rattle.onfi_problem.specs.Position.{Position, move_of}
use Rattle.onfi_problem.specs.Position.{moves_of}
use Rattle.onfi_problem.proofs.Places.{same_place}
use Rattle.onfi_check.specs.Reading.{Begins, BeginsEach, marked, IsYield, Rest, BeginsRest}

set_marked : (xs : List Bool) (i : ℕ) → i < length xs → marked (slice_set xs i true) i ≡ true
set_marked [] i h = absurd (omega arith)
set_marked (x ∷ xs) zero h = refl
set_marked (x ∷ xs) (suc i) h = set_marked xs i (omega arith)

set_other : (xs : List Bool) (i j : ℕ) → i ≢ j → marked (slice_set xs i true) j ≡ marked xs j
set_other [] i j n = refl
set_other (x ∷ xs) zero zero n = absurd (n refl)
set_other (x ∷ xs) zero (suc j) n = refl
set_other (x ∷ xs) (suc i) zero n = refl
set_other (x ∷ xs) (suc i) (suc j) n = set_other xs i j (λ e. n (ap suc e))

set_keeps : (xs : List Bool) (i j : ℕ) → marked xs j ≡ true → marked (slice_set xs i true) j ≡ true
set_keeps [] i j h = absurd (false≢true h)
set_keeps (x ∷ xs) zero zero h = refl
set_keeps (x ∷ xs) zero (suc j) h = h
set_keeps (x ∷ xs) (suc i) zero h = h
set_keeps (x ∷ xs) (suc i) (suc j) h = set_keeps xs i j h

set_long : (xs : List Bool) (i : ℕ) → length (slice_set xs i true) ≡ length xs
set_long [] i = refl
set_long (x ∷ xs) zero = refl
set_long (x ∷ xs) (suc i) = let h = set_long xs i in omega arith

-- a marked LUN has no child that yields later
later_none : (f : Forest) (p : Problem) (e : ℕ) (ms all : List Move) (ys ls : List Bool) (i : ℕ) → marked ys i ≡ true → Rest f p e ms all ys ls → NoneYields i ms f
later_none NoMore p e [] all ys ls i h r = tt
later_none NoMore p e (m ∷ ms) all ys ls i h r = tt
later_none (Child t f) p e [] all ys ls i h r = absurd r
later_none (Child t f) p e (m ∷ ms) all ys ls i h r = later_none f p e ms all ys ls i h r.1
later_none (Yields l f) p e [] all ys ls i h r = absurd r
later_none (Yields l f) p e (m ∷ ms) all ys ls i h r = ((λ q. let s : marked ys i ≡ false = subst (λ z. marked ys z ≡ false) q r.0.unasked in false≢true (sym s ∙ h)), later_none f p e ms all (slice_set ys l true) (slice_set ls (move_lun m) true) i (set_keeps ys l i h) r.1)

to_each : (f : Forest) (p : Problem) (e n : ℕ) (ms all : List Move) (whole : Forest) (ys ls : List Bool) → All (λ m. move_lun m < n) all → All (λ m. move_lun m < n) ms → length ys ≡ n → length ls ≡ n → ((l : ℕ) → marked ls l ≡ false → NoneYields l ms f → NoneYields l all whole) → Rest f p e ms all ys ls → AcceptsEach f p e ms whole all
to_each NoMore p e n ms all whole ys ls small own a b g r = r
to_each (Child t f) p e n [] all whole ys ls small own a b g r = absurd r
to_each (Child t f) p e n (m ∷ ms) all whole ys ls small own a b g r = (r.0, to_each f p e n ms all whole ys ls small own.1 a b g r.1)
to_each (Yields l f) p e n [] all whole ys ls small own a b g r = absurd r
to_each (Yields l f) p e n (m ∷ ms) all whole ys ls small own a b g r =
    let mv = r.0.fits.0 in
    let below : l < n = subst (λ z. z < n) mv.2 (All-has _ all mv.0 small mv.1) in
    let mine = own.0 in
    let none : NoneYields l ms f = later_none f p e ms all (slice_set ys l true) (slice_set ls (move_lun m) true) l (set_marked ys l (omega arith)) r.1 in (
      record { other = r.0.other; move = mv.0; has_move = mv.1; of_lun = mv.2; fits = r.0.fits.1; none_back = g l r.0.stays ((λ q. r.0.other (sym q)), none) },
      to_each f p e n ms all whole (slice_set ys l true) (slice_set ls (move_lun m) true) small own.1 (set_long ys l ∙ a) (set_long ls (move_lun m) ∙ b)
          (λ k h q. g k (elim (same_place (move_lun m) k) [
            | inl s ↦ absurd (false≢true (sym h ∙ subst (λ z. marked (slice_set ls (move_lun m) true) z ≡ true) s (set_marked ls (move_lun m) (omega arith))))
            | inr s ↦ sym (set_other ls (move_lun m) k s) ∙ h
          ]) ((λ s. false≢true (sym h ∙ subst (λ z. marked (slice_set ls (move_lun m) true) z ≡ true) s (set_marked ls (move_lun m) (omega arith)))), q))
          r.1,
    )

from_each : (f : Forest) (p : Problem) (e : ℕ) (ms all : List Move) (whole : Forest) (ys ls : List Bool) → ((l : ℕ) → NoneYields l all whole → marked ls l ≡ false) → ((i : ℕ) → marked ys i ≡ true → NoneYields i all whole) → ((j : ℕ) → NoneYields j all whole → NoneYields j ms f) → AcceptsEach f p e ms whole all → Rest f p e ms all ys ls
from_each NoMore p e ms all whole ys ls h1 h2 h3 a = a
from_each (Child t f) p e [] all whole ys ls h1 h2 h3 a = absurd a
from_each (Child t f) p e (m ∷ ms) all whole ys ls h1 h2 h3 a = (a.0, from_each f p e ms all whole ys ls h1 h2 h3 a.1)
from_each (Yields l f) p e [] all whole ys ls h1 h2 h3 a = absurd a
from_each (Yields l f) p e (m ∷ ms) all whole ys ls h1 h2 h3 a =
    let y = a.0 in (
      record {
        fits = ((y.move, y.has_move, y.of_lun), y.fits);
        other = y.other;
        unasked = elim (cases_Bool (marked ys (move_lun m))) [ inl k ↦ absurd ((h3 (move_lun m) (h2 (move_lun m) k)).0 refl) | inr k ↦ k ];
        stays = h1 l y.none_back;
      },
      from_each f p e ms all whole (slice_set ys l true) (slice_set ls (move_lun m) true)
          (λ k q. elim (same_place (move_lun m) k) [ inl s ↦ absurd ((h3 k q).0 s) | inr s ↦ set_other ls (move_lun m) k s ∙ h1 k q ])
          (λ i q. elim (same_place l i) [ inl s ↦ subst (λ z. NoneYields z all whole) s y.none_back | inr s ↦ h2 i (sym (set_other ys l i s) ∙ q) ])
          (λ j q. (h3 j q).1)
          a.1,
    )

-- with no marks it is what a certificate says
pub rest_each : (p : Problem) (e n : ℕ) (moves : List Move) (ys ls : List Bool) (tokens rest : List Token) → All (λ m. move_lun m < n) moves → length ys ≡ n → length ls ≡ n → ((i : ℕ) → marked ys i ≡ false) → ((i : ℕ) → marked ls i ≡ false) → BeginsRest p e moves moves ys ls tokens rest ↔ BeginsEach p e moves tokens rest
rest_each p e n moves ys ls tokens rest small a b y l = (
  (λ (f, t, r). (f, t, to_each f p e n moves moves f ys ls small small a b (λ k h q. q) r)),
  (λ (f, t, r). (f, t, from_each f p e moves moves f ys ls (λ k q. l k) (λ i q. absurd (false≢true (sym (y i) ∙ q))) (λ j q. q) r)),
)

-- a tree was read
pub read_child : (p : Problem) (e : ℕ) (m : Move) (ms all : List Move) (ys ls : List Bool) (tokens next rest : List Token) → Begins (after p m) e tokens next → BeginsRest p e ms all ys ls next rest ↔ BeginsRest p e (m ∷ ms) all ys ls tokens rest
read_child p e m ms all ys ls tokens next rest (tree, t, a) = (
  (λ (f, k, r). (Child tree f, t ∙ (ap (λ z. preorder tree ++ z) k ∙ sym (append_assoc (preorder tree) (preorders f) rest)), (a, r))),
  (λ (f, k, r). back f k r),
)
  where
    back : (f : Forest) → tokens ≡ preorders f ++ rest → Rest f p e (m ∷ ms) all ys ls → BeginsRest p e ms all ys ls next rest
    back NoMore k r = cc
    back (Child u f) k r =
        let same = one_tree tree u next (preorders f ++ rest) (sym t ∙ (k ∙ append_assoc (preorder u) (preorders f) rest)) in
        (f, same.1, r.1)
    back (Yields l f) k r = absurd (not_yield tree l next (preorders f ++ rest) (sym t ∙ k))

-- no tree could be read where no yield stands
pub no_child : (p : Problem) (e : ℕ) (m : Move) (ms all : List Move) (ys ls : List Bool) (tokens rest : List Token) → ((l : ℕ) (ts : List Token) → tokens ≡ Yield l ∷ ts → ⊥) → ((next : List Token) → Begins (after p m) e tokens next → ⊥) → BeginsRest p e (m ∷ ms) all ys ls tokens rest → ⊥
no_child p e m ms all ys ls tokens rest ny nb (NoMore, k, r) = cc
no_child p e m ms all ys ls tokens rest ny nb (Child u f, k, r) = nb (preorders f ++ rest) (u, k ∙ append_assoc (preorder u) (preorders f) rest, r.0)
no_child p e m ms all ys ls tokens rest ny nb (Yields l f, k, r) = ny l (preorders f ++ rest) k

pub read_yield : (p : Problem) (e l : ℕ) (m : Move) (ms all : List Move) (ys ls : List Bool) (tokens rest : List Token) → IsYield p all ys ls (move_lun m) l → BeginsRest p e ms all (slice_set ys l true) (slice_set ls (move_lun m) true) tokens rest ↔ BeginsRest p e (m ∷ ms) all ys ls (Yield l ∷ tokens) rest
read_yield p e l m ms all ys ls tokens rest y = (
  (λ (f, t, r). (Yields l f, ap (λ z. Yield l ∷ z) t, (y, r))),
  (λ (f, t, r). back f t r),
)
  where
    back : (f : Forest) → Yield l ∷ tokens ≡ preorders f ++ rest → Rest f p e (m ∷ ms) all ys ls → BeginsRest p e ms all (slice_set ys l true) (slice_set ls (move_lun m) true) tokens rest
    back NoMore t r = cc
    back (Child u f) t r = absurd (not_yield u l (preorders f ++ rest) tokens (sym (append_assoc (preorder u) (preorders f) rest) ∙ sym t))
    back (Yields j f) t r =
        let q : l ≡ j = cc in
        let t' : tokens ≡ preorders f ++ rest = cc in
        (f, t', subst (λ z. Rest f p e ms all (slice_set ys z true) (slice_set ls (move_lun m) true)) (sym q) r.1)

-- what a yield must keep to
pub yield_kept : (p : Problem) (e l : ℕ) (m : Move) (ms all : List Move) (ys ls : List Bool) (tokens rest : List Token) → BeginsRest p e (m ∷ ms) all ys ls (Yield l ∷ tokens) rest → IsYield p all ys ls (move_lun m) l
yield_kept p e l m ms all ys ls tokens rest (NoMore, t, r) = cc
yield_kept p e l m ms all ys ls tokens rest (Child u f, t, r) = absurd (not_yield u l (preorders f ++ rest) tokens (sym (append_assoc (preorder u) (preorders f) rest) ∙ sym t))
yield_kept p e l m ms all ys ls tokens rest (Yields j f, t, r) = let q : l ≡ j = cc in subst (λ z. IsYield p all ys ls (move_lun m) z) (sym q) r.0

pub no_token : (p : Problem) (e : ℕ) (m : Move) (ms all : List Move) (ys ls : List Bool) (rest : List Token) → BeginsRest p e (m ∷ ms) all ys ls [] rest → ⊥
no_token p e m ms all ys ls rest (NoMore, t, r) = cc
no_token p e m ms all ys ls rest (Child (Closed c) f, t, r) = cc
no_token p e m ms all ys ls rest (Child (Opened g) f, t, r) = cc
no_token p e m ms all ys ls rest (Yields l f, t, r) = cc

pub read_all : (p : Problem) (e : ℕ) (all : List Move) (ys ls : List Bool) (tokens : List Token) → BeginsRest p e [] all ys ls tokens tokens
read_all p e all ys ls tokens = (NoMore, refl, refl)

pub drop_step : (x : Position) (items : List KeptMove) (i : ℕ) (d : KeptMove) → i < length items → moves_of x.groups (drop i items) ≡ move_of x.groups (get_or items i d) ∷ moves_of x.groups (drop (i + 1) items)
drop_step x items i d h = ap (moves_of x.groups) (drop_more items i d h)

pub none_marked : (i : ℕ) → marked (false ∷ false ∷ false ∷ false ∷ false ∷ false ∷ false ∷ false ∷ []) i ≡ false
none_marked zero = refl
none_marked (suc zero) = refl
none_marked (suc (suc zero)) = refl
none_marked (suc (suc (suc zero))) = refl
none_marked (suc (suc (suc (suc zero)))) = refl
none_marked (suc (suc (suc (suc (suc zero))))) = refl
none_marked (suc (suc (suc (suc (suc (suc zero)))))) = refl
none_marked (suc (suc (suc (suc (suc (suc (suc zero))))))) = refl
none_marked (suc (suc (suc (suc (suc (suc (suc (suc i)))))))) = refl

pub trans_same : {A B C : Type 0} → A ↔ B → B ↔ C → A ↔ C
trans_same f g = ((λ a. g.0 (f.0 a)), (λ c. f.1 (g.1 c)))
