-- How the token, the child or the tree that was read bears on the whole.
use Rattle.std.proofs.Common.{◌≡◌, ℕ, ◌+◌, ◌≤◌, ◌<◌, ◌↔◌, Bool, true, false, List, [], ◌∷◌, length, drop, get_or, refl, sym, ap, ◌∙◌, subst, arith}
use Rattle.std.specs.Prelude.{Result, Ok, Err, OnOk, IfErr, slice_set}
use Rattle.std.specs.List.{AllByRecursion as All}
use Rattle.std.proofs.lemmas.List.{drop_all}
use Rattle.onfi_request.specs.declared.want.Want.{Want}
use Rattle.onfi_problem.specs.Problem.{Problem}
use Rattle.onfi_problem.specs.Moves.{Move, AreMoves, move_lun, after}
use Rattle.onfi_problem.specs.declared.moves.Move.{Move as KeptMove}
use Rattle.onfi_problem.specs.Position.{Position, move_of, moves_of}
use Rattle.onfi_problem.specs.Starts.{IsNamed}
use Rattle.onfi_cert.specs.declared.token.Token.{Token}
use Rattle.onfi_cert.specs.declared.token.Token.TheVariants.{Branch, Yield}
use Rattle.onfi_check.specs.declared.fault.CertFault.{CertFault}
use Rattle.onfi_check.specs.declared.yields.Standing.{Standing}
use Rattle.onfi_check.specs.Tree.{Closing, Closes, token_of}
use Rattle.onfi_check.specs.Reading.{Begins, BeginsEach, BeginsRest, IsYield, ReadsChild, RefusesChild}
use Rattle.onfi_check.proofs.OneList.{branch_each, each_branch, closed_begins, not_closed, map_length}
use Rattle.onfi_check.proofs.Reading.{rest_each, read_yield, yield_kept, read_child, no_child, no_token, read_all, none_marked, drop_step, trans_same}
pub use Rattle.onfi_problem.proofs.Kept.{lun_there}

small_named : (groups : List (List Want)) (items : List KeptMove) → All (IsNamed groups) items → All (λ m. move_lun m < 8) (moves_of groups items)
small_named groups [] a = tt
small_named groups (s ∷ items) a = (subst (λ z. z < 8) (sym a.0.lun) a.0.few, small_named groups items a.1)

pub on_ok : {A E P : Type 0} (r : Result A E) → P → OnOk r P
on_ok (Ok x) h = h
on_ok (Err f) h = tt

pub yield_taken : {A : Type 0} (p : Problem) (e : ℕ) (moves : List Move) (m : Move) (before behind : Standing) (tokens left : List Token) (own l n : ℕ) (token : Token) (r : Result A CertFault) → token ≡ Yield l → n ≡ l → own ≡ move_lun m → tokens ≡ token ∷ left → OnOk r (IsYield p moves before.awaited before.leaving own n) → OnOk r (behind.awaited ≡ slice_set before.awaited n true) → OnOk r (behind.leaving ≡ slice_set before.leaving own true) → OnOk r (ReadsChild p e moves m before behind tokens left)
yield_taken p e moves m before behind tokens left own l n token (Err f) t q o ts y a b = tt
yield_taken p e moves m before behind tokens left own l n token (Ok x) t q o ts y a b = λ later rest.
    let s : tokens ≡ Yield n ∷ left = ts ∙ ap (λ z. z ∷ left) (t ∙ ap Yield (sym q)) in
    let r = read_yield p e n m later moves before.awaited before.leaving left rest (subst (λ z. IsYield p moves before.awaited before.leaving z n) o y) in
    subst (λ z. BeginsRest p e later moves behind.awaited behind.leaving left rest ↔ BeginsRest p e (m ∷ later) moves before.awaited before.leaving z rest) (sym s)
    (subst (λ z. BeginsRest p e later moves z behind.leaving left rest ↔ BeginsRest p e (m ∷ later) moves before.awaited before.leaving (Yield n ∷ left) rest) (sym a)
    (subst (λ z. BeginsRest p e later moves (slice_set before.awaited n true) z left rest ↔ BeginsRest p e (m ∷ later) moves before.awaited before.leaving (Yield n ∷ left) rest) (sym b)
    (subst (λ z. BeginsRest p e later moves (slice_set before.awaited n true) (slice_set before.leaving z true) left rest ↔ BeginsRest p e (m ∷ later) moves before.awaited before.leaving (Yield n ∷ left) rest) (sym o) r)))

pub yield_refused : {A : Type 0} (p : Problem) (e : ℕ) (moves : List Move) (m : Move) (before : Standing) (tokens left : List Token) (own l n : ℕ) (token : Token) (r : Result A CertFault) → token ≡ Yield l → n ≡ l → own ≡ move_lun m → tokens ≡ token ∷ left → IfErr r (λ _. IsYield p moves before.awaited before.leaving own n → ⊥) → IfErr r (λ _. RefusesChild p e moves m before tokens)
yield_refused p e moves m before tokens left own l n token (Ok x) t q o ts y = tt
yield_refused p e moves m before tokens left own l n token (Err f) t q o ts y = λ later rest b.
    let s : tokens ≡ Yield n ∷ left = ts ∙ ap (λ z. z ∷ left) (t ∙ ap Yield (sym q)) in
    let kept = yield_kept p e n m later moves before.awaited before.leaving left rest (subst (λ z. BeginsRest p e (m ∷ later) moves before.awaited before.leaving z rest) s b) in
    y (subst (λ z. IsYield p moves before.awaited before.leaving z n) (sym o) kept)

pub child_taken : {A : Type 0} (p : Problem) (e : ℕ) (moves : List Move) (m : Move) (standing : Standing) (tokens left next : List Token) (token : Token) (r : Result A CertFault) → tokens ≡ token ∷ left → OnOk r (Begins (after p m) e (token ∷ left) next) → OnOk r (ReadsChild p e moves m standing standing tokens next)
child_taken p e moves m standing tokens left next token (Err f) s b = tt
child_taken p e moves m standing tokens left next token (Ok x) s b = λ later rest.
    subst (λ z. BeginsRest p e later moves standing.awaited standing.leaving next rest ↔ BeginsRest p e (m ∷ later) moves standing.awaited standing.leaving z rest) (sym s)
    (read_child p e m later moves standing.awaited standing.leaving (token ∷ left) next rest b)

pub child_refused : {A : Type 0} (p : Problem) (e : ℕ) (moves : List Move) (m : Move) (standing : Standing) (tokens left : List Token) (token : Token) (r : Result A CertFault) → tokens ≡ token ∷ left → ((l : ℕ) → token ≡ Yield l → ⊥) → IfErr r (λ _. (rest : List Token) → Begins (after p m) e (token ∷ left) rest → ⊥) → IfErr r (λ _. RefusesChild p e moves m standing tokens)
child_refused p e moves m standing tokens left token (Ok x) s ny h = tt
child_refused p e moves m standing tokens left token (Err f) s ny h = λ later rest b.
    no_child p e m later moves standing.awaited standing.leaving tokens rest (λ l ts k. ny l (let q : token ∷ left ≡ Yield l ∷ ts = sym s ∙ k in cc)) (λ next g. h next (subst (λ z. Begins (after p m) e z next) s g)) b

pub none_left : (p : Problem) (e : ℕ) (moves : List Move) (m : Move) (standing : Standing) (tokens : List Token) → tokens ≡ [] → RefusesChild p e moves m standing tokens
none_left p e moves m standing tokens s = λ later rest b. no_token p e m later moves standing.awaited standing.leaving rest (subst (λ z. BeginsRest p e (m ∷ later) moves standing.awaited standing.leaving z rest) s b)

pub fewer_left : {A E T : Type 0} (tokens left next : List T) (token : T) (r : Result A E) → tokens ≡ token ∷ left → OnOk r (length next ≤ length left) → OnOk r (length next ≤ length tokens)
fewer_left tokens left next token (Err f) s h = tt
fewer_left tokens left next token (Ok x) s h = let q = ap length s in omega arith

-- before the first child
pub begun : (x : Position) (e : ℕ) (items : List KeptMove) (tokens rest : List Token) → All (IsNamed x.groups) items → BeginsRest x.problem e (moves_of x.groups items) (moves_of x.groups items) (false ∷ false ∷ false ∷ false ∷ false ∷ false ∷ false ∷ false ∷ []) (false ∷ false ∷ false ∷ false ∷ false ∷ false ∷ false ∷ false ∷ []) tokens rest ↔ BeginsEach x.problem e (moves_of x.groups items) tokens rest
begun x e items tokens rest named = rest_each x.problem e 8 (moves_of x.groups items) _ _ tokens rest (small_named x.groups items named) refl refl none_marked none_marked

-- after one more child
pub one_more_child : (x : Position) (e : ℕ) (items : List KeptMove) (i : ℕ) (d : KeptMove) (before behind : Standing) (tokens left begun rest : List Token) → i < length items → ReadsChild x.problem e (moves_of x.groups items) (move_of x.groups (get_or items i d)) before behind tokens left → BeginsRest x.problem e (moves_of x.groups (drop i items)) (moves_of x.groups items) before.awaited before.leaving tokens rest ↔ BeginsEach x.problem e (moves_of x.groups items) begun rest → BeginsRest x.problem e (moves_of x.groups (drop (i + 1) items)) (moves_of x.groups items) behind.awaited behind.leaving left rest ↔ BeginsEach x.problem e (moves_of x.groups items) begun rest
one_more_child x e items i d before behind tokens left begun rest lt reads same =
    let all = moves_of x.groups items in
    let later = moves_of x.groups (drop (i + 1) items) in
    trans_same
    (subst (λ z. BeginsRest x.problem e later all behind.awaited behind.leaving left rest ↔ BeginsRest x.problem e z all before.awaited before.leaving tokens rest) (sym (drop_step x items i d lt)) (reads later rest))
    same

-- where a child was refused
pub refused_child : (x : Position) (e : ℕ) (items : List KeptMove) (i : ℕ) (d : KeptMove) (before : Standing) (tokens begun rest : List Token) → i < length items → RefusesChild x.problem e (moves_of x.groups items) (move_of x.groups (get_or items i d)) before tokens → BeginsRest x.problem e (moves_of x.groups (drop i items)) (moves_of x.groups items) before.awaited before.leaving tokens rest ↔ BeginsEach x.problem e (moves_of x.groups items) begun rest → BeginsEach x.problem e (moves_of x.groups items) begun rest → ⊥
refused_child x e items i d before tokens begun rest lt refuses same b =
    let all = moves_of x.groups items in
    refuses (moves_of x.groups (drop (i + 1) items)) rest (subst (λ z. BeginsRest x.problem e z all before.awaited before.leaving tokens rest) (drop_step x items i d lt) (same.1 b))

-- after the last child
pub all_children : (x : Position) (e : ℕ) (items : List KeptMove) (i : ℕ) (ys ls : List Bool) (left begun : List Token) → length items ≤ i → BeginsRest x.problem e (moves_of x.groups (drop i items)) (moves_of x.groups items) ys ls left left ↔ BeginsEach x.problem e (moves_of x.groups items) begun left → BeginsEach x.problem e (moves_of x.groups items) begun left
all_children x e items i ys ls left begun le same =
    let none : moves_of x.groups (drop i items) ≡ [] = ap (moves_of x.groups) (drop_all i items le) in
    same.0 (subst (λ z. BeginsRest x.problem e z (moves_of x.groups items) ys ls left left) (sym none) (read_all x.problem e (moves_of x.groups items) ys ls left))

-- a token that closes, or doesn't
pub closing_taken : {A : Type 0} (p : Problem) (e : ℕ) (token : Token) (left : List Token) (r : Result A CertFault) → OnOk r ((c : Closing) × (token_of c ≡ token) × Closes p e c) → OnOk r (Begins p e (token ∷ left) left)
closing_taken p e token left (Err f) h = tt
closing_taken p e token left (Ok x) h = closed_begins p e token left h

pub closing_refused : {A : Type 0} (p : Problem) (e : ℕ) (token : Token) (left : List Token) (r : Result A CertFault) → ((w : ℕ) → token ≡ Branch w → ⊥) → IfErr r (λ _. ((c : Closing) × (token_of c ≡ token) × Closes p e c) → ⊥) → IfErr r (λ _. (rest : List Token) → Begins p e (token ∷ left) rest → ⊥)
closing_refused p e token left (Ok x) nb h = tt
closing_refused p e token left (Err f) nb h = λ rest b. not_closed p e token left rest nb h b

-- a branch
pub branch_width : (x : Position) (e w n : ℕ) (items : List KeptMove) (token : Token) (left rest : List Token) → AreMoves x.problem (moves_of x.groups items) → token ≡ Branch w → n ≡ w → Begins x.problem e (token ∷ left) rest → n ≡ length items
branch_width x e w n items token left rest are t q b =
    let r = branch_each x.problem e w (moves_of x.groups items) left rest are (subst (λ z. Begins x.problem e (z ∷ left) rest) t b) in
    q ∙ (r.0 ∙ map_length x items)

pub branch_taken : {A : Type 0} (x : Position) (e w n : ℕ) (items : List KeptMove) (token : Token) (left next : List Token) (r : Result A CertFault) → AreMoves x.problem (moves_of x.groups items) → token ≡ Branch w → n ≡ w → 1 ≤ n → n ≡ length items → OnOk r (BeginsEach x.problem e (moves_of x.groups items) left next) → OnOk r (Begins x.problem e (token ∷ left) next)
branch_taken x e w n items token left next (Err f) are t q some k h = tt
branch_taken x e w n items token left next (Ok y) are t q some k h =
    let long = map_length x items in
    let some' : 1 ≤ length (moves_of x.groups items) = omega arith in
    subst (λ z. Begins x.problem e (z ∷ left) next) (sym t) (each_branch x.problem e w (moves_of x.groups items) left next are some' (sym q ∙ (k ∙ sym long)) h)

pub branch_refused : {A : Type 0} (x : Position) (e w : ℕ) (items : List KeptMove) (token : Token) (left : List Token) (r : Result A CertFault) → AreMoves x.problem (moves_of x.groups items) → token ≡ Branch w → IfErr r (λ _. (rest : List Token) → BeginsEach x.problem e (moves_of x.groups items) left rest → ⊥) → IfErr r (λ _. (rest : List Token) → Begins x.problem e (token ∷ left) rest → ⊥)
branch_refused x e w items token left (Ok y) are t h = tt
branch_refused x e w items token left (Err f) are t h = λ rest b. h rest (branch_each x.problem e w (moves_of x.groups items) left rest are (subst (λ z. Begins x.problem e (z ∷ left) rest) t b)).2
