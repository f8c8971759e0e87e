-- Calls that are dealt to workers, and their answers.
use Rattle.std.proofs.Common.{◌≡◌, ◌≢◌, ℕ, suc, ◌+◌, ◌≤◌, ◌<◌, ◌%◌, ◌⊎◌, inl, inr, true, false, List, [], ◌∷◌, ◌++◌, length, map, get_or, Result, Ok, Err, Option, None, Some, Vec, Global, refl, sym, ap, ◌∙◌, subst, arith, get_or-set_same, get_or-set_other, length-set, add-one}
use Rattle.std.specs.Prelude.{slice_set, IfOk, IfErr}
use Rattle.std.specs.Option.{is_some}
use Rattle.std.proofs.lemmas.List.{map-append, length-map, get_or-map}
use Rattle.std.proofs.lemmas.Bool.{cases_eq, eq-eqb, ne_eqb, false≢true}
use denote.Param.Members.{Shared}
use Rattle.onfi_group.specs.Words.{Has}
use Rattle.onfi_planner.specs.declared.search.Stop.{Stop}
use Rattle.onfi_planner.specs.Dealing.{dealt, Gives, GivesAll, GivesFrom}
use Rattle.onfi_group.proofs.Lists.{Has-append_left, Has-append_right}

pub dealt_here : (workers worker n : ℕ) → n % workers ≡ worker → dealt workers worker (suc n) ≡ dealt workers worker n ++ n ∷ []
dealt_here workers worker n e = rw (eq-eqb (n % workers) worker e) refl

pub dealt_elsewhere : (workers worker n : ℕ) → n % workers ≢ worker → dealt workers worker (suc n) ≡ dealt workers worker n
dealt_elsewhere workers worker n d = rw (ne_eqb (n % workers) worker d) refl

module _ {F X : Type 0} (g : Shared F (ℕ × Unit {0}) (Result X Stop)) (f : F) where
  gives_more : (calls : List ℕ) (xs : List X) (i : ℕ) (x : X) → GivesAll g f calls xs → Gives g f i x → GivesAll g f (calls ++ i ∷ []) (xs ++ x ∷ [])
  gives_more [] [] i x a b = (b, tt)
  gives_more [] (y ∷ xs) i x a b = absurd a
  gives_more (j ∷ calls) [] i x a b = absurd a
  gives_more (j ∷ calls) (y ∷ xs) i x a b = (a.0, gives_more calls xs i x a.1 b)

  -- a call that the worker makes
  pub given : (workers worker i : ℕ) (xs ys : List X) (x : X) → i % workers ≡ worker → ys ≡ xs ++ x ∷ [] → GivesAll g f (dealt workers worker i) xs → Gives g f i x → GivesAll g f (dealt workers worker (i + 1)) ys
  given workers worker i xs ys x e q a b =
      let c = dealt_here workers worker i e in
      subst (λ z. GivesAll g f (dealt workers worker z) ys) (sym (add-one i)) (subst (λ z. GivesAll g f z ys) (sym c) (subst (GivesAll g f (dealt workers worker i ++ i ∷ [])) (sym q) (gives_more (dealt workers worker i) xs i x a b)))

  split_last : (calls : List ℕ) (xs : List X) (i : ℕ) (x : X) → GivesAll g f (calls ++ i ∷ []) (xs ++ x ∷ []) → GivesAll g f calls xs × Gives g f i x
  split_last [] [] i x a = (tt, a.0)
  split_last [] (y ∷ []) i x a = absurd a.1
  split_last [] (y ∷ z ∷ xs) i x a = absurd a.1
  split_last (j ∷ []) [] i x a = absurd a.1
  split_last (j ∷ k ∷ calls) [] i x a = absurd a.1
  split_last (j ∷ calls) (y ∷ xs) i x a = let r = split_last calls xs i x a.1 in ((a.0, r.0), r.1)

  some_given : (calls : List ℕ) (xs : List X) (i : ℕ) → GivesAll g f (calls ++ i ∷ []) xs → 1 ≤ length xs
  some_given [] [] i a = absurd a
  some_given (j ∷ calls) [] i a = absurd a
  some_given [] (x ∷ xs) i a = omega arith
  some_given (j ∷ calls) (x ∷ xs) i a = omega arith

  -- what the workers hold of the calls below n
  pub record Held (workers n : ℕ) (shares : List (Vec X Global)) : Type 0 where
    pub long : length shares ≡ workers
    pub each : (worker : ℕ) (d : Vec X Global) → worker < workers → GivesAll g f (dealt workers worker n) (get_or shares worker d).items

  pub last_there : (workers n call : ℕ) (shares : List (Vec X Global)) → suc call ≡ n → call % workers < workers → Held workers n shares → (d : Vec X Global) → 1 ≤ length (get_or shares (call % workers) d).items
  last_there workers n call shares e lt h d =
      let a = subst (λ z. GivesAll g f (dealt workers (call % workers) z) (get_or shares (call % workers) d).items) (sym e) (h.each (call % workers) d lt) in
      some_given (dealt workers (call % workers) call) (get_or shares (call % workers) d).items call (subst (λ z. GivesAll g f z (get_or shares (call % workers) d).items) (dealt_here workers (call % workers) call refl) a)

  taken_last : (workers n call worker : ℕ) (shares : List (Vec X Global)) (rest : Vec X Global) (x : X) → suc call ≡ n → call % workers ≡ worker → worker < workers → (get_or shares worker rest).items ≡ rest.items ++ x ∷ [] → Held workers n shares → GivesAll g f (dealt workers worker call) rest.items × Gives g f call x
  taken_last workers n call worker shares rest x e w lt q h =
      let a = subst (λ z. GivesAll g f (dealt workers worker z) (get_or shares worker rest).items) (sym e) (h.each worker rest lt) in
      let b = subst (λ z. GivesAll g f z (get_or shares worker rest).items) (dealt_here workers worker call w) a in
      split_last (dealt workers worker call) rest.items call x (subst (GivesAll g f (dealt workers worker call ++ call ∷ [])) q b)

  pub held_less : (workers n call worker : ℕ) (shares new : List (Vec X Global)) (rest : Vec X Global) (x : X) → suc call ≡ n → call % workers ≡ worker → worker < workers → new ≡ slice_set shares worker rest → (get_or shares worker rest).items ≡ rest.items ++ x ∷ [] → Held workers n shares → Held workers call new × Gives g f call x
  held_less workers n call worker shares new rest x e w lt s q h =
      let t = taken_last workers n call worker shares rest x e w lt q h in
      let within : worker < length shares = let l = h.long in omega arith in (
        subst (Held workers call) (sym s) (record {
          long = length-set shares worker rest ∙ h.long;
          each = λ k d below. elim (cases_eq k worker) [
            | inl same ↦ subst (λ z. GivesAll g f (dealt workers z call) (get_or (slice_set shares worker rest) z d).items) (sym same) (subst (λ (z : Vec X Global). GivesAll g f (dealt workers worker call) z.items) (sym (get_or-set_same shares worker rest d within)) t.0)
            | inr other ↦ (
                let a = subst (λ z. GivesAll g f (dealt workers k z) (get_or shares k d).items) (sym e) (h.each k d below) in
                let b = subst (λ z. GivesAll g f z (get_or shares k d).items) (dealt_elsewhere workers k call (λ r. other (sym r ∙ w))) a in
                subst (λ (z : Vec X Global). GivesAll g f (dealt workers k call) z.items) (sym (get_or-set_other shares worker k rest d other)) b)
          ];
        }),
        t.1,
      )

-- an answer in front of those after it
pub in_front : {F X : Type 0} (g : Shared F (ℕ × Unit {0}) (Result X Stop)) (f : F) (call n : ℕ) (x : X) (xs ys : List X) → suc call ≡ n → ys ≡ x ∷ xs → Gives g f call x → GivesFrom g f n xs → GivesFrom g f call ys
in_front g f call n x xs ys e q a b = subst (GivesFrom g f call) (sym q) (a, subst (λ z. GivesFrom g f z xs) (sym e) b)

pub has_place : {A : Type 0} (xs : List A) (x d : A) → Has xs x → (i : ℕ) × (i < length xs) × (get_or xs i d ≡ x)
has_place [] x d h = absurd h
has_place (y ∷ xs) x d (inl e) = (0, omega arith, e)
has_place (y ∷ xs) x d (inr h) = let r = has_place xs x d h in (suc r.0, (let k = r.1 in omega arith), r.2)

pub has_between : {A : Type 0} (xs : List A) (x : A) (ys : List A) → Has (xs ++ x ∷ ys) x
has_between xs x ys = Has-append_right xs (x ∷ ys) x (inl refl)

-- one more that was refused
pub still_refused : {A S : Type 0} (xs : List (Result A S)) (x : Result A S) (first : Option S) (refusal chosen r : S) → x ≡ Err refusal → (chosen ≡ refusal) ⊎ (first ≡ Some chosen) → Some chosen ≡ Some r → ((s : S) → first ≡ Some s → Has xs (Err s)) → Has (xs ++ x ∷ []) (Err r)
still_refused xs x first refusal chosen r e (inl q) s h = let k : x ≡ Err r = cc in subst (Has (xs ++ x ∷ [])) k (has_between xs x [])
still_refused xs x first refusal chosen r e (inr q) s h = Has-append_left xs (x ∷ []) (Err r) (h r (q ∙ s))

-- and one that was done
pub still_done : {A S : Type 0} (xs : List (Result A S)) (x : Result A S) (ys zs : List A) (y : A) → x ≡ Ok y → zs ≡ ys ++ y ∷ [] → xs ≡ map Ok ys → xs ++ x ∷ [] ≡ map Ok zs
still_done xs x ys zs y e q h = ap (λ z. z ++ x ∷ []) h ∙ (ap (λ z. map Ok ys ++ z ∷ []) e ∙ (sym (map-append Ok ys (y ∷ [])) ∙ ap (map Ok) (sym q)))

-- what the workers hold once all are done
pub all_held : {F X S : Type 0} (g : Shared F (ℕ × Unit {0}) (Result X Stop)) (f : F) (workers n : ℕ) (shares : List (Result (Vec X Global) S)) (lists : List (Vec X Global)) → length shares ≡ workers → shares ≡ map Ok lists → ((worker : ℕ) (d v : Vec X Global) → worker < workers → get_or shares worker (Ok d) ≡ Ok v → GivesAll g f (dealt workers worker n) v.items) → Held g f workers n lists
all_held g f workers n shares lists l e h =
    let long : length lists ≡ workers = sym (length-map lists Ok) ∙ (ap length (sym e) ∙ l) in
    record {
      long = long;
      each = λ worker d below. h worker d (get_or lists worker d) below (ap (λ z. get_or z worker (Ok d)) e ∙ get_or-map Ok lists worker d (Ok d) (omega arith));
    }

pub if_ok : {A E : Type 0} (r : Result A E) {P : A → Type 0} → ((a : A) → r ≡ Ok a → P a) → IfOk r P
if_ok (Ok a) h = h a refl
if_ok (Err e) h = tt

pub if_err : {A E : Type 0} (r : Result A E) {P : E → Type 0} → ((e : E) → r ≡ Err e → P e) → IfErr r P
if_err (Ok a) h = tt
if_err (Err e) h = h e refl

pub none_of : {A : Type 0} (o : Option A) → is_some o ≡ false → o ≡ None
none_of None e = refl
none_of (Some a) e = absurd (false≢true (sym e))

pub some_of : {A : Type 0} (o : Option A) → is_some o ≡ true → (a : A) × (o ≡ Some a)
some_of None e = absurd (false≢true e)
some_of (Some a) e = (a, refl)
