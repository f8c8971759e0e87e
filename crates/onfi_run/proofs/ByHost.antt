-- Lists with an element for each host.
use Rattle.std.proofs.Common.{◌≡◌, ◌<◌, ℕ, zero, suc, List, [], ◌∷◌, ◌++◌, length, get_or, map, refl, sym, ap, ◌∙◌, arith}
use Rattle.std.specs.List.{AllByRecursion as Each}
use Rattle.std.proofs.lemmas.List.{length_push, map-append}
use Rattle.std.proofs.lemmas.Simd.{map-map}
use Rattle.onfi_run.specs.ByHost.{with_each}

pub head_of : {X : Type 0} (x y : X) (xs ys : List X) → x ∷ xs ≡ y ∷ ys → x ≡ y
head_of x y xs ys e = cc

pub tail_of : {X : Type 0} (x y : X) (xs ys : List X) → x ∷ xs ≡ y ∷ ys → xs ≡ ys
tail_of x y xs ys e = cc

-- lists that grew by one at the end are the same where both parts are
snoc_parts : {X : Type 0} (xs ys : List X) (x y : X) → xs ++ x ∷ [] ≡ ys ++ y ∷ [] → (xs ≡ ys) × (x ≡ y)
snoc_parts [] [] x y e = (refl, head_of x y [] [] e)
snoc_parts [] (b ∷ ys) x y e = absurd (omega (arith, ap length e, length_push ys y))
snoc_parts (a ∷ xs) [] x y e = absurd (omega (arith, ap length e, length_push xs x))
snoc_parts (a ∷ xs) (b ∷ ys) x y e =
    let h = head_of a b (xs ++ x ∷ []) (ys ++ y ∷ []) e in
    let t = snoc_parts xs ys x y (tail_of a b (xs ++ x ∷ []) (ys ++ y ∷ []) e) in
    (ap (λ l. a ∷ l) t.0 ∙ ap (λ z. z ∷ ys) h, t.1)

-- ---- one element more of each
pub map_with_each : {A B : Type 0} (f : A → B) (lists : List (List A)) (more : List A)
    → map (map f) (with_each lists more) ≡ with_each (map (map f) lists) (map f more)
map_with_each f [] more = refl
map_with_each f (xs ∷ lists) [] = refl
map_with_each f (xs ∷ lists) (x ∷ more) =
    ap (λ l. l ∷ map (map f) (with_each lists more)) (map-append f xs (x ∷ [])) ∙ ap (λ l. (map f xs ++ f x ∷ []) ∷ l) (map_with_each f lists more)

with_each_of : {H B : Type 0} (front : H → List B) (last : H → B) (whole : H → List B) (hs : List H) → ((h : H) → front h ++ last h ∷ [] ≡ whole h)
    → with_each (map front hs) (map last hs) ≡ map whole hs
with_each_of front last whole [] same = refl
with_each_of front last whole (h ∷ hs) same =
    ap (λ l. l ∷ with_each (map front hs) (map last hs)) (same h) ∙ ap (λ l. whole h ∷ l) (with_each_of front last whole hs same)

-- what holds of lists and of the elements after them holds of the longer lists
pub told_with : {A B H : Type 0} (f : A → B) (front : H → List B) (last : H → B) (whole : H → List B) (hs : List H) (lists : List (List A)) (more : List A)
    → ((h : H) → front h ++ last h ∷ [] ≡ whole h) → map (map f) lists ≡ map front hs → map f more ≡ map last hs
    → map (map f) (with_each lists more) ≡ map whole hs
told_with f front last whole hs lists more same fronts lasts =
    map_with_each f lists more ∙ ap (λ l. with_each l (map f more)) fronts ∙ ap (with_each (map front hs)) lasts ∙ with_each_of front last whole hs same

-- .. and the other way round
pub told_before : {A B H : Type 0} (f : A → B) (front : H → List B) (last : H → B) (whole : H → List B) (hs : List H) (lists : List (List A)) (more : List A)
    → ((h : H) → front h ++ last h ∷ [] ≡ whole h) → length lists ≡ length hs → length more ≡ length hs → map (map f) (with_each lists more) ≡ map whole hs
    → (map (map f) lists ≡ map front hs) × (map f more ≡ map last hs)
told_before f front last whole [] [] [] same n m e = (refl, refl)
told_before f front last whole [] (xs ∷ lists) more same n m e = absurd (omega (arith, n))
told_before f front last whole [] [] (x ∷ more) same n m e = absurd (omega (arith, m))
told_before f front last whole (h ∷ hs) [] more same n m e = absurd (omega (arith, n))
told_before f front last whole (h ∷ hs) (xs ∷ lists) [] same n m e = absurd (omega (arith, m))
told_before f front last whole (h ∷ hs) (xs ∷ lists) (x ∷ more) same n m e =
    let first = map f (xs ++ x ∷ []) in
    let others = map (map f) (with_each lists more) in
    let here = sym (map-append f xs (x ∷ [])) ∙ head_of first (whole h) others (map whole hs) e ∙ sym (same h) in
    let both = snoc_parts (map f xs) (front h) (f x) (last h) here in
    let rest = told_before f front last whole hs lists more same (omega (arith, n)) (omega (arith, m)) (tail_of first (whole h) others (map whole hs) e) in
    (ap (λ l. l ∷ map (map f) lists) both.0 ∙ ap (λ l. front h ∷ l) rest.0, ap (λ z. z ∷ map f more) both.1 ∙ ap (λ l. last h ∷ l) rest.1)

pub each_longer : {X : Type 0} (P : X → Type 0) (xs : List X) (x : X) → Each P xs → P x → Each P (xs ++ x ∷ [])
each_longer P [] x all one = (one, tt)
each_longer P (y ∷ xs) x (here, all) one = (here, each_longer P xs x all one)

pub each_with : {X : Type 0} (P : X → Type 0) (lists : List (List X)) (more : List X) → Each (Each P) lists → Each P more → Each (Each P) (with_each lists more)
each_with P [] more all ones = tt
each_with P (xs ∷ lists) [] all ones = tt
each_with P (xs ∷ lists) (x ∷ more) (here, all) (one, ones) = (each_longer P xs x here one, each_with P lists more all ones)

-- ---- what is stated by keys
by_key : {A K B : Type 0} (key : A → K) (f : K → B) (lists : List (List A)) → map (map (λ x. f (key x))) lists ≡ map (map f) (map (map key) lists)
by_key key f [] = refl
by_key key f (xs ∷ lists) = ap (λ l. l ∷ map (map (λ x. f (key x))) lists) (sym (map-map f key xs)) ∙ ap (λ l. map f (map key xs) ∷ l) (by_key key f lists)

-- what is stated by a key is the same where the keys are
pub same_by_key : {A K B : Type 0} (key : A → K) (f : K → B) (old new : List (List A)) → map (map key) new ≡ map (map key) old
    → map (map (λ x. f (key x))) new ≡ map (map (λ x. f (key x))) old
same_by_key key f old new same = by_key key f new ∙ ap (map (map f)) same ∙ sym (by_key key f old)

-- what two lists of n give is the same where it is place by place
pub map_by_place : {A B X : Type 0} (f : A → X) (g : B → X) (xs : List A) (ys : List B) (n : ℕ) → length xs ≡ n → length ys ≡ n
    → ((i : ℕ) (d : A) (e : B) → i < n → g (get_or ys i e) ≡ f (get_or xs i d)) → map g ys ≡ map f xs
map_by_place f g [] [] n a b same = refl
map_by_place f g [] (y ∷ ys) n a b same = absurd (omega (arith, a, b))
map_by_place f g (x ∷ xs) [] n a b same = absurd (omega (arith, a, b))
map_by_place f g (x ∷ xs) (y ∷ ys) zero a b same = absurd (omega (arith, a))
map_by_place f g (x ∷ xs) (y ∷ ys) (suc n) a b same =
    ap (λ z. z ∷ map g ys) (same 0 x y (omega arith))
    ∙ ap (λ l. f x ∷ l) (map_by_place f g xs ys n (omega (arith, a)) (omega (arith, b)) (λ i d e h. same (suc i) d e (omega (arith, h))))
