-- The items of one host in a list that grows.
use Rattle.std.proofs.Common.{◌≡◌, ◌≢◌, ℕ, ◌+◌, Bool, cond, List, [], ◌∷◌, ◌++◌, length, sym, refl, ap, ◌∙◌, eq-eqb, ne_eqb, arith}
use Rattle.std.proofs.lemmas.List.{append-nil}
use Rattle.std.proofs.lemmas.List.Elements.{filter-append}
use Rattle.onfi_addr.specs.declared.geometry.Geometry.{Geometry}
use Rattle.onfi_request.specs.declared.request.Item.{Item}
use Rattle.onfi_request.specs.Range.{Fits}
use Rattle.onfi_queue.specs.Items.{is_from, items_from, AreNumbered}

pub items_from-append : (host : ℕ) (xs ys : List Item) → items_from host (xs ++ ys) ≡ items_from host xs ++ items_from host ys
items_from-append host xs ys = filter-append (is_from host) xs ys

-- the first item is of this host
pub items_from-own : (host : ℕ) (x : Item) (xs : List Item) → x.host ≡ host → items_from host (x ∷ xs) ≡ x ∷ items_from host xs
items_from-own host x xs e = ap (λ (b : Bool). cond b (x ∷ items_from host xs) (items_from host xs)) (eq-eqb x.host host e)

pub items_from-other : (host : ℕ) (x : Item) (xs : List Item) → x.host ≢ host → items_from host (x ∷ xs) ≡ items_from host xs
items_from-other host x xs e = ap (λ (b : Bool). cond b (x ∷ items_from host xs) (items_from host xs)) (ne_eqb x.host host e)

-- the last item is of this host
pub last-own : (host : ℕ) (xs : List Item) (x : Item) → x.host ≡ host → items_from host (xs ++ x ∷ []) ≡ items_from host xs ++ x ∷ []
last-own host xs x e = items_from-append host xs (x ∷ []) ∙ ap (λ (l : List Item). items_from host xs ++ l) (items_from-own host x [] e)

pub last-other : (host : ℕ) (xs : List Item) (x : Item) → x.host ≢ host → items_from host (xs ++ x ∷ []) ≡ items_from host xs
last-other host xs x e =
    items_from-append host xs (x ∷ []) ∙ ap (λ (l : List Item). items_from host xs ++ l) (items_from-other host x [] e) ∙ append-nil (items_from host xs)

-- an item in the middle is of its own host
pub middle-own : (before : List Item) (x : Item) (behind : List Item)
    → items_from x.host (before ++ x ∷ behind) ≡ items_from x.host before ++ x ∷ items_from x.host behind
middle-own before x behind =
    items_from-append x.host before (x ∷ behind) ∙ ap (λ (l : List Item). items_from x.host before ++ l) (items_from-own x.host x behind refl)

pub AreNumbered-snoc : (g : Geometry) (host n : ℕ) (xs : List Item) (x : Item)
    → AreNumbered g host n xs → x.host ≡ host → x.serial ≡ n + length xs → Fits g x.request → AreNumbered g host n (xs ++ x ∷ [])
AreNumbered-snoc g host n [] x p own serial fits = (own, omega arith, fits, tt)
AreNumbered-snoc g host n (y ∷ ys) x p own serial fits = (p.0, p.1, p.2, AreNumbered-snoc g host (n + 1) ys x p.3 own (omega arith) fits)

-- an item in the middle has the serial that counts those before it
pub AreNumbered-middle : (g : Geometry) (host n : ℕ) (xs : List Item) (x : Item) (ys : List Item)
    → AreNumbered g host n (xs ++ x ∷ ys) → (x.serial ≡ n + length xs) × Fits g x.request
AreNumbered-middle g host n [] x ys p = let e = p.1 in (omega arith, p.2)
AreNumbered-middle g host n (y ∷ xs) x ys p = let r = AreNumbered-middle g host (n + 1) xs x ys p.3 in let e = r.0 in (omega arith, r.1)

not_nil : (xs : List Item) (x : Item) (ys : List Item) → xs ++ x ∷ ys ≡ [] → ⊥
not_nil [] x ys e = cc
not_nil (y ∷ xs) x ys e = cc

-- where a host has no item, none is its
pub not_of : (host : ℕ) (before : List Item) (x : Item) (behind : List Item) → items_from host (before ++ x ∷ behind) ≡ [] → x.host ≢ host
not_of host before x behind none e =
    not_nil (items_from host before) x (items_from host behind)
    (sym (items_from-append host before (x ∷ behind) ∙ ap (λ (l : List Item). items_from host before ++ l) (items_from-own host x behind e)) ∙ none)
