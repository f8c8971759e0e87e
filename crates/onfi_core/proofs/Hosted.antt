-- An item or a reply more, host by host.
use Rattle.std.proofs.Common.{◌≡◌, ◌≢◌, ℕ, true, false, List, [], ◌∷◌, ◌++◌, refl, sym, ◌∙◌, append-nil, inl, inr, subst}
use Rattle.std.specs.Prelude.{◌==◌}
use Rattle.std.specs.List.{filter}
use Rattle.std.proofs.lemmas.Bool.{eq-eqb, ne_eqb}
use Rattle.std.proofs.lemmas.List.Elements.{filter-append}
use Rattle.onfi_request.specs.declared.reply.Reply.{Reply}
use Rattle.onfi_request.specs.declared.request.Item.{Item}
use Rattle.onfi_core.specs.State.{is_from, is_to}
use Rattle.onfi_problem.proofs.Places.{same_place}

pub from_other : (host j : ℕ) (xs : List Item) (x : Item) → x.host ≡ host → j ≢ host → filter (is_from j) (xs ++ x ∷ []) ≡ filter (is_from j) xs
from_other host j xs x own d =
    let t : (x.host == j) ≡ false = ne_eqb x.host j (λ e. d (sym e ∙ own)) in
    filter-append (is_from j) xs (x ∷ []) ∙ (rw t (append-nil (filter (is_from j) xs)))

pub from_own : (host : ℕ) (xs : List Item) (x : Item) → x.host ≡ host → filter (is_from host) (xs ++ x ∷ []) ≡ filter (is_from host) xs ++ x ∷ []
from_own host xs x own = let t : (x.host == host) ≡ true = eq-eqb x.host host own in filter-append (is_from host) xs (x ∷ []) ∙ (rw t refl)

pub to_other : (host j : ℕ) (rs : List Reply) (r : Reply) → r.host ≡ host → j ≢ host → filter (is_to j) (rs ++ r ∷ []) ≡ filter (is_to j) rs
to_other host j rs r own d =
    let t : (r.host == j) ≡ false = ne_eqb r.host j (λ e. d (sym e ∙ own)) in
    filter-append (is_to j) rs (r ∷ []) ∙ (rw t (append-nil (filter (is_to j) rs)))

pub to_own : (host : ℕ) (rs : List Reply) (r : Reply) → r.host ≡ host → filter (is_to host) (rs ++ r ∷ []) ≡ filter (is_to host) rs ++ r ∷ []
to_own host rs r own = let t : (r.host == host) ≡ true = eq-eqb r.host host own in filter-append (is_to host) rs (r ∷ []) ∙ (rw t refl)

-- what each host's items have, once one has an item more
pub from_each : (P : ℕ → List Item → Type 0) (xs : List Item) (x : Item) → ((j : ℕ) → P j (filter (is_from j) xs)) → P x.host (filter (is_from x.host) xs ++ x ∷ []) → (j : ℕ) → P j (filter (is_from j) (xs ++ x ∷ []))
from_each P xs x others own j = elim (same_place j x.host) [
  | inl e ↦ subst (λ i. P i (filter (is_from i) (xs ++ x ∷ []))) (sym e) (subst (P x.host) (sym (from_own x.host xs x refl)) own)
  | inr d ↦ subst (P j) (sym (from_other x.host j xs x refl d)) (others j)
]
