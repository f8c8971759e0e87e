-- Replies in order of making.
use Rattle.std.proofs.Common.{◌≡◌, ℕ, inl, inr, List, [], ◌∷◌, ◌++◌, sym, ap, ◌∙◌, subst, append_assoc, append-nil}
use Rattle.std.specs.Prelude.{◌==◌}
use Rattle.std.specs.List.{AllByRecursion as All, filter}
use Rattle.std.proofs.lemmas.Bool.{cases_Bool}
use Rattle.std.proofs.lemmas.List.Elements.{filter-append}
use Rattle.onfi_request.specs.Words.{Pairs}
use Rattle.onfi_request.specs.declared.reply.Reply.{Reply}
use Rattle.onfi_request.specs.declared.request.Item.{Item}
use Rattle.onfi_problem.proofs.Perm.{All-append, All-weaker}
use Rattle.onfi_die.specs.Order.{IsBeginning}
use Rattle.onfi_die.specs.Rightful.{IsRightful}
use Rattle.onfi_die.specs.Shapes.{Device}
use Rattle.onfi_core.specs.Kept.{AreMade}
use Rattle.onfi_core.specs.State.{is_to}

Pairs-push : {A : Type 0} (R : A → A → Type 0) (xs : List A) (y : A) → Pairs R xs → All (λ x. R x y) xs → Pairs R (xs ++ y ∷ [])
Pairs-push R [] y h k = (tt, tt)
Pairs-push R (x ∷ xs) y h k = (All-append (R x) xs (y ∷ []) h.0 (k.0, tt), Pairs-push R xs y h.1 k.1)

-- one more that rests on all that is accepted
made_one : (device : Device) (accepted : List Item) (rs : List Reply) (r : Reply) → AreMade device accepted rs → r.basis.faults ≡ device.faults → r.basis.accepted ≡ accepted → IsRightful device accepted r → AreMade device accepted (rs ++ r ∷ [])
made_one device accepted rs r m f a right =
    let P : List Item → Type 0 = λ xs. IsRightful device xs r in
    let Q : List Item → Type 0 = λ xs. IsBeginning xs accepted in
    let R : List Item → Type 0 = λ xs. All (λ (x : Reply). IsBeginning x.basis.accepted xs) rs in
    record {
      faults = All-append (λ (x : Reply). x.basis.faults ≡ device.faults) rs (r ∷ []) m.faults (f, tt);
      each = All-append (λ (x : Reply). IsRightful device x.basis.accepted x) rs (r ∷ []) m.each (subst P (sym a) right, tt);
      within = All-append (λ (x : Reply). IsBeginning x.basis.accepted accepted) rs (r ∷ []) m.within (subst Q (sym a) ([], append-nil accepted), tt);
      rise = Pairs-push (λ (x y : Reply). IsBeginning x.basis.accepted y.basis.accepted) rs r m.rise (subst R (sym a) m.within);
    }

-- a reply that is made is the last of its host
pub made_push : (device : Device) (accepted : List Item) (posted held : List Reply) (r : Reply) → r.basis.faults ≡ device.faults → r.basis.accepted ≡ accepted → IsRightful device accepted r → (host : ℕ) → AreMade device accepted (filter (is_to host) posted ++ filter (is_to host) held) → AreMade device accepted (filter (is_to host) posted ++ filter (is_to host) (held ++ r ∷ []))
made_push device accepted posted held r f a right host m =
    let xs = filter (is_to host) posted in
    let ys = filter (is_to host) held in
    let e : xs ++ filter (is_to host) (held ++ r ∷ []) ≡ (xs ++ ys) ++ filter (is_to host) (r ∷ []) = ap (λ zs. xs ++ zs) (filter-append (is_to host) held (r ∷ [])) ∙ sym (append_assoc xs ys (filter (is_to host) (r ∷ []))) in
    let P : List Reply → Type 0 = λ zs. AreMade device accepted zs in
    subst P (sym e) (elim (cases_Bool (r.host == host)) [
      | inl k ↦ rw k (made_one device accepted (xs ++ ys) r m f a right)
      | inr k ↦ rw (k, append-nil (xs ++ ys)) m
    ])

begins_more : (xs accepted : List Item) (x : Item) → IsBeginning xs accepted → IsBeginning xs (accepted ++ x ∷ [])
begins_more xs accepted x (rest, e) = (rest ++ x ∷ [], sym (append_assoc xs rest (x ∷ [])) ∙ ap (λ zs. zs ++ x ∷ []) e)

-- more may be accepted
pub made_more : (device : Device) (accepted : List Item) (x : Item) (rs : List Reply) → AreMade device accepted rs → AreMade device (accepted ++ x ∷ []) rs
made_more device accepted x rs m = record {
  faults = m.faults;
  each = m.each;
  within = All-weaker (λ (r : Reply). IsBeginning r.basis.accepted accepted) (λ (r : Reply). IsBeginning r.basis.accepted (accepted ++ x ∷ [])) (λ r h. begins_more r.basis.accepted accepted x h) rs m.within;
  rise = m.rise;
}
