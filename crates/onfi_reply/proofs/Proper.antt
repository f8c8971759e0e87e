-- Lists of replies of which each beginning is rightful in what its last reply rests on.
use Rattle.std.proofs.Common.{◌≡◌, ◌⊎◌, List, [], ◌∷◌, ◌++◌, sym, refl, ap, subst, inl, inr, ⊎_elim}
use Rattle.std.specs.List.{AllByRecursion as Each}
use Rattle.onfi_request.specs.declared.reply.Reply.{Reply}
use Rattle.onfi_die.specs.Order.{AreRightfulIn}
use Rattle.onfi_reply.specs.declared.opened_for.OpenedFor.{OpenedFor}
use Rattle.onfi_reply.specs.Replies.{IsNext, AreProper}

pub Each-snoc : {A : Type 0} (P : A → Type 0) (xs : List A) (x : A) → Each P xs → P x → Each P (xs ++ x ∷ [])
Each-snoc P [] x old new = (new, tt)
Each-snoc P (y ∷ ys) x old new = (old.0, Each-snoc P ys x old.1 new)

Each-middle : {A : Type 0} (P : A → Type 0) (xs : List A) (x : A) (ys : List A) → Each P (xs ++ x ∷ ys) → P x
Each-middle P [] x ys all = all.0
Each-middle P (y ∷ xs) x ys all = Each-middle P xs x ys all.1

-- where one is added at the end, each is the added one or stood there before
pub split_last : (xs : List Reply) (x : Reply) (before : List Reply) (r : Reply) (behind : List Reply) → xs ++ x ∷ [] ≡ before ++ r ∷ behind
    → ((before ≡ xs) × (r ≡ x)) ⊎ ((behind' : List Reply) × (xs ≡ before ++ r ∷ behind'))
split_last [] x [] r behind e = inl (refl, cc)
split_last [] x (b ∷ []) r behind e = absurd (cc)
split_last [] x (b ∷ b' ∷ bs) r behind e = absurd (cc)
split_last (y ∷ ys) x [] r behind e = inr (ys, (let h : y ≡ r = cc in ap (λ (z : Reply). z ∷ ys) h))
split_last (y ∷ ys) x (b ∷ bs) r behind e =
    let head : y ≡ b = cc in
    let tail : ys ++ x ∷ [] ≡ bs ++ r ∷ behind = cc in
    ⊎_elim (λ (t : (bs ≡ ys) × (r ≡ x)). inl ((λ i. sym head i ∷ t.0 i), t.1))
    (λ (t : (behind' : List Reply) × (ys ≡ bs ++ r ∷ behind')). inr (t.0, λ i. head i ∷ t.1 i)) (split_last ys x bs r behind tail)

pub not_nil : (before : List Reply) (r : Reply) (behind : List Reply) → [] ≡ before ++ r ∷ behind → ⊥
not_nil [] r behind e = cc
not_nil (b ∷ bs) r behind e = cc

pub AreProper-nil : (opened : OpenedFor) → AreProper opened []
AreProper-nil opened = record { own = tt; rightful = λ before r behind e. absurd (not_nil before r behind e) }

pub AreProper-snoc : (opened : OpenedFor) (xs : List Reply) (x : Reply) → AreProper opened xs → IsNext opened xs x → AreProper opened (xs ++ x ∷ [])
AreProper-snoc opened xs x old new = record {
  own = Each-snoc (λ (r : Reply). r.host ≡ opened.host) xs x old.own new.host;
  rightful = λ before r behind e. ⊎_elim
      (λ (t : (before ≡ xs) × (r ≡ x)). subst (λ (y : List Reply × Reply). AreRightfulIn opened.geometry y.1 (y.0 ++ y.1 ∷ [])) (λ i. (sym t.0 i, sym t.1 i)) new.rightful)
      (λ (t : (behind' : List Reply) × (xs ≡ before ++ r ∷ behind')). old.rightful before r t.0 t.1) (split_last xs x before r behind e);
}

-- each is next after those before it
pub AreProper-middle : (opened : OpenedFor) (xs before : List Reply) (x : Reply) (behind : List Reply) → AreProper opened xs → xs ≡ before ++ x ∷ behind → IsNext opened before x
AreProper-middle opened xs before x behind all e = record {
  host = Each-middle (λ (r : Reply). r.host ≡ opened.host) before x behind (subst (λ (l : List Reply). Each (λ (r : Reply). r.host ≡ opened.host) l) e all.own);
  rightful = all.rightful before x behind e;
}
