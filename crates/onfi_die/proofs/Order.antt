-- Replies in order of making keep the rule of a completion queue.
use Rattle.std.proofs.Common.{◌≡◌, List, [], ◌∷◌, ◌++◌, sym, ◌∙◌, subst, append_assoc}
use Rattle.std.specs.List.{AllByRecursion as Each}
use Rattle.onfi_request.specs.Words.{Pairs}
use Rattle.onfi_request.specs.declared.fault.Fault.{Fault}
use Rattle.onfi_request.specs.declared.reply.Reply.{Reply}
use Rattle.onfi_die.specs.Shapes.{Device, device_of}
use Rattle.onfi_die.specs.Rightful.{IsRightful, AreRightful}
use Rattle.onfi_die.specs.Order.{IsBeginning, OrderKeepsRule}
use Rattle.onfi_die.proofs.Stable.{stays_right}

Each-front : {A : Type 0} (P : A → Type 0) (xs ys : List A) → Each P (xs ++ ys) → Each P xs
Each-front P [] ys h = tt
Each-front P (x ∷ xs) ys h = (h.0, Each-front P xs ys h.1)

Each-back : {A : Type 0} (P : A → Type 0) (xs ys : List A) → Each P (xs ++ ys) → Each P ys
Each-back P [] ys h = h
Each-back P (x ∷ xs) ys h = Each-back P xs ys h.1

pub Pairs-front : {A : Type 0} (R : A → A → Type 0) (xs ys : List A) → Pairs R (xs ++ ys) → Pairs R xs
Pairs-front R [] ys h = tt
Pairs-front R (x ∷ xs) ys h = (Each-front (R x) xs ys h.0, Pairs-front R xs ys h.1)

-- each of the front is so related to each after it
all_to : {A : Type 0} (R : A → A → Type 0) (xs : List A) (y : A) (ys : List A) → Pairs R (xs ++ y ∷ ys) → Each (λ x. R x y) xs
all_to R [] y ys h = tt
all_to R (x ∷ xs) y ys h = ((Each-back (R x) xs (y ∷ ys) h.0).0, all_to R xs y ys h.1)

in_longer : (device : Device) (r m : Reply) → IsBeginning m.basis.accepted r.basis.accepted → IsRightful device m.basis.accepted m → IsRightful device r.basis.accepted m
in_longer device r m (rest, e) h = subst (λ xs. IsRightful device xs m) e (stays_right device m.basis.accepted rest m h)

all_right : (device : Device) (r : Reply) (before : List Reply) → Each (λ (m : Reply). IsBeginning m.basis.accepted r.basis.accepted) before → Each (λ (m : Reply). IsRightful device m.basis.accepted m) before → IsRightful device r.basis.accepted r → Each (IsRightful device r.basis.accepted) (before ++ r ∷ [])
all_right device r [] a h k = (k, tt)
all_right device r (m ∷ before) a h k = (in_longer device r m a.0 h.0, all_right device r before a.1 h.1 k)

pub rule_kept : OrderKeepsRule
rule_kept geometry faults replies o before r behind e =
    let each = subst (Each (λ (m : Reply). IsRightful (device_of geometry faults) m.basis.accepted m)) e o.each in
    let rise = subst (Pairs (λ (a b : Reply). IsBeginning a.basis.accepted b.basis.accepted)) e o.rise in
    let once = subst (Pairs (λ (a b : Reply). a.place ≡ b.place → ⊥)) (e ∙ sym (append_assoc before (r ∷ []) behind)) o.once in
    let same = (Each-back (λ (m : Reply). m.basis.faults ≡ faults) before (r ∷ behind) (subst (Each (λ (m : Reply). m.basis.faults ≡ faults)) e o.faults_same)).0 in
    let right : AreRightful (device_of geometry faults) r.basis.accepted (before ++ r ∷ []) = record {
      once = Pairs-front _ (before ++ r ∷ []) behind once;
      each = all_right (device_of geometry faults) r before (all_to _ before r behind rise) (Each-front _ before (r ∷ behind) each) (Each-back (λ (m : Reply). IsRightful (device_of geometry faults) m.basis.accepted m) before (r ∷ behind) each).0;
    } in
    subst (λ (fs : List Fault). AreRightful (device_of geometry fs) r.basis.accepted (before ++ r ∷ [])) (sym same) right
