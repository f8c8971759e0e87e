-- Replies with what they rest on, in the order in which they were made.
use Rattle.std.specs.Prelude.{◌≡◌, ◌≢◌, List, [], ◌∷◌, ◌++◌}
use Rattle.std.specs.List.{AllByRecursion as Each}
use Rattle.onfi_addr.specs.declared.geometry.Geometry.{Geometry}
use Rattle.onfi_request.specs.Words.{Pairs}
use Rattle.onfi_request.specs.declared.fault.Fault.{Fault}
use Rattle.onfi_request.specs.declared.reply.Reply.{Reply}
use Rattle.onfi_die.specs.Shapes.{device_of}
use Rattle.onfi_die.specs.Rightful.{IsRightful, AreRightful}

abbrev pub IsBeginning : {A : Type 0} → List A → List A → Type 0
IsBeginning {A} xs ys = (rest : List A) × (xs ++ rest ≡ ys)

-- the replies are rightful in what the last of them rests on
abbrev pub AreRightfulIn : Geometry → Reply → List Reply → Type 0
AreRightfulIn geometry last replies = AreRightful (device_of geometry last.basis.faults) last.basis.accepted replies

-- each beginning but the empty one is rightful in what its last reply rests on
abbrev pub EachRightful : Geometry → List Reply → Type 0
EachRightful geometry replies =
    (before : List Reply) (r : Reply) (behind : List Reply) → replies ≡ before ++ r ∷ behind → AreRightfulIn geometry r (before ++ r ∷ [])

-- each is rightful in what it rests on, a later one rests on the same faults and on a list that begins with that of an earlier one, and the places are distinct
pub record AreInOrder (geometry : Geometry) (faults : List Fault) (replies : List Reply) : Type 0 where
  pub faults_same : Each (λ r. r.basis.faults ≡ faults) replies
  pub each : Each (λ r. IsRightful (device_of geometry faults) r.basis.accepted r) replies
  pub rise : Pairs (λ a b. IsBeginning a.basis.accepted b.basis.accepted) replies
  pub once : Pairs (λ a b. a.place ≢ b.place) replies

abbrev pub OrderKeepsRule : Type 0
OrderKeepsRule = (geometry : Geometry) (faults : List Fault) (replies : List Reply) → AreInOrder geometry faults replies → EachRightful geometry replies
