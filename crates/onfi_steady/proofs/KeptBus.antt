-- From when on the bus is kept, as a walk over LUNs finds it.
use Rattle.std.proofs.Common.{◌≡◌, ℕ, ◌+◌, ◌^◌, ◌<◌, ◌≤◌, inl, inr, Bool, true, false, List, [], ◌∷◌, ◌++◌, length, map, take, get_or, nat_lt, Some, refl, sym, ap, ◌∙◌, subst, arith}
use Rattle.std.specs.Prelude.{max, min, if◌then◌else◌, ◌||◌, slice_get, slice_index_or}
use Rattle.std.specs.List.{list_any}
use Rattle.std.proofs.lemmas.List.{take_more, map-append}
use Rattle.std.proofs.lemmas.List.Folds.{list_any-append}
use Rattle.std.proofs.lemmas.Bool.{cases_Bool, cases_eq, cases_lt, eq-eqb, ne_eqb, lt-ltb, le-ltb, false≢true}
use Rattle.onfi_request.specs.declared.want.Want.{Want}
use Rattle.onfi_problem.specs.declared.lun_state.LunState.{LunState}
use Rattle.onfi_problem.specs.declared.lun_state.LunState.TheVariants.{Running}
use Rattle.onfi_problem.specs.declared.moves.Lun.{Lun}
use Rattle.onfi_problem.specs.Problem.{Problem}
use Rattle.onfi_problem.specs.Moves.{Move, Next, IsMove, after}
use Rattle.onfi_problem.specs.Position.{state_of}
use Rattle.onfi_problem.proofs.Lists.{map_found}
use Rattle.onfi_steady.specs.Ranks.{keeps_bus, keeps_bus_before, move_keeps_bus, is_kept_from}

pub any_one_more : {A : Type 0} (test : A → Bool) (xs : List A) (x : A) → list_any test (xs ++ x ∷ []) ≡ (if list_any test xs then true else test x)
any_one_more test xs x = list_any-append test xs (x ∷ []) ∙ go (list_any test xs) (test x)
  where
    go : (a b : Bool) → (a || (b || false)) ≡ (if a then true else b)
    go true b = refl
    go false true = refl
    go false false = refl

pub min_less : (a b end : ℕ) → nat_lt (min a b) end ≡ (if nat_lt a end then true else nat_lt b end)
min_less a b end = elim (cases_lt a end) [
  | inl h ↦ rw (lt-ltb a end h) (lt-ltb (min a b) end (omega arith))
  | inr h ↦ elim (cases_lt b end) [
    | inl k ↦ rw (le-ltb a end h, lt-ltb b end k) (lt-ltb (min a b) end (omega arith))
    | inr k ↦ rw (le-ltb a end h, le-ltb b end k) (le-ltb (min a b) end (omega arith))
  ]
]
