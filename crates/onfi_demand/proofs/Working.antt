-- What is left to a LUN, as it is read.
use Rattle.std.proofs.Common.{◌≡◌, ℕ, ◌+◌, ◌≤◌, ◌<◌, inl, inr, Bool, true, false, List, [], ◌∷◌, ◌++◌, length, map, get_or, take, Option, Some, None, refl, sym, ap, ◌∙◌, subst, arith}
use Rattle.std.specs.Prelude.{slice_get, ◌==◌}
use Rattle.std.specs.List.{filter, AllByRecursion as All}
use Rattle.std.specs.Option.{option_map}
use Rattle.std.proofs.lemmas.Bool.{cases_Bool, eq-eqb, false≢true, ne_eqb}
use Rattle.std.proofs.lemmas.List.Elements.{filter-append}
use Rattle.onfi_request.specs.declared.want.Want.{Want}
use Rattle.onfi_problem.specs.declared.lun_state.LunState.{LunState}
use Rattle.onfi_problem.specs.declared.lun_state.LunState.TheVariants.{Free, Running}
use Rattle.onfi_problem.specs.declared.moves.Lun.{Lun}
use Rattle.onfi_problem.specs.Left.{InLimits}
use Rattle.onfi_problem.specs.Position.{state_of, waiting_of}
use Rattle.onfi_problem.specs.Problem.{Problem}
use Rattle.onfi_problem.proofs.Lists.{map_found}
use Rattle.onfi_problem.proofs.Places.{get_within}
use Rattle.onfi_problem.proofs.Perm.{append_nil}
use Rattle.onfi_bound.specs.Bounds.{on_lun}
use Rattle.onfi_bound.proofs.Counting.{within_luns}
use Rattle.onfi_bound.proofs.Loading.{waits_at}
use Rattle.onfi_bound.proofs.Parts.{placed}
use Rattle.onfi_bound.proofs.Steps.{all_at, waiting_yes, waiting_no}
use Rattle.onfi_demand.specs.Left.{left_on}
use Rattle.onfi_demand.specs.Work.{left_of, IsPadded, IsShape}
use Rattle.onfi_demand.specs.declared.left.LunLeft.{LunLeft as KeptLeft}
use Rattle.onfi_demand.specs.declared.left.LunLeft.TheVariants.{Idle as KeptIdle, Rest as KeptRest}

abbrev pub no_lun : Lun
no_lun = record { next = 0; place = 0; time = 0 }

pub place_there : (p : Problem) (groups gs : List (List Want)) (luns : List Lun) (lun : ℕ) → InLimits p → map (state_of groups) luns ≡ p.luns → gs ≡ groups → lun < length p.luns → 1 ≤ (get_or luns lun no_lun).next → (get_or luns lun no_lun).place < length gs
place_there p groups gs luns lun limits e g h = rw g (all_at (λ (x : Lun). 1 ≤ x.next → x.place < length groups) luns lun no_lun (within_luns p groups luns e lun h) (placed p groups luns limits e))

pub state_at : (p : Problem) (groups gs : List (List Want)) (luns : List Lun) (lun : ℕ) (left : KeptLeft) → map (state_of groups) luns ≡ p.luns → lun < length p.luns → gs ≡ groups → left_of left ≡ left_on (state_of gs (get_or luns lun no_lun)) → option_map left_on (slice_get p.luns lun) ≡ Some (left_of left)
state_at p groups gs luns lun left e h g q =
    let x = get_within p.luns lun h in
    let s = map_found (state_of groups) luns lun no_lun x.0 (subst (λ z. slice_get z lun ≡ Some x.0) (sym e) x.1) in
    rw x.1 (ap Some (sym (q ∙ (ap (λ z. left_on (state_of z (get_or luns lun no_lun))) g ∙ ap left_on s))))

pub shape_of : (p : Problem) (lun : ℕ) (left : KeptLeft) → InLimits p → IsPadded left → option_map left_on (slice_get p.luns lun) ≡ Some (left_of left) → IsShape left
shape_of p lun KeptIdle limits padded h = tt
shape_of p lun (KeptRest operation k n sectors) limits padded h = go (slice_get p.luns lun) refl h
  where
    go : (o : Option LunState) → slice_get p.luns lun ≡ o → option_map left_on o ≡ Some (left_of (KeptRest operation k n sectors)) → IsShape (KeptRest operation k n sectors)
    go None e q = cc
    go (Some (Free a)) e q = cc
    go (Some (Running g n' r)) e q =
        let i = limits.problem.running lun g n' r e in
        let same_size : length g ≡ k = cc in
        let same_next : n' ≡ n = cc in
        (omega arith, omega arith, omega arith, omega arith, padded)

pub wants_yes : (lun : ℕ) (marks : List Bool) (ws : List Want) (i : ℕ) (d : Want) (before now : List Want) → i < length ws → get_or marks i false ≡ true → (get_or ws i d).lun ≡ lun → before ≡ on_lun lun (waiting_of marks (take i ws)) → now ≡ before ++ get_or ws i d ∷ [] → now ≡ on_lun lun (waiting_of marks (take (i + 1) ws))
wants_yes lun marks ws i d before now h m at b n =
    let e = waiting_yes marks ws i d h m in
    let t : ((get_or ws i d).lun == lun) ≡ true = eq-eqb (get_or ws i d).lun lun at in
    let one : filter (λ w. w.lun == lun) (get_or ws i d ∷ []) ≡ get_or ws i d ∷ [] = rw t refl in
    n ∙ (ap (λ z. z ++ get_or ws i d ∷ []) b ∙ sym (ap (on_lun lun) e ∙ (filter-append (λ w. w.lun == lun) (waiting_of marks (take i ws)) (get_or ws i d ∷ []) ∙ ap (λ z. on_lun lun (waiting_of marks (take i ws)) ++ z) one)))

pub wants_other : (lun : ℕ) (marks : List Bool) (ws : List Want) (i : ℕ) (d : Want) (before : List Want) → i < length ws → get_or marks i false ≡ true → ((get_or ws i d).lun ≡ lun → ⊥) → before ≡ on_lun lun (waiting_of marks (take i ws)) → before ≡ on_lun lun (waiting_of marks (take (i + 1) ws))
wants_other lun marks ws i d before h m at b =
    let e = waiting_yes marks ws i d h m in
    let t : ((get_or ws i d).lun == lun) ≡ false = ne_eqb (get_or ws i d).lun lun at in
    let one : filter (λ w. w.lun == lun) (get_or ws i d ∷ []) ≡ [] = rw t refl in
    b ∙ sym (ap (on_lun lun) e ∙ (filter-append (λ w. w.lun == lun) (waiting_of marks (take i ws)) (get_or ws i d ∷ []) ∙ (ap (λ z. on_lun lun (waiting_of marks (take i ws)) ++ z) one ∙ append_nil (on_lun lun (waiting_of marks (take i ws))))))

pub wants_no : (lun : ℕ) (marks : List Bool) (ws : List Want) (i : ℕ) (before : List Want) → get_or marks i false ≡ false → before ≡ on_lun lun (waiting_of marks (take i ws)) → before ≡ on_lun lun (waiting_of marks (take (i + 1) ws))
wants_no lun marks ws i before m b = b ∙ sym (ap (on_lun lun) (waiting_no marks ws i m))

-- none of these wants is of the LUN
none_on : (lun : ℕ) (ws : List Want) → on_lun lun ws ≡ [] → All (λ w. w.lun ≡ lun → ⊥) ws
none_on lun [] e = tt
none_on lun (w ∷ ws) e = elim (cases_Bool (w.lun == lun)) [
  | inl h ↦ (let q : w ∷ on_lun lun ws ≡ [] = rw h at e in cc)
  | inr h ↦ (λ at. false≢true (sym h ∙ eq-eqb w.lun lun at), none_on lun ws (rw h at e))
]

-- a marked want is of the LUN
pub some_on : (lun : ℕ) (marks : List Bool) (ws : List Want) (i : ℕ) (d : Want) → i < length ws → get_or marks i false ≡ true → (get_or ws i d).lun ≡ lun → 1 ≤ length (on_lun lun (waiting_of marks ws))
some_on lun marks ws i d h m at = go (on_lun lun (waiting_of marks ws)) refl
  where
    go : (on : List Want) → on_lun lun (waiting_of marks ws) ≡ on → 1 ≤ length (on_lun lun (waiting_of marks ws))
    go [] e = absurd (waits_at (λ w. w.lun ≡ lun → ⊥) marks ws i d h m (none_on lun (waiting_of marks ws) e) at)
    go (w ∷ on) e = rw e (omega arith)
