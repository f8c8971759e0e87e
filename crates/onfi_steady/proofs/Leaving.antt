-- What waits once a group began, and what is offered of it.
use Rattle.std.proofs.Common.{◌≡◌, ℕ, ◌+◌, ◌<◌, ◌≤◌, inl, inr, Bool, true, false, List, [], ◌∷◌, ◌++◌, length, map, take, drop, get_or, Some, refl, sym, ap, ◌∙◌, subst, arith, append_assoc}
use Rattle.std.specs.Prelude.{cond, not, nat_lt, remove, slice_get, slice_set}
use Rattle.std.specs.List.{AllByRecursion as All, filter}
use Rattle.std.proofs.lemmas.Bool.{cases_Bool, eq-eqb, false≢true}
use Rattle.std.proofs.lemmas.List.{append-nil, drop_all, drop_more, length-take-le, take_all, take_more}
use Rattle.onfi_request.specs.declared.want.Want.{Want}
use Rattle.onfi_group.specs.declared.rules.Rules.{Rules}
use Rattle.onfi_group.specs.Group.{is_member}
use Rattle.onfi_problem.specs.Moves.{without}
use Rattle.onfi_steady.specs.declared.waiter.Waiter.{Waiter}
use Rattle.onfi_steady.specs.Waiting.{begins_with, greatest_number, is_on, left_waiting, passed_by, wants_of}
use Rattle.onfi_steady.specs.Offer.{on_lun}

module _ (lun : ℕ) (members : List Want) where
  abbrev stays : Waiter → Bool
  stays w = not (begins_with lun members w)

  abbrev pass : Waiter → Waiter
  pass = passed_by lun (greatest_number 0 members)

  same_want : (w : Waiter) → (pass w).want ≡ w.want
  same_want w = elim (cases_Bool (is_on lun w)) [
    | inl k ↦ elim (cases_Bool (nat_lt w.want.id (greatest_number 0 members))) [
      | inl q ↦ rw (k, q) refl
      | inr q ↦ rw (k, q) refl
    ]
    | inr k ↦ rw k refl
  ]

  -- what is left to do, of one more
  one_left : (w : Waiter) (ws : List Waiter) (rest : List Want) (m b : Bool) → (m ≡ true → b ≡ true) → (b ≡ true → m ≡ true) → wants_of (map pass ws) ≡ rest →
      wants_of (map pass (cond (not b) (w ∷ ws) ws)) ≡ cond (not m) (w.want ∷ rest) rest
  one_left w ws rest true true h k e = e
  one_left w ws rest false false h k e = rw (same_want w, e) refl
  one_left w ws rest true false h k e = absurd (false≢true (h refl))
  one_left w ws rest false true h k e = absurd (false≢true (k refl))

  begins_member : (w : Waiter) → (is_member members w.want ≡ true → w.want.lun ≡ lun) → is_member members w.want ≡ true → begins_with lun members w ≡ true
  begins_member w h k = rw (eq-eqb w.want.lun lun (h k)) k

  member_begins : (w : Waiter) → begins_with lun members w ≡ true → is_member members w.want ≡ true
  member_begins w b = elim (cases_Bool (is_on lun w)) [
    | inl k ↦ (let q : is_member members w.want ≡ true = rw k at b in q)
    | inr k ↦ (let q : false ≡ true = rw k at b in absurd (false≢true q))
  ]

  pub left_wants : (waiting : List Waiter) → All (λ w. is_member members w.want ≡ true → w.want.lun ≡ lun) waiting →
      wants_of (left_waiting lun members waiting) ≡ without members (wants_of waiting)
  left_wants [] h = refl
  left_wants (w ∷ ws) h = one_left w (filter stays ws) (without members (wants_of ws)) (is_member members w.want) (begins_with lun members w) (begins_member w h.0) (member_begins w) (left_wants ws h.1)

  pub left_planes : (waiting : List Waiter) → All (λ w. w.want.plane ≤ 3) waiting → All (λ w. w.want.plane ≤ 3) (left_waiting lun members waiting)
  left_planes [] h = tt
  left_planes (w ∷ ws) h = elim (cases_Bool (begins_with lun members w)) [
    | inl b ↦ rw b (left_planes ws h.1)
    | inr b ↦ rw b (subst (λ z. z.plane ≤ 3) (sym (same_want w)) h.0, left_planes ws h.1)
  ]
