-- No two requests that wait for one LUN have one number.
use Rattle.std.proofs.Common.{◌≡◌, ◌≢◌, ℕ, ◌<◌, ◌∙◌, inl, inr, true, false, List, [], ◌∷◌, ◌++◌, length, nat_lt, Some, None, ap, arith, refl, sym}
use Rattle.std.specs.Prelude.{◌==◌, if◌then◌else◌, slice_get}
use Rattle.std.specs.List.{AllByRecursion as All, list_any}
use Rattle.std.proofs.lemmas.Bool.{cases_Bool, eq-eqb, ne_eqb, false≢true}
use Rattle.onfi_timing.specs.declared.timing.Timing.{Timing}
use Rattle.onfi_request.specs.declared.want.Want.{Want}
use Rattle.onfi_group.specs.Words.{Has, Pairs}
use Rattle.onfi_group.proofs.Lists.{All-each, Pairs-append}
use Rattle.onfi_steady.specs.declared.dispatcher.Dispatcher.{Dispatcher}
use Rattle.onfi_steady.specs.declared.lun_books.LunBooks.{LunBooks}
use Rattle.onfi_steady.specs.declared.slot.Slot.{Slot}
use Rattle.onfi_steady.specs.declared.waiter.Waiter.{Waiter}
use Rattle.onfi_steady.specs.Waiting.{Books, accepted, is_on}
use Rattle.onfi_steady.specs.Slots.{has_number, is_line_below, slots_in}
use Rattle.onfi_steady.specs.Dispatcher.{AreDistinct, Differ, IsOf, accept_refusal, accepted_again, again_line_refusal, again_refusal, head_refusal, is_request, line_refusal, lun_refusal, luns_of}
use Rattle.onfi_steady.proofs.Changing.{holds_request, none_has}

-- what isn't refused has a number that none has which waits
head_free : (l : LunBooks) (id : ℕ) → head_refusal l id ≡ None → has_number (slots_in l.line) id ≡ false
head_free l id h = elim (cases_Bool (nat_lt (length (slots_in l.line)) 64)) [
  | inl k ↦ elim (cases_Bool (has_number (slots_in l.line) id)) [
    | inl y ↦ (let q = rw (k, y) at h in absurd cc)
    | inr n ↦ n
  ]
  | inr k ↦ (let q = rw k at h in absurd cc)
]

lun_free : (l : LunBooks) (id : ℕ) → lun_refusal l id ≡ None → has_number (slots_in l.line) id ≡ false
lun_free l id h = elim (cases_Bool (is_line_below l.line id)) [
  | inl b ↦ (let q : head_refusal l id ≡ None = rw b at h in head_free l id q)
  | inr b ↦ elim (cases_Bool (nat_lt (length (slots_in l.line)) 64)) [
    | inl k ↦ (let q = rw (b, k) at h in absurd cc)
    | inr k ↦ (let q = rw (b, k) at h in absurd cc)
  ]
]

differs : (v : Waiter) (want : Want) → is_request want.lun want.id v ≡ false → v.want.lun ≡ want.lun → v.want.id ≢ want.id
differs v want none same one = let q : true ≡ false = rw (eq-eqb v.want.lun want.lun same, eq-eqb v.want.id want.id one) at none in absurd (false≢true (sym q))

module _ (timing : Timing) (books : Books) (d : Dispatcher) (want : Want) (l : LunBooks) (is : IsOf timing books d) (there : slice_get (luns_of d) want.lun ≡ Some l) where
  none_of_number : has_number (slots_in l.line) want.id ≡ false → list_any (is_request want.lun want.id) books.waiting ≡ false
  none_of_number free = sym (holds_request timing books (luns_of d) want.lun want.id l is.luns there) ∙ free

  none_is : list_any (is_request want.lun want.id) books.waiting ≡ false → (v : Waiter) → Has books.waiting v → v.want.lun ≡ want.lun → v.want.id ≢ want.id
  none_is none v i = differs v want (none_has (is_request want.lun want.id) books.waiting v none i)

  pub accepts_distinct : accept_refusal d want ≡ None → AreDistinct (accepted books want)
  accepts_distinct h =
      let free = lun_free l want.id (ap (line_refusal want.id) (sym there) ∙ h) in
      let other = none_is (none_of_number free) in
      Pairs-append Differ books.waiting (record { want = want; passed = 0 } ∷ []) is.distinct (tt, tt) (λ v w i j. elim j [
        | inl e ↦ (λ same one. other v i (same ∙ ap (λ (z : Waiter). z.want.lun) (sym e)) (one ∙ ap (λ (z : Waiter). z.want.id) (sym e)))
        | inr n ↦ absurd n
      ])

  pub accepts_distinct_again : again_refusal d want ≡ None → AreDistinct (accepted_again books want)
  accepts_distinct_again h =
      let free = head_free l want.id (ap (again_line_refusal want.id) (sym there) ∙ h) in
      let other = none_is (none_of_number free) in
      (All-each (Differ (record { want = want; passed = 0 })) books.waiting (λ v i same one. other v i (sym same) (sym one)), is.distinct)
