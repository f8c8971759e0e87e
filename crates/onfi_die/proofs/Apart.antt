-- Requests on different blocks.
use Rattle.std.proofs.Common.{◌≡◌, ◌≢◌, ℕ, ◌⊎◌, inl, inr, true, false, List, [], ◌∷◌, refl, sym, ap, ◌∙◌, arith}
use Rattle.std.specs.Prelude.{map}
use Rattle.std.specs.List.{AllByRecursion as Each, filter}
use Rattle.std.proofs.lemmas.Bool.{cases_Bool}
use Rattle.std.proofs.lemmas.Bool.Decides.{nat_tests}
use Rattle.onfi_request.specs.Words.{Pairs}
use Rattle.onfi_request.specs.declared.request.Request.{Request}
use Rattle.onfi_die.specs.Contents.{runs, answer_of}
use Rattle.onfi_die.specs.Shapes.{Device}
use Rattle.onfi_die.specs.Blocks.{Blocks, is_on, block_of, changed, happen, answers}
use Rattle.onfi_die.specs.Apart.{OnOthers, AreApart, answer_now}

pub is_on_true : (lun block : ℕ) (r : Request) → is_on lun block r ≡ true → (r.place.lun ≡ lun) × (r.place.block ≡ block)
is_on_true lun block r h = grind (arith, nat_tests)

is_on_false : (lun block : ℕ) (r : Request) → (r.place.lun ≢ lun) ⊎ (r.place.block ≢ block) → is_on lun block r ≡ false
is_on_false lun block r (inl h) = grind (arith, nat_tests)
is_on_false lun block r (inr h) = grind (arith, nat_tests)

-- each block sees its own requests alone
own_requests : (device : Device) (rs : List Request) (blocks : Blocks) (lun block : ℕ) → happen device rs blocks lun block ≡ runs device (filter (is_on lun block) rs) (blocks lun block)
own_requests device [] blocks lun block = refl
own_requests device (r ∷ rs) blocks lun block =
    let e = own_requests device rs (changed device r blocks) lun block in
    elim (cases_Bool (is_on lun block r)) [
      | inl k ↦ rw (e, k) refl
      | inr k ↦ rw (e, k) refl
    ]

-- a request leaves the blocks of others
left_alone : (device : Device) (a b : Request) (blocks : Blocks) → OnOthers a b → block_of b (changed device a blocks) ≡ block_of b blocks
left_alone device a b blocks h = rw (is_on_false b.place.lun b.place.block a h) refl

OnOthers-sym : (a b : Request) → OnOthers a b → OnOthers b a
OnOthers-sym a b (inl h) = inl (λ e. h (sym e))
OnOthers-sym a b (inr h) = inr (λ e. h (sym e))

-- not both requests are on one block
not_both : (a b : Request) (lun block : ℕ) → OnOthers a b → is_on lun block a ≡ true → is_on lun block b ≡ false
not_both a b lun block h k =
    let w = is_on_true lun block a k in let w0 = w.0 in let w1 = w.1 in
    is_on_false lun block b (elim h [ inl d ↦ inl (λ e. d (w0 ∙ sym e)) | inr d ↦ inr (λ e. d (w1 ∙ sym e)) ])

swapped : (a b : Request) (lun block : ℕ) → OnOthers a b → filter (is_on lun block) (a ∷ b ∷ []) ≡ filter (is_on lun block) (b ∷ a ∷ [])
swapped a b lun block h =
    elim (cases_Bool (is_on lun block a)) [
      | inl k ↦ rw (k, not_both a b lun block h k) refl
      | inr k ↦ rw k (elim (cases_Bool (is_on lun block b)) [ inl m ↦ rw m refl | inr m ↦ rw m refl ])
    ]

unmoved : (device : Device) (a : Request) (blocks : Blocks) (rs : List Request) → Each (OnOthers a) rs → map (answer_now device (changed device a blocks)) rs ≡ map (answer_now device blocks) rs
unmoved device a blocks [] h = refl
unmoved device a blocks (r ∷ rs) h = let e : answer_now device (changed device a blocks) r ≡ answer_now device blocks r = ap (answer_of device r) (left_alone device a r blocks h.0) in let f = unmoved device a blocks rs h.1 in rw (e, f) refl

-- requests on different blocks get the answers that each gets alone
answers_alone : (device : Device) (rs : List Request) (blocks : Blocks) → Pairs OnOthers rs → answers device rs blocks ≡ map (answer_now device blocks) rs
answers_alone device [] blocks h = refl
answers_alone device (r ∷ rs) blocks h = ap (λ zs. answer_now device blocks r ∷ zs) (answers_alone device rs (changed device r blocks) h.1 ∙ unmoved device r blocks rs h.0)

pub apart : AreApart
apart = record {
  two = λ device a b blocks h. record {
    contents = λ lun block. own_requests device (a ∷ b ∷ []) blocks lun block ∙ ap (λ rs. runs device rs (blocks lun block)) (swapped a b lun block h) ∙ sym (own_requests device (b ∷ a ∷ []) blocks lun block);
    first = ap (answer_of device a) (left_alone device b a blocks (OnOthers-sym a b h));
    second = ap (answer_of device b) (left_alone device a b blocks h);
  };
  own = own_requests;
  alone = answers_alone;
}
