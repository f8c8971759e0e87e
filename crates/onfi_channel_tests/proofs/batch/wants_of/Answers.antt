use Rattle.std.proofs.Common.{◌≡◌, ℕ, zero, suc, ◌+◌, ◌<◌, ◌≤◌, List, [], ◌∷◌, ◌++◌, length, Some, take, refl, sym, ap, ◌∙◌, arith}
use Rattle.std.specs.Prelude.{slice_get}
use Rattle.onfi_addr.specs.declared.geometry.Geometry.{Geometry}
use Rattle.onfi_request.specs.declared.request.Item.{Item}
use Rattle.onfi_request.specs.declared.want.Want.{Want}
use Rattle.onfi_core.specs.State.{want_of, wants_from}
use Rattle.onfi_core.proofs.Lists.{take_next}
use Rattle.onfi_lun.proofs.Places.{get_of_or}
use Rattle.onfi_channel_tests.proofs.batch.wants_of.Goals as goal

more_wants : (g : Geometry) (n : ℕ) (xs : List Item) (x : Item) → wants_from g n (xs ++ x ∷ []) ≡ wants_from g n xs ++ want_of g (n + length xs) x ∷ []
more_wants g n [] x = let e : n + 0 ≡ n = omega arith in rw e refl
more_wants g n (y ∷ xs) x = let e : n + suc (length xs) ≡ n + 1 + length xs = omega arith in rw e (ap (λ zs. want_of g n y ∷ zs) (more_wants g (n + 1) xs x))

length_take : (n : ℕ) (xs : List Item) → n ≤ length xs → length (take n xs) ≡ n
length_take zero xs h = refl
length_take (suc n) [] h = absurd (omega arith)
length_take (suc n) (x ∷ xs) h = ap suc (length_take n xs (omega arith))

one_more : (g : Geometry) (items : List Item) (n : ℕ) (x : Item) → slice_get items n ≡ Some x → n < length items → wants_from g 0 (take (n + 1) items) ≡ wants_from g 0 (take n items) ++ want_of g n x ∷ []
one_more g items n x at lt =
    let size : 0 + length (take n items) ≡ n = (let e = length_take n items (omega arith) in omega (arith, e)) in
    ap (wants_from g 0) (take_next items n x at) ∙ more_wants g 0 (take n items) x ∙ ap (λ i. wants_from g 0 (take n items) ++ want_of g i x ∷ []) size

pub loop-id-preserved : goal.loop-id-preserved
loop-id-preserved c =
    let g = c.args.geometry.now in
    let items = c.args.items.now in
    let x = c.index-items-id.result in
    let at : slice_get items c.loop-id.id ≡ Some x = get_of_or items c.loop-id.id x x c.loop-id-test.true c.index-items-id.is in
    let plane = c.plane_of.ensures in
    let before = c.loop-id.invariant in
    c.in_ok-push.ensures.items
    ∙ ap (λ (ws : List Want). ws ++ record { id = c.loop-id.id; kind = x.request.kind; lun = x.request.place.lun; plane = c.plane_of.result; block = x.request.place.block; page = x.request.place.page } ∷ []) before
    ∙ ap (λ p. wants_from g 0 (take c.loop-id.id items) ++ record { id = c.loop-id.id; kind = x.request.kind; lun = x.request.place.lun; plane = p; block = x.request.place.block; page = x.request.place.page } ∷ []) plane
    ∙ sym (one_more g items c.loop-id.id x at c.loop-id-test.true)
