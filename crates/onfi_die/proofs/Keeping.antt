-- Blocks that a map keeps, and what a change of one leaves.
use Rattle.std.proofs.Common.{◌≡◌, ◌≢◌, ℕ, zero, suc, Bool, true, false, inl, inr, Option, None, Some, List, replicate, refl, sym, ap, subst, ◌∙◌, arith}
use Rattle.std.proofs.Math.Path.{fun_ext}
use Rattle.std.specs.Prelude.{◌==◌, ◌&&◌, if◌then◌else◌, cond, IfSome, IsSome, slice_index_or}
use Rattle.std.specs.Option.{is_some, option_map, unwrap_or}
use Rattle.std.specs.HashMap.{HashMap, UpdatesBy}
use Rattle.std.specs.Map.{lookup}
use Rattle.std.proofs.lemmas.Bool.{cases_Bool}
use Rattle.std.proofs.lemmas.Bool.Decides.{nat_tests}
use Rattle.onfi_addr.specs.declared.place.Place.{Place}
use Rattle.onfi_timing.specs.declared.kind.Kind.{Kind}
use Rattle.onfi_timing.specs.declared.kind.Kind.TheVariants as kind
use Rattle.onfi_timing.specs.declared.operation.Operation.TheVariants as operation
use Rattle.onfi_timing.specs.Kinds.{operation_of}
use Rattle.onfi_request.specs.declared.answer.Answer.{Answer}
use Rattle.onfi_request.specs.declared.answer.Answer.TheVariants as answer
use Rattle.onfi_request.specs.declared.fault.Fault.{Fault}
use Rattle.onfi_request.specs.declared.request.Request.{Request}
use Rattle.onfi_die.specs.declared.kept.Kept.{Kept}
use Rattle.onfi_die.specs.declared.page.Page.TheVariants.{Erased}
use Rattle.onfi_die.specs.declared.prepared.Prepared.{Prepared}
use Rattle.onfi_die.specs.declared.prepared.Prepared.TheVariants.{Read, ReadSectors, Program, Erase}
use Rattle.onfi_die.specs.declared.shape.Shape.{Shape}
use Rattle.onfi_die.specs.Shapes.{Device}
use Rattle.onfi_die.specs.Block.{put_out, shown}
use Rattle.onfi_die.specs.Contents.{Contents, fresh, contents_after, answer_of}
use Rattle.onfi_die.specs.Blocks.{Blocks, is_on, block_of, changed}
use Rattle.onfi_die.specs.Prepared.{kind_of}
use Rattle.onfi_die.specs.Store.{Stored, Named, contents_of, is_same, kept_of, blocks_of, IsKept, HaveShape}
use Rattle.onfi_die.proofs.Apart.{is_on_true}

-- the map has the block's name as its key
same_on : (lun block : ℕ) (r : Request) → is_same (r.place.lun, r.place.block) (lun, block) ≡ is_on lun block r
same_on lun block r = and_if (r.place.lun == lun) (r.place.block == block)
  where
    and_if : (a b : Bool) → a && b ≡ (if a then b else false)
    and_if true b = refl
    and_if false b = refl

-- the contents that are kept after a value is put at a key
pub put_kept : {S : Type 0} (m n : HashMap (ℕ × ℕ) Kept S) (key : ℕ × ℕ) (w : Kept) → UpdatesBy is_same (is_same key) m n (Some w) →
    (lun block : ℕ) → kept_of n.entries lun block ≡ (if is_same key (lun, block) then Some (contents_of w) else kept_of m.entries lun block)
put_kept m n key w u lun block =
    elim (cases_Bool (is_same key (lun, block))) [
      | inl t ↦ let e : lookup (is_same (lun, block)) n.entries ≡ Some w = u.0 (lun, block) ∙ ap (λ (b : Bool). cond b (Some w) (lookup (is_same (lun, block)) m.entries)) t in rw t (ap (option_map contents_of) e)
      | inr f ↦ let e : lookup (is_same (lun, block)) n.entries ≡ lookup (is_same (lun, block)) m.entries = u.0 (lun, block) ∙ ap (λ (b : Bool). cond b (Some w) (lookup (is_same (lun, block)) m.entries)) f in rw f (ap (option_map contents_of) e)
    ]

-- so the block changes as its contents do, and no other
pub put_changed : (device : Device) (r : Request) (old new : List Named) (c : Contents) →
    ((lun block : ℕ) → kept_of new lun block ≡ (if is_same (r.place.lun, r.place.block) (lun, block) then Some c else kept_of old lun block)) →
    c ≡ contents_after device r (unwrap_or (kept_of old r.place.lun r.place.block) (fresh device)) →
    blocks_of (record { device = device; kept = new }) ≡ changed device r (blocks_of (record { device = device; kept = old }))
put_changed device r old new c n e =
    fun_ext (λ lun. fun_ext (λ block.
    elim (cases_Bool (is_on lun block r)) [
      | inl t ↦
          let v = is_on_true lun block r t in
          let here : unwrap_or (kept_of new lun block) (fresh device) ≡ c = ap (λ o. unwrap_or o (fresh device)) (n lun block) ∙ ap (λ (b : Bool). unwrap_or (if b then Some c else kept_of old lun block) (fresh device)) (same_on lun block r ∙ t) in
          let there : c ≡ contents_after device r (unwrap_or (kept_of old lun block) (fresh device)) =
          e ∙ ap (λ l. contents_after device r (unwrap_or (kept_of old l r.place.block) (fresh device))) v.0 ∙ ap (λ b. contents_after device r (unwrap_or (kept_of old lun b) (fresh device))) v.1 in
          rw t (here ∙ there)
      | inr f ↦ rw f (ap (λ o. unwrap_or o (fresh device)) (n lun block) ∙ ap (λ (b : Bool). unwrap_or (if b then Some c else kept_of old lun block) (fresh device)) (same_on lun block r ∙ f))
    ]))

-- a read leaves the contents
read_leaves : (device : Device) (k : Kind) (p : Place) (bytes : List ℕ) (c : Contents) → operation_of k ≡ operation.Read →
    contents_after device (record { kind = k; place = p; bytes = bytes }) c ≡ c
unfolding contents_after
read_leaves device kind.Read p bytes c e = refl
read_leaves device (kind.ReadSectors first count) p bytes c e = refl
read_leaves device kind.Program p bytes c e = absurd cc
read_leaves device kind.Erase p bytes c e = absurd cc

-- so a read changes nothing
pub read_changes_nothing : (device : Device) (r : Request) (blocks : Blocks) → operation_of r.kind ≡ operation.Read → changed device r blocks ≡ blocks
read_changes_nothing device r blocks k =
    fun_ext (λ lun. fun_ext (λ block.
    elim (cases_Bool (is_on lun block r)) [
      | inl t ↦ rw t (read_leaves device r.kind r.place r.bytes (blocks lun block) k)
      | inr f ↦ rw f refl
    ]))

erased_at : (n i : ℕ) → slice_index_or (replicate n Erased) i Erased ≡ Erased
erased_at zero i = refl
erased_at (suc n) zero = refl
erased_at (suc n) (suc i) = erased_at n i

read_gives : (device : Device) (k : Kind) (p : Place) (bytes : List ℕ) → operation_of k ≡ operation.Read →
    answer_of device (record { kind = k; place = p; bytes = bytes }) (fresh device) ≡ answer.Read (put_out device.shape k (shown device.shape.bytes Erased))
unfolding answer_of
read_gives device kind.Read p bytes e = let f = erased_at device.shape.pages p.page in rw f refl
read_gives device (kind.ReadSectors first count) p bytes e = let f = erased_at device.shape.pages p.page in rw f refl
read_gives device kind.Program p bytes e = absurd cc
read_gives device kind.Erase p bytes e = absurd cc

-- and of a block that isn't kept it gives erased bytes
pub read_of_none : (device : Device) (r : Request) → operation_of r.kind ≡ operation.Read → answer_of device r (fresh device) ≡ answer.Read (put_out device.shape r.kind (shown device.shape.bytes Erased))
read_of_none device r k = read_gives device r.kind r.place r.bytes k

same_true : (a b : ℕ × ℕ) → is_same a b ≡ true → a ≡ b
same_true (i, j) (k, l) h =
    let e : i ≡ k = grind (arith, nat_tests) in
    let f : j ≡ l = grind (arith, nat_tests) in
    ap (λ (x : ℕ). (x, j)) e ∙ ap (λ (x : ℕ). (k, x)) f

some_map : {A B : Type 0} (f : A → B) (o : Option A) (x : A) → o ≡ Some x → IsSome (option_map f o)
some_map f o x e = subst (λ z. IsSome (option_map f z)) (sym e) refl

-- what is kept stays so, and has the device's shape
pub put_still : {S : Type 0} (m n : HashMap (ℕ × ℕ) Kept S) (key : ℕ × ℕ) (w : Kept) → UpdatesBy is_same (is_same key) m n (Some w) →
    (lun block : ℕ) → IsSome (kept_of m.entries lun block) → IsSome (kept_of n.entries lun block)
put_still m n key w u lun block h =
    let e = put_kept m n key w u lun block in
    elim (cases_Bool (is_same key (lun, block))) [
      | inl t ↦ subst IsSome (sym (e ∙ ap (λ (b : Bool). if b then Some (contents_of w) else kept_of m.entries lun block) t)) refl
      | inr f ↦ subst IsSome (sym (e ∙ ap (λ (b : Bool). if b then Some (contents_of w) else kept_of m.entries lun block) f)) h
    ]

pub put_shape : {S : Type 0} (shape : Shape) (m n : HashMap (ℕ × ℕ) Kept S) (key : ℕ × ℕ) (w : Kept) → UpdatesBy is_same (is_same key) m n (Some w) →
    HaveShape shape m.entries → w.block.shape ≡ shape → HaveShape shape n.entries
put_shape shape m n key w u h s lun block =
    let e : lookup (is_same (lun, block)) n.entries ≡ cond (is_same key (lun, block)) (Some w) (lookup (is_same (lun, block)) m.entries) = u.0 (lun, block) in
    elim (cases_Bool (is_same key (lun, block))) [
      | inl t ↦ subst (λ o. IfSome o (λ (k : Kept). k.block.shape ≡ shape)) (sym (e ∙ ap (λ (b : Bool). cond b (Some w) (lookup (is_same (lun, block)) m.entries)) t)) s
      | inr f ↦ subst (λ o. IfSome o (λ (k : Kept). k.block.shape ≡ shape)) (sym (e ∙ ap (λ (b : Bool). cond b (Some w) (lookup (is_same (lun, block)) m.entries)) f)) (h lun block)
    ]

-- a fresh block that wasn't kept changes nothing
none_of : {A : Type 0} (o : Option A) → is_some o ≡ false → o ≡ None
none_of None h = refl
none_of (Some x) h = cc

pub put_fresh : {S : Type 0} (device : Device) (m n : HashMap (ℕ × ℕ) Kept S) (key : ℕ × ℕ) (w : Kept) → UpdatesBy is_same (is_same key) m n (Some w) →
    is_some (lookup (is_same key) m.entries) ≡ false → contents_of w ≡ fresh device →
    blocks_of (record { device = device; kept = n.entries }) ≡ blocks_of (record { device = device; kept = m.entries })
put_fresh device m n key w u a o =
    fun_ext (λ lun. fun_ext (λ block.
    let e = put_kept m n key w u lun block in
    elim (cases_Bool (is_same key (lun, block))) [
      | inl t ↦
          let here : unwrap_or (kept_of n.entries lun block) (fresh device) ≡ fresh device =
          ap (λ o. unwrap_or o (fresh device)) (e ∙ ap (λ (b : Bool). if b then Some (contents_of w) else kept_of m.entries lun block) t) ∙ o in
          let none : lookup (is_same (lun, block)) m.entries ≡ None = none_of _ (subst (λ q. is_some (lookup (is_same q) m.entries) ≡ false) (same_true key (lun, block) t) a) in
          here ∙ sym (ap (λ o. unwrap_or (option_map contents_of o) (fresh device)) none)
      | inr f ↦ ap (λ o. unwrap_or o (fresh device)) (e ∙ ap (λ (b : Bool). if b then Some (contents_of w) else kept_of m.entries lun block) f)
    ]))

-- a block that is found
pub shape_found : (shape : Shape) (kept : List Named) (key : ℕ × ℕ) (x : Kept) → HaveShape shape kept → Some x ≡ lookup (is_same key) kept → x.block.shape ≡ shape
shape_found shape kept key x h e = subst (λ o. IfSome o (λ (k : Kept). k.block.shape ≡ shape)) (sym e) (h key.0 key.1)

abbrev pub stored : Shape → List Fault → List Named → Stored
stored shape faults kept = record { device = record { shape = shape; faults = faults }; kept = kept }

pub blocks_ran : {S : Type 0} (shape : Shape) (faults seen : List Fault) (s : Stored) (m n : HashMap (ℕ × ℕ) Kept S) (r : Request) (key : ℕ × ℕ) (x w : Kept) →
    stored shape faults m.entries ≡ s → key ≡ (r.place.lun, r.place.block) → HaveShape shape m.entries → Some x ≡ lookup (is_same key) m.entries → seen ≡ faults →
    UpdatesBy is_same (is_same key) m n (Some w) → contents_of w ≡ contents_after (record { shape = x.block.shape; faults = seen }) r (contents_of x) →
    blocks_of (stored shape faults n.entries) ≡ changed s.device r (blocks_of s)
blocks_ran shape faults seen s m n r key x w v k h e f u c =
    let device : Device = record { shape = shape; faults = faults } in
    let e' : Some x ≡ lookup (is_same (r.place.lun, r.place.block)) m.entries = e ∙ ap (λ q. lookup (is_same q) m.entries) k in
    let before : contents_of x ≡ unwrap_or (kept_of m.entries r.place.lun r.place.block) (fresh device) = ap (λ o. unwrap_or (option_map contents_of o) (fresh device)) e' in
    let c' : contents_of w ≡ contents_after device r (contents_of x) =
    subst (λ fs. contents_of w ≡ contents_after (record { shape = shape; faults = fs }) r (contents_of x)) f
    (subst (λ sh. contents_of w ≡ contents_after (record { shape = sh; faults = seen }) r (contents_of x)) (shape_found shape m.entries key x h e) c) in
    let put : (lun block : ℕ) → kept_of n.entries lun block ≡ (if is_same (r.place.lun, r.place.block) (lun, block) then Some (contents_of w) else kept_of m.entries lun block) =
    λ lun block. put_kept m n key w u lun block ∙ ap (λ (q : ℕ × ℕ). if is_same q (lun, block) then Some (contents_of w) else kept_of m.entries lun block) k in
    put_changed device r m.entries n.entries (contents_of w) put (c' ∙ ap (contents_after device r) before)
    ∙ ap (λ (z : Stored). changed z.device r (blocks_of z)) v

pub answer_ran : (shape : Shape) (faults seen : List Fault) (s : Stored) (kept : List Named) (r : Request) (key : ℕ × ℕ) (x : Kept) (answer : Answer) →
    stored shape faults kept ≡ s → key ≡ (r.place.lun, r.place.block) → HaveShape shape kept → Some x ≡ lookup (is_same key) kept → seen ≡ faults →
    answer ≡ answer_of (record { shape = x.block.shape; faults = seen }) r (contents_of x) → answer ≡ answer_of s.device r (block_of r (blocks_of s))
answer_ran shape faults seen s kept r key x answer v k h e f c =
    let device : Device = record { shape = shape; faults = faults } in
    let e' : Some x ≡ lookup (is_same (r.place.lun, r.place.block)) kept = e ∙ ap (λ q. lookup (is_same q) kept) k in
    let before : contents_of x ≡ unwrap_or (kept_of kept r.place.lun r.place.block) (fresh device) = ap (λ o. unwrap_or (option_map contents_of o) (fresh device)) e' in
    subst (λ (z : Stored). answer ≡ answer_of z.device r (block_of r (blocks_of z))) v
    (subst (λ (z : Contents). answer ≡ answer_of device r z) before
    (subst (λ fs. answer ≡ answer_of (record { shape = shape; faults = fs }) r (contents_of x)) f
    (subst (λ sh. answer ≡ answer_of (record { shape = sh; faults = seen }) r (contents_of x)) (shape_found shape kept key x h e) c)))

-- a change of a block that is kept keeps no more
pub put_no_more : {S : Type 0} (m n : HashMap (ℕ × ℕ) Kept S) (key : ℕ × ℕ) (x w : Kept) → Some x ≡ lookup (is_same key) m.entries → UpdatesBy is_same (is_same key) m n (Some w) →
    (lun block : ℕ) → IsSome (kept_of n.entries lun block) → IsSome (kept_of m.entries lun block)
put_no_more m n key x w e u lun block h =
    elim (cases_Bool (is_same key (lun, block))) [
      | inl t ↦ some_map contents_of _ x (sym (e ∙ ap (λ q. lookup (is_same q) m.entries) (same_true key (lun, block) t)))
      | inr f ↦ subst IsSome (put_kept m n key w u lun block ∙ ap (λ (b : Bool). if b then Some (contents_of w) else kept_of m.entries lun block) f) h
    ]

no_some : {A : Type 0} (o : Option A) → o ≡ None → IsSome o → ⊥
no_some None e h = cc
no_some (Some x) e h = cc

-- a block that isn't found isn't kept
pub not_kept : (s : Stored) (kept : List Named) (lun block : ℕ) (key : ℕ × ℕ) → s.kept ≡ kept → key ≡ (lun, block) → None ≡ lookup (is_same key) kept → kept_of s.kept lun block ≡ None
not_kept s kept lun block key v k e = ap (λ es. kept_of es lun block) v ∙ ap (λ q. option_map contents_of (lookup (is_same q) kept)) (sym k) ∙ ap (option_map contents_of) (sym e)

is_read : (o : Prepared) → (operation_of (kind_of o) ≢ operation.Read → ⊥) → operation_of (kind_of o) ≡ operation.Read
is_read (Read room) h = refl
is_read (ReadSectors first count room) h = refl
is_read (Program content) h = absurd (h (λ e. program_no_read e))
  where
    program_no_read : operation.Program ≡ operation.Read → ⊥
    program_no_read e = cc
is_read Erase h = absurd (h (λ e. erase_no_read e))
  where
    erase_no_read : operation.Erase ≡ operation.Read → ⊥
    erase_no_read e = cc

-- so only a read can be run on it
pub read_if_none : (o : Prepared) (s : Stored) (kept : List Named) (lun block : ℕ) (key : ℕ × ℕ) → s.kept ≡ kept → key ≡ (lun, block) → None ≡ lookup (is_same key) kept → (operation_of (kind_of o) ≢ operation.Read → IsKept lun block s) → operation_of (kind_of o) ≡ operation.Read
read_if_none o s kept lun block key v k e h = is_read o (λ n. no_some _ (not_kept s kept lun block key v k e) (h n))
