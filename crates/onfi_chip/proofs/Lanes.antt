-- The LUNs of a simulated chip, and what a change of one leaves.
use Rattle.std.proofs.Common.{◌≡◌, ℕ, zero, suc, ◌+◌, ◌<◌, List, [], ◌∷◌, ◌++◌, length, get_or, replicate, Some, refl, sym, ap, subst, ◌∙◌, arith, add_assoc}
use Rattle.std.proofs.Math.ListN.{set}
use Rattle.std.specs.Prelude.{map, slice_get}
use Rattle.std.specs.List.{AllByRecursion as Each}
use Rattle.std.proofs.lemmas.List.{length-map, map-set}
use Rattle.std.proofs.lemmas.Option.{slice_get_within, slice_get-map, slice_get_read}
use Rattle.std.proofs.Math.Seq.{map-set_same}
use Rattle.std.specs.Option.{option_map}
use Rattle.onfi_addr.specs.declared.geometry.Geometry.{Geometry}
use Rattle.onfi_addr.specs.declared.place.Place.{Place}
use Rattle.onfi_timing.specs.declared.kind.Kind.{Kind}
use Rattle.onfi_timing.specs.declared.kind.Kind.TheVariants as kind
use Rattle.onfi_timing.specs.declared.spans.Spans.{Spans}
use Rattle.onfi_timing.specs.declared.timing.Timing.{Timing}
use Rattle.onfi_timing.specs.Kinds.{spans_of}
use Rattle.onfi_request.specs.declared.fault.Fault.{Fault}
use Rattle.onfi_request.specs.declared.request.Request.{Request}
use Rattle.onfi_request.specs.Range.{IsLengthFor}
use Rattle.onfi_die.specs.declared.prepared.Prepared.{Prepared}
use Rattle.onfi_die.specs.declared.prepared.Prepared.TheVariants.{Read, ReadSectors, Program, Erase}
use Rattle.onfi_die.specs.declared.shape.Shape.{Shape}
use Rattle.onfi_die.specs.Shapes.{Device, device_of, shape_of}
use Rattle.onfi_die.specs.Blocks.{Blocks, fresh_blocks, happen}
use Rattle.onfi_die.specs.Prepared.{kind_of, data_of, IsAnswerTo}
use Rattle.onfi_die.specs.Requests.{request_of}
use Rattle.onfi_die.specs.Store.{Stored, IsKept, blocks_of}
use Rattle.onfi_chip.specs.declared.closer.Closer.{Closer}
use Rattle.onfi_chip.specs.declared.closer.Closer.TheVariants.{More, Last}
use Rattle.onfi_chip.specs.declared.lane.Lane.{Lane}
use Rattle.onfi_chip.specs.declared.lane.Lane.TheVariants as lane
use Rattle.onfi_chip.specs.declared.post.Post.{Post}
use Rattle.onfi_chip.specs.Chip.{Chip, Lun, found_ready, luns_ready_by, no_failures, opened, ready_by, taken, posts_of, queued, happened}
use Rattle.onfi_chip.specs.Chip.Lun.{Idle, Commanding, Posting}
use Rattle.onfi_chip.specs.Calls.{command_of}
use Rattle.onfi_chip.specs.Hold.{hold}
use Rattle.onfi_chip.specs.Sim.{Sim, IsSim, IsLane, IsPost, IsOpenAt, lun_of, chip_of, added}
use Rattle.onfi_chip.proofs.GroupRun.{all_ready}

map_replicate : (n : ℕ) → map lun_of (replicate n lane.Idle) ≡ replicate n Idle
map_replicate zero = refl
map_replicate (suc n) = ap (λ ls. Idle ∷ ls) (map_replicate n)

open_below : (luns : List Lun) (i : ℕ) → IsOpenAt (slice_get luns i) → i < length luns
open_below [] i h = absurd h
open_below (y ∷ ys) zero h = omega arith
open_below (y ∷ ys) (suc i) h = let l = open_below ys i h in omega arith

-- a LUN that may take a command is there
pub lane_open : (lanes : List Lane) (luns : List Lun) (i j : ℕ) → map lun_of lanes ≡ luns → i ≡ j → IsOpenAt (slice_get luns j) → i < length lanes
lane_open lanes luns i j e k h =
    let l = open_below luns j h in
    let n : length luns ≡ length lanes = ap length (sym e) ∙ length-map lanes lun_of in
    omega (arith, l, n, k)

-- so is one that has posts left
pub lane_posts : (lanes : List Lane) (luns : List Lun) (i j : ℕ) (lun : Lun) → map lun_of lanes ≡ luns → i ≡ j → slice_get luns j ≡ Some lun → i < length lanes
lane_posts lanes luns i j lun e k h =
    let l = slice_get_within luns j lun h in
    let n : length luns ≡ length lanes = ap length (sym e) ∙ length-map lanes lun_of in
    omega (arith, l, n, k)

Each-set : {A : Type 0} (P : A → Type 0) (xs : List A) (i : ℕ) (x : A) → Each P xs → P x → Each P (set xs i x)
Each-set P [] i x h p = tt
Each-set P (y ∷ ys) zero x h p = (p, h.1)
Each-set P (y ∷ ys) (suc i) x h p = (h.0, Each-set P ys i x h.1 p)

Each-get : {A : Type 0} (P : A → Type 0) (xs : List A) (i : ℕ) (x : A) → Each P xs → i < length xs → x ≡ get_or xs i x → P x
Each-get P [] i x h l e = absurd (omega arith)
Each-get P (y ∷ ys) zero x h l e = subst P (sym e) h.0
Each-get P (y ∷ ys) (suc i) x h l e = Each-get P ys i x h.1 (omega arith) e

lane_still : (s t : Stored) (x : Lane) → t.device ≡ s.device → ((lun block : ℕ) → IsKept lun block s → IsKept lun block t) → IsLane s x → IsLane t x
lane_still s t lane.Idle d o h = tt
lane_still s t (lane.Commanding members wait) d o h = all_ready s t members.items d o h
lane_still s t (lane.Posting posts wait) d o h = subst (λ (e : Device). Each (IsPost e.shape) posts.items) (sym d) h

lanes_still : (s t : Stored) (xs : List Lane) → t.device ≡ s.device → ((lun block : ℕ) → IsKept lun block s → IsKept lun block t) → Each (IsLane s) xs → Each (IsLane t) xs
lanes_still s t [] d o h = tt
lanes_still s t (x ∷ xs) d o h = (lane_still s t x d o h.0, lanes_still s t xs d o h.1)

-- the fields stay sound where the store keeps more, and where a LUN changes
pub sim_still : (g : Geometry) (s t : Stored) (lanes : List Lane) → IsSim g s lanes → t.device ≡ s.device → ((lun block : ℕ) → IsKept lun block s → IsKept lun block t) → IsSim g t lanes
sim_still g s t lanes h d o = record {
  shape = ap (λ (e : Device). e.shape) d ∙ h.shape;
  lanes = lanes_still s t lanes d o h.lanes;
}

pub sim_set : (g : Geometry) (s t : Stored) (lanes : List Lane) (i : ℕ) (x : Lane) → IsSim g s lanes → t.device ≡ s.device → ((lun block : ℕ) → IsKept lun block s → IsKept lun block t) → IsLane t x → IsSim g t (set lanes i x)
sim_set g s t lanes i x h d o p = record {
  shape = ap (λ (e : Device). e.shape) d ∙ h.shape;
  lanes = Each-set (IsLane t) lanes i x (lanes_still s t lanes d o h.lanes) p;
}

pub lane_sound : (g : Geometry) (s : Stored) (lanes : List Lane) (i : ℕ) (x : Lane) → IsSim g s lanes → i < length lanes → x ≡ get_or lanes i x → IsLane s x
lane_sound g s lanes i x h l e = Each-get (IsLane s) lanes i x h.lanes l e

-- a chip by the parts that change
abbrev pub with_parts : Geometry → Timing → List Fault → Blocks → List Lun → Chip
with_parts g t faults blocks luns = record { geometry = g; timing = t; faults = faults; blocks = blocks; luns = luns; failures = no_failures }

abbrev pub view : Geometry → Timing → Stored → List Lane → Sim
view g t s lanes = record { geometry = g; timing = t; store = s; luns = map lun_of lanes }

same_parts : (g : Geometry) (t : Timing) (f f' : List Fault) (b b' : Blocks) (l l' : List Lun) → f ≡ f' → b ≡ b' → l ≡ l' → with_parts g t f b l ≡ with_parts g t f' b' l'
same_parts g t f f' b b' l l' ef eb el =
    ap (λ x. with_parts g t x b l) ef ∙ ap (λ (x : Blocks). with_parts g t f' x l) eb ∙ ap (λ x. with_parts g t f' b' x) el

-- the same chip where the LUN and the blocks are the same
pub chip_same : (g : Geometry) (t : Timing) (s u : Stored) (lanes : List Lane) (now : Sim) → view g t s lanes ≡ now → u.device ≡ s.device → blocks_of u ≡ blocks_of s → chip_of (view g t u lanes) ≡ chip_of now
chip_same g t s u lanes now v d b =
    same_parts g t u.device.faults s.device.faults (blocks_of u) (blocks_of s) (map lun_of lanes) (map lun_of lanes) (ap (λ (e : Device). e.faults) d) b refl ∙ ap chip_of v

pub chip_back : (g : Geometry) (t : Timing) (s u : Stored) (lanes : List Lane) (i : ℕ) (x z : Lane) (now : Sim) → view g t s lanes ≡ now → x ≡ get_or lanes i x → lun_of z ≡ lun_of x → u ≡ s → chip_of (view g t u (set lanes i z)) ≡ chip_of now
chip_back g t s u lanes i x z now v e h q =
    same_parts g t u.device.faults s.device.faults (blocks_of u) (blocks_of s) (map lun_of (set lanes i z)) (map lun_of lanes) (ap (λ (y : Stored). y.device.faults) q) (ap blocks_of q) (map-set_same lun_of lanes i z x (h ∙ ap lun_of e)) ∙ ap chip_of v

-- one LUN has changed
lun_set : (lanes : List Lane) (i j : ℕ) (z : Lane) (to : Lun) → i ≡ j → lun_of z ≡ to → map lun_of (set lanes i z) ≡ set (map lun_of lanes) j to
lun_set lanes i j z to k h = map-set lun_of lanes i z ∙ ap (λ w. set (map lun_of lanes) i w) h ∙ ap (λ m. set (map lun_of lanes) m to) k

lun_at : (lanes : List Lane) (i j : ℕ) (x : Lane) → i < length lanes → x ≡ get_or lanes i x → i ≡ j → slice_get (map lun_of lanes) j ≡ Some (lun_of x)
lun_at lanes i j x l e k = subst (λ m. slice_get (map lun_of lanes) m ≡ Some (lun_of x)) k (slice_get-map lun_of lanes i ∙ ap (option_map lun_of) (slice_get_read lanes (length lanes) i x refl l e))

pub more_added :
    (g : Geometry) (t : Timing) (s : Stored) (lanes : List Lane) (now : Sim) (i : ℕ) (x z : Lane) (r : Request) (ready : ℕ) (closer : Closer) →
    view g t s lanes ≡ now → i < length lanes → x ≡ get_or lanes i x → i ≡ r.place.lun → closer ≡ More →
    lun_of z ≡ Commanding (taken (Some (lun_of x)) ++ r ∷ []) ready →
    chip_of (view g t s (set lanes i z)) ≡ added closer (chip_of now) r ready
more_added g t s lanes now i x z r ready closer v l e k c h =
    let here = lun_at lanes i r.place.lun x l e k in
    let to : lun_of z ≡ Commanding (taken (slice_get (map lun_of lanes) r.place.lun) ++ r ∷ []) ready = h ∙ ap (λ o. Commanding (taken o ++ r ∷ []) ready) (sym here) in
    let core : chip_of (view g t s (set lanes i z)) ≡ queued (chip_of (view g t s lanes)) r ready =
    ap (λ ls. with_parts g t s.device.faults (blocks_of s) ls) (lun_set lanes i r.place.lun z _ k to) in
    subst (λ (y : Sim). chip_of (view g t s (set lanes i z)) ≡ added closer (chip_of y) r ready) v
    (subst (λ (y : Closer). chip_of (view g t s (set lanes i z)) ≡ added y (chip_of (view g t s lanes)) r ready) (sym c) core)

pub last_added :
    (g : Geometry) (t : Timing) (s u : Stored) (lanes : List Lane) (now : Sim) (i : ℕ) (x z : Lane) (r : Request) (ready : ℕ) (closer : Closer) →
    view g t s lanes ≡ now → i < length lanes → x ≡ get_or lanes i x → i ≡ r.place.lun → closer ≡ Last → s.device.shape ≡ shape_of g →
    u.device ≡ s.device →
    blocks_of u ≡ happen s.device (taken (Some (lun_of x)) ++ r ∷ []) (blocks_of s) →
    lun_of z ≡ Posting (posts_of s.device (taken (Some (lun_of x)) ++ r ∷ []) (blocks_of s)) ready →
    chip_of (view g t u (set lanes i z)) ≡ added closer (chip_of now) r ready
last_added g t s u lanes now i x z r ready closer v l e k c sh d b h =
    let here = lun_at lanes i r.place.lun x l e k in
    let dev : s.device ≡ device_of g s.device.faults = ap (λ (q : Shape). record { shape = q; faults = s.device.faults }) sh in
    let to : lun_of z ≡ Posting (posts_of (device_of g s.device.faults) (taken (slice_get (map lun_of lanes) r.place.lun) ++ r ∷ []) (blocks_of s)) ready =
    h ∙ ap (λ o. Posting (posts_of s.device (taken o ++ r ∷ []) (blocks_of s)) ready) (sym here)
    ∙ ap (λ (q : Device). Posting (posts_of q (taken (slice_get (map lun_of lanes) r.place.lun) ++ r ∷ []) (blocks_of s)) ready) dev in
    let blocks : blocks_of u ≡ happen (device_of g s.device.faults) (taken (slice_get (map lun_of lanes) r.place.lun) ++ r ∷ []) (blocks_of s) =
    b ∙ ap (λ o. happen s.device (taken o ++ r ∷ []) (blocks_of s)) (sym here)
    ∙ ap (λ (q : Device). happen q (taken (slice_get (map lun_of lanes) r.place.lun) ++ r ∷ []) (blocks_of s)) dev in
    let core : chip_of (view g t u (set lanes i z)) ≡ happened (chip_of (view g t s lanes)) r ready =
    same_parts g t u.device.faults s.device.faults (blocks_of u) _ _ _ (ap (λ (q : Device). q.faults) d) blocks (lun_set lanes i r.place.lun z _ k to) in
    subst (λ (y : Sim). chip_of (view g t u (set lanes i z)) ≡ added closer (chip_of y) r ready) v
    (subst (λ (y : Closer). chip_of (view g t u (set lanes i z)) ≡ added y (chip_of (view g t s lanes)) r ready) (sym c) core)

-- the LUN that is found is the one that is given
pub lun_found :
    (g : Geometry) (t : Timing) (s : Stored) (lanes : List Lane) (now : Sim) (i j : ℕ) (x : Lane) (lun : Lun) →
    view g t s lanes ≡ now → i < length lanes → x ≡ get_or lanes i x → i ≡ j → slice_get now.luns j ≡ Some lun → lun_of x ≡ lun
lun_found g t s lanes now i j x lun v l e k h =
    let here = lun_at lanes i j x l e k in
    let there : slice_get (map lun_of lanes) j ≡ Some lun = subst (λ (y : Sim). slice_get y.luns j ≡ Some lun) (sym v) h in
    cc

pub lun_changed :
    (g : Geometry) (t : Timing) (s : Stored) (lanes : List Lane) (now : Sim) (i j : ℕ) (z : Lane) (to : Lun) →
    view g t s lanes ≡ now → i ≡ j → lun_of z ≡ to →
    chip_of (view g t s (set lanes i z)) ≡ record (chip_of now) { luns = set now.luns j to }
lun_changed g t s lanes now i j z to v k h =
    subst (λ (y : Sim). chip_of (view g t s (set lanes i z)) ≡ record (chip_of y) { luns = set y.luns j to }) v
    (ap (λ ls. with_parts g t s.device.faults (blocks_of s) ls) (lun_set lanes i j z to k h))

-- a LUN was found ready, and nothing else has changed
pub lun_ready :
    (g : Geometry) (t : Timing) (s : Stored) (lanes : List Lane) (now : Sim) (i j : ℕ) (x z : Lane) (moment : ℕ) →
    view g t s lanes ≡ now → i < length lanes → x ≡ get_or lanes i x → i ≡ j → lun_of z ≡ ready_by moment (lun_of x) →
    chip_of (view g t s (set lanes i z)) ≡ found_ready (chip_of now) j moment
lun_ready g t s lanes now i j x z moment v l e k h =
    let here = lun_at lanes i j x l e k in
    subst (λ (y : Sim). chip_of (view g t s (set lanes i z)) ≡ found_ready (chip_of y) j moment) v
    (ap (λ ls. with_parts g t s.device.faults (blocks_of s) ls)
    (lun_set lanes i j z (ready_by moment (lun_of x)) k h ∙ ap (λ o. luns_ready_by moment j o (map lun_of lanes)) (sym here)))

pub form_of :
    (g : Geometry) (t : Timing) (s : Stored) (lanes : List Lane) (now : Sim) (post : Post) → view g t s lanes ≡ now → IsSim g s lanes →
    IsPost s.device.shape post → IsAnswerTo (shape_of now.geometry) post.kind post.answer
form_of g t s lanes now post v h p =
    subst (λ (y : Sim). IsAnswerTo (shape_of y.geometry) post.kind post.answer) v
    (subst (λ (q : Shape). IsAnswerTo q post.kind post.answer) h.shape p)

pub commanded_is :
    (closer : Closer) (chip chip' : Chip) (r r' : Request) (now length : ℕ) (spans : Spans) → chip' ≡ chip → r' ≡ r → spans ≡ spans_of chip.timing r.kind → length ≡ hold closer spans →
    added closer chip' r' (now + length) ≡ command_of closer chip r now
commanded_is More chip chip' r r' now length spans ec er es el =
    let sum : now + length ≡ now + (spans_of chip.timing r.kind).cmd + (spans_of chip.timing r.kind).gap =
    ap (λ m. now + m) (el ∙ ap (λ (q : Spans). q.cmd + q.gap) es) ∙ sym (add_assoc now _ _) in
    ap (λ (y : Chip). queued y r' (now + length)) ec ∙ ap (λ (y : Request). queued chip y (now + length)) er ∙ ap (λ m. queued chip r m) sum
commanded_is Last chip chip' r r' now length spans ec er es el =
    let sum : now + length ≡ now + (spans_of chip.timing r.kind).cmd + (spans_of chip.timing r.kind).array =
    ap (λ m. now + m) (el ∙ ap (λ (q : Spans). q.cmd + q.array) es) ∙ sym (add_assoc now _ _) in
    ap (λ (y : Chip). happened y r' (now + length)) ec ∙ ap (λ (y : Request). happened chip y (now + length)) er ∙ ap (λ m. happened chip r m) sum

no_bytes : (bytes : List ℕ) → length bytes ≡ 0 → [] ≡ bytes
no_bytes [] h = refl
no_bytes (b ∷ bs) h = absurd (omega (arith, h))

-- what was prepared is the request
pub same_request :
    (g : Geometry) (k : Kind) (p : Place) (bytes : List ℕ) (o : Prepared) → IsLengthFor g k (length bytes) → kind_of o ≡ k → (k ≡ kind.Program → data_of o ≡ bytes) →
    request_of p o ≡ record { kind = k; place = p; bytes = bytes }
same_request g k p bytes (Read room) f e h =
    let f' : length bytes ≡ 0 = subst (λ q. IsLengthFor g q (length bytes)) (sym e) f in
    ap (λ q. record { kind = q; place = p; bytes = [] }) e ∙ ap (λ bs. record { kind = k; place = p; bytes = bs }) (no_bytes bytes f')
same_request g k p bytes (ReadSectors first count room) f e h =
    let f' : length bytes ≡ 0 = subst (λ q. IsLengthFor g q (length bytes)) (sym e) f in
    ap (λ q. record { kind = q; place = p; bytes = [] }) e ∙ ap (λ bs. record { kind = k; place = p; bytes = bs }) (no_bytes bytes f')
same_request g k p bytes (Program content) f e h =
    ap (λ q. record { kind = q; place = p; bytes = content }) e ∙ ap (λ bs. record { kind = k; place = p; bytes = bs }) (h (sym e))
same_request g k p bytes Erase f e h =
    let f' : length bytes ≡ 0 = subst (λ q. IsLengthFor g q (length bytes)) (sym e) f in
    ap (λ q. record { kind = q; place = p; bytes = [] }) e ∙ ap (λ bs. record { kind = k; place = p; bytes = bs }) (no_bytes bytes f')

idle_luns : (lanes : List Lane) (n : ℕ) → lanes ≡ replicate n lane.Idle → map lun_of lanes ≡ replicate n Idle
idle_luns lanes n e = ap (map lun_of) e ∙ map_replicate n

pub opened_is :
    (g : Geometry) (t : Timing) (s : Stored) (lanes : List Lane) (faults : List Fault) → s.device ≡ device_of g faults → blocks_of s ≡ fresh_blocks (device_of g faults) →
    lanes ≡ replicate g.lun_count lane.Idle → chip_of (view g t s lanes) ≡ opened g t faults no_failures
opened_is g t s lanes faults d b l =
    same_parts g t s.device.faults faults (blocks_of s) _ (map lun_of lanes) (replicate g.lun_count Idle) (ap (λ (e : Device). e.faults) d) b (idle_luns lanes g.lun_count l)
