-- A bus phase keeps the chip and the sequencer's half in agreement, and its reply is rightful.
use Rattle.std.proofs.Common.{◌≡◌, ◌≢◌, ℕ, ◌+◌, ◌*◌, ◌-◌, ◌<◌, ◌≤◌, inl, inr, true, false, List, [], ◌∷◌, ◌++◌, length, Some, take, drop, refl, sym, ap, ◌∙◌, subst, append-nil, append_assoc, arith}
use Rattle.std.specs.Prelude.{slice_get, slice_set, map, ◌==◌}
use Rattle.std.specs.List.{AllByRecursion as All}
use Rattle.std.proofs.lemmas.Bool.{lt-ltb, le-ltb, cases_lt, eq-eqb, ne_eqb}
use Rattle.std.proofs.lemmas.List.{drop_all, map-append, take_all}
use Rattle.std.proofs.lemmas.Option.{get_or_from_slice_get}
use Rattle.onfi_timing.specs.Kinds.{operation_of, spans_of}
use Rattle.onfi_timing.specs.Phases.{phase_length, wait_before}
use Rattle.onfi_timing.specs.Sectors.{IsAlike}
use Rattle.onfi_timing.specs.declared.spans.Spans.{Spans}
use Rattle.onfi_timing.specs.declared.timing.Timing.{Timing}
use Rattle.onfi_timing.proofs.Shared.{one_operation}
use Rattle.onfi_request.specs.declared.answer.Answer.{Answer}
use Rattle.onfi_request.specs.declared.reply.Reply.{Reply}
use Rattle.onfi_request.specs.declared.request.Item.{Item}
use Rattle.onfi_request.specs.declared.want.Want.{Want}
use Rattle.onfi_group.specs.Group.{group_operation, group_spans, kind_of, lun_of}
use Rattle.onfi_group.specs.Words.{Has}
use Rattle.onfi_group.proofs.PhaseLengths.{member_post}
use Rattle.onfi_problem.specs.Moves.{lun_after}
use Rattle.onfi_problem.specs.Problem.{Problem}
use Rattle.onfi_problem.specs.declared.lun_state.LunState.{LunState}
use Rattle.onfi_problem.specs.declared.lun_state.LunState.TheVariants.{Free, Running}
use Rattle.onfi_problem.proofs.LunAfter.{lun_after_running, lun_after_free}
use Rattle.onfi_problem.proofs.Perm.{All-has}
use Rattle.onfi_problem.proofs.Places.{get_set_same, get_set_other, same_place, get_within, within_get}
use Rattle.onfi_schedule.specs.Schedule.{Schedule}
use Rattle.onfi_die.specs.Answers.{answer_at}
use Rattle.onfi_die.specs.Blocks.{happen}
use Rattle.onfi_die.specs.Contents.{fresh, runs}
use Rattle.onfi_die.specs.Rightful.{IsRightful}
use Rattle.onfi_die.specs.Shapes.{device_of}
use Rattle.onfi_die.proofs.Apart.{apart}
use Rattle.onfi_chip.specs.Alone.{post_now}
use Rattle.onfi_chip.specs.Chip.{Chip, Lun, taken, device_in, spans_for, group_with, posts_of, after_post as posts_behind}
use Rattle.onfi_chip.specs.Chip.Lun.{Commanding, Posting}
use Rattle.onfi_chip.specs.declared.post.Post.{Post}
use Rattle.onfi_core.specs.Kept.{on, IsTaken, post_for, commanding, BlockAgrees, ChipAgrees, LunAgrees}
use Rattle.onfi_core.specs.State.{HalfState, wants_from, request_of, device_for}
use Rattle.onfi_core.specs.Steps.{unplanned, reply_to, Commands, Launches, Posts}
use Rattle.onfi_core.specs.declared.setup.Setup.{Setup}
use Rattle.onfi_core.proofs.Going.{Going, OnLun, ready_after, front, none_elsewhere}
use Rattle.onfi_core.proofs.Lists.{drop_next, get_has, head_same, tail_same, take_next}
use Rattle.onfi_core.proofs.Members.{item_of, place_lun, place_kind, runs-append, posts_alone, requests_of_on, members_apart, own_block, front_answer}

swap_front : {A : Type 0} (c w c' w' u : List A) → c ++ w ≡ c' ++ w' → c ++ (w ++ u) ≡ c' ++ (w' ++ u)
swap_front c w c' w' u e = sym (append_assoc c w u) ∙ ap (λ zs. zs ++ u) e ∙ append_assoc c' w' u

map_same : {A B : Type 0} (f g : A → B) (xs : List A) → ((x : A) → Has xs x → f x ≡ g x) → map f xs ≡ map g xs
map_same f g [] h = refl
map_same f g (x ∷ xs) h = let e = h x (inl refl) in let m = map_same f g xs (λ y k. h y (inr k)) in rw (e, m) refl

map_map : {A B C : Type 0} (f : B → C) (g : A → B) (xs : List A) → map f (map g xs) ≡ map (λ x. f (g x)) xs
map_map f g [] = refl
map_map f g (x ∷ xs) = ap (λ zs. f (g x) ∷ zs) (map_map f g xs)

module _ (s : Setup) (h : HalfState) (timing : h.now.timing ≡ s.timing) (chip : Chip) (agrees : ChipAgrees s h chip) (l : ℕ) (g : List Want) (n start : ℕ) (wants : List Want) (going : Going s h l g n wants) (lane : OnLun s h chip l g n) (now : Problem) (left : Schedule) (held : List Reply)
    (luns_are : now.luns ≡ slice_set h.now.luns l (lun_after h.now.timing g n (start + phase_length (group_spans h.now.timing g) (length g) n))) (wants_are : now.wants ≡ wants) where
  behind : LunState
  behind = lun_after h.now.timing g n (start + phase_length (group_spans h.now.timing g) (length g) n)

  abbrev pub later : HalfState
  later = record h { now = now; left = left; held = held }

  lun_here : slice_get now.luns l ≡ Some (lun_after h.now.timing g n (start + phase_length (group_spans h.now.timing g) (length g) n))
  lun_here = ap (λ ls. slice_get ls l) luns_are ∙ get_set_same h.now.luns l going.state _ going.there

  lun_other : (j : ℕ) → j ≢ l → slice_get now.luns j ≡ slice_get h.now.luns j
  lun_other j d = ap (λ ls. slice_get ls j) luns_are ∙ get_set_other h.now.luns l j _ d

  runs_here : n + 1 < 2 * length g → slice_get now.luns l ≡ Some (Running g (n + 1) (ready_after h.now g n start))
  runs_here lt = lun_here ∙ ap Some (lun_after_running h.now.timing g n _ lt)

  done_here : 2 * length g ≤ n + 1 → slice_get now.luns l ≡ Some (Free (start + phase_length (group_spans h.now.timing g) (length g) n))
  done_here le = lun_here ∙ ap Some (lun_after_free h.now.timing g n _ le)

  -- what is in commands after the phase
  commands_go_on : n + 1 < length g → commanding (slice_get now.luns l) ≡ front g n
  commands_go_on lt = let e = runs_here (omega arith) in rw (e, lt-ltb (n + 1) (length g) lt, lt-ltb n (length g) (omega arith)) refl

  commands_end : n + 1 ≡ length g → commanding (slice_get now.luns l) ≡ []
  commands_end q = let some = going.group.some in let e = runs_here (omega arith) in rw (e, le-ltb (n + 1) (length g) (omega arith)) refl

  commands_ended : length g ≤ n → commanding (slice_get now.luns l) ≡ front g n
  commands_ended le =
      elim (cases_lt (n + 1) (2 * length g)) [
        | inl lt ↦ (let e = runs_here lt in rw (e, le-ltb (n + 1) (length g) (omega arith), le-ltb n (length g) le) refl)
        | inr ge ↦ (let e = done_here ge in rw (e, le-ltb n (length g) le) refl)
      ]

  -- Blocks

  abbrev Order : List Want → ℕ → ℕ → Type 0
  Order ran j b = on j b (wants_from s.geometry 0 h.accepted) ≡ ran ++ (on j b (commanding (slice_get now.luns j)) ++ (on j b now.wants ++ on j b (unplanned s h)))

  order_other : (j b : ℕ) → j ≢ l → Order (agrees.blocks j b).ran j b
  order_other j b d =
      let old = agrees.blocks j b in
      let e = lun_other j d in
      let f = going.elsewhere j b d in
      rw (wants_are, e, ← f) old.order

  -- the wants of a block once the phase's group is begun
  lined_up : (b : ℕ) → on l b (wants_from s.geometry 0 h.accepted) ≡ (agrees.blocks l b).ran ++ (on l b (front g n) ++ (on l b wants ++ on l b (unplanned s h)))
  lined_up b =
      let old = agrees.blocks l b in
      old.order ∙ ap (λ zs. old.ran ++ zs) (swap_front (on l b (commanding (slice_get h.now.luns l))) (on l b h.now.wants) (on l b (front g n)) (on l b wants) (on l b (unplanned s h)) (going.here b))

  order_here : (b : ℕ) → commanding (slice_get now.luns l) ≡ front g n → Order (agrees.blocks l b).ran l b
  order_here b e = rw (wants_are, e) (lined_up b)

  -- where nothing happens on the blocks
  pub blocks_stay : (chip' : Chip) → (device_for s chip') ≡ (device_for s chip) → chip'.blocks ≡ chip.blocks → commanding (slice_get now.luns l) ≡ front g n → (j b : ℕ) → BlockAgrees s later chip' j b
  blocks_stay chip' d e c j b =
      let old = agrees.blocks j b in
      record {
        ran = old.ran;
        contents = rw (d, e) old.contents;
        order = elim (same_place j l) [
          | inl q ↦ subst (λ i. Order (agrees.blocks i b).ran i b) (sym q) (order_here b c)
          | inr q ↦ order_other j b q
        ];
      }

  front_is : n < length g → front g n ≡ g
  front_is lt = rw (lt-ltb n (length g) lt) refl

  lined_up_group : (b : ℕ) → n < length g → on l b (wants_from s.geometry 0 h.accepted) ≡ (agrees.blocks l b).ran ++ (on l b g ++ (on l b wants ++ on l b (unplanned s h)))
  lined_up_group b lt = subst (λ zs. on l b (wants_from s.geometry 0 h.accepted) ≡ (agrees.blocks l b).ran ++ (on l b zs ++ (on l b wants ++ on l b (unplanned s h)))) (front_is lt) (lined_up b)

  order_launched : (b : ℕ) → n + 1 ≡ length g → Order ((agrees.blocks l b).ran ++ on l b g) l b
  order_launched b q =
      let c = commands_end q in
      rw (c, wants_are) (lined_up_group b (omega arith) ∙ sym (append_assoc (agrees.blocks l b).ran (on l b g) (on l b wants ++ on l b (unplanned s h))))

  -- where the group's requests happen
  pub blocks_change : (chip' : Chip) → (device_for s chip') ≡ (device_for s chip) → chip'.blocks ≡ happen (device_for s chip) (map (request_of h.accepted) g) chip.blocks → n + 1 ≡ length g → (j b : ℕ) → BlockAgrees s later chip' j b
  blocks_change chip' d e q j b =
      let old = agrees.blocks j b in
      let own = apart.own (device_for s chip) (map (request_of h.accepted) g) chip.blocks j b in
      let r = requests_of_on s h j b g going.members in
      record {
        ran = old.ran ++ on j b g;
        contents = rw (d, e) (own ∙ ap (λ rs. runs (device_for s chip) rs (chip.blocks j b)) r ∙ ap (runs (device_for s chip) (map (request_of h.accepted) (on j b g))) old.contents ∙ sym (runs-append (device_for s chip) (map (request_of h.accepted) old.ran) (map (request_of h.accepted) (on j b g)) (fresh (device_for s chip))) ∙ ap (λ rs. runs (device_for s chip) rs (fresh (device_for s chip))) (sym (map-append (request_of h.accepted) old.ran (on j b g))));
        order = elim (same_place j l) [
          | inl i ↦ subst (λ i. Order ((agrees.blocks i b).ran ++ on i b g) i b) (sym i) (order_launched b q)
          | inr i ↦ (let z = none_elsewhere g l j b (subst (λ i. All (λ (m : Want). m.lun ≡ i) g) going.is_lun going.group.lun) i in rw (z, append-nil old.ran) (order_other j b i))
        ];
      }

  -- the posts that the chip makes at the last command are those of the members' places
  pub right_posts : n + 1 ≡ length g → posts_of (device_for s chip) (map (request_of h.accepted) g) chip.blocks ≡ map (post_for (device_for s chip) h.accepted) g
  right_posts q =
      posts_alone (device_for s chip) (map (request_of h.accepted) g) chip.blocks (members_apart s h g going.members going.group.planes)
      ∙ map_map (post_now (device_for s chip) chip.blocks) (request_of h.accepted) g
      ∙ map_same _ (post_for (device_for s chip) h.accepted) g (λ m k.
      let old = agrees.blocks m.lun m.block in
      let o = own_block s h g m going.members going.group.planes k in
      let at : l ≡ m.lun = sym going.is_lun ∙ sym (All-has (λ (v : Want). v.lun ≡ lun_of g) g m going.group.lun k) in
      let P : ℕ → Type 0 = λ i. on i m.block (wants_from s.geometry 0 h.accepted) ≡ (agrees.blocks i m.block).ran ++ (on i m.block g ++ (on i m.block wants ++ on i m.block (unplanned s h))) in
      let e : P m.lun = subst P at (lined_up_group m.block (omega arith)) in
      let a = front_answer s h (device_for s chip) chip.blocks m old.ran (o.0 ++ (on m.lun m.block wants ++ on m.lun m.block (unplanned s h))) (All-has (IsTaken s h.planned h.accepted) g m going.members k) old.contents
      (e ∙ ap (λ zs. old.ran ++ (zs ++ (on m.lun m.block wants ++ on m.lun m.block (unplanned s h)))) o.1) in
      ap (λ (x : Answer). let p : Post = record { kind = (request_of h.accepted m).kind; place = (request_of h.accepted m).place; answer = x } in p) a)

  -- LUNs

  luns_other : (chip' : Chip) (y : Lun) → (device_for s chip') ≡ (device_for s chip) → chip'.luns ≡ slice_set chip.luns l y → (j : ℕ) → j ≢ l → LunAgrees (device_for s chip') h.accepted (slice_get now.luns j) (slice_get chip'.luns j)
  luns_other chip' y d e j q =
      let a = lun_other j q in
      let c : slice_get chip'.luns j ≡ slice_get chip.luns j = ap (λ ls. slice_get ls j) e ∙ get_set_other chip.luns l j y q in
      rw (d, a, c) (agrees.luns j)

  luns_agree : (chip' : Chip) (y : Lun) → (device_for s chip') ≡ (device_for s chip) → chip'.luns ≡ slice_set chip.luns l y → LunAgrees (device_for s chip) h.accepted (slice_get now.luns l) (Some y) → (j : ℕ) → LunAgrees (device_for s chip') h.accepted (slice_get now.luns j) (slice_get chip'.luns j)
  luns_agree chip' y d e here j =
      elim (same_place j l) [
        | inl q ↦ (let c : slice_get chip'.luns l ≡ Some y = ap (λ ls. slice_get ls l) e ∙ get_set_same chip.luns l lane.chip_state y lane.chip_there in
            subst (λ i. LunAgrees (device_for s chip') h.accepted (slice_get now.luns i) (slice_get chip'.luns i)) (sym q) (rw (d, c) here))
        | inr q ↦ luns_other chip' y d e j q
      ]

  -- the LUN of a member's request
  member_lun : (m : Want) → Has g m → (request_of h.accepted m).place.lun ≡ l
  member_lun m k = place_lun s h m (All-has (IsTaken s h.planned h.accepted) g m going.members k) ∙ All-has (λ (v : Want). v.lun ≡ lun_of g) g m going.group.lun k ∙ going.is_lun

  -- the commands with the member's
  with_member : (m : Want) → slice_get g n ≡ Some m → n < length g → taken (slice_get chip.luns l) ++ request_of h.accepted m ∷ [] ≡ map (request_of h.accepted) (take (n + 1) g)
  with_member m at lt = ap (λ rs. rs ++ request_of h.accepted m ∷ []) (lane.commands lt) ∙ sym (map-append (request_of h.accepted) (take n g) (m ∷ [])) ∙ ap (map (request_of h.accepted)) (sym (take_next g n m at))

  -- a member's lengths are those of its kind
  kind_spans : (m : Want) → Has g m → spans_of chip.timing (request_of h.accepted m).kind ≡ spans_of h.now.timing m.kind
  kind_spans m k =
      let kind = place_kind s h m (All-has (IsTaken s h.planned h.accepted) g m going.members k) in
      ap (spans_of chip.timing) kind ∙ ap (λ (t : Timing). spans_of t m.kind) (agrees.timing ∙ sym timing)

  -- .. and all but the post is what its group shares
  spans_are : (m : Want) → Has g m → IsAlike (spans_of h.now.timing (kind_of g)) (spans_of chip.timing (request_of h.accepted m).kind)
  spans_are m k =
      let operation = All-has (λ (v : Want). operation_of v.kind ≡ group_operation g) g m going.group.operation k in
      subst (IsAlike (spans_of h.now.timing (kind_of g))) (sym (kind_spans m k)) (one_operation h.now.timing (kind_of g) m.kind (sym operation))

  after_gap : n + 1 < length g → (spans : Spans) → IsAlike (spans_of h.now.timing (kind_of g)) spans → start + spans.cmd + spans.gap ≡ ready_after h.now g n start
  after_gap lt spans e = rw (e.cmd, e.gap, lt-ltb n (length g) (omega arith), lt-ltb (n + 1) (length g) lt) refl

  after_array : n + 1 ≡ length g → (spans : Spans) → IsAlike (spans_of h.now.timing (kind_of g)) spans → start + spans.cmd + spans.array ≡ ready_after h.now g n start
  after_array q spans e =
      let same : (n + 1 == length g) ≡ true = eq-eqb (n + 1) (length g) q in
      rw (e.cmd, e.array, lt-ltb n (length g) (omega arith), le-ltb (n + 1) (length g) (omega arith), same) refl

  after_last : length g ≤ n → (m : Want) → slice_get g (n - length g) ≡ Some m → (spans : Spans) → spans ≡ spans_of h.now.timing m.kind → start + spans.post ≡ ready_after h.now g n start
  after_last le m at spans e =
      let within = within_get g (n - length g) m at in
      let post = member_post h.now.timing g n m le (omega arith) ∙ ap (λ (w : Want). (spans_of h.now.timing w.kind).post) (get_or_from_slice_get g (n - length g) m m at) in
      let other : (n + 1 == length g) ≡ false = ne_eqb (n + 1) (length g) (λ q. omega arith) in
      let none : wait_before (group_spans h.now.timing g) (length g) (n + 1) ≡ 0 = rw (le-ltb (n + 1) (length g) (omega arith), other) refl in
      let same = ap (λ (x : Spans). x.post) e in
      omega (arith, post, none, same)

  -- a command after which more come
  pub after_command : (chip' : Chip) → Commands h.accepted g n start chip chip' → ChipAgrees s later chip'
  after_command chip' c =
      let m = c.member in
      let has = get_has g n m c.is in
      let ml = member_lun m has in
      let more = c.more in
      let lt : n < length g = omega arith in
      let r = request_of h.accepted m in
      let d = c.done.state in
      let faults = ap (λ (x : Chip). device_for s x) d in
      let luns : chip'.luns ≡ slice_set chip.luns l (Commanding (taken (slice_get chip.luns l) ++ r ∷ []) (ready_after h.now g n start)) =
      ap (λ (x : Chip). x.luns) d
      ∙ ap (λ z. slice_set chip.luns r.place.lun (Commanding (taken (slice_get chip.luns r.place.lun) ++ r ∷ []) z)) (after_gap more (spans_for chip r) (spans_are m has))
      ∙ ap (λ i. slice_set chip.luns i (Commanding (taken (slice_get chip.luns i) ++ r ∷ []) (ready_after h.now g n start))) ml in
      let run = runs_here (omega arith) in
      record {
        geometry = ap (λ (x : Chip). x.geometry) d ∙ agrees.geometry;
        timing = ap (λ (x : Chip). x.timing) d ∙ agrees.timing;
        blocks = blocks_stay chip' faults (ap (λ (x : Chip). x.blocks) d) (commands_go_on more);
        luns = luns_agree chip' _ faults luns (rw run (inl (more, ap (λ rs. Some (Commanding rs (ready_after h.now g n start))) (with_member m c.is lt))));
      }

  -- the last command
  pub after_launch : (chip' : Chip) → Launches h.accepted g n start chip chip' → ChipAgrees s later chip'
  after_launch chip' c =
      let m = c.member in
      let has = get_has g n m c.is in
      let ml = member_lun m has in
      let last = c.last in
      let lt : n < length g = omega arith in
      let r = request_of h.accepted m in
      let d = c.done.state in
      let faults = ap (λ (x : Chip). device_for s x) d in
      let own : device_in chip ≡ device_for s chip = ap (λ g. device_of g chip.faults) agrees.geometry in
      let group : taken (slice_get chip.luns l) ++ r ∷ [] ≡ map (request_of h.accepted) g = with_member m c.is lt ∙ ap (map (request_of h.accepted)) (take_all (n + 1) g (omega (arith, last))) in
      let group' : group_with chip r ≡ map (request_of h.accepted) g = ap (λ i. taken (slice_get chip.luns i) ++ r ∷ []) ml ∙ group in
      let blocks : chip'.blocks ≡ happen (device_for s chip) (map (request_of h.accepted) g) chip.blocks =
      ap (λ (x : Chip). x.blocks) d ∙ ap (λ v. happen v (group_with chip r) chip.blocks) own ∙ ap (λ rs. happen (device_for s chip) rs chip.blocks) group' in
      let posts : posts_of (device_in chip) (group_with chip r) chip.blocks ≡ map (post_for (device_for s chip) h.accepted) g =
      ap (λ v. posts_of v (group_with chip r) chip.blocks) own ∙ ap (λ rs. posts_of (device_for s chip) rs chip.blocks) group' ∙ right_posts last in
      let luns : chip'.luns ≡ slice_set chip.luns l (Posting (map (post_for (device_for s chip) h.accepted) g) (ready_after h.now g n start)) =
      ap (λ (x : Chip). x.luns) d
      ∙ ap (λ z. slice_set chip.luns r.place.lun (Posting (posts_of (device_in chip) (group_with chip r) chip.blocks) z)) (after_array last (spans_for chip r) (spans_are m has))
      ∙ ap (λ ps. slice_set chip.luns r.place.lun (Posting ps (ready_after h.now g n start))) posts
      ∙ ap (λ i. slice_set chip.luns i (Posting (map (post_for (device_for s chip) h.accepted) g) (ready_after h.now g n start))) ml in
      let run = runs_here (omega arith) in
      let z : n + 1 - length g ≡ 0 = omega arith in
      record {
        geometry = ap (λ (x : Chip). x.geometry) d ∙ agrees.geometry;
        timing = ap (λ (x : Chip). x.timing) d ∙ agrees.timing;
        blocks = blocks_change chip' faults blocks last;
        luns = luns_agree chip' _ faults luns (rw (run, z) (inr (omega arith, refl)));
      }

  -- A post

  same_posts : (xs ys : List Post) (a b : ℕ) → Some (Posting xs a) ≡ Some (Posting ys b) → xs ≡ ys
  same_posts xs ys a b h = cc

  posts_are : (member : Want) → slice_get g (n - length g) ≡ Some member → map (post_for (device_for s chip) h.accepted) (drop (n - length g) g) ≡ post_for (device_for s chip) h.accepted member ∷ map (post_for (device_for s chip) h.accepted) (drop (n - length g + 1) g)
  posts_are member at = ap (map (post_for (device_for s chip) h.accepted)) (drop_next g (n - length g) member at)

  given_is : (chip' : Chip) (member : Want) (answer : Answer) → (c : Posts g n start chip chip' member answer) → c.post ∷ c.others ≡ post_for (device_for s chip) h.accepted member ∷ map (post_for (device_for s chip) h.accepted) (drop (n - length g + 1) g)
  given_is chip' member answer c =
      let p = lane.posts c.behind in
      let e : slice_get chip.luns l ≡ Some (Posting (c.post ∷ c.others) c.since) = subst (λ i. slice_get chip.luns i ≡ Some (Posting (c.post ∷ c.others) c.since)) going.is_lun c.given in
      same_posts _ _ _ _ (sym e ∙ p.1) ∙ posts_are member c.is

  post_is : (chip' : Chip) (member : Want) (answer : Answer) → (c : Posts g n start chip chip' member answer) → c.post ≡ post_for (device_for s chip) h.accepted member
  post_is chip' member answer c = head_same _ _ _ _ (given_is chip' member answer c)

  pub right_reply : (chip' : Chip) (member : Want) (answer : Answer) → Posts g n start chip chip' member answer → IsRightful (device_for s chip) h.accepted (reply_to h.accepted chip.faults member answer)
  right_reply chip' member answer c =
      let t = All-has (IsTaken s h.planned h.accepted) g member going.members (get_has g (n - length g) member c.is) in
      let i = item_of s h member t in
      record {
        item = t.item;
        there = t.there;
        host = ap (λ (x : Item). x.host) i;
        serial = ap (λ (x : Item). x.serial) i;
        answer = c.told ∙ ap (λ (p : Post). p.answer) (post_is chip' member answer c) ∙ ap (answer_at (device_for s chip) h.accepted member.id) i;
      }

  posting_goes_on : (others : List Post) → length g ≤ n → n + 1 < 2 * length g → others ≡ map (post_for (device_for s chip) h.accepted) (drop (n - length g + 1) g) → posts_behind others (ready_after h.now g n start) ≡ Posting (map (post_for (device_for s chip) h.accepted) (drop (n + 1 - length g) g)) (ready_after h.now g n start)
  posting_goes_on others le lt e =
      let z : n + 1 - length g ≡ n - length g + 1 = omega arith in
      let m = get_within g (n - length g + 1) (omega arith) in
      let d = drop_next g (n - length g + 1) m.0 m.1 in
      rw (z, e, d) refl

  pub after_post : (chip' : Chip) (member : Want) (answer : Answer) → Posts g n start chip chip' member answer → ChipAgrees s later chip'
  after_post chip' member answer c =
      let le = c.behind in
      let has = get_has g (n - length g) member c.is in
      let p = post_is chip' member answer c in
      let at : c.post.place.lun ≡ l = ap (λ (x : Post). x.place.lun) p ∙ member_lun member has in
      let spans : spans_of chip.timing c.post.kind ≡ spans_of h.now.timing member.kind = ap (λ (x : Post). spans_of chip.timing x.kind) p ∙ kind_spans member has in
      let d = c.done.state in
      let faults = ap (λ (x : Chip). device_for s x) d in
      let luns : chip'.luns ≡ slice_set chip.luns l (posts_behind c.others (ready_after h.now g n start)) =
      ap (λ (x : Chip). x.luns) d
      ∙ ap (λ z. slice_set chip.luns c.post.place.lun (posts_behind c.others z)) (after_last le member c.is (spans_of chip.timing c.post.kind) spans)
      ∙ ap (λ i. slice_set chip.luns i (posts_behind c.others (ready_after h.now g n start))) at in
      let q = tail_same _ _ _ _ (given_is chip' member answer c) in
      record {
        geometry = ap (λ (x : Chip). x.geometry) d ∙ agrees.geometry;
        timing = ap (λ (x : Chip). x.timing) d ∙ agrees.timing;
        blocks = blocks_stay chip' faults (ap (λ (x : Chip). x.blocks) d) (commands_ended le);
        luns = luns_agree chip' _ faults luns
            (elim (cases_lt (n + 1) (2 * length g)) [
              | inl lt ↦ (let r = runs_here lt in rw r (inr (omega arith, ap Some (posting_goes_on c.others le lt q))))
              | inr ge ↦ (let r = done_here ge in let z : c.others ≡ [] = q ∙ ap (map (post_for (device_for s chip) h.accepted)) (drop_all (n - length g + 1) g (omega arith)) in rw (r, z) refl)
            ]);
      }
