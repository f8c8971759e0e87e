-- A walk over the LUNs that tallies what is left.
use Rattle.std.proofs.Common.{◌≡◌, ℕ, ◌+◌, ◌^◌, ◌≤◌, ◌<◌, ◌⊎◌, inl, inr, Bool, true, false, if◌then◌else◌, List, [], ◌∷◌, length, map, drop, get_or, Option, Some, None, refl, sym, ap, ◌∙◌, subst, arith}
use Rattle.std.specs.Prelude.{slice_get, max}
use Rattle.std.specs.List.{list_any}
use Rattle.std.proofs.lemmas.Bool.{cases_lt}
use Rattle.std.proofs.lemmas.List.{drop_all}
use Rattle.std.proofs.lemmas.Option.{slice_get-get_or}
use Rattle.onfi_timing.specs.declared.operation.Operation.{Operation}
use Rattle.onfi_timing.specs.declared.timing.Timing.{Timing}
use Rattle.onfi_timing.specs.Kinds.{spans_of}
use Rattle.onfi_request.specs.declared.want.Want.{Want}
use Rattle.onfi_group.specs.declared.rules.Rules.{Rules}
use Rattle.onfi_group.specs.Words.{total}
use Rattle.onfi_problem.specs.declared.lun_state.LunState.{LunState}
use Rattle.onfi_problem.specs.declared.lun_state.LunState.TheVariants.{Free, Running}
use Rattle.onfi_problem.specs.Problem.{Problem}
use Rattle.onfi_problem.specs.Moves.{may_go, free_from}
use Rattle.onfi_problem.specs.Left.{command_time, post_time, all_commands, all_posts, InLimits}
use Rattle.onfi_problem.specs.declared.moves.Lun.{Lun}
use Rattle.onfi_problem.specs.Position.{state_of}
use Rattle.onfi_problem.proofs.Places.{within_get, drop_next}
use Rattle.onfi_problem.proofs.Lists.{map_get}
use Rattle.onfi_problem.proofs.Limits.{bus_in_limits, lun_in_limits}
use Rattle.onfi_bound.specs.declared.chain.Chain.{Chain}
use Rattle.onfi_bound.specs.declared.load.Load.{Load}
use Rattle.onfi_bound.specs.declared.tally.Tally.{Tally}
use Rattle.onfi_bound.specs.Bounds.{on_lun, wants_work, least, least_with, earlier, commands_next, has_command, to_post, post_starts, die}
use Rattle.onfi_bound.specs.Parts.{chain_of, is_operation, has_operation, AreSums}
use Rattle.onfi_bound.specs.Loads.{IsLoad, IsLeast, commands_to_post, IsChainAt, IsTally}
use Rattle.onfi_bound.proofs.DieBound.{no_work}
use Rattle.onfi_bound.proofs.Parts.{next_operation, own_commands, own_posts}
use Rattle.onfi_bound.proofs.Whole.{die_working, die_nothing}
use Rattle.onfi_bound.proofs.Ends.{bus_small, die_small}
use Rattle.onfi_bound.proofs.Counting.{any_cons}

or_more : (a b c : Bool) → (if (if a then true else b) then true else c) ≡ (if a then true else (if b then true else c))
or_more true b c = refl
or_more false b c = refl

-- what a chain says of its LUN
from_of : (timing : Timing) (x : LunState) → (chain_of timing x).from ≡ free_from (Some x)
from_of timing (Free since) = refl
from_of timing (Running g n r) = refl

-- how long to the first post
post_of : (timing : Timing) (rules : Rules) (x : LunState) (ws : List Want) (first work : ℕ) → IsLeast (commands_to_post timing ws) first → work ≡ wants_work timing rules ws → ((chain_of timing x).running ≡ true) ⊎ (1 ≤ work) → to_post timing ws x ≡ Some (if (chain_of timing x).running then (chain_of timing x).commands + (chain_of timing x).waits else first)
post_of timing rules (Running g n r) ws first work h w b = refl
post_of timing rules (Free since) (v ∷ ws) first work h w b = h
post_of timing rules (Free since) [] first work h w (inl e) = cc
post_of timing rules (Free since) [] first work h w (inr some) = let a = no_work timing rules in absurd (omega arith)

no_post : (timing : Timing) (rules : Rules) (x : LunState) (ws : List Want) → (chain_of timing x).running ≡ false → wants_work timing rules ws ≡ 0 → to_post timing ws x ≡ None
no_post timing rules (Running g n r) ws e z = cc
no_post timing rules (Free since) [] e z = refl
no_post timing rules (Free since) (v ∷ ws) e z = let r = (spans_of timing v.kind).in_range in absurd (omega arith)

earlier_more : (f : Option ℕ) (v : ℕ) (o : Option ℕ) → earlier (Some (least_with v f)) o ≡ earlier f (Some (least_with v o))
earlier_more None v o = refl
earlier_more (Some a) v None = ap Some (omega arith)
earlier_more (Some a) v (Some b) = ap Some (omega arith)

earlier_none : (f : Option ℕ) → earlier f None ≡ f
earlier_none None = refl
earlier_none (Some a) = refl

-- one LUN more is done by the greatest
pub done_more : (p : Problem) (lun before done : ℕ) → ((l : ℕ) → l < lun → die p l ≤ max before p.bus_free) → die p lun ≤ max done p.bus_free → before ≤ done → (l : ℕ) → l < lun + 1 → die p l ≤ max done p.bus_free
done_more p lun before done so here more l k = elim (cases_lt l lun) [
  | inl q ↦ (let h = so l q in omega arith)
  | inr q ↦ (let s : lun ≡ l = omega arith in subst (λ i. die p i ≤ max done p.bus_free) s here)
]

-- none is done at e or later
pub all_below : (p : Problem) (e done : ℕ) → ((l : ℕ) → l < length p.luns → die p l ≤ max done p.bus_free) → done < e → p.bus_free < e → (l : ℕ) → l < length p.luns → die p l < e
all_below p e done so d b l k = let h = so l k in omega arith

-- when a LUN is done that has something left
pub done_is : (p : Problem) (lun : ℕ) (load : Load) (chain : Chain) → IsLoad p.timing p.rules p.wants load → IsChainAt p lun chain → lun < 8 → (chain.running ≡ true) ⊎ (1 ≤ get_or load.work lun 0) → max p.bus_free chain.from + chain.commands + chain.posts + chain.waits + get_or load.work lun 0 ≡ die p lun
done_is p lun load chain h at small b = die_working p lun chain (get_or load.work lun 0) at (h.work lun small) b

pub done_small : (p : Problem) (lun : ℕ) (load : Load) (chain : Chain) → InLimits p → IsLoad p.timing p.rules p.wants load → IsChainAt p lun chain → lun < 8 → (chain.running ≡ true) ⊎ (1 ≤ get_or load.work lun 0) → max p.bus_free chain.from + chain.commands + chain.posts + chain.waits + get_or load.work lun 0 < 2 ^ 62
done_small p lun load chain lim h c small b =
    let d = done_is p lun load chain h c small b in
    let s = die_small p lun lim (within_get p.luns lun c.0 c.1) in
    omega arith

-- no sum leaves its type
pub tally_room : (p : Problem) (lun : ℕ) (t : Tally) (chain : Chain) → InLimits p → IsChainAt p lun chain → IsTally p lun t → (t.sums.commands + chain.commands < 2 ^ 62) × (t.sums.posts + chain.posts < 2 ^ 62)
tally_room p lun t chain lim (x, at, q) h =
    let d = drop_next p.luns lun x at in
    let b = bus_small p lim in
    let c1 : chain.commands ≡ command_time p.timing x = ap (λ (c : Chain). c.commands) q ∙ own_commands p.timing x in
    let c2 : chain.posts ≡ post_time p.timing x = ap (λ (c : Chain). c.posts) q ∙ own_posts p.timing x in
    let a1 : t.sums.commands + (command_time p.timing x + total (command_time p.timing) (drop (lun + 1) p.luns)) ≡ all_commands p = rw d at h.commands in
    let a2 : t.sums.posts + (post_time p.timing x + total (post_time p.timing) (drop (lun + 1) p.luns)) ≡ all_posts p = rw d at h.posts in
    (omega arith, omega arith)

-- a LUN with something left
pub tally_more : (p : Problem) (lun post : ℕ) (load : Load) (chain : Chain) (t t' : Tally) → IsLoad p.timing p.rules p.wants load → IsChainAt p lun chain → lun < 8 → (chain.running ≡ true) ⊎ (1 ≤ get_or load.work lun 0) → IsTally p lun t → t'.sums.commands ≡ t.sums.commands + chain.commands → t'.sums.posts ≡ t.sums.posts + chain.posts → ((operation : Operation) → has_operation t'.sums.operations operation ≡ (if has_operation t.sums.operations operation then true else is_operation operation chain.command)) → post ≡ (if chain.running then chain.commands + chain.waits else get_or load.firsts lun 0) → t'.first ≡ Some (least_with (max p.bus_free chain.from + post) t.first) → ((l : ℕ) → l < lun + 1 → die p l ≤ max t'.done p.bus_free) → IsTally p (lun + 1) t'
tally_more p lun post load chain t t' h (x, at, q) small b so commands posts operations is first done =
    let d = drop_next p.luns lun x at in
    let rest = drop (lun + 1) p.luns in
    let c1 : chain.commands ≡ command_time p.timing x = ap (λ (c : Chain). c.commands) q ∙ own_commands p.timing x in
    let c2 : chain.posts ≡ post_time p.timing x = ap (λ (c : Chain). c.posts) q ∙ own_posts p.timing x in
    let a1 : t.sums.commands + (command_time p.timing x + total (command_time p.timing) rest) ≡ all_commands p = rw d at so.commands in
    let a2 : t.sums.posts + (post_time p.timing x + total (post_time p.timing) rest) ≡ all_posts p = rw d at so.posts in
    let b' : ((chain_of p.timing x).running ≡ true) ⊎ (1 ≤ get_or load.work lun 0) = rw q at b in
    let is' : post ≡ (if (chain_of p.timing x).running then (chain_of p.timing x).commands + (chain_of p.timing x).waits else get_or load.firsts lun 0) = rw q at is in
    let o = post_of p.timing p.rules x (on_lun lun p.wants) (get_or load.firsts lun 0) (get_or load.work lun 0) (h.firsts lun small) (h.work lun small) b' ∙ ap Some (sym is') in
    let go : may_go p lun ≡ max p.bus_free chain.from = rw at (ap (max p.bus_free) (sym (ap (λ (c : Chain). c.from) q ∙ from_of p.timing x))) in
    let starts : post_starts p lun (x ∷ rest) ≡ (max p.bus_free chain.from + post) ∷ post_starts p (lun + 1) rest = rw (o, go) refl in
    let old : earlier t.first (least ((max p.bus_free chain.from + post) ∷ post_starts p (lun + 1) rest)) ≡ least (post_starts p 0 p.luns) = subst (λ z. earlier t.first (least z) ≡ least (post_starts p 0 p.luns)) starts (subst (λ z. earlier t.first (least (post_starts p lun z)) ≡ least (post_starts p 0 p.luns)) d so.first) in
    record {
      commands = omega arith;
      posts = omega arith;
      operations = λ operation.
          let k1 : (if has_operation t.sums.operations operation then true else list_any (commands_next operation) (x ∷ rest)) ≡ has_command p operation = rw d at (so.operations operation) in
          let k2 : is_operation operation chain.command ≡ commands_next operation x = ap (λ (c : Chain). is_operation operation c.command) q ∙ next_operation p.timing operation x in
          rw (operations operation, k2, or_more (has_operation t.sums.operations operation) (commands_next operation x) (list_any (commands_next operation) rest), ← any_cons (commands_next operation) x rest) k1;
      first = rw (first, earlier_more t.first (max p.bus_free chain.from + post) (least (post_starts p (lun + 1) rest))) old;
      done = done;
    }

-- a LUN with nothing left
pub idle_done : (p : Problem) (lun : ℕ) (load : Load) (chain : Chain) → IsLoad p.timing p.rules p.wants load → IsChainAt p lun chain → lun < 8 → chain.running ≡ false → get_or load.work lun 0 ≡ 0 → p.bus_free ≡ die p lun
idle_done p lun load chain h at small idle z = die_nothing p lun chain (get_or load.work lun 0) at (h.work lun small) idle z

pub tally_idle : (p : Problem) (lun : ℕ) (load : Load) (chain : Chain) (t t' : Tally) → IsLoad p.timing p.rules p.wants load → IsChainAt p lun chain → lun < 8 → chain.running ≡ false → get_or load.work lun 0 ≡ 0 → IsTally p lun t → t'.sums ≡ t.sums → t'.first ≡ t.first → ((l : ℕ) → l < lun + 1 → die p l ≤ max t'.done p.bus_free) → IsTally p (lun + 1) t'
tally_idle p lun load chain t t' h (x, at, q) small idle z so sums first done =
    let d = drop_next p.luns lun x at in
    let i : (chain_of p.timing x).running ≡ false = sym (ap (λ (c : Chain). c.running) q) ∙ idle in
    let w : wants_work p.timing p.rules (on_lun lun p.wants) ≡ 0 = sym (h.work lun small) ∙ z in
    go x at d i w
  where
    go : (y : LunState) → slice_get p.luns lun ≡ Some y → drop lun p.luns ≡ y ∷ drop (lun + 1) p.luns → (chain_of p.timing y).running ≡ false → wants_work p.timing p.rules (on_lun lun p.wants) ≡ 0 → IsTally p (lun + 1) t'
    go (Running g n r) at d i w = cc
    go (Free since) at d i w =
        let rest = drop (lun + 1) p.luns in
        let o = no_post p.timing p.rules (Free since) (on_lun lun p.wants) i w in
        let starts : post_starts p lun (Free since ∷ rest) ≡ post_starts p (lun + 1) rest = rw o refl in
        let a1 : t.sums.commands + (0 + total (command_time p.timing) rest) ≡ all_commands p = rw d at so.commands in
        let a2 : t.sums.posts + (0 + total (post_time p.timing) rest) ≡ all_posts p = rw d at so.posts in
        record {
          commands = rw sums (omega arith);
          posts = rw sums (omega arith);
          operations = λ operation. let k1 : (if has_operation t.sums.operations operation then true else list_any (commands_next operation) (Free since ∷ rest)) ≡ has_command p operation = rw d at (so.operations operation) in rw (sums, ← any_cons (commands_next operation) (Free since) rest) k1;
          first = rw first (subst (λ z. earlier t.first (least z) ≡ least (post_starts p 0 p.luns)) starts (subst (λ z. earlier t.first (least (post_starts p lun z)) ≡ least (post_starts p 0 p.luns)) d so.first));
          done = done;
        }

-- the walk is over
pub tally_sums : (p : Problem) (t : Tally) → IsTally p (length p.luns) t → AreSums p t.sums
tally_sums p t h =
    let d = drop_all (length p.luns) p.luns (omega arith) in
    let a : t.sums.commands + 0 ≡ all_commands p = rw d at h.commands in
    let b : t.sums.posts + 0 ≡ all_posts p = rw d at h.posts in
    record {
      commands = omega arith;
      posts = omega arith;
      operations = λ operation. last (has_operation t.sums.operations operation) (has_command p operation) (rw d at (h.operations operation));
    }
  where
    last : (a b : Bool) → (if a then true else false) ≡ b → a ≡ b
    last true b e = e
    last false b e = e

pub tally_first : (p : Problem) (t : Tally) → IsTally p (length p.luns) t → t.first ≡ least (post_starts p 0 p.luns)
tally_first p t h = let a : earlier t.first None ≡ least (post_starts p 0 p.luns) = rw (drop_all (length p.luns) p.luns (omega arith)) at h.first in sym (earlier_none t.first) ∙ a

pub at_small : (p : Problem) (lun : ℕ) (chain : Chain) → InLimits p → IsChainAt p lun chain → max p.bus_free chain.from < 2 ^ 62
at_small p lun chain lim (x, at, q) =
    let a = lun_in_limits p lun x lim at in
    let b = bus_in_limits p lim in
    let f : chain.from ≡ free_from (Some x) = ap (λ (c : Chain). c.from) q ∙ from_of p.timing x in
    omega arith

-- the chain of a LUN's state is that of the LUN
pub chain_here : (p : Problem) (groups : List (List Want)) (lun : ℕ) (state : Lun) (timing : Timing) (gs : List (List Want)) (chain : Chain) → slice_get p.luns lun ≡ Some (state_of groups state) → timing ≡ p.timing → gs ≡ groups → chain ≡ chain_of timing (state_of gs state) → IsChainAt p lun chain
chain_here p groups lun state timing gs chain at t g is = (state_of groups state, at, is ∙ rw (t, g) refl)

-- what the LUN of a place does
pub state_at : (groups : List (List Want)) (luns : List Lun) (states : List LunState) (i : ℕ) (d : Lun) → map (state_of groups) luns ≡ states → i < length luns → slice_get states i ≡ Some (state_of groups (get_or luns i d))
state_at groups luns states i d e h = subst (λ xs. slice_get xs i ≡ Some (state_of groups (get_or luns i d))) e (map_get (state_of groups) luns i (get_or luns i d) (slice_get-get_or luns i d h))
