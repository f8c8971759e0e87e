-- The bounds from what is read.
use Rattle.std.proofs.Common.{◌≡◌, ℕ, suc, ◌+◌, ◌≤◌, ◌<◌, ◌⊎◌, inl, inr, true, false, List, [], ◌∷◌, length, map, get_or, Option, Some, refl, sym, ap, ◌∙◌, subst, arith}
use Rattle.std.specs.Prelude.{slice_get, max}
use Rattle.onfi_timing.specs.declared.timing.Timing.{Timing}
use Rattle.onfi_timing.specs.Kinds.{spans_of}
use Rattle.onfi_request.specs.declared.want.Want.{Want}
use Rattle.onfi_group.specs.declared.rules.Rules.{Rules}
use Rattle.onfi_problem.specs.declared.lun_state.LunState.{LunState}
use Rattle.onfi_problem.specs.declared.lun_state.LunState.TheVariants.{Free, Running}
use Rattle.onfi_problem.specs.Problem.{Problem}
use Rattle.onfi_problem.specs.Left.{all_posts}
use Rattle.onfi_problem.specs.declared.moves.Lun.{Lun}
use Rattle.onfi_problem.specs.Position.{state_of}
use Rattle.onfi_problem.proofs.Places.{get_within}
use Rattle.onfi_problem.proofs.Lists.{map_found}
use Rattle.onfi_bound.specs.declared.chain.Chain.{Chain}
use Rattle.onfi_bound.specs.Bounds.{on_lun, post_starts, least, lead, wants_work, die_at, die}
use Rattle.onfi_bound.specs.Parts.{chain_of, chain_starts}
use Rattle.onfi_bound.specs.Loads.{IsChainAt}
use Rattle.onfi_bound.proofs.DieBound.{no_work}

-- the first posts
starts_from : (p : Problem) (first : ℕ) (luns : List LunState) → ((k : ℕ) → slice_get p.luns (first + k) ≡ slice_get luns k) → chain_starts p.timing p.bus_free p.wants first (map (chain_of p.timing) luns) ≡ post_starts p first luns
starts_from p first [] h = refl
starts_from p first (x ∷ luns) h =
    let here : slice_get p.luns first ≡ Some x = subst (λ i. slice_get p.luns i ≡ Some x) (omega arith) (h 0) in
    let rest = starts_from p (first + 1) luns (λ k. subst (λ i. slice_get p.luns i ≡ slice_get luns k) (omega arith) (h (suc k))) in
    one x here rest
  where
    one : (y : LunState) → slice_get p.luns first ≡ Some y → chain_starts p.timing p.bus_free p.wants (first + 1) (map (chain_of p.timing) luns) ≡ post_starts p (first + 1) luns → chain_starts p.timing p.bus_free p.wants first (map (chain_of p.timing) (y ∷ luns)) ≡ post_starts p first (y ∷ luns)
    one (Free since) here rest = rw (here, rest) refl
    one (Running g n r) here rest = rw (here, rest) refl

pub starts_are : (p : Problem) (timing : Timing) (bus_free : ℕ) (chains cs : List Chain) (wants ws : List Want) → timing ≡ p.timing → bus_free ≡ p.bus_free → chains ≡ map (chain_of p.timing) p.luns → wants ≡ p.wants → cs ≡ chains → ws ≡ wants → least (chain_starts timing bus_free ws 0 cs) ≡ least (post_starts p 0 p.luns)
starts_are p timing bus_free chains cs wants ws t f a b c d = rw (c, a, d, b, t, f) (ap least (starts_from p 0 p.luns (λ k. ap (slice_get p.luns) (omega arith))))

-- the work of a LUN
pub die_at_is : (p : Problem) (lun : ℕ) (x : LunState) (ws : List Want) → slice_get p.luns lun ≡ Some x → ((chain_of p.timing x).running ≡ true) ⊎ (1 ≤ wants_work p.timing p.rules ws) → max p.bus_free (chain_of p.timing x).from + (chain_of p.timing x).commands + (chain_of p.timing x).posts + (chain_of p.timing x).waits + wants_work p.timing p.rules ws ≡ die_at p lun ws (Some x)
die_at_is p lun (Running g n r) ws at h = rw at (omega arith)
die_at_is p lun (Free since) (w ∷ ws) at h = rw at (omega arith)
die_at_is p lun (Free since) [] at (inl e) = cc
die_at_is p lun (Free since) [] at (inr some) = let a = no_work p.timing p.rules in absurd (omega arith)

pub die_idle : (p : Problem) (lun : ℕ) (x : LunState) (ws : List Want) → (chain_of p.timing x).running ≡ false → wants_work p.timing p.rules ws ≡ 0 → die_at p lun ws (Some x) ≡ p.bus_free
die_idle p lun (Running g n r) ws e z = cc
die_idle p lun (Free since) [] e z = refl
die_idle p lun (Free since) (w ∷ ws) e z = let r = (spans_of p.timing w.kind).in_range in absurd (omega arith)

pub die_working : (p : Problem) (lun : ℕ) (c : Chain) (work : ℕ) → IsChainAt p lun c → work ≡ wants_work p.timing p.rules (on_lun lun p.wants) → (c.running ≡ true) ⊎ (1 ≤ work) → max p.bus_free c.from + c.commands + c.posts + c.waits + work ≡ die p lun
die_working p lun c work (x, at, q) w h =
    let h' : ((chain_of p.timing x).running ≡ true) ⊎ (1 ≤ wants_work p.timing p.rules (on_lun lun p.wants)) = rw (q, w) at h in
    rw (q, w, at) (die_at_is p lun x (on_lun lun p.wants) at h')

pub die_nothing : (p : Problem) (lun : ℕ) (c : Chain) (work : ℕ) → IsChainAt p lun c → work ≡ wants_work p.timing p.rules (on_lun lun p.wants) → c.running ≡ false → work ≡ 0 → p.bus_free ≡ die p lun
die_nothing p lun c work (x, at, q) w idle z = rw at (sym (die_idle p lun x (on_lun lun p.wants) (sym (ap (λ (y : Chain). y.running) q) ∙ idle) (sym w ∙ z)))

-- the chain of a LUN
pub chain_at : (p : Problem) (timing : Timing) (groups gs : List (List Want)) (luns : List Lun) (lun : ℕ) (d : Lun) (c : Chain) → map (state_of groups) luns ≡ p.luns → lun < length p.luns → timing ≡ p.timing → gs ≡ groups → c ≡ chain_of timing (state_of gs (get_or luns lun d)) → IsChainAt p lun c
chain_at p timing groups gs luns lun d c e h t g q =
    let x = get_within p.luns lun h in
    let s = map_found (state_of groups) luns lun d x.0 (subst (λ z. slice_get z lun ≡ Some x.0) (sym e) x.1) in
    (x.0, x.1, q ∙ rw (t, g, s) refl)

-- and of its first post
pub lead_some : (p : Problem) (start posts : ℕ) (o : Option ℕ) → o ≡ least (post_starts p 0 p.luns) → Some start ≡ o → posts ≡ all_posts p → start + posts ≡ lead p
lead_some p start posts o a b c = let e : least (post_starts p 0 p.luns) ≡ Some start = sym (b ∙ a) in rw (e, c) refl

pub work_is : (p : Problem) (lun : ℕ) (timing : Timing) (rules : Rules) (wants ws : List Want) (work : ℕ) → timing ≡ p.timing → rules ≡ p.rules → wants ≡ p.wants → ws ≡ wants → work ≡ wants_work timing rules (on_lun lun ws) → work ≡ wants_work p.timing p.rules (on_lun lun p.wants)
work_is p lun timing rules wants ws work t r a b w = w ∙ rw (b, a, t, r) refl
