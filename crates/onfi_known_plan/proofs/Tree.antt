-- What a walk over a whole tree gives, and the plan by it.
use Rattle.std.proofs.Common.{◌≡◌, ℕ, ◌+◌, ◌-◌, ◌≤◌, ◌<◌, inl, inr, Bool, true, false, List, [], ◌∷◌, ◌++◌, length, Vec, Global, sym, ap, ◌∙◌, subst, arith}
use Rattle.std.specs.List.{AllByRecursion as Each}
use Rattle.std.specs.Prelude.{nat_lt}
use Rattle.std.proofs.lemmas.Bool.{cases_Bool, cases_lt, lt-ltb, le-ltb, false≢true}
use Rattle.std.proofs.lemmas.List.Elements.{All-from_recursion}
use Rattle.onfi_problem.specs.Problem.{Problem}
use Rattle.onfi_problem.specs.Left.{InLimits}
use Rattle.onfi_problem.specs.Position.{Position}
use Rattle.onfi_problem.proofs.Perm.{append_nil}
use Rattle.onfi_schedule.specs.Schedule.{Legal, finish}
use Rattle.onfi_known_check.specs.declared.token.Token.{Token}
use Rattle.onfi_known_check.specs.Proves.{Proves, ProvesTokens, closed}
use Rattle.onfi_known_check.specs.Text.{InRange, IsCertificate, header, line}
use Rattle.onfi_known_check.proofs.Sound.{proved_is_optimal}
use Rattle.onfi_known_check.proofs.Views.{Begin, by_closing, by_again, by_opening, begin_of}
use Rattle.onfi_planner.specs.Planning.{run_of, AreRising, IsRoot}
use Rattle.onfi_plan.specs.Certificate.{ShowsBelow}
use Rattle.onfi_plan.specs.declared.plan.Certificate.TheVariants.{Text}
use Rattle.onfi_plan.specs.declared.plan.Plan.{Plan}
use Rattle.onfi_check.specs.Nodes.{IsOpen}
use Rattle.onfi_planner.specs.declared.search.Best.{Best}
use Rattle.onfi_planner.proofs.Paths.{nodes_none}
use Rattle.onfi_planner.specs.declared.root.Root.{Root}
use Rattle.onfi_planner.proofs.Beginning.{first_is_run}
use Rattle.onfi_group.specs.Words.{Pairs}
use Rattle.onfi_bound.specs.Loads.{AreLoads}
use Rattle.onfi_bound.specs.declared.loads.Loads.{Loads}
use Rattle.onfi_known_plan.specs.declared.closing.Closing.{Closing}
use Rattle.onfi_known_plan.specs.declared.notes.Notes.{Notes}
use Rattle.onfi_known_plan.specs.declared.search.Shown.{Shown}
use Rattle.onfi_known_plan.specs.declared.planning.Searched.{Searched}
use Rattle.onfi_known_plan.specs.Searched.{IsSearched}
use Rattle.onfi_known_plan.specs.ByRule.{EndsByRule}
use Rattle.onfi_known_plan.specs.Text.{nodes_in}
use Rattle.onfi_known_plan.specs.Walks.{AreMore, ClosesBy, HasSoMany, IsAt, IsBegun, IsBetter, IsFound, IsProved, IsRunOf, IsShown, IsTree}
use Rattle.onfi_known_plan.specs.Within.{IsShownBefore, IsSought, IsWithin}
use Rattle.onfi_known_plan.specs.declared.sought.Sought.{Sought}
use Rattle.onfi_known_plan.specs.declared.within.ShownBefore.{ShownBefore}
use Rattle.onfi_known_plan.proofs.Ruled.{ruled_sooner}

pub still_better : (x : Position) (old new : Best) (improved : Bool) → IsFound x old new improved → IsBetter x old new
still_better x old new improved f = record {
  sooner = f.sooner;
  run = λ r. elim (cases_Bool improved) [ inl q ↦ f.run q | inr q ↦ subst (IsRunOf x) (sym (f.kept q)) r ];
  found = λ less. elim (cases_Bool improved) [ inl q ↦ f.run q | inr q ↦ (let same = ap (λ (z : Best). z.finish) (f.kept q) in absurd (omega arith)) ];
}

-- the tokens of a walk that found nothing sooner
walk_proved : (x : Position) (old new : Best) (before behind : Notes) (shown : Shown) → IsShown x old new before.opened before behind shown → before.opened ≡ 0 → before.limit ≤ 1048576 → before.records.nodes.items ≡ [] → before.cert.tokens.items ≡ [] → behind.cut ≡ false → new.finish ≡ before.cert.finish → IsProved x behind.cert.tokens.items new.finish
walk_proved x old new before behind shown s zero limit known none uncut e =
    let w = s.written uncut e in
    let o = s.opened in
    let o1 = o.within in
    let o2 = o.few in
    let o3 = o.same_limit in
    let l = ap length known in
    let tokens : behind.cert.tokens.items ≡ w.tree = w.tokens ∙ ap (λ z. z ++ w.tree) none in
    let p1 = subst (λ ts. Proves before.cert.finish x.all x.problem before.records.nodes.items ts shown.demand behind.records.nodes.items []) (append_nil w.tree) (w.proves []) in
    let p2 = subst (λ k. Proves before.cert.finish x.all x.problem k w.tree shown.demand behind.records.nodes.items []) known p1 in
    record {
      proves = subst (λ z. ProvesTokens x.all behind.cert.tokens.items x.problem z) (sym e) (subst (λ ts. ProvesTokens x.all ts x.problem before.cert.finish) (sym tokens) (shown.demand, behind.records.nodes.items, p2, omega arith));
      in_range = subst (Each InRange) (sym tokens) w.in_range;
    }

pub walk_at : (x : Position) (loads : Loads) (best : Best) (notes : Notes) (limit : ℕ) → IsTree x loads → limit ≤ 1048576 → notes.cert.finish ≡ best.finish → notes.opened ≡ 0 → notes.limit ≡ limit → notes.records.nodes.items ≡ [] → notes.cut ≡ false → IsAt x loads best notes
walk_at x loads best notes limit tree few finish opened is none uncut = let l = ap length none in record { tree = tree; finish = omega arith; within = omega arith; most = omega arith; few = omega arith; full = λ q. absurd (false≢true (sym uncut ∙ q)) }

-- whether it found something sooner
pub walk_fallen : (a b c : ℕ) → b ≡ c → nat_lt a b ≡ true → a < c
walk_fallen a b c e q = elim (cases_lt a b) [
  | inl k ↦ omega arith
  | inr k ↦ absurd (false≢true (sym (le-ltb a b k) ∙ q))
]

-- it ends when it did
still_ends : (x : Position) (old new : Best) (before behind : Notes) (shown : Shown) → IsShown x old new before.opened before behind shown → before.cert.finish ≡ old.finish → nat_lt new.finish behind.cert.finish ≡ false → new.finish ≡ before.cert.finish
still_ends x old new before behind shown s begun q =
    let a = s.found.sooner in
    let b = s.opened.same_finish in
    elim (cases_lt new.finish behind.cert.finish) [
      | inl k ↦ absurd (false≢true (sym q ∙ lt-ltb new.finish behind.cert.finish k))
      | inr k ↦ omega arith
    ]

pub walk_stands : (x : Position) (old new : Best) (before behind : Notes) (shown : Shown) → IsShown x old new before.opened before behind shown → before.opened ≡ 0 → before.limit ≤ 1048576 → before.records.nodes.items ≡ [] → before.cert.tokens.items ≡ [] → before.cert.finish ≡ old.finish → behind.cut ≡ false → nat_lt new.finish behind.cert.finish ≡ false → IsProved x behind.cert.tokens.items new.finish
walk_stands x old new before behind shown s zero limit known none begun uncut q = walk_proved x old new before behind shown s zero limit known none uncut (still_ends x old new before behind shown s begun q)

-- its tokens have the nodes that it opened
pub walk_counts : (x : Position) (old new : Best) (before behind : Notes) (shown : Shown) → IsShown x old new before.opened before behind shown → before.opened ≡ 0 → before.cert.tokens.items ≡ [] → before.cert.finish ≡ old.finish → behind.cut ≡ false → nat_lt new.finish behind.cert.finish ≡ false → nodes_in behind.cert.tokens.items ≡ behind.opened
walk_counts x old new before behind shown s zero none begun uncut q =
    let w = s.written uncut (still_ends x old new before behind shown s begun q) in
    let tokens : behind.cert.tokens.items ≡ w.tree = w.tokens ∙ ap (λ z. z ++ w.tree) none in
    let same = ap nodes_in tokens in
    let n = w.nodes in
    omega arith

-- accepted tokens are some
some_begin : (e : ℕ) (x : Position) (tokens : List Token) (d : _) (behind : _) → Begin e x.all x.problem [] tokens d behind [] → 1 ≤ length tokens
some_begin e x tokens d behind (by_closing token is c k g) = let l = ap length is in omega arith
some_begin e x tokens d behind (by_again number is a g) = let l = ap length is in omega arith
some_begin e x tokens d behind (by_opening o) = let l = ap length o.tokens_are in omega arith

pub text_is : (x : Position) (tokens : List Token) (text : List ℕ) (e : ℕ) → IsProved x tokens e → text ≡ header x.problem.rules.strict ++ line tokens → IsCertificate text x.problem.rules.strict tokens
text_is x tokens text e p is =
    let (d, behind, proves, few) = p.proves in
    record { some = some_begin e x tokens d behind (begin_of e x.all x.problem [] tokens d behind [] proves); in_range = All-from_recursion InRange tokens p.in_range; spelled = is }

-- the plan by a run, where tokens show that nothing ends before a number
pub within_plan : (x : Position) (best : Best) (shown : ShownBefore) (plan : Plan) (text : Vec ℕ Global) → InLimits x.problem → Legal x.problem plan.schedule → finish x.problem plan.schedule ≡ best.finish → AreRising plan.schedule.groups
    → IsShownBefore x best.finish shown → plan.finish ≡ best.finish → plan.below ≡ shown.below → plan.certificate ≡ Text text → text.items ≡ header x.problem.rules.strict ++ line shown.tokens.items → IsWithin x plan
within_plan x best shown plan text limits legal is rising h ends below kind spelled =
    let le = h.within in
    let proved = subst (IsProved x shown.tokens.items) (sym below) h.proved in
    record {
      legal = legal;
      ends = is ∙ sym ends;
      rising = rising;
      below = omega arith;
      cert = subst (λ c. ShowsBelow c x.all x.problem plan.below) (sym kind) (shown.tokens.items, text_is x shown.tokens.items text.items plan.below proved spelled, proved.proves);
      kind = (text, kind);
      greatest = λ less. subst (λ n. IsOpen (n + 1) x.problem) (sym below) (h.greatest (omega arith));
      optimal = λ e. proved_is_optimal x.all x.problem plan.schedule shown.tokens.items limits.problem limits.small legal (subst (ProvesTokens x.all shown.tokens.items x.problem) (e ∙ (ends ∙ sym is)) proved.proves);
    }

-- a token that closes the root shows what it reaches
token_proves : (x : Position) (e : ℕ) (closing : Closing) → ClosesBy x.problem e closing → IsProved x (closing.token ∷ []) e
token_proves x e closing c = record {
  proves = (closing.demand, [], closed x.problem [] closing.token closing.demand [] c.closes c.asks, omega arith);
  in_range = (c.in_range, tt);
}

-- what the bounds show is found
pub bounds_shown : (x : Position) (e : ℕ) (sought : Sought) (shown : ShownBefore) → IsSought x.problem e sought → sought.below ≡ sought.most → shown.below ≡ sought.below → shown.tokens.items ≡ sought.closing.token ∷ [] → IsShownBefore x e shown
bounds_shown x e sought shown s found below tokens =
    let most = s.most in
    record {
      within = omega arith;
      proved = subst (λ ts. IsProved x ts shown.below) (sym tokens) (subst (IsProved x (sought.closing.token ∷ [])) (sym below) (token_proves x sought.below sought.closing s.closes));
      greatest = λ less. subst (λ n. IsOpen (n + 1) x.problem) (sym (below ∙ found)) (s.open_above (omega arith));
    }

-- a walk that isn't cut shows that nothing ends before the best
pub finish_shown : (x : Position) (e : ℕ) (shown : ShownBefore) → IsProved x shown.tokens.items e → shown.below ≡ e → IsShownBefore x e shown
finish_shown x e shown p below = record {
  within = omega arith;
  proved = subst (IsProved x shown.tokens.items) (sym below) p;
  greatest = λ less. absurd (omega arith);
}

pub root_run : (x : Position) (root : Root) → IsRoot x root → IsRunOf root.problem root.best
root_run x root r = subst (λ z. IsRunOf z root.best) (sym r.same) (first_is_run (run_of x.groups root.best.steps.items) x.problem root.best.finish r.first_run)

pub root_begun : (x at : Position) (root : Root) (best : Best) → IsRoot x root → at ≡ root.problem → IsRunOf root.problem best → best.finish ≤ root.best.finish → EndsByRule root.problem.problem best.finish → Pairs (λ a b. a.id < b.id) x.all → IsBegun x (record { problem = at; loads = root.loads; best = best })
root_begun x at root best r same run le by_rule rising =
    let s = r.small in
    record {
      same = same ∙ r.same;
      tree = record { limits = r.limits; are_loads = subst (λ z. AreLoads z root.loads.of.items) r.same r.loads; rising = rising };
      run = subst (λ z. IsRunOf z best) r.same run;
      small = omega arith;
      first = root.best.finish;
      ends = (run_of x.groups root.best.steps.items, r.first_run);
      sooner = le;
      by_rule = subst (λ (z : Position). EndsByRule z.problem best.finish) r.same by_rule;
    }

-- what a walk begins with, by a copy of the problem
pub tree_by_loads : (x at : Position) (loads : Loads) → at ≡ x → InLimits x.problem → AreLoads x loads.of.items
    → Pairs (λ a b. a.id < b.id) x.all → IsTree at loads
tree_by_loads x at loads e limits are rising = subst (λ z. IsTree z loads) (sym e) (record { limits = limits; are_loads = are; rising = rising })

pub tree_at : (x at : Position) (root : Root) → IsBegun x root → at ≡ root.problem → IsTree at root.loads
tree_at x at root b e = subst (λ z. IsTree z root.loads) (sym (e ∙ b.same)) b.tree

pub better_more : (x at : Position) (old mid new : Best) → at ≡ x → IsBetter x old mid → IsBetter at mid new → IsBetter x old new
better_more x at old mid new e b c =
    let s = b.sooner in
    let d = subst (λ z. IsBetter z mid new) e c in
    let t = d.sooner in
    record {
      sooner = omega arith;
      run = λ r. d.run (b.run r);
      found = λ less. elim (cases_lt new.finish mid.finish) [ inl k ↦ d.found k | inr k ↦ d.run (b.found (omega arith)) ];
    }

-- the limit was met, where a search that opened none before has more nodes
pub over_from_none : (p : Problem) (finish limit l o : ℕ) → l ≡ limit → o ≡ 0 → AreMore p finish (l - o + 1) → AreMore p finish (limit + 1)
over_from_none p finish limit l o e z over = let n : l - o + 1 ≡ limit + 1 = omega arith in subst (AreMore p finish) n over

pub nodes_from_none : (p : Problem) (finish n o : ℕ) → o ≡ 0 → AreMore p finish (n - o) → AreMore p finish n
nodes_from_none p finish n o z nodes = let e : n - o ≡ n = omega arith in subst (AreMore p finish) e nodes

pub nodes_later : (at x : Position) (a b n : ℕ) → at ≡ x → a ≤ b → AreMore at.problem a n → AreMore x.problem b n
nodes_later at x a b n e le nodes = subst (λ (z : Position). AreMore z.problem b n) e (λ f k. nodes f (omega arith))

pub none_opened : (p : Problem) (finish : ℕ) → AreMore p finish 0
none_opened p finish = λ f le. nodes_none f p

-- that many nodes of the root's tree
begun_many : (x : Position) (root : Root) (n : ℕ) → IsBegun x root → AreMore root.problem.problem root.best.finish n → HasSoMany x.problem n
begun_many x root n b nodes = let s = b.sooner in (b.first, b.ends, (nodes_later root.problem x root.best.finish b.first n b.same s nodes) b.first (omega arith))

-- what the walks from a root have found
pub is_searched : (x : Position) (root : Root) (limit : ℕ) (s : Searched) → IsBegun x root → IsBetter root.problem root.best s.best → s.loads ≡ root.loads → s.opened ≤ limit
    → AreMore root.problem.problem root.best.finish s.opened → (s.cut ≡ false → IsProved root.problem s.tokens.items s.best.finish) → (s.cut ≡ false → nodes_in s.tokens.items ≡ s.opened)
    → (s.cut ≡ true → s.opened ≡ limit) → (s.cut ≡ true → AreMore root.problem.problem root.best.finish (limit + 1)) → IsSearched x limit s
is_searched x root limit s b better loads opened nodes proved counted full over =
    let small = b.small in
    let le = better.sooner in
    let first = b.sooner in
    record {
      limits = b.tree.limits;
      are_loads = subst (λ (z : Loads). AreLoads x z.of.items) (sym loads) b.tree.are_loads;
      run = (subst (λ z. IsBetter z root.best s.best) b.same better).run b.run;
      small = omega arith;
      first = b.first;
      ends = b.ends;
      sooner = omega arith;
      by_rule = ruled_sooner x.problem s.best.finish root.best.finish b.by_rule le;
      proved = λ q. subst (λ z. IsProved z s.tokens.items s.best.finish) b.same (proved q);
      counted = counted;
      full = full;
      opened = opened;
      nodes = begun_many x root s.opened b nodes;
      over = λ q. begun_many x root (limit + 1) b (over q);
    }
