-- What a walk shows of a node.
use Rattle.std.proofs.Common.{◌≡◌, ℕ, ◌+◌, ◌-◌, ◌≤◌, ◌<◌, ◌^◌, true, false, List, [], ◌∷◌, ◌++◌, length, refl, sym, ap, ◌∙◌, subst, arith, length-append}
use Rattle.std.specs.Prelude.{slice_index, slice_index_or, max}
use Rattle.std.proofs.lemmas.Bool.{false≢true}
use Rattle.std.proofs.lemmas.List.{nil_from_length}
use Rattle.onfi_problem.specs.Problem.{Problem, IsProblem}
use Rattle.onfi_problem.specs.Moves.{Move, IsMove, AreMoves, earliest}
use Rattle.onfi_problem.specs.Left.{InLimits}
use Rattle.onfi_problem.specs.declared.moves.Move.{Move as KeptMove}
use Rattle.onfi_problem.specs.Position.{Position, move_of, moves_of, moved}
use Rattle.onfi_check.proofs.Nothing.{no_moves}
use Rattle.onfi_schedule.specs.Runs.{Run}
use Rattle.onfi_demand.specs.Asked.{AreRaised}
use Rattle.onfi_demand.specs.Demand.{Meets, of_bus, of_luns}
use Rattle.onfi_demand.specs.Kept.{demand_of, IsKept}
use Rattle.onfi_demand.specs.declared.demand.Demand.{Demand as Kept}
use Rattle.onfi_demand.proofs.Keeping.{left_few}
use Rattle.onfi_known_check.specs.declared.token.Token.TheVariants.{Branch}
use Rattle.onfi_known_check.specs.Proves.{Proves, Remembers, times_of, with_yields, opened}
use Rattle.onfi_check.specs.Nodes.{IsOpen, HasNodes}
use Rattle.onfi_planner.specs.Planning.{run_of}
use Rattle.onfi_planner.specs.declared.search.Begun.{Begun}
use Rattle.onfi_planner.specs.declared.search.Best.{Best}
use Rattle.onfi_planner.proofs.Paths.{node_one, nodes_none, among_all}
use Rattle.onfi_planner.proofs.Stacking.{run_split}
use Rattle.onfi_known_plan.specs.declared.closing.Closing.{Closing}
use Rattle.onfi_known_plan.specs.declared.notes.Notes.{Notes}
use Rattle.onfi_known_plan.specs.declared.phases.Phases.{Phases}
use Rattle.onfi_known_plan.specs.declared.search.Shown.{Shown}
use Rattle.onfi_known_plan.specs.declared.standing.Standing.{Standing}
use Rattle.onfi_known_plan.specs.declared.yields.Soonest.{Soonest}
use Rattle.onfi_known_plan.specs.Walks.{AreMore, Halfway, IsClosing, IsFound, IsShown, Visited, wait_for}
use Rattle.onfi_known_plan.proofs.Waiting.{raised_needs, raised_met}

-- a step and a run after it
pub step_run : (x : Position) (b : Begun) (steps items : List Begun) (f : ℕ) → IsMove x.problem (move_of x.groups b.step) → b.start ≡ earliest x.problem (move_of x.groups b.step) → items ≡ steps ++ b ∷ [] → Run (moved x b.step).problem (run_of x.groups steps) f → Run x.problem (run_of x.groups items) f
step_run x b steps items f mv start e run = subst (λ z. Run x.problem z f) (sym (ap (run_of x.groups) e ∙ run_split x.groups steps b [])) (mv, omega arith, rw start run)

one_more : (p : Problem) (finish n k : ℕ) → n ≡ k + 1 → AreMore p finish (n - k)
one_more p finish n k e = λ f le. let q : 1 ≡ n - k = omega arith in subst (HasNodes f p) q (node_one f p)

-- a node that a token closes
pub closed_shown : (x : Position) (best : Best) (before behind : Notes) (closing : Closing) → IsClosing best.finish x before.records.nodes.items closing → before.opened < before.limit
    → behind.opened ≡ before.opened + 1 → behind.limit ≡ before.limit → behind.records.nodes.items ≡ before.records.nodes.items → behind.cert.finish ≡ before.cert.finish
    → (best.finish ≡ before.cert.finish → behind.cert.tokens.items ≡ before.cert.tokens.items ++ closing.token ∷ []) → before.cut ≡ false → behind.cut ≡ before.cut
    → IsShown x best best before.opened before behind (record { demand = closing.demand; improved = false })
closed_shown x best before behind closing c room count limit known finish tokens uncut cut =
    let long = ap length known in
    record {
      found = record { sooner = omega arith; run = λ q. absurd (false≢true q); kept = λ q. refl };
      met = c.met;
      opened = record {
        more = omega arith;
        some = λ _. omega arith;
        within = omega arith;
        nodes = one_more x.problem best.finish behind.opened before.opened count;
        few = omega arith;
        same_finish = finish;
        same_limit = limit;
        stays = λ _. uncut;
        full = λ q. absurd (false≢true (sym (cut ∙ uncut) ∙ q));
        over = λ q. absurd (false≢true (sym (cut ∙ uncut) ∙ q));
      };
      written = λ _ e. record {
        tree = closing.token ∷ [];
        nodes = let one = c.node in omega arith;
        tokens = tokens e;
        in_range = (c.in_range, tt);
        proves = λ rest. subst (λ k. Proves before.cert.finish x.all x.problem before.records.nodes.items (closing.token ∷ rest) closing.demand k rest) (sym known) (subst (λ z. Proves z x.all x.problem before.records.nodes.items (closing.token ∷ rest) closing.demand before.records.nodes.items rest) e (c.proves rest));
      };
    }

-- nothing is left, and no step was taken
pub done_run : (x : Position) (items : List KeptMove) (steps : List Begun) (f : ℕ) → IsProblem x.problem → AreMoves x.problem (moves_of x.groups items) → length items ≡ 0 → steps ≡ [] → f ≡ x.problem.bus_free → Run x.problem (run_of x.groups steps) f
done_run x items steps f ip are none s e = rw s (no_moves x.problem ip (subst (λ z. AreMoves x.problem (moves_of x.groups z)) (nil_from_length items none) are), sym e)

-- a node with nothing left
pub done_shown : (x : Position) (items : List KeptMove) (old new : Best) (notes : Notes) (demand : Kept) → InLimits x.problem → AreMoves x.problem (moves_of x.groups items) → length items ≡ 0
    → new.finish ≡ x.problem.bus_free → new.steps.items ≡ [] → IsOpen old.finish x.problem → old.finish ≤ notes.cert.finish → 1 ≤ notes.opened → notes.opened ≤ notes.limit → notes.cut ≡ false → IsKept demand (of_bus new.finish)
    → IsShown x old new (notes.opened - 1) notes notes (record { demand = demand; improved = true })
done_shown x items old new notes demand limits are none end steps is_open begun counted within uncut kept =
    let d = no_moves x.problem limits.problem (subst (λ z. AreMoves x.problem (moves_of x.groups z)) (nil_from_length items none) are) in
    let u = is_open.bus in
    let b = kept.bus in
    record {
      found = record { sooner = omega arith; run = λ q. rw steps (d, sym end); kept = λ q. absurd (false≢true (sym q)) };
      met = record { bus = omega arith; luns = λ lun has. let z = kept.luns lun (left_few x.problem lun limits.problem limits.small has) in omega arith };
      opened = record {
        more = omega arith;
        some = λ _. omega arith;
        within = within;
        nodes = one_more x.problem old.finish notes.opened (notes.opened - 1) (omega arith);
        few = omega arith;
        same_finish = refl;
        same_limit = refl;
        stays = λ q. q;
        full = λ q. absurd (false≢true (sym uncut ∙ q));
        over = λ q. absurd (false≢true (sym uncut ∙ q));
      };
      written = λ _ e. absurd (omega arith);
    }

-- a node whose children were walked over, and which is remembered
pub node_shown : (x : Position) (moves : List Move) (soonest : Soonest) (first best : Best) (before notes behind : Notes) (standing : Standing) (raised : List ℕ) → InLimits x.problem → AreMoves x.problem moves → 1 ≤ length moves → length moves ≤ 87
    → Halfway x moves moves soonest first best before notes standing
    → ((lun : ℕ) → lun < 8 → slice_index_or standing.yielded lun false ≡ false → slice_index raised lun ≡ slice_index standing.asked lun)
    → ((lun : ℕ) → lun < 8 → slice_index_or standing.yielded lun false ≡ true → wait_for x.problem soonest standing.asked < 2 ^ 64 → slice_index raised lun ≡ max (wait_for x.problem soonest standing.asked) (slice_index standing.asked lun))
    → ((lun : ℕ) → lun < 8 → slice_index raised lun < 2 ^ 64)
    → Remembers x.all x.problem raised notes.records.nodes.items behind.records.nodes.items (record { bus = 0; luns = raised })
    → behind.opened ≡ notes.opened → behind.limit ≡ notes.limit → behind.cert ≡ notes.cert → notes.cut ≡ false → behind.cut ≡ notes.cut
    → IsShown x first best (before.opened - 1) before behind (record { demand = record { bus = 0; luns = raised }; improved = standing.improved })
node_shown x moves soonest first best before notes behind standing raised limits are some few h kept more small r count limit cert uncut cut =
    let ip = limits.problem in
    let h1 = h.more in
    let h2 = h.within in
    let h3 = h.few in
    let h4 = h.counted in
    let long = ap length r.grown ∙ length-append notes.records.nodes.items (r.node ∷ []) in
    let sum : 1 + (notes.opened - before.opened) ≡ behind.opened - (before.opened - 1) = omega arith in
    record {
      found = h.found;
      met = record { bus = omega arith; luns = λ lun has. raised_met x.problem moves soonest standing.yielded standing.asked raised ip limits.small are.moves_only h.is_soonest h.met h.waits kept more lun (left_few x.problem lun ip limits.small has) has };
      opened = record {
        more = omega arith;
        some = λ _. omega arith;
        within = omega arith;
        nodes = λ f le. subst (HasNodes f x.problem) sum (among_all f x.problem moves (notes.opened - before.opened) (h.nodes f le));
        few = omega arith;
        same_finish = ap (λ z. z.finish) cert ∙ h.same_finish;
        same_limit = limit ∙ h.same_limit;
        stays = λ _. h.uncut;
        full = λ q. absurd (false≢true (sym (cut ∙ uncut) ∙ q));
        over = λ q. absurd (false≢true (sym (cut ∙ uncut) ∙ q));
      };
      written = λ _ e.
          let g = h.growing uncut e in
          let d : Kept = record { bus = 0; luns = raised } in
          let needs = raised_needs x.problem moves soonest g.given standing.yielded standing.asked raised ip limits.small are.moves_only h.is_soonest h.met g.each_given g.marks h.waits kept more in
          let asks : IsKept d (of_luns (with_yields standing.asked g.given)) = record { bus = refl; luns = needs } in
          let same : IsKept d (times_of r.node) = record { bus = refl; luns = λ l k. ap (λ z. slice_index z l) (sym r.times_are) } in
          record {
            tree = Branch (length moves) ∷ g.tree;
            nodes = let n = g.nodes in omega arith;
            tokens = ap (λ z. z.tokens.items) cert ∙ g.tokens;
            in_range = ((some, omega arith), g.in_range);
            proves = λ rest. subst (λ k. Proves before.cert.finish x.all x.problem before.records.nodes.items (Branch (length moves) ∷ (g.tree ++ rest)) d k rest) (sym r.grown)
                (opened x.problem before.records.nodes.items (length moves) (g.tree ++ rest) moves standing.asked g.given r.node d notes.records.nodes.items rest are some refl (g.children rest) (λ lun k. let n = needs lun k in let s = small lun k in omega arith) r.describes asks same);
          };
    }

-- a node that is given up asks for nothing
nothing_met : (x : Position) (demand : Kept) → InLimits x.problem → IsKept demand (of_bus 0) → Meets x.problem (demand_of demand)
nothing_met x demand limits kept =
    let b = kept.bus in
    record { bus = omega arith; luns = λ lun has. let z = kept.luns lun (left_few x.problem lun limits.problem limits.small has) in omega arith }

full_over : (p : Problem) (finish limit began : ℕ) → began ≡ limit → AreMore p finish (limit - began + 1)
full_over p finish limit began e = λ f le. let q : 1 ≡ limit - began + 1 = omega arith in subst (HasNodes f p) q (node_one f p)

-- a node that is one more than may be opened
pub full_shown : (x : Position) (best : Best) (before behind : Notes) (shown : Shown) → InLimits x.problem → before.opened ≡ before.limit
    → behind.opened ≡ before.opened → behind.limit ≡ before.limit → behind.records.nodes.items ≡ before.records.nodes.items → behind.cert.finish ≡ before.cert.finish → behind.cut ≡ true
    → IsKept shown.demand (of_bus 0) → shown.improved ≡ false → IsShown x best best before.opened before behind shown
full_shown x best before behind shown limits is_full count limit known finish cut kept improved =
    let long = ap length known in
    let zero : 0 ≡ behind.opened - before.opened = omega arith in
    record {
      found = record { sooner = omega arith; run = λ q. absurd (false≢true (sym improved ∙ q)); kept = λ _. refl };
      met = nothing_met x shown.demand limits kept;
      opened = record {
        more = omega arith;
        some = λ q. absurd (false≢true (sym q ∙ cut));
        within = omega arith;
        nodes = λ f le. subst (HasNodes f x.problem) zero (nodes_none f x.problem);
        few = omega arith;
        same_finish = finish;
        same_limit = limit;
        stays = λ q. absurd (false≢true (sym q ∙ cut));
        full = λ _. omega arith;
        over = λ _. full_over x.problem best.finish behind.limit before.opened (omega arith);
      };
      written = λ q. absurd (false≢true (sym q ∙ cut));
    }

-- a node below which the walk was cut
pub cut_shown : (x : Position) (moves : List Move) (soonest : Soonest) (first best : Best) (before notes : Notes) (standing : Standing) (shown : Shown) → InLimits x.problem → Halfway x moves moves soonest first best before notes standing
    → notes.cut ≡ true → IsKept shown.demand (of_bus 0) → shown.improved ≡ standing.improved → IsShown x first best (before.opened - 1) before notes shown
cut_shown x moves soonest first best before notes standing shown limits h cut kept improved =
    let h1 = h.more in
    let h2 = h.within in
    let h3 = h.few in
    let h4 = h.counted in
    let h5 = h.same_limit in
    let sum : 1 + (notes.opened - before.opened) ≡ notes.opened - (before.opened - 1) = omega arith in
    let more : 1 + (before.limit - before.opened + 1) ≡ notes.limit - (before.opened - 1) + 1 = omega arith in
    record {
      found = subst (IsFound x first best) (sym improved) h.found;
      met = nothing_met x shown.demand limits kept;
      opened = record {
        more = omega arith;
        some = λ q. absurd (false≢true (sym q ∙ cut));
        within = h.within;
        nodes = λ f le. subst (HasNodes f x.problem) sum (among_all f x.problem moves (notes.opened - before.opened) (h.nodes f le));
        few = omega arith;
        same_finish = h.same_finish;
        same_limit = h.same_limit;
        stays = λ q. absurd (false≢true (sym q ∙ cut));
        full = h.full;
        over = λ q f le. subst (HasNodes f x.problem) more (among_all f x.problem moves (before.limit - before.opened + 1) (h.over q f le));
      };
      written = λ q. absurd (false≢true (sym q ∙ cut));
    }

-- what was shown once the node was counted
pub counted_shown : (x : Position) (old new : Best) (before behind : Notes) (phases : Phases) (shown : Shown) → IsShown x old new (before.opened + 1 - 1) (record { cert = before.cert; opened = before.opened + 1; limit = before.limit; cut = before.cut; records = before.records; phases = phases }) behind shown → IsShown x old new before.opened before behind shown
counted_shown x old new before behind phases shown s =
    let n : before.opened + 1 - 1 ≡ before.opened = omega arith in
    let o = s.opened in
    let o1 = o.more in
    let o3 = o.few in
    record {
      found = s.found;
      met = s.met;
      opened = record {
        more = omega arith;
        some = λ q. let some = o.some q in omega arith;
        within = o.within;
        nodes = subst (λ k. AreMore x.problem old.finish (behind.opened - k)) n o.nodes;
        few = omega arith;
        same_finish = o.same_finish;
        same_limit = o.same_limit;
        stays = o.stays;
        full = o.full;
        over = λ q. subst (λ k. AreMore x.problem old.finish (behind.limit - k + 1)) n (o.over q);
      };
      written = λ q e. let w = s.written q e in record { tree = w.tree; nodes = let c = w.nodes in omega arith; tokens = w.tokens; in_range = w.in_range; proves = w.proves };
    }

-- what was shown after a step
pub step_visited : (x : Position) (step : KeptMove) (start : ℕ) (old mid new : Best) (before behind : Notes) (shown : Shown) (asked raised : List ℕ) → IsMove x.problem (move_of x.groups step) → start ≡ earliest x.problem (move_of x.groups step)
    → IsShown (moved x step) old mid before.opened before behind shown → AreRaised x.problem (move_of x.groups step) shown.demand asked raised
    → new.finish ≡ mid.finish → (shown.improved ≡ true → new.steps.items ≡ mid.steps.items ++ (record { step = step; start = start }) ∷ []) → (shown.improved ≡ false → new ≡ mid)
    → Visited x step old new before behind asked raised shown.improved
step_visited x step start old mid new before behind shown asked raised mv at s raises finish more kept =
    let le = s.found.sooner in
    record {
      found = record {
        sooner = omega arith;
        run = λ q. subst (λ f. Run x.problem (run_of x.groups new.steps.items) f) (sym finish) (step_run x (record { step = step; start = start }) mid.steps.items new.steps.items mid.finish mv at (more q) (s.found.run q));
        kept = λ q. kept q ∙ s.found.kept q;
      };
      demand = shown.demand;
      met = s.met;
      raises = raises;
      opened = s.opened;
      written = λ q e. s.written q (sym finish ∙ e);
    }
