-- A walk between two children of a node.
use Rattle.std.proofs.Common.{◌≡◌, ◌≢◌, ℕ, ◌+◌, ◌-◌, ◌≤◌, ◌<◌, inl, inr, Bool, true, false, List, [], ◌∷◌, ◌++◌, length, refl, sym, ap, ◌∙◌, subst, arith, append_assoc}
use Rattle.std.specs.Prelude.{slice_index, slice_index_or}
use Rattle.std.proofs.lemmas.Bool.{cases_eq, cases_Bool, false≢true}
use Rattle.onfi_group.specs.Words.{Has}
use Rattle.onfi_problem.specs.Problem.{IsProblem}
use Rattle.onfi_problem.specs.Moves.{Move, IsMove, move_lun, may_go}
use Rattle.onfi_problem.specs.declared.moves.Move.{Move as KeptMove}
use Rattle.onfi_problem.specs.Position.{Position, move_of, moved}
use Rattle.onfi_problem.proofs.Limits.{after_limits}
use Rattle.onfi_bound.proofs.Loading.{loads_after}
use Rattle.onfi_known_plan.specs.Steps.{IsStep}
use Rattle.onfi_problem.proofs.Perm.{All-append, All-weaker}
use Rattle.onfi_bound.specs.declared.loads.Loads.{Loads}
use Rattle.onfi_demand.specs.Kept.{demand_of}
use Rattle.onfi_demand.proofs.Opened.{asked_is_met}
use Rattle.onfi_known_check.specs.declared.given.Given.{Given}
use Rattle.onfi_known_check.specs.declared.token.Token.{Token}
use Rattle.onfi_known_check.specs.declared.token.Token.TheVariants.{Branch, Yield}
use Rattle.onfi_known_check.specs.Proves.{Children, MayYield, none, tree, yielded}
use Rattle.onfi_known_check.specs.Text.{InRange}
use Rattle.onfi_check.specs.Nodes.{IsOpen}
use Rattle.onfi_planner.specs.declared.search.Best.{Best}
use Rattle.onfi_planner.proofs.Halfway.{open_later}
use Rattle.onfi_planner.proofs.Paths.{Among, among_none, among_more, among_skip}
use Rattle.onfi_known_plan.specs.declared.notes.Notes.{Notes}
use Rattle.onfi_known_plan.specs.declared.standing.Standing.{Standing}
use Rattle.onfi_known_plan.specs.declared.yields.Soonest.{Soonest}
use Rattle.onfi_known_plan.specs.Text.{nodes_in}
use Rattle.onfi_known_plan.specs.Walks.{Awaits, Growing, Halfway, HasWritten, IsAt, IsRunOf, IsSoonest, Visited}
use Rattle.onfi_known_plan.proofs.Waiting.{yields_here, yields_same}

-- after a step a walk goes on
pub at_moved : (x : Position) (step : KeptMove) (loads : Loads) (best : Best) (notes : Notes) → IsStep x step → IsAt x loads best notes → IsAt (moved x step) loads best notes
at_moved x step loads best notes s at = record {
  tree = record { limits = after_limits x.problem (move_of x.groups step) at.tree.limits s.move; are_loads = loads_after x step loads.of.items s.move at.tree.are_loads; rising = at.tree.rising };
  finish = at.finish;
  within = at.within;
  most = at.most;
  few = at.few;
  full = at.full;
}

-- a walk that goes on is not cut, and may count a node more
pub at_counted : (x : Position) (loads : Loads) (best : Best) (notes counted : Notes) → IsAt x loads best notes → notes.opened < notes.limit → counted.cert ≡ notes.cert → counted.opened ≡ notes.opened + 1 → counted.limit ≡ notes.limit → counted.cut ≡ notes.cut → counted.records ≡ notes.records → (counted.cut ≡ false) × IsAt x loads best counted
at_counted x loads best notes counted at less cert count limit cut known =
    let uncut : counted.cut ≡ false = elim (cases_Bool counted.cut) [ inl q ↦ (let full = at.full (sym cut ∙ q) in absurd (omega arith)) | inr q ↦ q ] in
    let a = at.finish in
    let b = at.within in
    let c = at.most in
    let d = at.few in
    let same = ap (λ z. z.finish) cert in
    let long = ap (λ z. length z.nodes.items) known in (
      uncut,
      record { tree = at.tree; finish = omega arith; within = omega arith; most = omega arith; few = omega arith; full = λ q. absurd (false≢true (sym uncut ∙ q)) },
    )

pub at_start : (x : Position) (moves : List Move) (soonest : Soonest) (first : Best) (before notes : Notes) (standing : Standing) (width : ℕ)
    → IsOpen first.finish x.problem → IsSoonest x.problem moves soonest → first.finish ≤ before.cert.finish → 1 ≤ before.opened → before.opened ≤ before.limit
    → notes.opened ≡ before.opened → notes.limit ≡ before.limit → notes.records.nodes.items ≡ before.records.nodes.items → notes.cert.finish ≡ before.cert.finish
    → (first.finish ≡ before.cert.finish → notes.cert.tokens.items ≡ before.cert.tokens.items ++ Branch width ∷ []) → width ≡ length moves
    → ((lun : ℕ) → slice_index standing.asked lun ≡ 0) → ((lun : ℕ) → slice_index_or standing.yielded lun false ≡ false) → standing.improved ≡ false
    → before.cut ≡ false → notes.cut ≡ before.cut
    → Halfway x moves [] soonest first first before notes standing
at_start x moves soonest first before notes standing width is_open is begun counted within opened limit known finish tokens wide asked marks improved uncut cut =
    let long = ap length known in
    let zero_more : notes.opened - before.opened ≡ 0 = omega arith in
    record {
      open_at = is_open;
      is_soonest = is;
      begun = begun;
      counted = counted;
      uncut = uncut;
      found = record { sooner = omega arith; run = λ q. absurd (false≢true (sym improved ∙ q)); kept = λ q. refl };
      met = λ lun few has. let a = asked lun in omega arith;
      waits = λ lun few q. absurd (false≢true (sym (marks lun) ∙ q));
      more = omega arith;
      within = omega arith;
      nodes = λ f le. subst (Among f x.problem []) (sym zero_more) (among_none f x.problem);
      few = omega arith;
      same_finish = finish;
      same_limit = limit;
      full = λ q. absurd (false≢true (sym (cut ∙ uncut) ∙ q));
      over = λ q. absurd (false≢true (sym (cut ∙ uncut) ∙ q));
      growing = λ _ e. record {
        tree = [];
        given = [];
        nodes = omega arith;
        tokens = tokens e ∙ ap (λ n. before.cert.tokens.items ++ Branch n ∷ []) wide;
        in_range = tt;
        children = λ rest. subst (λ k. Children before.cert.finish x.all x.problem moves [] before.records.nodes.items rest standing.asked [] k rest) (sym known) (none x.problem moves before.records.nodes.items rest standing.asked asked);
        each_given = tt;
        marks = λ lun few. marks lun;
      };
    }

-- a walk stands at the node still
pub still_at : (x : Position) (moves firsts : List Move) (soonest : Soonest) (first best : Best) (before notes : Notes) (standing : Standing) (loads : Loads) → IsAt x loads first before → Halfway x moves firsts soonest first best before notes standing → IsAt x loads best notes
still_at x moves firsts soonest first best before notes standing loads at h =
    let a = at.finish in
    let b = at.most in
    let c = at.few in
    let d = h.found.sooner in
    let e = h.same_finish in
    let f = h.same_limit in
    let g = h.few in
    let i = h.more in
    record { tree = at.tree; finish = omega arith; within = h.within; most = omega arith; few = omega arith; full = h.full }

-- the nodes of tokens after one another
nodes_more : (ts more : List Token) → nodes_in (ts ++ more) ≡ nodes_in ts + nodes_in more
nodes_more [] more = omega arith
nodes_more (t ∷ ts) more = let n = nodes_more ts more in omega arith

-- tokens and children after one more
grown_tokens : (began now next : List Token) (b : Token) (ts more : List Token) → now ≡ began ++ b ∷ ts → next ≡ now ++ more → next ≡ began ++ b ∷ (ts ++ more)
grown_tokens began now next b ts more e q = q ∙ (ap (λ z. z ++ more) e ∙ append_assoc began (b ∷ ts) more)

module _ (x : Position) (moves firsts : List Move) (soonest : Soonest) (first best : Best) (before notes : Notes) (standing : Standing) (h : Halfway x moves firsts soonest first best before notes standing) where
  -- the next move yields
  grown_yield : (m : Move) (own : ℕ) (notes' : Notes) (standing' : Standing) → own ≡ move_lun m → own < 8 → soonest.lun < 8 → Awaits x.problem soonest own
      → notes'.opened ≡ notes.opened → notes'.records.nodes.items ≡ notes.records.nodes.items → notes'.cert.tokens.items ≡ notes.cert.tokens.items ++ Yield soonest.lun ∷ []
      → standing'.asked ≡ standing.asked → slice_index_or standing'.yielded own false ≡ true → ((other : ℕ) → other ≢ own → slice_index_or standing'.yielded other false ≡ slice_index_or standing.yielded other false) → Growing before.cert.finish x moves firsts soonest before notes standing → Growing before.cert.finish x moves (firsts ++ m ∷ []) soonest before notes' standing'
  grown_yield m own notes' standing' of few few' awaits opened known written asked here others g =
      let y : Given = record { own = own; lun = soonest.lun; longest = soonest.end - may_go x.problem soonest.lun } in
      let more = Yield soonest.lun ∷ [] in
      let may : MayYield x.problem moves g.given m y = record {
        own = of;
        other = awaits.other;
        end = soonest.end;
        last = h.is_soonest awaits.early;
        fits = awaits.fits;
        longest = refl;
        unasked = All-weaker _ _ (λ z i q. awaits.other (sym i.lun ∙ q)) g.given g.each_given;
        stays = All-weaker _ _ (λ z i q. i.awaits.other (sym q)) g.given g.each_given;
      } in
      record {
        tree = g.tree ++ more;
        given = g.given ++ y ∷ [];
        nodes = let n = g.nodes in let sum = nodes_more g.tree more in omega arith;
        tokens = grown_tokens before.cert.tokens.items notes.cert.tokens.items notes'.cert.tokens.items (Branch (length moves)) g.tree more g.tokens written;
        in_range = All-append InRange g.tree more g.in_range (few', tt);
        children = λ rest.
            let was = subst (λ ts. Children before.cert.finish x.all x.problem moves firsts before.records.nodes.items ts standing.asked g.given notes.records.nodes.items (Yield soonest.lun ∷ rest)) (sym (append_assoc g.tree more rest)) (g.children (Yield soonest.lun ∷ rest)) in
            let now = yielded x.problem moves firsts (firsts ++ m ∷ []) m before.records.nodes.items ((g.tree ++ more) ++ rest) standing.asked g.given y notes.records.nodes.items rest refl was may in
            subst (λ k. Children before.cert.finish x.all x.problem moves (firsts ++ m ∷ []) before.records.nodes.items ((g.tree ++ more) ++ rest) standing'.asked (g.given ++ y ∷ []) k rest) (sym known)
            (subst (λ a. Children before.cert.finish x.all x.problem moves (firsts ++ m ∷ []) before.records.nodes.items ((g.tree ++ more) ++ rest) a (g.given ++ y ∷ []) notes.records.nodes.items rest) (sym asked) now);
        each_given = All-append _ g.given (y ∷ []) g.each_given (record { lun = refl; awaits = awaits; longest = refl }, tt);
        marks = λ lun small. elim (cases_eq lun own) [
          | inl e ↦ subst (λ z. slice_index_or standing'.yielded z false ≡ true) (sym e) here ∙ sym (yields_here g.given y lun e)
          | inr d ↦ others lun d ∙ (g.marks lun small ∙ sym (yields_same g.given y lun d))
        ];
      }

  pub with_yield : (m : Move) (own : ℕ) (notes' : Notes) (standing' : Standing) → own ≡ move_lun m → own < 8 → soonest.lun < 8 → Awaits x.problem soonest own
      → notes'.opened ≡ notes.opened → notes'.limit ≡ notes.limit → notes'.records.nodes.items ≡ notes.records.nodes.items → notes'.cert.finish ≡ notes.cert.finish
      → (best.finish ≡ notes.cert.finish → notes'.cert.tokens.items ≡ notes.cert.tokens.items ++ Yield soonest.lun ∷ [])
      → standing'.asked ≡ standing.asked → standing'.improved ≡ standing.improved → slice_index_or standing'.yielded own false ≡ true → ((other : ℕ) → other ≢ own → slice_index_or standing'.yielded other false ≡ slice_index_or standing.yielded other false) → notes'.cut ≡ notes.cut
      → Halfway x moves (firsts ++ m ∷ []) soonest first best before notes' standing'
  with_yield m own notes' standing' of few few' awaits opened limit known finish written asked improved here others cut =
      let known_long = ap length known in
      let so_many = h.few in
      let more = h.more in
      let within = h.within in
      let same_limit = h.same_limit in
      let same : notes'.opened - before.opened ≡ notes.opened - before.opened = ap (λ n. n - before.opened) opened in
      record {
        open_at = h.open_at;
        is_soonest = h.is_soonest;
        begun = h.begun;
        counted = h.counted;
        uncut = h.uncut;
        found = record { sooner = h.found.sooner; run = λ q. h.found.run (sym improved ∙ q); kept = λ q. h.found.kept (sym improved ∙ q) };
        met = λ lun small has. subst (λ a. slice_index a lun ≤ may_go x.problem lun) (sym asked) (h.met lun small has);
        waits = λ lun small q. elim (cases_eq lun own) [
          | inl e ↦ subst (Awaits x.problem soonest) (sym e) awaits
          | inr d ↦ h.waits lun small (sym (others lun d) ∙ q)
        ];
        more = omega arith;
        within = omega arith;
        nodes = λ f le. subst (Among f x.problem (firsts ++ m ∷ [])) (sym same) (among_skip f x.problem firsts (m ∷ []) (notes.opened - before.opened) (h.nodes f le));
        few = omega arith;
        same_finish = finish ∙ h.same_finish;
        same_limit = limit ∙ h.same_limit;
        full = λ q. let full = h.full (sym cut ∙ q) in omega arith;
        over = λ q f le. among_skip f x.problem firsts (m ∷ []) (before.limit - before.opened + 1) (h.over (sym cut ∙ q) f le);
        growing = λ q e. grown_yield m own notes' standing' of few few' awaits opened known (written (e ∙ sym h.same_finish)) asked here others (h.growing (sym cut ∙ q) e);
      }

  -- the node after the next move was walked over
  grown_child : (step : KeptMove) (best' : Best) (notes' : Notes) (standing' : Standing) (improved : Bool) (v : Visited x step best best' notes notes' standing.asked standing'.asked improved)
      → HasWritten before.cert.finish (moved x step) notes.opened notes notes' v.demand
      → standing'.yielded ≡ standing.yielded → Growing before.cert.finish x moves firsts soonest before notes standing → Growing before.cert.finish x moves (firsts ++ move_of x.groups step ∷ []) soonest before notes' standing'
  grown_child step best' notes' standing' improved v w same g =
      let m = move_of x.groups step in
      let more = w.tree in
      record {
        tree = g.tree ++ more;
        given = g.given;
        nodes = let n = g.nodes in let k = w.nodes in let sum = nodes_more g.tree more in omega arith;
        tokens = grown_tokens before.cert.tokens.items notes.cert.tokens.items notes'.cert.tokens.items (Branch (length moves)) g.tree more g.tokens w.tokens;
        in_range = All-append InRange g.tree more g.in_range w.in_range;
        children = λ rest.
            let was = subst (λ ts. Children before.cert.finish x.all x.problem moves firsts before.records.nodes.items ts standing.asked g.given notes.records.nodes.items (more ++ rest)) (sym (append_assoc g.tree more rest)) (g.children (more ++ rest)) in
            tree x.problem moves firsts (firsts ++ m ∷ []) m before.records.nodes.items ((g.tree ++ more) ++ rest) standing.asked standing'.asked g.given notes.records.nodes.items (more ++ rest) v.demand notes'.records.nodes.items rest refl was (w.proves rest) v.raises;
        each_given = g.each_given;
        marks = λ lun small. ap (λ z. slice_index_or z lun false) same ∙ g.marks lun small;
      }

  pub with_child : (step : KeptMove) (best' : Best) (notes' : Notes) (standing' : Standing) (improved : Bool) → IsProblem x.problem → IsMove x.problem (move_of x.groups step) → (Has firsts (move_of x.groups step) → ⊥)
      → Visited x step best best' notes notes' standing.asked standing'.asked improved → standing'.yielded ≡ standing.yielded
      → (improved ≡ true → standing'.improved ≡ true) → (improved ≡ false → standing'.improved ≡ standing.improved)
      → Halfway x moves (firsts ++ move_of x.groups step ∷ []) soonest first best' before notes' standing'
  with_child step best' notes' standing' improved ip mv new v same found kept =
      let m = move_of x.groups step in
      let a = h.found.sooner in
      let b = v.found.sooner in
      let o = v.opened in
      let o1 = o.more in
      let o2 = o.within in
      let o3 = o.few in
      let o4 = o.same_finish in
      let o5 = o.same_limit in
      let h1 = h.more in
      let h2 = h.within in
      let h3 = h.few in
      let h4 = h.same_finish in
      let h5 = h.same_limit in
      let h6 = h.begun in
      let sum : notes.opened - before.opened + (notes'.opened - notes.opened) ≡ notes'.opened - before.opened = omega arith in
      record {
        open_at = h.open_at;
        is_soonest = h.is_soonest;
        begun = h.begun;
        counted = h.counted;
        uncut = h.uncut;
        found = elim (cases_Bool improved) [
          | inl i ↦ record { sooner = omega arith; run = λ q. v.found.run i; kept = λ q. absurd (false≢true (sym q ∙ found i)) }
          | inr i ↦ (
              let s = v.found.kept i in
              record { sooner = omega arith; run = λ q. subst (IsRunOf x) (sym s) (h.found.run (sym (kept i) ∙ q)); kept = λ q. s ∙ h.found.kept (sym (kept i) ∙ q) })
        ];
        met = λ lun small has. let r = v.raises lun small in let c = h.met lun small has in let d = asked_is_met x.problem m (demand_of v.demand) lun ip mv v.met has in omega arith;
        waits = λ lun small q. h.waits lun small (sym (ap (λ z. slice_index_or z lun false) same) ∙ q);
        more = omega arith;
        within = o2;
        nodes = λ f le.
            let c = among_more f x.problem firsts m (notes.opened - before.opened) (notes'.opened - notes.opened) (h.nodes f le) (open_later first.finish f x.problem le h.open_at) mv new (o.nodes f (omega arith)) in
            subst (Among f x.problem (firsts ++ m ∷ [])) sum c;
        few = omega arith;
        same_finish = o.same_finish ∙ h.same_finish;
        same_limit = o.same_limit ∙ h.same_limit;
        full = o.full;
        over = λ q f le.
            let more : notes.opened - before.opened + (notes'.limit - notes.opened + 1) ≡ before.limit - before.opened + 1 = omega arith in
            let c = among_more f x.problem firsts m (notes.opened - before.opened) (notes'.limit - notes.opened + 1) (h.nodes f le) (open_later first.finish f x.problem le h.open_at) mv new (o.over q f (omega arith)) in
            subst (Among f x.problem (firsts ++ m ∷ [])) more c;
        growing = λ q e.
            let was : best.finish ≡ before.cert.finish = omega arith in
            let w = v.written q (e ∙ sym h.same_finish) in
            grown_child step best' notes' standing' improved v (subst (λ z. HasWritten z (moved x step) notes.opened notes notes' v.demand) h.same_finish w) same (h.growing (o.stays q) was);
      }
