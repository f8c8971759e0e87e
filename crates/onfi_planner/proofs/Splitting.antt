-- The parts of a tree, put together.
use Rattle.std.proofs.Common.{◌≡◌, ℕ, suc, ◌+◌, ◌*◌, ◌-◌, ◌≤◌, ◌<◌, ◌^◌, ◌⊎◌, inl, inr, List, [], ◌∷◌, ◌++◌, length, map, take, get_or, Result, Option, Some, None, Vec, Global, refl, sym, ap, ◌∙◌, subst, arith, append_assoc, mul-suc}
use Rattle.std.specs.List.{AllByRecursion as All, flat_map}
use Rattle.std.specs.Prelude.{if◌then◌else◌}
use Rattle.std.specs.Option.{is_some}
use Rattle.std.proofs.lemmas.List.{take_more}
use denote.Param.Members.{Shared}
use Rattle.onfi_group.specs.Words.{Has, Pairs}
use Rattle.onfi_cert.specs.declared.token.Token.{Token}
use Rattle.onfi_cert.specs.declared.token.Token.TheVariants.{Branch, Yield}
use Rattle.onfi_problem.specs.Problem.{Problem, IsProblem}
use Rattle.onfi_problem.specs.Moves.{Move, IsMove, AreMoves, ComesBefore, move_lun}
use Rattle.onfi_problem.specs.declared.moves.Move.{Move as KeptMove}
use Rattle.onfi_problem.specs.Position.{Position, move_of, moves_of, moved, lun_named}
use Rattle.onfi_problem.specs.Starts.{IsNamed}
use Rattle.onfi_problem.proofs.Perm.{All-append, All-weaker}
use Rattle.onfi_schedule.specs.Runs.{Step, Run}
use Rattle.onfi_schedule.proofs.Exchange.{not_done}
use Rattle.onfi_check.specs.Tree.{Closing, Closes, token_of, Closed, Forest, NoMore, Child, Yields, Opened, AcceptsTokens, preorder, preorders, width}
use Rattle.onfi_planner.specs.declared.search.Best.{Best}
use Rattle.onfi_planner.specs.declared.parts.Part.{Part}
use Rattle.onfi_planner.specs.declared.root.Root.{Root}
use Rattle.onfi_planner.specs.declared.search.Stop.{Stop}
use Rattle.onfi_planner.specs.Dealing.{Gives, GivesFrom}
use Rattle.onfi_check.specs.First.{IsFirstRun}
use Rattle.onfi_check.specs.Nodes.{IsOpen, EachWithin, HasNodes, HasMoreNodes, HasPartsWithin, PartHasMore, OpensNodes, nodes_below}
use Rattle.onfi_planner.specs.Opening.{AreYields, yield_at}
use Rattle.onfi_planner.specs.Parts.{IsPart, AreFound, IsBranch, AreBranches, opened_by, parts_of}
use Rattle.onfi_planner.specs.Planning.{Found, IsOver, IsRoot, run_of}
use Rattle.onfi_planner.proofs.Beginning.{first_is_run}
use Rattle.onfi_planner.proofs.Grown.{Grown, accepts_sooner, grown_accepts, grown_width}
use Rattle.onfi_planner.proofs.Growing.{map_length}
use Rattle.onfi_planner.proofs.Halfway.{Pairs-cross, none_some, no_moves, not_before_itself, steps_same, luns_of}
use Rattle.onfi_planner.proofs.Opening.{Done, opened}
use Rattle.onfi_planner.proofs.Paths.{Among, among_all, among_more, among_none, among_skip, node_one}
use Rattle.onfi_check.proofs.Sound.{sound}

-- what holds of all moves holds of those that don't yield
pub parts_all : (P : KeptMove → Type 0) (yields : List (Option ℕ)) (steps : List KeptMove) → All P steps → All P (parts_of yields steps)
parts_all P yields [] a = tt
parts_all P yields (s ∷ steps) a = go (parts_all P yields steps a.1) (yield_at yields (lun_named s))
  where
    go : All P (parts_of yields steps) → (o : Option ℕ) → All P (if is_some o then parts_of yields steps else s ∷ parts_of yields steps)
    go rest None = (a.0, rest)
    go rest (Some lun) = rest

pub parts_few : (yields : List (Option ℕ)) (steps : List KeptMove) → length (parts_of yields steps) ≤ length steps
parts_few yields [] = omega arith
parts_few yields (s ∷ steps) = go (parts_few yields steps) (yield_at yields (lun_named s))
  where
    go : length (parts_of yields steps) ≤ length steps → (o : Option ℕ) → length (if is_some o then parts_of yields steps else s ∷ parts_of yields steps) ≤ length (s ∷ steps)
    go h None = omega arith
    go h (Some lun) = omega arith

pub found_length : (x : Position) (first limit : ℕ) (steps : List KeptMove) (found : List Part) → AreFound x first limit steps found → length found ≡ length steps
found_length x first limit [] [] a = refl
found_length x first limit [] (part ∷ found) a = absurd a
found_length x first limit (s ∷ steps) [] a = absurd a
found_length x first limit (s ∷ steps) (part ∷ found) a = let h = found_length x first limit steps found a.1 in omega arith

pub found_within : (x : Position) (first limit most : ℕ) (steps : List KeptMove) (found : List Part) → limit ≤ most → AreFound x first limit steps found → All (λ part. part.opened ≤ most) found
found_within x first limit most [] [] le a = tt
found_within x first limit most [] (part ∷ found) le a = absurd a
found_within x first limit most (s ∷ steps) [] le a = absurd a
found_within x first limit most (s ∷ steps) (part ∷ found) le a = ((let h = a.0.within in omega arith), found_within x first limit most steps found le a.1)

found_one : (x : Position) (first limit : ℕ) (steps : List KeptMove) (found : List Part) (part : Part) → AreFound x first limit steps found → Has found part → (s : KeptMove) × IsPart x first limit s part
found_one x first limit [] [] part a h = absurd h
found_one x first limit [] (p ∷ found) part a h = absurd a
found_one x first limit (s ∷ steps) [] part a h = absurd h
found_one x first limit (s ∷ steps) (p ∷ found) part a (inl e) = (s, subst (IsPart x first limit s) e a.0)
found_one x first limit (s ∷ steps) (p ∷ found) part a (inr h) = found_one x first limit steps found part a.1 h

module _ (x : Position) (yields : List (Option ℕ)) (first limit : ℕ) where
  -- after a move that doesn't yield nothing ends before e
  done_parts : (e : ℕ) (items : List KeptMove) (found : List Part) → All (λ s. move_lun (move_of x.groups s) ≡ lun_named s) items → All (λ part. e ≤ part.best.finish) found → AreFound x first limit (parts_of yields items) found → Done x.problem yields e (moves_of x.groups items)
  done_parts e [] found luns least a = tt
  done_parts e (s ∷ items) found luns least a = go (λ found least a. done_parts e items found luns.1 least a) (yield_at yields (lun_named s)) refl found least a
    where
      go : ((found : List Part) → All (λ part. e ≤ part.best.finish) found → AreFound x first limit (parts_of yields items) found → Done x.problem yields e (moves_of x.groups items)) → (o : Option ℕ) → yield_at yields (lun_named s) ≡ o → (found : List Part) → All (λ part. e ≤ part.best.finish) found → AreFound x first limit (if is_some o then parts_of yields items else s ∷ parts_of yields items) found → Done x.problem yields e (moves_of x.groups (s ∷ items))
      go rest None q [] least a = absurd a
      go rest None q (part ∷ found) least a = ((λ n steps f run. let h = a.0.least steps f run in let l = least.0 in omega arith), rest found least.1 a.1)
      go rest (Some lun) q found least a = ((λ n. absurd (none_some _ lun (ap (yield_at yields) luns.0 ∙ q) n)), rest found least a)

  -- the trees of the parts, and the yields between them
  grown_parts : (e : ℕ) (items : List KeptMove) (found : List Part) → All (λ s. move_lun (move_of x.groups s) ≡ lun_named s) items → All (λ part. e ≤ part.best.finish) found → AreFound x first limit (parts_of yields items) found → (f : Forest) × Grown x.problem yields e (moves_of x.groups items) f × (nodes_below f ≡ opened_by found) × EachWithin limit f
  grown_parts e [] [] luns least a = (NoMore, tt, refl, tt)
  grown_parts e [] (part ∷ found) luns least a = absurd a
  grown_parts e (s ∷ items) found luns least a = go (λ found least a. grown_parts e items found luns.1 least a) (yield_at yields (lun_named s)) refl found least a
    where
      go : ((found : List Part) → All (λ part. e ≤ part.best.finish) found → AreFound x first limit (parts_of yields items) found → (f : Forest) × Grown x.problem yields e (moves_of x.groups items) f × (nodes_below f ≡ opened_by found) × EachWithin limit f) → (o : Option ℕ) → yield_at yields (lun_named s) ≡ o → (found : List Part) → All (λ part. e ≤ part.best.finish) found → AreFound x first limit (if is_some o then parts_of yields items else s ∷ parts_of yields items) found → (f : Forest) × Grown x.problem yields e (moves_of x.groups (s ∷ items)) f × (nodes_below f ≡ opened_by found) × EachWithin limit f
      go rest None q [] least a = absurd a
      go rest None q (part ∷ found) least a =
          let (tree, accepted, k) = a.0.opened.accepted in
          let (f, g, n, small) = rest found least.1 a.1 in
          let few = a.0.within in
          (Child tree f, (accepts_sooner tree (moved x s).problem part.best.finish e least.0 accepted, g), omega arith, (omega arith, small))
      go rest (Some lun) q found least a =
          let (f, g, n, small) = rest found least a in
          (Yields lun f, (ap (yield_at yields) luns.0 ∙ q, g), n, small)

  -- the nodes of the parts are nodes of the whole
  among_parts : (front : List Move) (n : ℕ) (items : List KeptMove) (found : List Part) → IsOpen first x.problem → All (IsMove x.problem) (moves_of x.groups items) → Pairs (ComesBefore x.problem) (front ++ moves_of x.groups items) → Among first x.problem front n → AreFound x first limit (parts_of yields items) found → Among first x.problem (front ++ moves_of x.groups items) (n + opened_by found)
  among_parts front n [] [] o moves order among a = let e : n ≡ n + 0 = omega arith in subst (Among first x.problem (front ++ [])) e (among_skip first x.problem front [] n among)
  among_parts front n [] (part ∷ found) o moves order among a = absurd a
  among_parts front n (s ∷ items) found o moves order among a = go (λ n found more a. among_parts (front ++ move_of x.groups s ∷ []) n items found o moves.1 (subst (Pairs (ComesBefore x.problem)) (sym (append_assoc front (move_of x.groups s ∷ []) (moves_of x.groups items))) order) more a) (yield_at yields (lun_named s)) found a
    where
      m : Move
      m = move_of x.groups s

      behind : List Move
      behind = moves_of x.groups items

      whole : (front ++ m ∷ []) ++ behind ≡ front ++ m ∷ behind
      whole = append_assoc front (m ∷ []) behind

      go : ((n : ℕ) (found : List Part) → Among first x.problem (front ++ m ∷ []) n → AreFound x first limit (parts_of yields items) found → Among first x.problem ((front ++ m ∷ []) ++ behind) (n + opened_by found)) → (o' : Option ℕ) (found : List Part) → AreFound x first limit (if is_some o' then parts_of yields items else s ∷ parts_of yields items) found → Among first x.problem (front ++ m ∷ behind) (n + opened_by found)
      go rest None [] a = absurd a
      go rest None (part ∷ found) a =
          let more = among_more first x.problem front m n (part.opened - 0) among o moves.0 (λ k. not_before_itself x.problem m (Pairs-cross _ front behind m m order k)) (a.0.opened.nodes first (omega arith)) in
          let all = rest (n + (part.opened - 0)) found more a.1 in
          let e : n + (part.opened - 0) + opened_by found ≡ n + (part.opened + opened_by found) = omega arith in
          subst (λ z. Among first x.problem z (n + (part.opened + opened_by found))) whole (subst (Among first x.problem ((front ++ m ∷ []) ++ behind)) e all)
      go rest (Some lun) found a = subst (λ z. Among first x.problem z (n + opened_by found)) whole (rest n found (among_skip first x.problem front (m ∷ []) n among) a)

-- a root that no bound closes has a move
pub some_move : (x : Position) (items : List KeptMove) (steps : List Step) (first : ℕ) → IsProblem x.problem → AreMoves x.problem (moves_of x.groups items) → IsFirstRun x.problem steps first → IsOpen first x.problem → 1 ≤ length items
some_move x [] [] first ip are run o = let e = run.1 in let b = o.bus in absurd (omega arith)
some_move x [] (s ∷ steps) first ip are run o = absurd (not_done x.problem s.move (no_moves x.problem ip are) run.0.is_move)
some_move x (s ∷ items) steps first ip are run o = omega arith

-- all that a split search has when the parts are searched
pub record Split (x : Position) (items : List KeptMove) (yields : List (Option ℕ)) (first limit : ℕ) (steps : List Step) (found : List Part) : Type 0 where
  pub problem : IsProblem x.problem
  pub moves : AreMoves x.problem (moves_of x.groups items)
  pub luns : All (λ s. move_lun (move_of x.groups s) ≡ lun_named s) items
  pub yields_are : AreYields x.problem (moves_of x.groups items) yields
  pub open_root : IsOpen first x.problem
  pub first_run : IsFirstRun x.problem steps first
  pub parts : AreFound x first limit (parts_of yields items) found

pub split_nodes : (x : Position) (items : List KeptMove) (yields : List (Option ℕ)) (first limit : ℕ) (steps : List Step) (found : List Part) → Split x items yields first limit steps found → HasNodes first x.problem (1 + opened_by found)
split_nodes x items yields first limit steps found w =
    let none : 0 + opened_by found ≡ opened_by found = omega arith in
    among_all first x.problem (moves_of x.groups items) (opened_by found) (subst (Among first x.problem (moves_of x.groups items)) none (among_parts x yields first limit [] 0 items found w.open_root w.moves.moves_only w.moves.order (among_none first x.problem) w.parts))

-- the parts make a tree in which no part has more nodes than the limit
pub split_parts : (x : Position) (items : List KeptMove) (yields : List (Option ℕ)) (first limit e opened : ℕ) (steps : List Step) (found : List Part) → Split x items yields first limit steps found → All (λ part. e ≤ part.best.finish) found → opened ≡ 1 + opened_by found → HasPartsWithin x.problem e opened limit
split_parts x items yields first limit e opened steps found w least n =
    let (f, g, k, small) = grown_parts x yields first limit e items found w.luns least w.parts in
    let some = some_move x items steps first w.problem w.moves w.first_run w.open_root in
    let l = map_length x items in
    (Opened f, grown_accepts x.problem yields e (moves_of x.groups items) f w.moves (omega arith) w.yields_are g, omega arith, small)

pub split_opens : (x : Position) (items : List KeptMove) (yields : List (Option ℕ)) (first limit e opened : ℕ) (steps : List Step) (found : List Part) → Split x items yields first limit steps found → All (λ part. e ≤ part.best.finish) found → opened ≡ 1 + opened_by found → OpensNodes x.problem e opened
split_opens x items yields first limit e opened steps found w least n =
    let (tree, accepts, k, small) = split_parts x items yields first limit e opened steps found w least n in
    record {
      accepted = (tree, accepts, k);
      first = first;
      first_run = (steps, w.first_run);
      there = subst (HasNodes first x.problem) (sym n) (split_nodes x items yields first limit steps found w);
    }

-- the parts together have more nodes than that
pub split_over : (x : Position) (items : List KeptMove) (yields : List (Option ℕ)) (first limit n opened : ℕ) (steps : List Step) (found : List Part) → Split x items yields first limit steps found → opened ≡ 1 + opened_by found → opened ≡ n + 1 → HasMoreNodes x.problem n
split_over x items yields first limit n opened steps found w e q =
    (first, (steps, w.first_run), subst (HasNodes first x.problem) (sym e ∙ q) (split_nodes x items yields first limit steps found w))

-- one part has more nodes than the limit
pub part_over : (x : Position) (m : KeptMove) (first limit : ℕ) (steps : List Step) → IsFirstRun x.problem steps first → IsOpen first x.problem → IsMove x.problem (move_of x.groups m) → IsOver (moved x m).problem first 0 limit limit → PartHasMore x.problem limit
part_over x m first limit steps run o im over =
    let e : limit - 0 + 1 ≡ limit + 1 = omega arith in
    (first, (steps, run), o, (move_of x.groups m, im, subst (HasNodes first (moved x m).problem) e (over.nodes first (omega arith))))

pub split_found : (x : Position) (items : List KeptMove) (yields : List (Option ℕ)) (limit : ℕ) (found : List Part) (old new : Best) → Split x items yields old.finish limit (run_of x.groups old.steps.items) found → old.finish < 2 ^ 62 → new.finish ≤ old.finish → All (λ part. new.finish ≤ part.best.finish) found → (new ≡ old) ⊎ ((part : Part) × Has found part × (part.best ≡ new) × (new.finish < old.finish)) → Found x new
split_found x items yields limit found old new w small le least one =
    let first = old.finish in
    let some = some_move x items (run_of x.groups old.steps.items) first w.problem w.moves w.first_run w.open_root in
    let m = some_step items w.moves some in
    record {
      run = the_run one;
      least = opened x.problem (moves_of x.groups items) yields new.finish m.0 w.problem w.moves m.1 w.yields_are (done_parts x yields first limit new.finish items found w.luns least w.parts);
      small = omega arith;
    }
  where
    some_step : (items : List KeptMove) → AreMoves x.problem (moves_of x.groups items) → 1 ≤ length items → (m : Move) × IsMove x.problem m
    some_step [] are h = absurd (omega arith)
    some_step (s ∷ items) are h = (move_of x.groups s, are.moves_only.0)

    the_run : (new ≡ old) ⊎ ((part : Part) × Has found part × (part.best ≡ new) × (new.finish < old.finish)) → Run x.problem (run_of x.groups new.steps.items) new.finish
    the_run (inl e) = subst (λ (b : Best). Run x.problem (run_of x.groups b.steps.items) b.finish) (sym e) (first_is_run (run_of x.groups old.steps.items) x.problem old.finish w.first_run)
    the_run (inr (part, has, e, lt)) =
        let (s, p) = found_one x old.finish limit (parts_of yields items) found part w.parts has in
        let f : part.best.finish ≡ new.finish = ap (λ (b : Best). b.finish) e in
        subst (λ (b : Best). Run x.problem (run_of x.groups b.steps.items) b.finish) e (p.run (omega arith))

-- the branches are those of a forest
grown_branches : (x : Position) (yields : List (Option ℕ)) (e : ℕ) (items : List KeptMove) (branches : List (Vec Token Global)) → All (λ s. move_lun (move_of x.groups s) ≡ lun_named s) items → AreBranches x e yields items (map (λ v. v.items) branches) → (f : Forest) × Grown x.problem yields e (moves_of x.groups items) f × (flat_map (λ v. v.items) branches ≡ preorders f)
grown_branches x yields e [] [] luns a = (NoMore, tt, refl)
grown_branches x yields e [] (v ∷ branches) luns a = absurd a
grown_branches x yields e (s ∷ items) [] luns a = absurd a
grown_branches x yields e (s ∷ items) (v ∷ branches) luns a = go (grown_branches x yields e items branches luns.1 a.1) (yield_at yields (lun_named s)) refl a.0
  where
    go : (f : Forest) × Grown x.problem yields e (moves_of x.groups items) f × (flat_map (λ v. v.items) branches ≡ preorders f) → (o : Option ℕ) → yield_at yields (lun_named s) ≡ o → IsBranch x e s o v.items → (f : Forest) × Grown x.problem yields e (moves_of x.groups (s ∷ items)) f × (flat_map (λ v. v.items) (v ∷ branches) ≡ preorders f)
    go (f, g, k) None q (tree, t, accepted) =
        (Child tree f, (accepted, g), ap (λ z. z ++ flat_map (λ v. v.items) branches) t ∙ ap (λ z. preorder tree ++ z) k)
    go (f, g, k) (Some lun) q t =
        (Yields lun f, (ap (yield_at yields) luns.0 ∙ q, g), ap (λ z. z ++ flat_map (λ v. v.items) branches) t ∙ ap (λ z. Yield lun ∷ z) k)

pub joined_accepted : (x : Position) (yields : List (Option ℕ)) (e n : ℕ) (items : List KeptMove) (branches : List (Vec Token Global)) (tokens : List Token) → AreMoves x.problem (moves_of x.groups items) → All (λ s. move_lun (move_of x.groups s) ≡ lun_named s) items → 1 ≤ length items → AreYields x.problem (moves_of x.groups items) yields → AreBranches x e yields items (map (λ v. v.items) branches) → n ≡ length items → tokens ≡ Branch n ∷ flat_map (λ v. v.items) branches → AcceptsTokens tokens x.problem e
joined_accepted x yields e n items branches tokens are luns some ay a q t =
    let (f, g, k) = grown_branches x yields e items branches luns a in
    let l = map_length x items in
    let w : n ≡ width f = q ∙ sym (grown_width x.problem yields e (moves_of x.groups items) f g ∙ l) in
    (Opened f, sym (t ∙ (ap (λ z. Branch z ∷ flat_map (λ v. v.items) branches) w ∙ ap (λ z. Branch (width f) ∷ z) k)), grown_accepts x.problem yields e (moves_of x.groups items) f are (omega arith) ay g)

-- the moves listed so far that don't yield
pub parts_more : (yields : List (Option ℕ)) (steps : List KeptMove) (s : KeptMove) → yield_at yields (lun_named s) ≡ None → parts_of yields (steps ++ s ∷ []) ≡ parts_of yields steps ++ s ∷ []
parts_more yields [] s e = rw e refl
parts_more yields (t ∷ steps) s e = go (parts_more yields steps s e) (yield_at yields (lun_named t))
  where
    go : parts_of yields (steps ++ s ∷ []) ≡ parts_of yields steps ++ s ∷ [] → (o : Option ℕ) → (if is_some o then parts_of yields (steps ++ s ∷ []) else t ∷ parts_of yields (steps ++ s ∷ [])) ≡ (if is_some o then parts_of yields steps else t ∷ parts_of yields steps) ++ s ∷ []
    go rest None = ap (λ z. t ∷ z) rest
    go rest (Some lun) = rest

pub parts_skip : (yields : List (Option ℕ)) (steps : List KeptMove) (s : KeptMove) (lun : ℕ) → yield_at yields (lun_named s) ≡ Some lun → parts_of yields (steps ++ s ∷ []) ≡ parts_of yields steps
parts_skip yields [] s lun e = rw e refl
parts_skip yields (t ∷ steps) s lun e = go (parts_skip yields steps s lun e) (yield_at yields (lun_named t))
  where
    go : parts_of yields (steps ++ s ∷ []) ≡ parts_of yields steps → (o : Option ℕ) → (if is_some o then parts_of yields (steps ++ s ∷ []) else t ∷ parts_of yields (steps ++ s ∷ [])) ≡ (if is_some o then parts_of yields steps else t ∷ parts_of yields steps)
    go rest None = ap (λ z. t ∷ z) rest
    go rest (Some lun') = rest

pub parts_next : (yields : List (Option ℕ)) (moves items items' : List KeptMove) (i : ℕ) (s d : KeptMove) → i < length moves → s ≡ get_or moves i d → yield_at yields (lun_named s) ≡ None → items ≡ parts_of yields (take i moves) → items' ≡ items ++ s ∷ [] → items' ≡ parts_of yields (take (i + 1) moves)
parts_next yields moves items items' i s d lt e n q r =
    let t : take (i + 1) moves ≡ take i moves ++ s ∷ [] = take_more moves i d lt ∙ ap (λ z. take i moves ++ z ∷ []) (sym e) in
    r ∙ (ap (λ z. z ++ s ∷ []) q ∙ (sym (parts_more yields (take i moves) s n) ∙ ap (parts_of yields) (sym t)))

pub parts_passed : (yields : List (Option ℕ)) (moves items : List KeptMove) (i lun : ℕ) (s d : KeptMove) → i < length moves → s ≡ get_or moves i d → yield_at yields (lun_named s) ≡ Some lun → items ≡ parts_of yields (take i moves) → items ≡ parts_of yields (take (i + 1) moves)
parts_passed yields moves items i lun s d lt e n q =
    let t : take (i + 1) moves ≡ take i moves ++ s ∷ [] = take_more moves i d lt ∙ ap (λ z. take i moves ++ z ∷ []) (sym e) in
    q ∙ (sym (parts_skip yields (take i moves) s lun n) ∙ ap (parts_of yields) (sym t))

-- what each call gives, of all
all_given : {F X : Type 0} (g : Shared F (ℕ × Unit {0}) (Result X Stop)) (f : F) (Is : KeptMove → X → Type 0) (Are : List KeptMove → List X → Type 0)
    → Are [] [] → ((s : KeptMove) (steps : List KeptMove) (x : X) (given : List X) → Is s x → Are steps given → Are (s ∷ steps) (x ∷ given))
    → (steps : List KeptMove) (i : ℕ) (given : List X) → GivesFrom g f i given → length given ≡ length steps
    → ((k : ℕ) (d : KeptMove) (x : X) → k < length steps → Gives g f (i + k) x → Is (get_or steps k d) x) → Are steps given
all_given g f Is Are none one [] i [] a l h = none
all_given g f Is Are none one [] i (x ∷ given) a l h = absurd (omega arith)
all_given g f Is Are none one (s ∷ steps) i [] a l h = absurd (omega arith)
all_given g f Is Are none one (s ∷ steps) i (x ∷ given) a l h =
    let z : i ≡ i + 0 = omega arith in
    let next : (k : ℕ) → suc i + k ≡ i + suc k = λ k. omega arith in
    one s steps x given (h 0 s x (omega arith) (subst (λ k. Gives g f k x) z a.0))
    (all_given g f Is Are none one steps (suc i) given a.1 (omega arith) (λ k d y lt b. h (suc k) d y (omega arith) (subst (λ k. Gives g f k y) (next k) b)))

pub branches_length : (x : Position) (e : ℕ) (yields : List (Option ℕ)) (steps : List KeptMove) (branches : List (Vec Token Global)) → AreBranches x e yields steps (map (λ v. v.items) branches) → length branches ≡ length steps
branches_length x e yields [] [] a = refl
branches_length x e yields [] (v ∷ branches) a = absurd a
branches_length x e yields (s ∷ steps) [] a = absurd a
branches_length x e yields (s ∷ steps) (v ∷ branches) a = let h = branches_length x e yields steps branches a.1 in omega arith

-- the tokens of a closed root
pub closed_accepted : (p : Problem) (e : ℕ) (t : Token) (tokens : List Token) → tokens ≡ t ∷ [] → (c : Closing) × (token_of c ≡ t) × Closes p e c → AcceptsTokens tokens p e
closed_accepted p e t tokens q (c, k, a) = (Closed c, ap (λ z. z ∷ []) k ∙ sym q, a)

opened_append : (front : List Part) (part : Part) (behind : List Part) → opened_by (front ++ part ∷ behind) ≡ opened_by front + part.opened + opened_by behind
opened_append [] part behind = omega arith
opened_append (p ∷ front) part behind = let h = opened_append front part behind in omega arith

-- one more part
pub opened_more : (found : List Part) (part : Part) → opened_by (found ++ part ∷ []) ≡ opened_by found + part.opened
opened_more found part = let h = opened_append found part [] in omega arith

pub opened_few : (most : ℕ) (found : List Part) → All (λ part. part.opened ≤ most) found → opened_by found ≤ most * length found
opened_few most [] a = omega arith
opened_few most (part ∷ found) a =
    let h = opened_few most found a.1 in
    let k = a.0 in
    subst (λ z. part.opened + opened_by found ≤ z) (sym (mul-suc most (length found))) (omega arith)

-- the same, from the first on
pub found_all : {F : Type 0} (g : Shared F (ℕ × Unit {0}) (Result Part Stop)) (f : F) (x : Position) (first limit : ℕ) (steps : List KeptMove) (found : List Part) → GivesFrom g f 0 found → length found ≡ length steps → ((k : ℕ) (d : KeptMove) (part : Part) → k < length steps → Gives g f k part → IsPart x first limit (get_or steps k d) part) → AreFound x first limit steps found
found_all g f x first limit steps found a l h = all_given g f (IsPart x first limit) (AreFound x first limit) tt (λ s steps part found is are. (is, are)) steps 0 found a l (λ k d p lt b. let z : 0 + k ≡ k = omega arith in h k d p lt (subst (λ k. Gives g f k p) z b))

pub branches_all : {F : Type 0} (g : Shared F (ℕ × Unit {0}) (Result (Vec Token Global) Stop)) (f : F) (x : Position) (e : ℕ) (yields : List (Option ℕ)) (steps : List KeptMove) (branches : List (Vec Token Global)) → GivesFrom g f 0 branches → length branches ≡ length steps → ((k : ℕ) (d : KeptMove) (v : Vec Token Global) → k < length steps → Gives g f k v → IsBranch x e (get_or steps k d) (yield_at yields (lun_named (get_or steps k d))) v.items) → AreBranches x e yields steps (map (λ v. v.items) branches)
branches_all g f x e yields steps branches a l h = all_given g f (λ s v. IsBranch x e s (yield_at yields (lun_named s)) v.items) (λ steps branches. AreBranches x e yields steps (map (λ v. v.items) branches)) tt (λ s steps v branches is are. (is, are)) steps 0 branches a l (λ k d v lt b. let z : 0 + k ≡ k = omega arith in h k d v lt (subst (λ k. Gives g f k v) z b))

-- as many nodes as 87 parts have
pub opened_small : (found front : List Part) (part : Part) (behind : List Part) (opened : ℕ) → found ≡ front ++ part ∷ behind → All (λ part. part.opened ≤ 1048576) found → length found ≤ 87 → opened ≡ 1 + opened_by front → opened + part.opened ≤ 91226113
opened_small found front part behind opened e small few q =
    let most = opened_few 1048576 found small in
    let sum : opened_by found ≡ opened_by front + part.opened + opened_by behind = ap opened_by e ∙ opened_append front part behind in
    omega arith

-- a part that ends before the best, or not
pub best_new : (front : List Part) (part : Part) (old e : ℕ) → part.best.finish < e → All (λ p. e ≤ p.best.finish) front → All (λ p. part.best.finish ≤ p.best.finish) (front ++ part ∷ [])
best_new front part old e lt a = All-append _ front (part ∷ []) (All-weaker _ _ (λ p h. omega arith) front a) (omega arith, tt)

pub best_kept : (front : List Part) (part : Part) (e : ℕ) → e ≤ part.best.finish → All (λ p. e ≤ p.best.finish) front → All (λ p. e ≤ p.best.finish) (front ++ part ∷ [])
best_kept front part e le a = All-append _ front (part ∷ []) a (le, tt)

-- a root that a bound closes
pub closed_found : (x : Position) (root : Root) → IsRoot x root → (c : Closing) × Closes x.problem root.best.finish c → Found x root.best
closed_found x root r (c, h) =
    let s = r.small in
    record {
      run = first_is_run (run_of x.groups root.best.steps.items) x.problem root.best.finish r.first_run;
      least = sound (Closed c) x.problem root.best.finish r.limits.problem h;
      small = omega arith;
    }

pub closed_opens : (x : Position) (root : Root) → IsRoot x root → (c : Closing) × Closes x.problem root.best.finish c → OpensNodes x.problem root.best.finish 1
closed_opens x root r (c, h) = record {
  accepted = (Closed c, h, refl);
  first = root.best.finish;
  first_run = (run_of x.groups root.best.steps.items, r.first_run);
  there = node_one root.best.finish x.problem;
}

pub closed_parts : (x : Position) (root : Root) (limit : ℕ) → (c : Closing) × Closes x.problem root.best.finish c → HasPartsWithin x.problem root.best.finish 1 limit
closed_parts x root limit (c, h) = (Closed c, h, refl, tt)

-- the parts of a root, searched
pub split_made : (x : Position) (root : Root) (items moves slice parts : List KeptMove) (yields : List (Option ℕ)) (limit : ℕ) (found : List Part) → IsRoot x root → items ≡ moves → AreMoves x.problem (moves_of x.groups moves) → All (IsNamed x.groups) moves → AreYields x.problem (moves_of x.groups items) yields → IsOpen root.best.finish x.problem → slice ≡ parts → parts ≡ parts_of yields items → AreFound x root.best.finish limit slice found → Split x items yields root.best.finish limit (run_of x.groups root.best.steps.items) found
split_made x root items moves slice parts yields limit found r e are named ay o q p a = record {
  problem = r.limits.problem;
  moves = steps_same x items moves e are;
  luns = subst (All (λ s. move_lun (move_of x.groups s) ≡ lun_named s)) (sym e) (luns_of x.groups moves named);
  yields_are = ay;
  open_root = o;
  first_run = r.first_run;
  parts = subst (λ z. AreFound x root.best.finish limit z found) (q ∙ p) a;
}
