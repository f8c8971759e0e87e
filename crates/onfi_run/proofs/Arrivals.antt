-- When operations arrive, row by row.
use Rattle.std.proofs.Common.{◌≡◌, ◌<◌, ◌≤◌, ◌+◌, ℕ, List, [], ◌∷◌, ◌++◌, length, get_or, take, drop, refl, sym, ap, ◌∙◌, subst, append_assoc, append-nil, Some, None}
use Rattle.std.specs.Prelude.{Option, IfSome}
use Rattle.std.specs.List.{cons_option}
use Rattle.std.specs.Option.{option_map, option_or, unwrap_or}
use Rattle.std.proofs.lemmas.List.{at_drop_more, drop_all, take_more}
use Rattle.std.proofs.lemmas.Option.{slice_get-get_or}
use Rattle.onfi_timing.specs.declared.kind.Kind.{Kind}
use Rattle.onfi_script.specs.declared.row.Row.{Row}
use Rattle.onfi_script.specs.Seen.{moment_in}
use Rattle.onfi_run.specs.Answers.{awaited, awaiting}
use Rattle.onfi_run.specs.Arriving.{Expected, HasCome, HaveCome, come_of, comes_at, expected, expected_from}
use Rattle.onfi_run.specs.Operations.{kind_in}
use Rattle.onfi_run.specs.Report.{AnswersView}
use Rattle.onfi_run.proofs.ByHost.{each_longer}

-- ---- places for answers
-- one operation more, where there is one
put_before : (arrives : Option ℕ) (kind : Option Kind) (more : List Expected)
    → awaiting (cons_option (option_map (expected arrives) kind) more) ≡ cons_option (option_map (λ k. awaited (expected arrives k)) kind) [] ++ awaiting more
put_before arrives None more = refl
put_before arrives (Some k) more = refl

pub next_expected : (arrives : Option ℕ) (rows : List Row) (host channel at : ℕ) (row : Row) (had has : AnswersView) → at < length rows → row ≡ get_or rows at row
    → has ≡ had ++ cons_option (option_map (λ k. awaited (expected arrives k)) (kind_in host channel row)) []
    → had ++ awaiting (expected_from arrives (drop at rows) host channel) ≡ has ++ awaiting (expected_from (option_or (moment_in row) arrives) (drop (at + 1) rows) host channel)
unfolding expected_from
next_expected arrives rows host channel at row had has h is put =
    let rest = expected_from (option_or (moment_in row) arrives) (drop (at + 1) rows) host channel in
    let one = cons_option (option_map (λ k. awaited (expected arrives k)) (kind_in host channel row)) [] in
    let here : expected_from arrives (drop at rows) host channel ≡ cons_option (option_map (expected arrives) (kind_in host channel row)) rest =
    at_drop_more (λ l. expected_from arrives l host channel) rows at row h ∙ ap (λ r. expected_from arrives (r ∷ drop (at + 1) rows) host channel) (sym is) in
    ap (λ l. had ++ awaiting l) here ∙ ap (λ l. had ++ l) (put_before arrives (kind_in host channel row) rest) ∙ sym (append_assoc had one (awaiting rest)) ∙ ap (λ l. l ++ awaiting rest) (sym put)

pub none_expected : (arrives : Option ℕ) (rows : List Row) (host channel at : ℕ) (had : AnswersView) → length rows ≤ at
    → had ++ awaiting (expected_from arrives (drop at rows) host channel) ≡ had
unfolding expected_from
none_expected arrives rows host channel at had h =
    ap (λ l. had ++ awaiting (expected_from arrives l host channel)) (drop_all at rows h) ∙ append-nil had

-- ---- moments that have come
told_by : (now : ℕ) (o : Option ℕ) → unwrap_or o 0 ≤ now → IfSome o (λ moment. moment ≤ now)
told_by now None h = tt
told_by now (Some moment) h = h

pub come_by : (now : ℕ) (row : Row) → come_of (Some row) ≤ now → HasCome now row
come_by now row h = told_by now (moment_in row) h

pub come_more : (now : ℕ) (rows : List Row) (at : ℕ) (d : Row) → at < length rows → comes_at rows at ≤ now → HaveCome now (take at rows) → HaveCome now (take (at + 1) rows)
come_more now rows at d h by come =
    let here : come_of (Some (get_or rows at d)) ≤ now = subst (λ o. come_of o ≤ now) (slice_get-get_or rows at d h) by in
    subst (HaveCome now) (sym (take_more rows at d h)) (each_longer (HasCome now) (take at rows) (get_or rows at d) come (come_by now (get_or rows at d) here))
