-- What is found of a subcommand.
use Rattle.std.proofs.Common.{◌≡◌, ℕ, List, Some, None, refl, ap, ◌∙◌, subst}
use Rattle.std.specs.Prelude.{Option, option_map, IsSomeAnd}
use Rattle.clap.specs.Words.{Row, subcommand_of, subcommand_rows_of}
use Rattle.clap.specs.Matches.{subcommand_name_of}
use Rattle.clap.specs.declared.parser.matches.ArgMatches.{ArgMatches}
use Rattle.onfi_console.specs.declared.parsed.Parsed.{Parsed}
use Rattle.onfi_console.specs.Words.{IsParsed, Ask, app}

found_named : (found : Option (List ℕ × List Row)) (name : List ℕ) (used : List Row) (n : Parsed) → Some name ≡ option_map (λ p. p.0) found → Some used ≡ option_map (λ p. p.1) found → IsParsed n name used → IsSomeAnd found (λ p. IsParsed n p.0 p.1)
found_named None name used n e f is = cc
found_named (Some p) name used n e f is =
    let same : name ≡ p.0 = cc in
    let rows : used ≡ p.1 = cc in
    subst (λ x. IsParsed n x p.1) same (subst (λ r. IsParsed n name r) rows is)

twice : {A B C : Type 0} (f : A → B) (g : A → C) (h : C → B) (o : Option A) → ((x : A) → f x ≡ h (g x)) → option_map f o ≡ option_map h (option_map g o)
twice f g h None e = refl
twice f g h (Some x) e = ap Some (e x)

name_found : (m : ArgMatches) → subcommand_name_of m ≡ option_map (λ p. p.0) (subcommand_rows_of m)
name_found m = twice _ _ (λ p. p.0) _ (λ x. refl)

-- what clap found in the words is named
pub named : (m : ArgMatches) (words : List (List ℕ)) (name : List ℕ) (used : List Row) (n : Parsed) → subcommand_rows_of m ≡ subcommand_of app words → Some name ≡ subcommand_name_of m → Some used ≡ option_map (λ p. p.1) (subcommand_rows_of m) → IsParsed n name used → Ask words n
named m words name used n same is rows holds =
    found_named (subcommand_of app words) name used n (is ∙ name_found m ∙ ap (option_map (λ p. p.0)) same) (rows ∙ ap (option_map (λ p. p.1)) same) holds
