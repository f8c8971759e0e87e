-- What a set of operations of arrays says of rows.
use Rattle.std.proofs.Common.{◌≡◌, ◌∙◌, ℕ, Bool, true, false, cond, ◌||◌, List, [], ◌∷◌, ◌++◌, Option, Some, None, refl, sym, ap, arith}
use Rattle.std.specs.List.{list_any}
use Rattle.std.specs.HashSet.{HashSet, Updates}
use Rattle.std.proofs.lemmas.Bool.Decides.{nat_tests}
use Rattle.std.proofs.lemmas.List.Folds.{list_any-append}
use Rattle.onfi_script.specs.declared.row.Row.{Row}
use Rattle.onfi_script.specs.declared.row.Subject.{Subject}
use Rattle.onfi_script.specs.declared.row.Subject.TheVariants as on
use Rattle.onfi_script.specs.Subject.{settled_by, settles, subject_of}
use Rattle.onfi_script.specs.ArraysTold.{AreTold, Named, array_of, is_same}

-- whether it is the one that was found, if one was
abbrev is_found : Option Named → Named → Bool
is_found None name = false
is_found (Some found) name = is_same name found

by_subject : (s : Option Subject) (channel lun number : ℕ) → settled_by s (on.Array channel lun number) ≡ is_found (array_of s) (channel, lun, number)
by_subject None channel lun number = refl
by_subject (Some on.Shape) channel lun number = refl
by_subject (Some (on.Spans kind)) channel lun number = refl
by_subject (Some on.Bus) channel lun number = refl
by_subject (Some (on.Lun at)) channel lun number = refl
by_subject (Some (on.Weight request)) channel lun number = refl
by_subject (Some (on.SectorPost count)) channel lun number = refl
by_subject (Some on.Sector) channel lun number = refl
by_subject (Some (on.Sectors request)) channel lun number = refl
by_subject (Some (on.RunSectors at)) channel lun number = refl
by_subject (Some on.Strict) channel lun number = refl
by_subject (Some on.Channels) channel lun number = refl
by_subject (Some on.Hosts) channel lun number = refl
by_subject (Some on.Batch) channel lun number = refl
by_subject (Some on.SubmitCap) channel lun number = refl
by_subject (Some on.PostCap) channel lun number = refl
by_subject (Some (on.Array c l n)) channel lun number = refl
by_subject (Some on.Geometry) channel lun number = refl

-- one row more settles what it does beside what the others do
one_more : (rows : List Row) (row : Row) (channel lun number : ℕ)
    → list_any (settles (on.Array channel lun number)) (rows ++ row ∷ [])
    ≡ (list_any (settles (on.Array channel lun number)) rows || (is_found (array_of (subject_of row)) (channel, lun, number) || false))
one_more rows row channel lun number =
    list_any-append (settles (on.Array channel lun number)) rows (row ∷ [])
    ∙ ap (λ b. list_any (settles (on.Array channel lun number)) rows || (b || false)) (by_subject (subject_of row) channel lun number)

or_none : (b : Bool) → b ≡ (b || (false || false))
or_none true = refl
or_none false = refl

or_it : (found b : Bool) → cond found true b ≡ (b || (found || false))
or_it true true = refl
or_it true false = refl
or_it false true = refl
or_it false false = refl

same_flipped : (a b : Named) → is_same a b ≡ is_same b a
same_flipped (a, b, c) (x, y, z) = grind (arith, nat_tests)

-- a row that names no array leaves them as they are
pub same_told : (rows : List Row) (row : Row) (told : List Named) → array_of (subject_of row) ≡ None → AreTold rows told → AreTold (rows ++ row ∷ []) told
same_told rows row told none are = λ channel lun number.
    are channel lun number
    ∙ or_none (list_any (settles (on.Array channel lun number)) rows)
    ∙ ap (λ (found : Option Named). list_any (settles (on.Array channel lun number)) rows || (is_found found (channel, lun, number) || false)) (sym none)
    ∙ sym (one_more rows row channel lun number)

-- .. one that does is named after it
pub more_told : {S : Type 0} (rows : List Row) (row : Row) (old new : HashSet Named S) (name : Named) → array_of (subject_of row) ≡ Some name
    → Updates is_same old new name true → AreTold rows old.keys → AreTold (rows ++ row ∷ []) new.keys
more_told rows row old new name some updates are = λ channel lun number.
    let q : Named = (channel, lun, number) in
    updates.0 q
    ∙ ap (λ b. cond b true (list_any (is_same q) old.keys)) (same_flipped name q)
    ∙ or_it (is_same q name) (list_any (is_same q) old.keys)
    ∙ ap (λ b. b || (is_same q name || false)) (are channel lun number)
    ∙ ap (λ (found : Option Named). list_any (settles (on.Array channel lun number)) rows || (is_found found q || false)) (sym some)
    ∙ sym (one_more rows row channel lun number)
