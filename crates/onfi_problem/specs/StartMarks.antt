-- Which groups of the table may be started, given by the marks of waiting wants.
use mathlib.Core.Bool.{beq, ◌&&◌}
use Rattle.std.specs.Prelude.{nat_lt, not, if◌then◌else◌, Bool, true, false, List, [], ◌∷◌, replicate}
use Rattle.std.specs.List.{list_any}
use Rattle.onfi_request.specs.declared.want.Want.{Want}
use Rattle.onfi_group.specs.Group.{is_member, on_block}
use Rattle.onfi_problem.specs.declared.start_marks.StartMarks.{StartMarks}

-- whether w is ahead of a member on the member's block; wants stand in the order of their ids
abbrev pub is_ahead : List Want → Want → Bool
is_ahead group w = list_any (λ m. if on_block m w then nat_lt w.id m.id else false) group

-- whether the mark of w counts: a member has to wait, what is ahead of one must not; a member that is ahead of another one can
-- do neither, and since its mark doesn't count, it never is what a member needs
abbrev pub is_asked : List Want → Want → Bool
is_asked group w = not (beq (is_member group w) (is_ahead group w))

-- the first marks made anew, by a test of the wants at their places
abbrev pub marks_by : (Want → Bool) → List Want → List Bool → List Bool
marks_by test [] marks = marks
marks_by test (w ∷ wants) [] = []
marks_by test (w ∷ wants) (mark ∷ marks) = test w ∷ marks_by test wants marks

-- the marks of a group among all wants
abbrev pub start_marks : List Want → List Want → StartMarks
start_marks all group = record {
  members = marks_by (is_member group) all (replicate 8 false);
  asked = marks_by (is_asked group) all (replicate 8 false);
}

-- whether, of the marks that count, exactly the members' are set
abbrev pub are_met : List Bool → List Bool → List Bool → Bool
are_met (w ∷ waiting) (a ∷ asked) (m ∷ members) =
    if beq (w && a) m then are_met waiting asked members else false
are_met waiting asked members = true
