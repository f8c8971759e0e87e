-- What is written of a log.
use Rattle.std.specs.Prelude.{◌≡◌, ℕ, Bool, true, false, List, [], ◌++◌, map, Option, Some, None, codes}
use Rattle.std.specs.List.{flat_map}
use Rattle.std.specs.Fmt.{decimal}
use Rattle.onfi_log.specs.Text.{Answer}
use Rattle.onfi_gap.specs.declared.piece.Piece.{Piece}
use Rattle.onfi_gap.specs.declared.summary.Summary.{Summary}
use Rattle.onfi_gap.specs.declared.whole.LogBound.{LogBound}
use Rattle.onfi_gap.specs.Pieces.{gap_of}
use Rattle.onfi_gap.specs.Summary.{IsSummaryOf}
use Rattle.onfi_gap.specs.Whole.{share_of}

-- `END BEST BELOW`
abbrev pub times_text : Piece → List ℕ
times_text p = decimal p.end ++ (codes " " ++ (decimal p.best ++ (codes " " ++ decimal p.below)))

-- `piece LINE REQUESTS BEGIN END BEST BELOW`
abbrev pub piece_text : Piece → List ℕ
piece_text p = codes "piece " ++ (decimal p.line ++ (codes " " ++ (decimal p.requests ++ (codes " " ++ (decimal p.begin ++ (codes " " ++ (times_text p ++ codes "\n")))))))

abbrev pub row_text : Piece → List ℕ
row_text p = decimal p.line ++ (codes "," ++ (decimal p.requests ++ (codes "," ++ (decimal p.begin ++ (codes ","
    ++ (decimal p.end ++ (codes "," ++ (decimal p.best ++ (codes "," ++ (decimal p.below ++ codes "\n"))))))))))

-- `gap MEAN MEDIAN MOST`
abbrev pub summary_text : Option Summary → List ℕ
summary_text None = []
summary_text (Some s) = codes "gap " ++ (decimal s.mean ++ (codes " " ++ (decimal s.median ++ (codes " " ++ (decimal s.most ++ codes "\n")))))

-- `bound BEGIN END BUS DIE SHARE`
abbrev pub bound_text : Option LogBound → List ℕ
bound_text None = []
bound_text (Some b) = codes "bound " ++ (decimal b.begin ++ (codes " " ++ (decimal b.end ++ (codes " " ++ (decimal b.bus ++ (codes " "
    ++ (decimal b.die ++ (codes " " ++ (decimal (share_of b) ++ codes "\n")))))))))

-- of a legal log, after its answer: a line for each piece, one for all, and the bound; as a table, in place of the answer, a row for each piece
abbrev pub Writes : Bool → Answer → List Piece → Option LogBound → List ℕ → Type 0
Writes true answer pieces bound text = text ≡ codes "line,requests,begin,end,best,below\n" ++ flat_map row_text pieces
Writes false answer pieces bound text =
    (s : Option Summary) × IsSummaryOf (map gap_of pieces) s × (text ≡ answer.text ++ (flat_map piece_text pieces ++ (summary_text s ++ bound_text bound)))
