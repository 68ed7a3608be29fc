-- The one line that is printed of a list.
use Rattle.std.specs.Prelude.{◌≡◌, ℕ, Bool, true, false, List, ◌++◌, Some, None, is_none, string_bytes, codes, decimal}
use Rattle.operand.specs.declared.edition.Edition.TheVariants.{Series90}
use Rattle.image.specs.declared.write.Written.{Written}
use Rattle.told.specs.Lines.{refused_line}
use Rattle.translate.specs.Translation.{Due, written, no, due_for, translation_of}
use Rattle.report.specs.declared.Report.{Report}

abbrev pub translated_line : Written → List ℕ
translated_line w = codes "translated " ++ (decimal w.items ++ (codes " items " ++ (decimal w.constants ++ (codes " constants " ++ (decimal w.cells ++ codes " cells")))))

-- a list is accepted when no question is told that got a no
abbrev pub is_accepted : Report → Bool
is_accepted p = is_none p.told

-- the line, whether the list was accepted, and what is told of a refusal
abbrev pub ReportsDue : Due → Report → Type 0
ReportsDue (written w) p = (string_bytes p.line ≡ translated_line w) × (is_accepted p ≡ true) × (p.told ≡ None)
ReportsDue (no t) p = (string_bytes p.line ≡ refused_line t) × (is_accepted p ≡ false) × (p.told ≡ Some t)

-- the report of a text: what is due for it and a buffer that holds the largest image
abbrev pub Reports : List ℕ → Report → Type 0
Reports text p = ReportsDue (due_for Series90 (translation_of Series90 text) 10502) p
