-- The one line that is printed of a list.
use Rattle.std.specs.Prelude.{◌≡◌, ℕ, true, false, List, ◌++◌, Some, None, string_bytes, codes, decimal}
use Rattle.operand.specs.declared.edition.Edition.TheVariants.{Series90}
use Rattle.told.specs.Lines.{refused_line}
use Rattle.translate.specs.Translation.{Due, written, no, due_for, image_of, translation_of}
use Rattle.checker.specs.Verdict.{Verdict, passed, refused, verdict_of}
use Rattle.report.specs.Lines.{is_accepted}
use Rattle.report.specs.declared.Report.{Report}

-- N and H of a list that passes
abbrev pub passed_line : ℕ → ℕ → List ℕ
passed_line items cells = codes "passed " ++ (decimal items ++ (codes " items " ++ (decimal cells ++ codes " cells")))

-- the line, whether the list passes, and what is told of a refusal
abbrev pub ReportsVerdict : Verdict → Report → Type 0
ReportsVerdict (passed n h) p = (string_bytes p.line ≡ passed_line n h) × (is_accepted p ≡ true) × (p.told ≡ None)
ReportsVerdict (refused t) p = (string_bytes p.line ≡ refused_line t) × (is_accepted p ≡ false) × (p.told ≡ Some t)

-- a text that is not translated is refused; the image of any other gets the check's verdict
abbrev pub verdict_on : Due → List ℕ → Verdict
verdict_on (written w) words = verdict_of words
verdict_on (no t) words = refused t

-- the verdict on a text, with a buffer that holds the largest image
abbrev pub text_verdict : List ℕ → Verdict
text_verdict text = verdict_on (due_for Series90 (translation_of Series90 text) 10502) (image_of Series90 (translation_of Series90 text))

abbrev pub Reports : List ℕ → Report → Type 0
Reports text p = ReportsVerdict (text_verdict text) p
