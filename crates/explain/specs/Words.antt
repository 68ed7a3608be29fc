-- The words for a question's number.
use Rattle.std.specs.Prelude.{ℕ, List, Some, None, codes, Option}
use Rattle.told.specs.declared.question.Question.{Question}
use Rattle.told.specs.Questions.{question_numbered, words_of}

-- a number that is no question's has no words
abbrev pub words_or_none : Option Question → List ℕ
words_or_none None = codes ""
words_or_none (Some q) = words_of q

abbrev pub words_for : ℕ → List ℕ
words_for n = words_or_none (question_numbered n)
