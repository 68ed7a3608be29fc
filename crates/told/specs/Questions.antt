-- The questions by number, and in words.
use Rattle.std.specs.Prelude.{ℕ, cond, List, Some, None, Ok, Err, Option, Result, codes, ◌==◌}
use Rattle.told.specs.declared.Told.{Told}
use Rattle.told.specs.declared.question.Question.{Question}
use Rattle.told.specs.declared.question.Question.TheVariants.{Trailer, Edition, Sizes, Constants, Items, Grammar, Depth, Types, Targets, Pins, Marks, Cells, Tokens, Followers, Counts, Room}
use Rattle.told.specs.declared.question.UnknownQuestion.{UnknownQuestion}

-- 1 to 12 are put to an image, 19 to 22 to a text
abbrev pub number_of : Question → ℕ
number_of Trailer = 1
number_of Edition = 2
number_of Sizes = 3
number_of Constants = 4
number_of Items = 5
number_of Grammar = 6
number_of Depth = 7
number_of Types = 8
number_of Targets = 9
number_of Pins = 10
number_of Marks = 11
number_of Cells = 12
number_of Tokens = 19
number_of Followers = 20
number_of Counts = 21
number_of Room = 22

abbrev pub question_numbered : ℕ → Option Question
question_numbered n =
    cond (n == 1) (Some Trailer) (
    cond (n == 2) (Some Edition) (
    cond (n == 3) (Some Sizes) (
    cond (n == 4) (Some Constants) (
    cond (n == 5) (Some Items) (
    cond (n == 6) (Some Grammar) (
    cond (n == 7) (Some Depth) (
    cond (n == 8) (Some Types) (
    cond (n == 9) (Some Targets) (
    cond (n == 10) (Some Pins) (
    cond (n == 11) (Some Marks) (
    cond (n == 12) (Some Cells) (
    cond (n == 19) (Some Tokens) (
    cond (n == 20) (Some Followers) (
    cond (n == 21) (Some Counts) (
    cond (n == 22) (Some Room) (
    None))))))))))))))))

-- a number that no question has is handed back
abbrev pub known_or : ℕ → Option Question → Result Question UnknownQuestion
known_or n None = Err (record { 0 = n })
known_or _ (Some q) = Ok q

abbrev pub numbered : ℕ → Result Question UnknownQuestion
numbered n = known_or n (question_numbered n)

abbrev pub told_at : Question → ℕ → Told
told_at q place = record { question = number_of q; place = place }

abbrev pub words_of : Question → List ℕ
words_of Trailer = codes "are there six words, the last of them AC31h?"
words_of Edition = codes "is the edition known?"
words_of Sizes = codes "do the sizes agree, within the image and the limits?"
words_of Constants = codes "are the constants lawful and in rising order?"
words_of Items = codes "is each item known and its argument in range?"
words_of Grammar = codes "can a list begin with the items so far?"
words_of Depth = codes "are brackets at most 15 deep?"
words_of Types = codes "do types fit?"
words_of Targets = codes "are assigned operands writable, a step only under `=`?"
words_of Pins = codes "do pins fit their blocks?"
words_of Marks = codes "has each jump its mark ahead?"
words_of Cells = codes "do the cells agree with the calls, 1024 at most?"
words_of Tokens = codes "is each token known?"
words_of Followers = codes "does each token fit the one before?"
words_of Counts = codes "are there at most 4096 items and 768 constants?"
words_of Room = codes "does the result fit the buffer?"
