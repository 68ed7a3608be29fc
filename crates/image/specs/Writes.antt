-- What writing an image answers, and what it leaves in the buffer.
use Rattle.std.specs.Prelude.{ℕ, ◌+◌, cond, ◌&&◌, List, ◌++◌, length, take, drop, Ok, Err, Result, nat_le}
use Rattle.operand.specs.declared.edition.Edition.{Edition}
use Rattle.item.specs.declared.item.Item.{Item}
use Rattle.image.specs.Images.{cells_sum, most_items, most_constants, words_of}
use Rattle.image.specs.declared.constant.Constant.{Constant}
use Rattle.image.specs.declared.write.Written.{Written}
use Rattle.image.specs.declared.write.WriteRefusal.{WriteRefusal}
use Rattle.image.specs.declared.write.WriteRefusal.TheVariants.{TooMany, TooLong}

-- the buffer with words in it from a place on, and else as it was
abbrev pub laid : List ℕ → ℕ → List ℕ → List ℕ
laid old at words = take at old ++ (words ++ drop (at + length words) old)

-- the words first, then what was behind them before
abbrev pub first_laid : List ℕ → List ℕ → List ℕ
first_laid old words = words ++ drop (length words) old

abbrev pub counts_of : Edition → List Item → List Constant → Written
counts_of e is cs = record { length = length (words_of e is cs); items = length is; constants = length cs; cells = cells_sum is }

-- the answer for a buffer with room for that many words
abbrev pub write_answer : Edition → List Item → List Constant → ℕ → Result Written WriteRefusal
write_answer e is cs room =
    cond (nat_le (length is) most_items && nat_le (length cs) most_constants)
    (cond (nat_le (length (words_of e is cs)) room) (Ok (counts_of e is cs)) (Err TooLong))
    (Err TooMany)

-- the buffer after the answer: a refusal leaves it as it was
abbrev pub write_left : Result Written WriteRefusal → List ℕ → List ℕ → List ℕ
write_left (Ok counts) words old = first_laid old words
write_left (Err refusal) words old = old
