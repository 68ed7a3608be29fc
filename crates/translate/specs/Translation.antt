-- What a text is translated to, and what the translator answers and leaves.
use Rattle.std.specs.Prelude.{◌≡◌, ℕ, List, [], length, Some, None, Ok, Err, vec_items, Option, Result}
use Rattle.operand.specs.declared.edition.Edition.{Edition}
use Rattle.item.specs.declared.item.Item.{Item}
use Rattle.image.specs.declared.constant.Constant.{Constant}
use Rattle.image.specs.declared.write.Written.{Written}
use Rattle.image.specs.declared.write.WriteRefusal.{WriteRefusal}
use Rattle.image.specs.declared.write.WriteRefusal.TheVariants.{TooMany, TooLong}
use Rattle.told.specs.declared.Told.{Told}
use Rattle.image.specs.Images.{words_of}
use Rattle.image.specs.Writes.{write_answer, first_laid}
use Rattle.token.specs.Tokens.{tokens_of, first_unknown}
use Rattle.reader.specs.Reading.{Outcome, list, misfit, read_on, unread}
use Rattle.reader.specs.declared.read.Program.{Program}
use Rattle.translate.specs.declared.refusal.Refusal.{Refusal}
use Rattle.translate.specs.Refusals.{told_of}

-- a question that got a no, with its place
abbrev pub no_to : ℕ → ℕ → Told
no_to question place = record { question = question; place = place }

-- the items and constants that a text writes, or the question that gets a no
pub data Translation : Type 0 where
  translated : List Item → List Constant → Translation
  refused : Told → Translation

-- 20: does each token fit the one before?
abbrev pub read_as : Outcome → Translation
read_as (list is cs) = translated is cs
read_as (misfit p) = refused (no_to 20 p)

-- 19: is each token known? It is asked of the whole text first
abbrev pub known_or : Option ℕ → Outcome → Translation
known_or (Some p) o = refused (no_to 19 p)
known_or None o = read_as o

abbrev pub translation_of : Edition → List ℕ → Translation
translation_of e text = known_or (first_unknown (tokens_of e text)) (read_on e (length text) (tokens_of e text) unread)

-- the image's words
abbrev pub image_of : Edition → Translation → List ℕ
image_of e (translated is cs) = words_of e is cs
image_of e (refused t) = []

-- what is due for a text and a buffer: the counts of the image written, or the question that gets a no
pub data Due : Type 0 where
  written : Written → Due
  no : Told → Due

-- 21: are there few enough items and constants? 22: does the image fit the buffer?
abbrev pub write_due : Result Written WriteRefusal → Due
write_due (Ok w) = written w
write_due (Err TooMany) = no (no_to 21 0)
write_due (Err TooLong) = no (no_to 22 0)

abbrev pub due_for : Edition → Translation → ℕ → Due
due_for e (translated is cs) room = write_due (write_answer e is cs room)
due_for e (refused t) room = no t

-- what a refusal tells is due; want of memory is no question's answer and says nothing of the text
abbrev pub Tells : Option Told → Due → Type 0
Tells (Some t) due = due ≡ no t
Tells None due = Unit {0}

abbrev pub Answers : Result Written Refusal → Due → Type 0
Answers (Ok w) due = due ≡ written w
Answers (Err q) due = Tells (told_of q) due

-- the buffer after the answer: the image stands first and the rest is as before; a refusal leaves it all
abbrev pub left_by : Result Written Refusal → List ℕ → List ℕ → List ℕ
left_by (Ok w) words old = first_laid old words
left_by (Err q) words old = old

-- what the text was read as
abbrev pub Refuses : Option Told → Translation → Type 0
Refuses (Some t) translation = translation ≡ refused t
Refuses None translation = Unit {0}

abbrev pub Parses : Translation → Result Program Refusal → Type 0
Parses t (Ok p) = t ≡ translated (vec_items p.items) (vec_items p.constants)
Parses t (Err q) = Refuses (told_of q) t

abbrev pub program_of : Program → Translation
program_of p = translated (vec_items p.items) (vec_items p.constants)
