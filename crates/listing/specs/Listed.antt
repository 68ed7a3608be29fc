-- What a listing answers, and what it leaves in the buffer.
use Rattle.std.specs.Prelude.{◌≡◌, ℕ, cond, List, [], ◌++◌, length, drop, Some, None, Ok, Err, Option, Result, nat_le}
use Rattle.operand.specs.declared.edition.Edition.{Edition}
use Rattle.told.specs.declared.Told.{Told}
use Rattle.view.specs.Trailers.{edition_in}
use Rattle.view.specs.declared.Image.{Image}
use Rattle.checker.specs.declared.refusal.CheckRefusal.{CheckRefusal}
use Rattle.checker.specs.Refusals as Check
use Rattle.checker.specs.Verdict.{first_no, then_no, trailer_questions, known_questions, parts_of, seen}
use Rattle.checker.specs.Refusals.{no_to}
use Rattle.listing.specs.declared.refusal.ListRefusal.{ListRefusal}
use Rattle.listing.specs.Lines.{listing_of}
use Rattle.listing.specs.Refusals.{told_of}

-- the first of the questions 1 to 5 that gets a no
abbrev pub known_no : Option Edition → List ℕ → Option Told
known_no None ws = None
known_no (Some e) ws = first_no known_questions (parts_of ws e)

abbrev pub not_listed : List ℕ → Option Told
not_listed ws = then_no (first_no trailer_questions ws) (known_no (edition_in ws) ws)

-- the text of an image whose edition is known
abbrev pub text_in : Option Edition → List ℕ → List ℕ
text_in None ws = []
text_in (Some e) ws = listing_of (parts_of ws e)

abbrev pub text_of : List ℕ → List ℕ
text_of ws = text_in (edition_in ws) ws

-- what is due for an image and a buffer with so much room: the length of the listing, or the question that gets a no
pub data Due : Type 0 where
  listed : ℕ → Due
  no : Told → Due

abbrev pub fitted : List ℕ → ℕ → Due
fitted text room = cond (nat_le (length text) room) (listed (length text)) (no (no_to 22 0))

abbrev pub unless_no : Option Told → List ℕ → ℕ → Due
unless_no (Some t) text room = no t
unless_no None text room = fitted text room

unfoldable pub due_for : List ℕ → ℕ → Due
due_for ws room = unless_no (not_listed ws) (text_of ws) room

abbrev pub answered : Result ℕ ListRefusal → Due
answered (Ok n) = listed n
answered (Err q) = no (told_of q)

-- the buffer after the answer: the listing stands first and the rest is as before; a refusal leaves it all
abbrev pub left_by : Result ℕ ListRefusal → List ℕ → List ℕ → List ℕ
left_by (Ok n) text old = text ++ drop (length text) old
left_by (Err q) text old = old

-- an image is opened for listing: its parts, or the first of the questions 1 to 5 that gets a no
abbrev pub Opened : List ℕ → Result Image CheckRefusal → Type 0
Opened ws (Ok v) = (not_listed ws ≡ None) × (listing_of (seen v) ≡ text_of ws)
Opened ws (Err q) = not_listed ws ≡ Some (Check.told_of q)
