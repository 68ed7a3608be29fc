-- The reader reads exactly what a text writes.
use Rattle.std.specs.Prelude.{◌≡◌, ℕ, List}
use Rattle.operand.specs.declared.edition.Edition.{Edition}
use Rattle.item.specs.declared.item.Item.{Item}
use Rattle.image.specs.declared.constant.Constant.{Constant}
use Rattle.token.specs.Tokens.{Seen}
use Rattle.reader.specs.Reading.{list, read_on, unread}
use Rattle.writing.specs.Texts.{Writes}

abbrev pub ReadsWhatIsWritten : Type 0
ReadsWhatIsWritten =
    ((e : Edition) (end : ℕ) (ts : List Seen) (is : List Item) (cs : List Constant) → Writes e 0 ts is cs → read_on e end ts unread ≡ list is cs)
    × ((e : Edition) (end : ℕ) (ts : List Seen) (is : List Item) (cs : List Constant) → read_on e end ts unread ≡ list is cs → Writes e 0 ts is cs)
