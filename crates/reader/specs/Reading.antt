-- The items and constants that the tokens of a text write.
use Rattle.std.specs.Prelude.{◌≡◌, ℕ, ◌-◌, cond, List, [], ◌∷◌, ◌++◌, length, take, Some, None, Ok, Err, vec_items, Option, Result}
use Rattle.operand.specs.declared.edition.Edition.{Edition}
use Rattle.item.specs.declared.item.Item.{Item}
use Rattle.item.specs.declared.item.Item.TheVariants.{Call}
use Rattle.image.specs.declared.constant.Constant.{Constant}
use Rattle.token.specs.Tokens.{Seen}
use Rattle.follow.specs.declared.state.State.{State}
use Rattle.follow.specs.declared.state.Asks.TheVariants.{Entry}
use Rattle.follow.specs.declared.state.Put.{Put}
use Rattle.follow.specs.declared.state.Step.{Step}
use Rattle.reader.specs.declared.read.Program.{Program}
use Rattle.reader.specs.declared.read.ReadRefusal.{ReadRefusal}
use Rattle.reader.specs.declared.read.ReadRefusal.TheVariants.{Misplaced, NoMemory}
use Rattle.follow.specs.Steps.{next_step, may_end}

-- what was read so far
pub record Read : Type 0 where
  pub items : List Item
  pub constants : List Constant
  pub state : State

-- nothing was read
abbrev pub begin_state : State
begin_state = record { asks = Entry; pins = 0; last = None }

abbrev pub unread : Read
unread = record { items = []; constants = []; state = begin_state }

-- a token's item goes to the end; a call's number is the number of the call that stands last
abbrev pub items_after : Put → List Item → List Item
items_after Put.Nothing is = is
items_after (Put.Item i) is = is ++ (i ∷ [])
items_after (Put.CallNumber n) is = take (length is - 1) is ++ (Call (Some n) ∷ [])
items_after (Put.Constant c) is = is

abbrev pub constants_after : Put → List Constant → List Constant
constants_after Put.Nothing cs = cs
constants_after (Put.Item i) cs = cs
constants_after (Put.CallNumber n) cs = cs
constants_after (Put.Constant c) cs = cs ++ (c ∷ [])

abbrev pub stepped : Read → Step → Read
stepped r st = record { items = items_after st.put r.items; constants = constants_after st.put r.constants; state = st.state }

-- a list, or the place of the first token that does not fit the one before
pub data Outcome : Type 0 where
  list : List Item → List Constant → Outcome
  misfit : ℕ → Outcome

-- at the text's end a token may be missing
abbrev pub ended : ℕ → Read → Outcome
ended end r = cond (may_end r.state.asks) (list r.items r.constants) (misfit end)

abbrev pub go_on : Option Step → ℕ → Read → (Read → Outcome) → Outcome
go_on None place r rest = misfit place
go_on (Some st) place r rest = rest (stepped r st)

unfoldable pub read_on : Edition → ℕ → List Seen → Read → Outcome
read_on e end [] r = ended end r
read_on e end (t ∷ ts) r = go_on (next_step e r.state t.tok) t.place r (read_on e end ts)

-- what the reader answers; want of memory says nothing of the text
abbrev pub Reads : Outcome → Result Program ReadRefusal → Type 0
Reads o (Ok p) = o ≡ list (vec_items p.items) (vec_items p.constants)
Reads o (Err (Misplaced place)) = o ≡ misfit place
Reads o (Err NoMemory) = Unit {0}
