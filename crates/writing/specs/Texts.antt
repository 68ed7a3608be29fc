-- What the tokens of a text write, in the words of the text form: which tokens make an item, which a constant, and what a whole text is.
use Rattle.std.specs.Prelude.{◌≡◌, ℕ, suc, ◌-◌, ◌≤◌, true, List, [], ◌∷◌, length, ℤ, pos, negsuc, ◌≤ℤ◌, Some, None, Option}
use Rattle.operand.specs.declared.edition.Edition.{Edition}
use Rattle.operand.specs.declared.kind.Kind.{Kind}
use Rattle.operand.specs.declared.operand.Operand.{Operand}
use Rattle.operand.specs.Kinds.{size_of}
use Rattle.operand.specs.Codes.{operand_at}
use Rattle.catalogue.specs.declared.Block.{Block}
use Rattle.catalogue.specs.Blocks.{pins_of}
use Rattle.item.specs.declared.mnemonic.Form.{Form}
use Rattle.item.specs.declared.mnemonic.Mnemonic.{Mnemonic}
use Rattle.item.specs.declared.mnemonic.Mnemonic.TheVariants as Word
use Rattle.item.specs.declared.item.Item.{Item}
use Rattle.numeral.specs.Numerals.{Written, plain, value_of}
use Rattle.image.specs.declared.constant.Constant.{Constant}
use Rattle.token.specs.Tokens.{Tok, word, letters, block, define, number, pair, Seen}
use Rattle.constants.specs.Rules.{constant_kind, constant_fits, least, most}
use Rattle.follow.specs.Steps.{word_bits}

-- a token at some place
abbrev pub at : ℕ → Tok → Seen
at p t = record { place = p; tok = t }

-- a mnemonic that is an item by itself
pub data Alone : Mnemonic → Item → Type 0 where
  nop : Alone Word.Nop Item.Nop
  start : {t : _} → Alone (Word.Start t) (Item.Start t)
  opening : {t : _} → Alone (Word.Open t) (Item.Open t)
  closing : Alone Word.Close Item.Close
  operator : {o : _} → Alone (Word.Operator o) (Item.Operator o)
  compare : {c : _} → Alone (Word.Compare c) (Item.Compare c)
  end_if : Alone Word.EndIf Item.EndIf

-- a value that a number has, from low to high
abbrev pub FromTo : ℤ → ℤ → Written → Type 0
FromTo low high w = (low ≤ℤ value_of w) × (value_of w ≤ℤ high)

-- constants that may stand after the one before, to the text's end
pub data Constants (e : Edition) : Option Operand → List Seen → List Constant → Type 0 where
  none : {last : Option Operand} → Constants e last [] []
  more : {last : Option Operand} {k : Kind} {g c p q r s : ℕ} {o : Operand} {w : Written} {ts : List Seen} {cs : List Constant}
      → constant_kind k ≡ true → operand_at e k g c ≡ Some o → constant_fits last o ≡ true
      → FromTo (least (size_of o.kind)) (most (size_of o.kind)) w
      → Constants e (Some o) ts cs
      → Constants e last (at p (letters k) ∷ at q (pair g c) ∷ at r define ∷ at s (number w) ∷ ts) (record { operand = o; value = value_of w } ∷ cs)

-- what a text writes while the block named last has n pins to come
pub data Writes (e : Edition) : ℕ → List Seen → List Item → List Constant → Type 0 where
  nothing : {n : ℕ} → Writes e n [] [] []
  alone : {n p : ℕ} {m : Mnemonic} {i : Item} {ts : List Seen} {is : List Item} {cs : List Constant}
      → Alone m i → Writes e n ts is cs → Writes e n (at p (word m) ∷ ts) (i ∷ is) cs
  -- a call without a number, and one with a number from 0 to 999
  call : {n p : ℕ} {ts : List Seen} {is : List Item} {cs : List Constant}
      → Writes e n ts is cs → Writes e n (at p (word Word.Call) ∷ ts) (Item.Call None ∷ is) cs
  numbered : {n p q k : ℕ} {ts : List Seen} {is : List Item} {cs : List Constant}
      → k ≤ 999 → Writes e n ts is cs → Writes e n (at p (word Word.Call) ∷ at q (number (plain k)) ∷ ts) (Item.Call (Some k) ∷ is) cs
  -- a block's name: all its pins are to come
  named : {n p : ℕ} {b : Block} {ts : List Seen} {is : List Item} {cs : List Constant}
      → Writes e (length (pins_of b)) ts is cs → Writes e n (at p (block b) ∷ ts) (Item.Kind b ∷ is) cs
  -- an operand is a pin while pins are to come
  operand : {p q g c : ℕ} {k : Kind} {o : Operand} {ts : List Seen} {is : List Item} {cs : List Constant}
      → operand_at e k g c ≡ Some o → Writes e 0 ts is cs → Writes e 0 (at p (letters k) ∷ at q (pair g c) ∷ ts) (Item.Operand o ∷ is) cs
  pin : {n p q g c : ℕ} {k : Kind} {o : Operand} {ts : List Seen} {is : List Item} {cs : List Constant}
      → operand_at e k g c ≡ Some o → Writes e n ts is cs → Writes e (suc n) (at p (letters k) ∷ at q (pair g c) ∷ ts) (Item.Pin o ∷ is) cs
  -- an assignment takes its operand, which is no pin
  assign : {n p q r g c : ℕ} {f : Form} {k : Kind} {o : Operand} {ts : List Seen} {is : List Item} {cs : List Constant}
      → operand_at e k g c ≡ Some o → Writes e n ts is cs
      → Writes e n (at p (word (Word.Assign f)) ∷ at q (letters k) ∷ at r (pair g c) ∷ ts) (Item.Assign f o ∷ is) cs
  -- a direct value counts as a pin
  direct : {n p q : ℕ} {w : Written} {ts : List Seen} {is : List Item} {cs : List Constant}
      → FromTo (negsuc 32767) (pos 32767) w → Writes e (n - 1) ts is cs
      → Writes e n (at p (word Word.Direct) ∷ at q (number w) ∷ ts) (Item.Direct (word_bits (value_of w)) ∷ is) cs
  mark : {n p q : ℕ} {w : Written} {ts : List Seen} {is : List Item} {cs : List Constant}
      → FromTo (pos 0) (pos 999) w → Writes e n ts is cs
      → Writes e n (at p (word Word.Mark) ∷ at q (number w) ∷ ts) (Item.Mark (word_bits (value_of w)) ∷ is) cs
  -- behind the end stand only constants
  end : {n p : ℕ} {ts : List Seen} {cs : List Constant}
      → Constants e None ts cs → Writes e n (at p (word Word.End) ∷ ts) (Item.End ∷ []) cs
