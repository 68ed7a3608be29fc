-- Question 11: each jump has its mark ahead.
use Rattle.std.specs.Prelude.{ℕ, ◌+◌, ◌/◌, Bool, true, false, cond, List, length, Some, None, Option, nat_lt}
use Rattle.catalogue.specs.declared.Block.{Block}
use Rattle.catalogue.specs.declared.Block.TheVariants.{Esv, Moa, RisingEdge, Ctud, Muldi, Zuwd, Spbm}
use Rattle.item.specs.declared.item.Item.{Item}
use Rattle.item.specs.declared.item.Item.TheVariants.{Nop, Start, Open, Close, Operand, Operator, Compare, Assign, EndIf, Call, Kind, Pin, Direct, Mark, End}
use Rattle.operand.specs.declared.edition.Edition.{Edition}
use Rattle.decode.specs.Words.{item_at}
use Rattle.marks.specs.Marks.{next_mark}
use Rattle.marks.specs.Places.{first_place}

abbrev pub block_jumps : Block → Bool
block_jumps Esv = false
block_jumps Moa = false
block_jumps RisingEdge = false
block_jumps Ctud = false
block_jumps Muldi = false
block_jumps Zuwd = false
block_jumps Spbm = true

-- the item names the block kind that jumps
abbrev pub jumps : Option Item → Bool
jumps None = false
jumps (Some Nop) = false
jumps (Some (Start t)) = false
jumps (Some (Open t)) = false
jumps (Some Close) = false
jumps (Some (Operand o)) = false
jumps (Some (Operator o)) = false
jumps (Some (Compare c)) = false
jumps (Some (Assign f o)) = false
jumps (Some EndIf) = false
jumps (Some (Call n)) = false
jumps (Some (Kind b)) = block_jumps b
jumps (Some (Pin o)) = false
jumps (Some (Direct w)) = false
jumps (Some (Mark m)) = false
jumps (Some End) = false

-- a value that stands directly
abbrev pub direct_in : Option Item → Option ℕ
direct_in None = None
direct_in (Some Nop) = None
direct_in (Some (Start t)) = None
direct_in (Some (Open t)) = None
direct_in (Some Close) = None
direct_in (Some (Operand o)) = None
direct_in (Some (Operator o)) = None
direct_in (Some (Compare c)) = None
direct_in (Some (Assign f o)) = None
direct_in (Some EndIf) = None
direct_in (Some (Call n)) = None
direct_in (Some (Kind b)) = None
direct_in (Some (Pin o)) = None
direct_in (Some (Direct w)) = Some w
direct_in (Some (Mark m)) = None
direct_in (Some End) = None

-- the value that stands directly at place p of the list
abbrev pub direct_at : Edition → List ℕ → ℕ → Option ℕ
direct_at e ws p = cond (nat_lt p (length ws / 2)) (direct_in (item_at e ws p)) None

-- the mark that a jump named at place p goes to: its second pin
abbrev pub target_at : Edition → List ℕ → ℕ → Option ℕ
target_at e ws p = cond (jumps (item_at e ws p)) (direct_at e ws (p + 2)) None

abbrev pub missing : Option ℕ → Bool
missing None = true
missing (Some q) = false

abbrev pub astray_to : Edition → List ℕ → ℕ → Option ℕ → Bool
astray_to e ws p None = false
astray_to e ws p (Some m) = missing (next_mark e ws (p + 1) m)

-- the item at place p names a jump, and its mark is not ahead
abbrev pub astray : Edition → List ℕ → ℕ → Bool
astray e ws p = astray_to e ws p (target_at e ws p)

-- the first such place from p on
abbrev pub jump_fault_from : Edition → List ℕ → ℕ → Option ℕ
jump_fault_from e ws p = first_place (astray e ws) p (length ws / 2)

-- question 11
abbrev pub jump_fault : Edition → List ℕ → Option ℕ
jump_fault e ws = jump_fault_from e ws 0
