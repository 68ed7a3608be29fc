-- Operands and their codes.
use Rattle.std.specs.Prelude.{◌≡◌, ℕ, ◌+◌, ◌*◌, ◌/◌, ◌%◌, Bool, true, cond, not, ◌&&◌, Some, None, Option, ◌≢◌, nat_le}
use Rattle.operand.specs.declared.kind.Kind.{Kind}
use Rattle.operand.specs.declared.edition.Edition.{Edition}
use Rattle.operand.specs.declared.operand.Operand.{Operand}
use Rattle.operand.specs.Kinds.{number_of, kind_numbered}
use Rattle.operand.specs.Ranges.{ranges_of, any_holds, writable_ranges, system_ranges}

abbrev pub place_of : Operand → ℕ
place_of o = 16 * o.group + o.channel

abbrev pub code_of : Operand → ℕ
code_of o = 4096 * number_of o.kind + place_of o

-- the edition has the operand: channel 0 to 15, and the place in a range of its kind
abbrev pub in_range : Edition → Operand → Bool
in_range e o = nat_le o.channel 15 && any_holds (ranges_of e) o.kind (place_of o)

-- the operand of a kind at a group and a channel, if the edition has it
abbrev pub operand_at : Edition → Kind → ℕ → ℕ → Option Operand
operand_at e k g c =
    cond (nat_le g 255 && (nat_le c 15 && any_holds (ranges_of e) k (16 * g + c))) (Some (record { kind = k; group = g; channel = c })) None

-- the operand with a code, if the edition has it
abbrev pub decoded_kind : Edition → ℕ → Option Kind → Option Operand
decoded_kind e place None = None
decoded_kind e place (Some k) = operand_at e k (place / 16) (place % 16)

abbrev pub decoded : Edition → ℕ → Option Operand
decoded e code = decoded_kind e (code % 4096) (kind_numbered (code / 4096))

-- a code stands for an operand exactly when it is the code of one that the edition has
abbrev pub Decodes : Edition → ℕ → Option Operand → Type 0
Decodes e code (Some o) = (in_range e o ≡ true) × (code_of o ≡ code)
Decodes e code None = (o : Operand) → in_range e o ≡ true → code_of o ≢ code

-- a list may write the operand: its kind can be written, and the place is not the system's
abbrev pub may_write : Operand → Bool
may_write o = any_holds writable_ranges o.kind (place_of o) && not (any_holds system_ranges o.kind (place_of o))
