-- Question 4: the words behind the items are those of lawful constants in rising order.
use Rattle.std.specs.Prelude.{◌≡◌, ℕ, ◌+◌, ◌*◌, true, cond, List, [], ◌∷◌, drop, ◌≤ℤ◌, Some, None, Option, ◌≢◌, slice_index}
use Rattle.operand.specs.declared.edition.Edition.{Edition}
use Rattle.operand.specs.declared.operand.Operand.{Operand}
use Rattle.operand.specs.Codes.{in_range, code_of}
use Rattle.operand.specs.Kinds.{size_of}
use Rattle.image.specs.declared.constant.Constant.{Constant}
use Rattle.image.specs.Constants.{low_word, high_word}
use Rattle.image.specs.Images.{constant_words}
use Rattle.constants.specs.Decoded.{constant_decoded, constants_of}
use Rattle.constants.specs.Rules.{constant_fits, constant_kind, least, most}

-- a KW or KD of the edition, with a value that is not forbidden
abbrev pub Lawful : Edition → Constant → Type 0
Lawful e c =
    (in_range e c.operand ≡ true)
    × (constant_kind c.operand.kind ≡ true)
    × (least (size_of c.operand.kind) ≤ℤ c.value)
    × (c.value ≤ℤ most (size_of c.operand.kind))

-- three words stand for a constant exactly when it is lawful and has them
abbrev pub Decodes : Edition → ℕ → ℕ → ℕ → Option Constant → Type 0
Decodes e code low high (Some c) =
    Lawful e c × (code_of c.operand ≡ code) × (low_word c ≡ low) × (high_word c ≡ high)
Decodes e code low high None =
    (c : Constant) → Lawful e c → code_of c.operand ≡ code → low_word c ≡ low → high_word c ≢ high

-- each is lawful and may stand behind the one before
abbrev pub AllLawful : Edition → Option Operand → List Constant → Type 0
AllLawful e last [] = Unit {0}
AllLawful e last (c ∷ cs) = Lawful e c × (constant_fits last c.operand ≡ true) × AllLawful e (Some c.operand) cs

-- the question's yes: the words are those of lawful constants in rising order
abbrev pub ConstantsLawful : Edition → List ℕ → Type 0
ConstantsLawful e ws = (cs : List Constant) × (constant_words cs ≡ ws) × AllLawful e None cs

-- the place of the first constant that is none or may not stand there, counted on from p
unfoldable pub constant_fault : Option Operand → List (Option Constant) → ℕ → Option ℕ
constant_fault last [] p = None
constant_fault last (None ∷ cs) p = Some p
constant_fault last (Some c ∷ cs) p =
    cond (constant_fits last c.operand) (constant_fault (Some c.operand) cs (p + 1)) (Some p)

-- what the question answers
abbrev pub Judged : Edition → List ℕ → Option ℕ → Type 0
Judged e ws None = ConstantsLawful e ws
Judged e ws (Some p) = ConstantsLawful e ws → ⊥

abbrev pub constant_at : Edition → List ℕ → ℕ → Option Constant
constant_at e ws p = constant_decoded e (slice_index ws (3 * p)) (slice_index ws (3 * p + 1)) (slice_index ws (3 * p + 2))

-- the operand of a constant that may stand behind the last one
abbrev pub allowed : Option Operand → Option Constant → Option Operand
allowed last None = None
allowed last (Some c) = cond (constant_fits last c.operand) (Some c.operand) None

-- the constants from place p on
abbrev pub constants_from : Edition → List ℕ → ℕ → List (Option Constant)
constants_from e ws p = constants_of e (drop (3 * p) ws)

-- the fault behind the constant at place p, if it may stand there; else p
abbrev pub fault_behind : Option Operand → List (Option Constant) → ℕ → Option ℕ
fault_behind None cs p = Some p
fault_behind (Some o) cs p = constant_fault (Some o) cs (p + 1)
