-- What makes the spellings readable: no two are alike, none is empty, none holds a separator or a comma,
-- none is a number; and each is read back as what it was written for, and as nothing else.
use Rattle.std.specs.Prelude.{◌≡◌, ℕ, zero, suc, Bool, true, false, not, ◌&&◌, ◌||◌, List, [], ◌∷◌, ◌++◌, is_some, Some, None, codes, Option, ◌==◌}
use Rattle.std.specs.List.{list_all}
use Rattle.std.specs.Str.{bytes_eq}
use Rattle.numeral.specs.Numerals.{written_as}
use Rattle.operand.specs.declared.edition.Edition.TheVariants.{Series90}
use Rattle.operand.specs.declared.kind.Kind.{Kind}
use Rattle.operand.specs.Kinds.{kind_numbered, letters_of}
use Rattle.catalogue.specs.declared.Block.{Block}
use Rattle.catalogue.specs.Blocks as Blocks
use Rattle.item.specs.declared.mnemonic.Mnemonic.{Mnemonic}
use Rattle.item.specs.Mnemonics as Mnemonics
use Rattle.spelling.specs.Spellings.{mnemonic_spelt, kind_spelt, block_spelt}

abbrev pub with_spelling : {T : Type 0} → (T → List ℕ) → Option T → List (List ℕ) → List (List ℕ)
with_spelling spelling None others = others
with_spelling spelling (Some t) others = spelling t ∷ others

-- the spellings of the entries with numbers below n
abbrev pub spellings_below : {T : Type 0} → (ℕ → Option T) → (T → List ℕ) → ℕ → List (List ℕ)
spellings_below entry spelling zero = []
spellings_below entry spelling (suc n) = with_spelling spelling (entry n) (spellings_below entry spelling n)

-- all that a text can spell: mnemonics, operand letters, block names and ":="
abbrev pub spellings : List (List ℕ)
spellings =
    spellings_below Mnemonics.mnemonic_numbered Mnemonics.name_of 52
    ++ (spellings_below kind_numbered letters_of 11
    ++ (spellings_below (Blocks.block_numbered Series90) Blocks.name_of 9
    ++ (codes ":=" ∷ [])))

abbrev pub all_apart : List (List ℕ) → Bool
all_apart [] = true
all_apart (x ∷ xs) = list_all (λ y. not (bytes_eq x y)) xs && all_apart xs

abbrev pub is_empty : List ℕ → Bool
is_empty [] = true
is_empty (c ∷ cs) = false

-- blank, tab, line feed, carriage return, comma
abbrev pub cuts : ℕ → Bool
cuts c = c == 32 || (c == 9 || (c == 10 || (c == 13 || c == 44)))

abbrev pub is_number : List ℕ → Bool
is_number bs = is_some (written_as bs)

abbrev pub readable : List ℕ → Bool
readable bs = not (is_empty bs) && (list_all (λ c. not (cuts c)) bs && not (is_number bs))

abbrev pub Rule : Type 0
Rule = (all_apart spellings && list_all readable spellings) ≡ true

-- each is read back from its own spelling
pub record Back : Type 0 where
  pub mnemonics : (m : Mnemonic) → mnemonic_spelt (Mnemonics.name_of m) ≡ Some m
  pub kinds : (k : Kind) → kind_spelt (letters_of k) ≡ Some k
  pub blocks : (b : Block) → block_spelt Series90 (Blocks.name_of b) ≡ Some b

-- and from no other
pub record Only : Type 0 where
  pub mnemonics : (bs : List ℕ) (m : Mnemonic) → mnemonic_spelt bs ≡ Some m → bs ≡ Mnemonics.name_of m
  pub kinds : (bs : List ℕ) (k : Kind) → kind_spelt bs ≡ Some k → bs ≡ letters_of k
  pub blocks : (bs : List ℕ) (b : Block) → block_spelt Series90 bs ≡ Some b → bs ≡ Blocks.name_of b
