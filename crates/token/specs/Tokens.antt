-- What a part of the text stands for.
use Rattle.std.specs.Prelude.{ℕ, cond, List, [], ◌∷◌, map, Some, None, codes, Option}
use Rattle.std.specs.List.{before_first, after_first}
use Rattle.std.specs.Str.{bytes_eq}
use Rattle.character.specs.Classes.{is_comma}
use Rattle.operand.specs.declared.edition.Edition.{Edition}
use Rattle.operand.specs.declared.kind.Kind.{Kind}
use Rattle.catalogue.specs.declared.Block.{Block}
use Rattle.item.specs.declared.mnemonic.Mnemonic.{Mnemonic}
use Rattle.numeral.specs.Numerals.{Written, natural, written_as}
use Rattle.spelling.specs.Spellings.{mnemonic_spelt, kind_spelt, block_spelt}
use Rattle.token.specs.Cuts.{Part, parts_of}

-- a mnemonic, operand letters, a block's name, `:=`, a plain number, a pair g,c of numbers, or nothing that is known
pub data Tok : Type 0 where
  word : Mnemonic → Tok
  letters : Kind → Tok
  block : Block → Tok
  define : Tok
  number : Written → Tok
  pair : ℕ → ℕ → Tok
  unknown : Tok

-- what stands before the first comma, and after it
abbrev pub before : List ℕ → List ℕ
before bs = before_first is_comma bs

abbrev pub after : List ℕ → List ℕ
after bs = after_first is_comma bs

-- one reading after the other is tried
abbrev pub pair_or : Option ℕ → Option ℕ → Tok
pair_or None o = unknown
pair_or (Some g) None = unknown
pair_or (Some g) (Some c) = pair g c

abbrev pub number_or : Option Written → Tok → Tok
number_or None t = t
number_or (Some w) t = number w

abbrev pub block_or : Option Block → Tok → Tok
block_or None t = t
block_or (Some b) t = block b

abbrev pub letters_or : Option Kind → Tok → Tok
letters_or None t = t
letters_or (Some k) t = letters k

abbrev pub word_or : Option Mnemonic → Tok → Tok
word_or None t = t
word_or (Some m) t = word m

abbrev pub tok_of : Edition → List ℕ → Tok
tok_of e bs =
    word_or (mnemonic_spelt bs) (
    letters_or (kind_spelt bs) (
    block_or (block_spelt e bs) (
    cond (bytes_eq bs (codes ":=")) define (
    number_or (written_as bs) (
    pair_or (natural (before bs)) (natural (after bs)))))))

-- a token with its byte place
pub record Seen : Type 0 where
  pub place : ℕ
  pub tok : Tok

abbrev pub seen : Edition → Part → Seen
seen e p = record { place = p.place; tok = tok_of e p.bytes }

-- the tokens of a text, in order
abbrev pub tokens_of : Edition → List ℕ → List Seen
tokens_of e bs = map (seen e) (parts_of 0 bs)

-- the place of the first token that is not known
abbrev pub unknown_at : Tok → ℕ → Option ℕ → Option ℕ
unknown_at (word m) p o = o
unknown_at (letters k) p o = o
unknown_at (block b) p o = o
unknown_at define p o = o
unknown_at (number w) p o = o
unknown_at (pair g c) p o = o
unknown_at unknown p o = Some p

abbrev pub first_unknown : List Seen → Option ℕ
first_unknown [] = None
first_unknown (s ∷ ss) = unknown_at s.tok s.place (first_unknown ss)
