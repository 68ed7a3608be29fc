-- What the tokens that are read stand for, and what the readers answer.
use Rattle.std.specs.Prelude.{◌≡◌, ℕ, Bool, true, false, List, ◌∷◌, ◌++◌, map, Some, None, Ok, Err, vec_items, Option, Result, Vec}
use Rattle.std.specs.declared.alloc.Global.{Global}
use Rattle.operand.specs.declared.edition.Edition.{Edition}
use Rattle.numeral.specs.Numerals.{natural, written_as}
use Rattle.token.specs.declared.cut.Piece.{Piece}
use Rattle.token.specs.declared.token.Token.{Token}
use Rattle.token.specs.declared.token.Token.TheVariants.{Operator, Letters, Block, Define, Number, Pair}
use Rattle.token.specs.declared.token.Placed.{Placed}
use Rattle.token.specs.declared.token.TokenRefusal.{TokenRefusal}
use Rattle.token.specs.declared.token.TokenRefusal.TheVariants.{Unknown, NoMemory}
use Rattle.token.specs.Cuts.{Part, parts_of}
use Rattle.token.specs.Runs.{piece_part}
use Rattle.token.specs.Tokens.{Tok, word, letters, block, define, number, pair, unknown, number_or, pair_or, tok_of, Seen, seen, tokens_of, first_unknown}

-- the bytes that a token was read from
abbrev pub bytes_of : Token → List ℕ
bytes_of (Operator t m) = t.now
bytes_of (Letters t k) = t.now
bytes_of (Block t b) = t.now
bytes_of (Define t) = t.now
bytes_of (Number t) = t.now
bytes_of (Pair g c) = g.now ++ (44 ∷ c.now)

abbrev pub meaning : Token → Tok
meaning (Operator t m) = word m
meaning (Letters t k) = letters k
meaning (Block t b) = block b
meaning (Define t) = define
meaning (Number t) = number_or (written_as t.now) unknown
meaning (Pair g c) = pair_or (natural g.now) (natural c.now)

abbrev pub seen_of : Placed → Seen
seen_of p = record { place = p.place; tok = meaning p.token }

abbrev pub part_of : Placed → Part
part_of p = record { place = p.place; bytes = bytes_of p.token }

abbrev pub known : Tok → Bool
known (word m) = true
known (letters k) = true
known (block b) = true
known define = true
known (number w) = true
known (pair g c) = true
known unknown = false

-- the bytes stand for t: a token of these bytes is read that means t, or there is none since t is not known
abbrev pub Reads : List ℕ → Tok → Option Token → Type 0
Reads bs t None = t ≡ unknown
Reads bs t (Some k) = (bytes_of k ≡ bs) × (meaning k ≡ t) × (known t ≡ true)

-- what is read from one part of a text
abbrev pub ReadsPart : Edition → Piece → Result Placed TokenRefusal → Type 0
ReadsPart e w (Ok p) = (seen_of p ≡ seen e (piece_part w)) × (part_of p ≡ piece_part w) × (known (tok_of e w.bytes.now) ≡ true)
ReadsPart e w (Err (Unknown p)) = (p ≡ w.place) × (tok_of e w.bytes.now ≡ unknown)
ReadsPart e w (Err NoMemory) = ⊥

-- the tokens of a whole text, or the place of the first part that is not known
abbrev pub Tokenized : Edition → List ℕ → Result (Vec Placed Global) TokenRefusal → Type 0
Tokenized e bs (Ok v) =
    (map seen_of (vec_items v) ≡ tokens_of e bs)
    × (map part_of (vec_items v) ≡ parts_of 0 bs)
    × (first_unknown (tokens_of e bs) ≡ None)
Tokenized e bs (Err (Unknown p)) = first_unknown (tokens_of e bs) ≡ Some p
Tokenized e bs (Err NoMemory) = Unit {0}
