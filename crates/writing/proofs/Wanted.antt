-- The token that is wanted next, and what stands behind it.
use Rattle.std.proofs.Common.{◌≡◌, ℕ, ◌-◌, ◌≤◌, Bool, true, false, cond, ◌&&◌, List, [], ◌∷◌, ◌++◌, length, take, ℤ, Some, None, Option, refl}
use lib.Signed.{le_z}
use Rattle.operand.specs.declared.edition.Edition.{Edition}
use Rattle.operand.specs.declared.kind.Kind.{Kind}
use Rattle.operand.specs.declared.operand.Operand.{Operand}
use Rattle.operand.specs.Codes.{operand_at}
use Rattle.item.specs.declared.item.Item.{Item}
use Rattle.item.specs.declared.item.Item.TheVariants.{Call}
use Rattle.numeral.specs.Numerals.{Written, plain, value_of}
use Rattle.token.specs.Tokens.{Tok, word, letters, block, define, number, pair, unknown, Seen}
use Rattle.follow.specs.Steps.{kind_in, operand_in, value_in}
use Rattle.writing.specs.Texts.{at, FromTo}
use Rattle.writing.proofs.Ranges.{range_of}

-- letters stand next
pub data Letters (P : Kind → List Seen → Type 0) : List Seen → Type 0 where
  letters_then : {q : ℕ} {k : Kind} {ts : List Seen} → P k ts → Letters P (at q (letters k) ∷ ts)

-- group and channel of an operand of the kind stand next
pub data Address (e : Edition) (k : Kind) (P : Operand → List Seen → Type 0) : List Seen → Type 0 where
  address_then : {q g c : ℕ} {o : Operand} {ts : List Seen} → operand_at e k g c ≡ Some o → P o ts → Address e k P (at q (pair g c) ∷ ts)

-- a number from low to high stands next
pub data Number (low high : ℤ) (P : ℤ → List Seen → Type 0) : List Seen → Type 0 where
  number_then : {q : ℕ} {w : Written} {ts : List Seen} → FromTo low high w → P (value_of w) ts → Number low high P (at q (number w) ∷ ts)

-- `:=` stands next
pub data Define (P : List Seen → Type 0) : List Seen → Type 0 where
  define_then : {q : ℕ} {ts : List Seen} → P ts → Define P (at q define ∷ ts)

-- the number of the call that was put last stands next, or any item begins
pub data Called (P : List Item → List Seen → Type 0) (xs : List Item) : List Seen → Type 0 where
  plainly : {ts : List Seen} → P xs ts → Called P xs ts
  by_number : {q k : ℕ} {ts : List Seen} → k ≤ 999 → P (take (length xs - 1) xs ++ (Call (Some k) ∷ [])) ts → Called P xs (at q (number (plain k)) ∷ ts)

-- a token of which K tells something is the one that is wanted

pub letters_wanted : {P : Kind → List Seen → Type 0} {ts : List Seen} (K : Option Kind → Type 0) → (K None → ⊥) → ((k : Kind) → K (Some k) → P k ts)
    → (p : ℕ) (t : Tok) → K (kind_in t) → Letters P (at p t ∷ ts)
letters_wanted K non got p (word m) h = absurd (non h)
letters_wanted K non got p (letters k) h = letters_then (got k h)
letters_wanted K non got p (block b) h = absurd (non h)
letters_wanted K non got p define h = absurd (non h)
letters_wanted K non got p (number w) h = absurd (non h)
letters_wanted K non got p (pair g c) h = absurd (non h)
letters_wanted K non got p unknown h = absurd (non h)

module _ (e : Edition) (k : Kind) {P : Operand → List Seen → Type 0} {ts : List Seen} (K : Option Operand → Type 0) (non : K None → ⊥) (got : (o : Operand) → K (Some o) → P o ts) where
  found : (p g c : ℕ) (x : Option Operand) → operand_at e k g c ≡ x → K x → Address e k P (at p (pair g c) ∷ ts)
  found p g c None q h = absurd (non h)
  found p g c (Some o) q h = address_then q (got o h)

  pub address_wanted : (p : ℕ) (t : Tok) → K (operand_in e k t) → Address e k P (at p t ∷ ts)
  address_wanted p (word m) h = absurd (non h)
  address_wanted p (letters l) h = absurd (non h)
  address_wanted p (block b) h = absurd (non h)
  address_wanted p define h = absurd (non h)
  address_wanted p (number w) h = absurd (non h)
  address_wanted p (pair g c) h = found p g c (operand_at e k g c) refl h
  address_wanted p unknown h = absurd (non h)

module _ (low high : ℤ) {P : ℤ → List Seen → Type 0} {ts : List Seen} (K : Option ℤ → Type 0) (non : K None → ⊥) (got : (z : ℤ) → K (Some z) → P z ts) where
  ranged : (p : ℕ) (w : Written) (b : Bool) → (le_z low (value_of w) && le_z (value_of w) high) ≡ b → K (cond b (Some (value_of w)) None) → Number low high P (at p (number w) ∷ ts)
  ranged p w true q h = number_then (range_of low high w q) (got (value_of w) h)
  ranged p w false q h = absurd (non h)

  pub number_wanted : (p : ℕ) (t : Tok) → K (value_in low high t) → Number low high P (at p t ∷ ts)
  number_wanted p (word m) h = absurd (non h)
  number_wanted p (letters k) h = absurd (non h)
  number_wanted p (block b) h = absurd (non h)
  number_wanted p define h = absurd (non h)
  number_wanted p (number w) h = ranged p w _ refl h
  number_wanted p (pair g c) h = absurd (non h)
  number_wanted p unknown h = absurd (non h)
