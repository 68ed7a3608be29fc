-- What is translated is what the text writes.
use Rattle.std.specs.Prelude.{◌≡◌, ℕ, List, None}
use Rattle.operand.specs.declared.edition.Edition.{Edition}
use Rattle.item.specs.declared.item.Item.{Item}
use Rattle.image.specs.declared.constant.Constant.{Constant}
use Rattle.token.specs.Tokens.{tokens_of, first_unknown}
use Rattle.writing.specs.Texts.{Writes}
use Rattle.translate.specs.Translation.{translation_of, translated}

-- the text writes these items and constants: all its tokens are known, and they write them
abbrev pub TextWrites : Edition → List ℕ → List Item → List Constant → Type 0
TextWrites e text is cs = (first_unknown (tokens_of e text) ≡ None) × Writes e 0 (tokens_of e text) is cs

-- a text is translated to items and constants exactly when it writes them
abbrev pub TranslatesWhatIsWritten : Edition → List ℕ → Type 0
TranslatesWhatIsWritten e text =
    ((is : List Item) (cs : List Constant) → translation_of e text ≡ translated is cs → TextWrites e text is cs)
    × ((is : List Item) (cs : List Constant) → TextWrites e text is cs → translation_of e text ≡ translated is cs)
