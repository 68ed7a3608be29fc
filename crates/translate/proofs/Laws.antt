-- What is translated is what the text writes.
use Rattle.std.proofs.Common.{◌≡◌, ℕ, List, length, Some, None, Option, refl, ap, ◌∙◌, arith}
use Rattle.operand.specs.declared.edition.Edition.{Edition}
use Rattle.item.specs.declared.item.Item.{Item}
use Rattle.image.specs.declared.constant.Constant.{Constant}
use Rattle.token.specs.Tokens.{tokens_of, first_unknown}
use Rattle.reader.specs.Reading.{Outcome, list, misfit, read_on, unread}
use Rattle.writing.proofs.Complete.{complete}
use Rattle.writing.proofs.Sound.{sound}
use Rattle.translate.specs.Law.{TextWrites}
use Rattle.translate.specs.Translation.{translated, known_or, read_as, translation_of}

-- a text that is translated has only known tokens, and was read as a list
was_read : (u : Option ℕ) (o : Outcome) (is : List Item) (cs : List Constant) → known_or u o ≡ translated is cs → (u ≡ None) × (o ≡ list is cs)
was_read (Some p) o is cs h = let z : ◌≡◌ {A = ℕ} 0 1 = cc in absurd (omega arith)
was_read None (list js ds) is cs h = let i : js ≡ is = cc in let c : ds ≡ cs = cc in (refl, λ k. list (i k) (c k))
was_read None (misfit p) is cs h = let z : ◌≡◌ {A = ℕ} 0 1 = cc in absurd (omega arith)

module _ (e : Edition) (text : List ℕ) (is : List Item) (cs : List Constant) where
  pub translated_writes : translation_of e text ≡ translated is cs → TextWrites e text is cs
  translated_writes h =
      let r = was_read (first_unknown (tokens_of e text)) (read_on e (length text) (tokens_of e text) unread) is cs h in
      (r.0, sound e (length text) (tokens_of e text) is cs r.1)

  pub written_translates : TextWrites e text is cs → translation_of e text ≡ translated is cs
  written_translates w =
      (λ k. known_or (w.0 k) (read_on e (length text) (tokens_of e text) unread))
      ∙ ap read_as (complete e (length text) (tokens_of e text) is cs w.1)
