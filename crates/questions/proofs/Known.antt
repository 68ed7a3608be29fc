-- Question 5: every item is known exactly when the words are those of lawful items.
use Rattle.std.proofs.Common.{◌≡◌, ℕ, zero, suc, ◌*◌, List, [], ◌∷◌, length, Some, sym, refl, arith}
use Rattle.operand.specs.declared.edition.Edition.{Edition}
use Rattle.item.specs.declared.item.Item.{Item}
use Rattle.image.specs.Images.{item_words}
use Rattle.decode.specs.Decoded.{Lawful}
use Rattle.decode.proofs.Exact.{again, decoded_exactly}
use Rattle.rule.specs.Automata.{known}
use Rattle.decode.specs.Words.{items_of}
use Rattle.questions.specs.Everywhere.{Each}
use Rattle.questions.specs.Known.{Known}
use Rattle.questions.proofs.Places.{cons_head, cons_tail}

module _ (e : Edition) where
  pub known_words : (n : ℕ) (ws : List ℕ) (xs : List Item) → length ws ≡ 2 * n → items_of e ws ≡ known xs → Known e ws xs
  unfolding items_of known item_words
  known_words n [] [] l h = (refl, tt)
  known_words n [] (x ∷ xs) l h = cc
  known_words n (a ∷ []) xs l h = absurd (omega arith)
  known_words n (a ∷ b ∷ ws) [] l h = cc
  known_words zero (a ∷ b ∷ ws) (x ∷ xs) l h = absurd (omega arith)
  known_words (suc n) (a ∷ b ∷ ws) (x ∷ xs) l h =
      let (w, c) = known_words n ws xs (omega arith) (cons_tail h) in
      let (d, p, q) = decoded_exactly e a b (Some x) (sym (cons_head h)) in
      ((λ i. p i ∷ (q i ∷ w i)), (d, c))

  pub words_known : (xs : List Item) → Each (Lawful e) xs → items_of e (item_words xs) ≡ known xs
  unfolding items_of known item_words
  words_known [] l = refl
  words_known (x ∷ xs) (d, c) = λ i. again e x d i ∷ words_known xs c i
