-- A number and an argument stand for an item exactly when it is lawful and has them.
use Rattle.std.proofs.Common.{◌≡◌, ℕ, Bool, true, false, cond, eqb, ltb, Some, None, Option, sym, refl, ap, ◌∙◌, subst, arith}
use Rattle.std.proofs.lemmas.Bool.{cond-true, lt-ltb, eqb-true, ltb-true}
use Rattle.std.proofs.lemmas.Bool.Decides.{nat_tests}
use Rattle.operand.specs.declared.edition.Edition.{Edition}
use Rattle.operand.specs.declared.edition.Edition.TheVariants.{Series90}
use Rattle.operand.specs.declared.operand.Operand.{Operand as AnyOperand}
use Rattle.operand.specs.Codes.{decoded, in_range, code_of}
use Rattle.operand.proofs.Undoing.{undone, decoded_right}
use Rattle.catalogue.specs.declared.Block.{Block}
use Rattle.catalogue.specs.Blocks as Blocks
use Rattle.item.specs.declared.mnemonic.Mnemonic.{Mnemonic}
use Rattle.item.specs.declared.mnemonic.Mnemonic.TheVariants as Word
use Rattle.item.specs.Mnemonics.{mnemonic_numbered}
use Rattle.item.specs.Mnemonics as Mnemonics
use Rattle.item.specs.declared.item.Item.{Item}
use Rattle.item.specs.declared.item.Item.TheVariants.{Nop, Start, Open, Close, Operand, Operator, Compare, Assign, EndIf, Call, Kind, Pin, Direct, Mark, End}
use Rattle.item.specs.Items.{number_of, argument_of}
use Rattle.decode.specs.Decoded.{alone, operand_item, pin_item, assign_item, kind_item, call_decoded, mark_decoded, word_decoded, nameless_decoded, by_mnemonic, item_decoded, Lawful, Decodes}
use Rattle.decode.proofs.Words.{word_again, word_back}

written_again : (e : Edition) (m : Mnemonic) (a : ℕ) → item_decoded e (Mnemonics.number_of m) a ≡ word_decoded e m a
written_again e m a = ap (by_mnemonic e (Mnemonics.number_of m) a) (word_again m)

pub again : (e : Edition) (i : Item) → Lawful e i → item_decoded e (number_of i) (argument_of i) ≡ Some i
again e Nop l = refl
again e (Start t) l = written_again e (Word.Start t) 0
again e (Open t) l = written_again e (Word.Open t) 0
again e Close l = refl
again e (Operand o) l = ap operand_item (undone e o l)
again e (Operator o) l = written_again e (Word.Operator o) 0
again e (Compare c) l = written_again e (Word.Compare c) 0
again e (Assign f o) l = written_again e (Word.Assign f) (code_of o) ∙ ap (assign_item f) (undone e o l)
again e EndIf l = refl
again e (Call None) l = refl
again e (Call (Some n)) l = cond-true _ _ _ (lt-ltb n 1000 (omega arith))
again e (Kind b) l = ap kind_item l
again e (Pin o) l = ap pin_item (undone e o l)
again e (Direct w) l = refl
again e (Mark m) l = cond-true _ _ _ (lt-ltb m 1000 (omega arith))
again e End l = refl

-- what is right of an item with these two words
abbrev Right : Edition → ℕ → ℕ → Item → Type 0
Right e n a i = Lawful e i × (number_of i ≡ n) × (argument_of i ≡ a)

alone_right : (e : Edition) (j i : Item) (a : ℕ) → Lawful e j → argument_of j ≡ 0 → alone j a ≡ Some i → Right e (number_of j) a i
alone_right e j i a l z h = by (eqb a 0) refl h
  where
    by : (b : Bool) → eqb a 0 ≡ b → cond b (Some j) None ≡ Some i → Right e (number_of j) a i
    by true t d = let same : j ≡ i = cc in subst (Right e (number_of j) a) same (l, refl, z ∙ sym (eqb-true a 0 t))
    by false t d = cc

operand_right : (e : Edition) (make : AnyOperand → Item) (item : Option AnyOperand → Option Item) (n a : ℕ) (i : Item)
    → ((o : AnyOperand) → item (Some o) ≡ Some (make o)) → item None ≡ None
    → ((o : AnyOperand) → in_range e o ≡ true → Lawful e (make o)) → ((o : AnyOperand) → number_of (make o) ≡ n) → ((o : AnyOperand) → argument_of (make o) ≡ code_of o)
    → item (decoded e a) ≡ Some i → Right e n a i
operand_right e make item n a i some none lawful num arg h = by (decoded e a) refl h
  where
    by : (d : Option AnyOperand) → d ≡ decoded e a → item d ≡ Some i → Right e n a i
    by None q d = cc
    by (Some o) q d =
        let r = decoded_right e a (Some o) q in
        let same : make o ≡ i = let s = some o in cc in
        subst (Right e n a) same (lawful o r.0, num o, arg o ∙ r.1)

block_back : (e : Edition) (n : ℕ) (b : Block) → Blocks.block_numbered e n ≡ Some b → Blocks.number_of b ≡ n
block_back Series90 n b h = grind (arith, nat_tests)

kind_right : (e : Edition) (a : ℕ) (i : Item) → kind_item (Blocks.block_numbered e a) ≡ Some i → Right e 41 a i
kind_right e a i h = by (Blocks.block_numbered e a) refl h
  where
    by : (d : Option Block) → Blocks.block_numbered e a ≡ d → kind_item d ≡ Some i → Right e 41 a i
    by None q d = cc
    by (Some b) q d =
        let same : Kind b ≡ i = cc in
        let n : Blocks.number_of b ≡ a = block_back e a b q in
        subst (Right e 41 a) same (ap (Blocks.block_numbered e) n ∙ q, refl, n)

call_right : (e : Edition) (a : ℕ) (i : Item) → call_decoded a ≡ Some i → Right e 40 a i
call_right e a i h = by (ltb a 1000) (eqb a 1000) refl refl h
  where
    by : (b c : Bool) → ltb a 1000 ≡ b → eqb a 1000 ≡ c → cond b (Some (Call (Some a))) (cond c (Some (Call None)) None) ≡ Some i → Right e 40 a i
    by true c t u d = let same : Call (Some a) ≡ i = cc in let l = ltb-true a 1000 t in subst (Right e 40 a) same (omega arith, refl, refl)
    by false true t u d = let same : Call None ≡ i = cc in subst (Right e 40 a) same (tt, refl, sym (eqb-true a 1000 u))
    by false false t u d = cc

mark_right : (e : Edition) (a : ℕ) (i : Item) → mark_decoded a ≡ Some i → Right e 50 a i
mark_right e a i h = by (ltb a 1000) refl h
  where
    by : (b : Bool) → ltb a 1000 ≡ b → cond b (Some (Mark a)) None ≡ Some i → Right e 50 a i
    by true t d = let same : Mark a ≡ i = cc in let l = ltb-true a 1000 t in subst (Right e 50 a) same (omega arith, refl, refl)
    by false t d = cc

word_right : (e : Edition) (m : Mnemonic) (a : ℕ) (i : Item) → word_decoded e m a ≡ Some i → Right e (Mnemonics.number_of m) a i
word_right e Word.Nop a i h = alone_right e Nop i a tt refl h
word_right e (Word.Start t) a i h = alone_right e (Start t) i a tt refl h
word_right e (Word.Open t) a i h = alone_right e (Open t) i a tt refl h
word_right e Word.Close a i h = alone_right e Close i a tt refl h
word_right e (Word.Operator o) a i h = alone_right e (Operator o) i a tt refl h
word_right e (Word.Compare c) a i h = alone_right e (Compare c) i a tt refl h
word_right e (Word.Assign f) a i h = operand_right e (Assign f) (assign_item f) _ a i (λ o. refl) refl (λ o l. l) (λ o. refl) (λ o. refl) h
word_right e Word.EndIf a i h = alone_right e EndIf i a tt refl h
word_right e Word.Call a i h = call_right e a i h
word_right e Word.Direct a i h = let same : Direct a ≡ i = cc in subst (Right e 43 a) same (tt, refl, refl)
word_right e Word.Mark a i h = mark_right e a i h
word_right e Word.End a i h = alone_right e End i a tt refl h

nameless_right : (e : Edition) (n a : ℕ) (i : Item) → nameless_decoded e n a ≡ Some i → Right e n a i
nameless_right e n a i h = by (eqb n 8) (eqb n 41) (eqb n 42) refl refl refl h
  where
    by : (b c d : Bool) → eqb n 8 ≡ b → eqb n 41 ≡ c → eqb n 42 ≡ d → cond b (operand_item (decoded e a)) (cond c (kind_item (Blocks.block_numbered e a)) (cond d (pin_item (decoded e a)) None)) ≡ Some i → Right e n a i
    by true c d t u v s = subst (λ m. Right e m a i) (sym (eqb-true n 8 t)) (operand_right e Operand operand_item 8 a i (λ o. refl) refl (λ o l. l) (λ o. refl) (λ o. refl) s)
    by false true d t u v s = subst (λ m. Right e m a i) (sym (eqb-true n 41 u)) (kind_right e a i s)
    by false false true t u v s = subst (λ m. Right e m a i) (sym (eqb-true n 42 v)) (operand_right e Pin pin_item 42 a i (λ o. refl) refl (λ o l. l) (λ o. refl) (λ o. refl) s)
    by false false false t u v s = cc

pub decoded_exactly : (e : Edition) (n a : ℕ) (r : Option Item) → r ≡ item_decoded e n a → Decodes e n a r
decoded_exactly e n a None h = λ i l p q. let s = again e i l in cc
decoded_exactly e n a (Some i) h = by (mnemonic_numbered n) refl (sym h)
  where
    by : (m : Option Mnemonic) → mnemonic_numbered n ≡ m → by_mnemonic e n a m ≡ Some i → Right e n a i
    by None t d = nameless_right e n a i d
    by (Some m) t d = subst (λ k. Right e k a i) (word_back n m t) (word_right e m a i d)
