-- The words that outputs are told as have the outputs' values.
use Rattle.std.proofs.Common.{◌≡◌, ℕ, zero, suc, ◌+◌, ◌*◌, ◌/◌, ◌%◌, ◌<◌, Bool, true, false, cond, eqb, List, get_or, ℤ, pos, negsuc, sym, refl, ap, ◌∙◌, add-zero, arith}
use Rattle.std.proofs.lemmas.Bool.Decides.{nat_tests}
use Rattle.number.specs.Limits.{corrected, lawful}
use Rattle.number.specs.declared.limit.Width.TheVariants.{Word}
use Rattle.store.specs.declared.store.Store.{Store}
use Rattle.store.specs.Words.{bit, bit_of, shifted, signed, sixteen_bits}
use Rattle.store.specs.Places.{gathered}
use Rattle.memory.specs.Laws.{TellsOutputs, TellsWord}
use Rattle.memory.specs.Readings.{value_of, outputs_of, output_word_of}
use Rattle.memory.proofs.Held.{Held}
use Rattle.memory.proofs.Sounds.{every_everywhere}

shifted_left : (w n : ℕ) → shifted w (suc n) ≡ shifted (w / 2) n
unfolding shifted
shifted_left w zero = refl
shifted_left w (suc n) = ap (λ (x : ℕ). x / 2) (shifted_left w n)

low_bit : (b : Bool) (r : ℕ) → eqb ((cond b 1 0 + 2 * r) % 2) 1 ≡ b
low_bit true r = grind (arith, nat_tests)
low_bit false r = grind (arith, nat_tests)

without_low : (b : Bool) (r : ℕ) → (cond b 1 0 + 2 * r) / 2 ≡ r
without_low true r = omega arith
without_low false r = omega arith

gathered_bit : (xs : List Bool) (first n c : ℕ) → c < n → bit_of (gathered xs first n) c ≡ get_or xs (first + c) false
unfolding gathered shifted
gathered_bit xs first zero c h = absurd (omega arith)
gathered_bit xs first (suc n) zero h =
    low_bit (get_or xs first false) (gathered xs (suc first) n) ∙ ap (λ (i : ℕ). get_or xs i false) (sym (add-zero first))
gathered_bit xs first (suc n) (suc c) h =
    let r : ℕ = gathered xs (suc first) n in
    let i : suc first + c ≡ first + suc c = omega arith in
    ap (λ (w : ℕ). eqb (w % 2) 1) (shifted_left (cond (get_or xs first false) 1 0 + 2 * r) c)
    ∙ ap (λ (w : ℕ). bit_of w c) (without_low (get_or xs first false) r)
    ∙ gathered_bit xs (suc first) n c (omega arith)
    ∙ ap (λ (k : ℕ). get_or xs k false) i

pub outputs_told : (m : Store) (group : ℕ) → TellsOutputs m group (outputs_of m group)
unfolding outputs_of value_of
outputs_told m group c h = ap bit (gathered_bit m.outputs (16 * group) 16 c h)

bits_back : (z : ℤ) → lawful Word z ≡ true → signed (sixteen_bits z) ≡ corrected Word z
bits_back (pos n) h = grind (arith, nat_tests)
bits_back (negsuc n) h = grind (arith, nat_tests)

pub word_told : (m : Store) → Held m → (p : ℕ) → TellsWord m p (output_word_of m p)
unfolding output_word_of value_of
word_told m h p =
    let at : p ≡ 16 * (p / 16) + p % 16 = omega arith in
    bits_back (get_or m.output_words p (pos 0)) (every_everywhere (lawful Word) (pos 0) refl m.output_words p h.outs)
    ∙ ap (λ (i : ℕ). corrected Word (get_or m.output_words i (pos 0))) at
