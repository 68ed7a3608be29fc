-- CTUD over a row that only counts up.
use Rattle.std.proofs.Common.{◌≡◌, ℕ, ◌+◌, min, Bool, true, false, cond, not, ◌&&◌, List, [], ◌∷◌, ℤ, pos, refl, ap, ◌∙◌, arith}
use Rattle.std.proofs.lemmas.Bool.{and_parts}
use Rattle.std.proofs.lemmas.Bool.Decides.{nat_tests}
use Rattle.number.specs.Limits.{corrected}
use Rattle.number.specs.declared.limit.Width.TheVariants.{Word}
use Rattle.blocks.specs.Pins.{on, bit, bit_at, word_at}
use Rattle.blocks.specs.Ctud.{ctud, ctud_gives, counted, counter_value}
use Rattle.block_laws.specs.Rows.{Scan, cells_after, t_of, last_t}
use Rattle.block_laws.specs.Rises.{one_if, rises_in, only_up, all_only_up, CountsHold}
use Rattle.block_laws.proofs.Bits.{on_bit}

off : (b : Bool) → not b ≡ true → b ≡ false
off true h = absurd (let z : ◌≡◌ {A = ℕ} 0 1 = ap (λ b. cond b 1 0) h in omega arith)
off false h = refl

one_rise : (b : Bool) (n : ℕ) → counted b false (corrected Word (pos (min n 32767))) ≡ pos (min (one_if b + n) 32767)
one_rise true n = grind (arith, nat_tests)
one_rise false n = grind (arith, nat_tests)

module _ (cu cd : ℤ) where
  kept_up : List Scan → ℤ
  kept_up [] = cu
  kept_up (s ∷ earlier) = bit (t_of s)

  kept_down : List Scan → ℤ
  kept_down [] = cd
  kept_down (s ∷ earlier) = bit (bit_at s.inputs 1)

  kept_last : (row : List Scan) → on (kept_up row) ≡ last_t row (cu ∷ cd ∷ pos 0 ∷ [])
  unfolding kept_up
  kept_last [] = refl
  kept_last (s ∷ earlier) = on_bit (t_of s)

  count_of : List Scan → ℤ
  count_of row = pos (min (rises_in row (cu ∷ cd ∷ pos 0 ∷ [])) 32767)

  value_now : (s : Scan) (earlier : List Scan) → only_up s ≡ true → counter_value s.inputs (kept_up earlier ∷ kept_down earlier ∷ count_of earlier ∷ []) ≡ count_of (s ∷ earlier)
  unfolding count_of
  value_now s earlier h =
      let parts = and_parts (not (bit_at s.inputs 1)) _ h in
      let more = and_parts (not (bit_at s.inputs 2)) (not (bit_at s.inputs 3)) parts.1 in
      let down = off (bit_at s.inputs 1) parts.0 in
      let reset = off (bit_at s.inputs 2) more.0 in
      let load = off (bit_at s.inputs 3) more.1 in
      let n : ℕ = rises_in earlier (cu ∷ cd ∷ pos 0 ∷ []) in
      (λ i. cond (reset i) (pos 0) (cond (load i) (word_at s.inputs 4) (counted (t_of s && not (kept_last earlier i)) (down i && not (on (kept_down earlier))) (corrected Word (pos (min n 32767))))))
      ∙ one_rise (t_of s && not (last_t earlier (cu ∷ cd ∷ pos 0 ∷ []))) n

  counter_cells_after : (row : List Scan) → all_only_up row ≡ true → cells_after ctud row (cu ∷ cd ∷ pos 0 ∷ []) ≡ kept_up row ∷ kept_down row ∷ count_of row ∷ []
  unfolding ctud_gives kept_up kept_down count_of
  counter_cells_after [] h = refl
  counter_cells_after (s ∷ earlier) h =
      let parts = and_parts (only_up s) (all_only_up earlier) h in
      ap (λ (cs : List ℤ). (ctud_gives s.inputs cs s.ms).cells) (counter_cells_after earlier parts.1)
      ∙ ap (λ (v : ℤ). bit (t_of s) ∷ bit (bit_at s.inputs 1) ∷ v ∷ []) (value_now s earlier parts.0)

pub counts : CountsHold
unfolding ctud_gives count_of
counts s earlier cu cd h =
    let parts = and_parts (only_up s) (all_only_up earlier) h in
    ap (λ (cs : List ℤ). counter_value s.inputs cs) (counter_cells_after cu cd earlier parts.1) ∙ value_now cu cd s earlier parts.0
