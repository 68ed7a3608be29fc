-- What the delays keep over a row, and the time that T has been 1.
use Rattle.std.proofs.Common.{◌≡◌, ℕ, ◌+◌, min, Bool, true, false, not, ◌&&◌, ltb, leb, List, [], ◌∷◌, ◌++◌, ℤ, pos, sym, refl, ap, ◌∙◌, arith}
use Rattle.std.proofs.lemmas.Bool.{and_parts, and_from}
use Rattle.std.proofs.lemmas.Bool.Decides.{nat_tests}
use Rattle.number.specs.Operations.{natural}
use Rattle.blocks.specs.Pins.{on, bit}
use Rattle.blocks.specs.Timing.{elapsed, delay}
use Rattle.blocks.specs.Esv.{esv, esv_gives}
use Rattle.blocks.specs.Moa.{moa, moa_gives}
use Rattle.block_laws.specs.Rows.{Scan, cells_after, output, t_of, last_t, all_on, total_ms}
use Rattle.block_laws.specs.Delays.{OnFor, rose, stayed, DelaysHold}
use Rattle.block_laws.proofs.Bits.{on_bit, cond_both, cond_second}

limited_again : (a b : ℕ) → min (min a 2147483647 + b) 2147483647 ≡ min (b + a) 2147483647
limited_again a b = omega arith

added : (a b : ℕ) → min (a + b) 2147483647 ≡ min (a + (b + 0)) 2147483647
added a b = omega arith

added_again : (a b n : ℕ) → min (min (a + n) 2147483647 + b) 2147483647 ≡ min (a + (b + n)) 2147483647
added_again a b n = omega arith

below_is : (e d : ℕ) → ltb e d ≡ not (leb d e)
below_is e d = grind (arith, nat_tests)

module _ (t e c : ℤ) where
  kept_t : List Scan → ℤ
  kept_t [] = t
  kept_t (s ∷ earlier) = bit (t_of s)

  kept_e : List Scan → ℤ
  kept_e [] = e
  kept_e (s ∷ earlier) = pos (elapsed s.inputs (kept_t earlier ∷ kept_e earlier ∷ c ∷ []) s.ms)

  esv_cells : (row : List Scan) → cells_after esv row (t ∷ e ∷ c ∷ []) ≡ kept_t row ∷ kept_e row ∷ c ∷ []
  unfolding esv_gives kept_t kept_e
  esv_cells [] = refl
  esv_cells (s ∷ earlier) = ap (λ (cs : List ℤ). (esv_gives s.inputs cs s.ms).cells) (esv_cells earlier)

  moa_cells : (row : List Scan) → cells_after moa row (t ∷ e ∷ c ∷ []) ≡ kept_t row ∷ kept_e row ∷ c ∷ []
  unfolding moa_gives kept_t kept_e
  moa_cells [] = refl
  moa_cells (s ∷ earlier) = ap (λ (cs : List ℤ). (moa_gives s.inputs cs s.ms).cells) (moa_cells earlier)

  kept_last : (row : List Scan) → on (kept_t row) ≡ last_t row (t ∷ e ∷ c ∷ [])
  unfolding kept_t
  kept_last [] = refl
  kept_last (s ∷ earlier) = on_bit (t_of s)

  -- T stays 1
  time_adds : (s : Scan) (earlier : List Scan) → t_of s ≡ true → last_t earlier (t ∷ e ∷ c ∷ []) ≡ true → kept_e (s ∷ earlier) ≡ pos (min (natural (kept_e earlier) + s.ms) 2147483647)
  unfolding kept_e
  time_adds s earlier p q = ap pos (cond_both (t_of s) (on (kept_t earlier)) _ _ p (kept_last earlier ∙ q))

  -- T rises
  time_starts : (s : Scan) (earlier : List Scan) → t_of s ≡ true → last_t earlier (t ∷ e ∷ c ∷ []) ≡ false → kept_e (s ∷ earlier) ≡ pos 0
  unfolding kept_e
  time_starts s earlier p q = ap pos (cond_second (t_of s) (on (kept_t earlier)) _ _ p (kept_last earlier ∙ q))

  held_last : (held earlier : List Scan) (rise : Scan) → t_of rise ≡ true → all_on held ≡ true → last_t (held ++ (rise ∷ earlier)) (t ∷ e ∷ c ∷ []) ≡ true
  held_last [] earlier rise p h = p
  held_last (s ∷ held) earlier rise p h = (and_parts (t_of s) (all_on held) h).0

  since_rise : (held earlier : List Scan) (rise : Scan) → last_t earlier (t ∷ e ∷ c ∷ []) ≡ false → t_of rise ≡ true → all_on held ≡ true → kept_e (held ++ (rise ∷ earlier)) ≡ pos (min (total_ms held) 2147483647)
  since_rise [] earlier rise q p h = time_starts rise earlier p q
  since_rise (s ∷ held) earlier rise q p h =
      let parts = and_parts (t_of s) (all_on held) h in
      time_adds s (held ++ (rise ∷ earlier)) parts.0 (held_last held earlier rise p parts.1)
      ∙ ap (λ (z : ℤ). pos (min (natural z + s.ms) 2147483647)) (since_rise held earlier rise q p parts.1)
      ∙ ap pos (limited_again (total_ms held) s.ms)

  row_last : (held : List Scan) → on t ≡ true → all_on held ≡ true → last_t held (t ∷ e ∷ c ∷ []) ≡ true
  row_last [] p h = p
  row_last (s ∷ held) p h = (and_parts (t_of s) (all_on held) h).0

  since_before : (s : Scan) (held : List Scan) → on t ≡ true → all_on (s ∷ held) ≡ true → kept_e (s ∷ held) ≡ pos (min (natural e + total_ms (s ∷ held)) 2147483647)
  unfolding kept_e
  since_before s [] p h = time_adds s [] (and_parts (t_of s) true h).0 p ∙ ap pos (added (natural e) s.ms)
  since_before s (r ∷ held) p h =
      let parts = and_parts (t_of s) (all_on (r ∷ held)) h in
      time_adds s (r ∷ held) parts.0 (row_last (r ∷ held) p parts.1)
      ∙ ap (λ (z : ℤ). pos (min (natural z + s.ms) 2147483647)) (since_before r held p parts.1)
      ∙ ap pos (added_again (natural e) s.ms (total_ms (r ∷ held)))

  -- what the second cell holds behind the last scan
  Timed : List Scan → ℕ → Type 0
  Timed [] ms = Unit
  Timed (s ∷ earlier) ms = (t_of s ≡ true) × (kept_e (s ∷ earlier) ≡ pos (min ms 2147483647))

  timed_rose : (held earlier : List Scan) (rise : Scan) → last_t earlier (t ∷ e ∷ c ∷ []) ≡ false → t_of rise ≡ true → all_on held ≡ true → Timed (held ++ (rise ∷ earlier)) (total_ms held)
  unfolding Timed
  timed_rose [] earlier rise q p h = (p, since_rise [] earlier rise q p h)
  timed_rose (s ∷ held) earlier rise q p h = ((and_parts (t_of s) (all_on held) h).0, since_rise (s ∷ held) earlier rise q p h)

  timed_stayed : (held : List Scan) → on t ≡ true → all_on held ≡ true → Timed held (natural e + total_ms held)
  unfolding Timed
  timed_stayed [] p h = tt
  timed_stayed (s ∷ held) p h = ((and_parts (t_of s) (all_on held) h).0, since_before s held p h)

  timed_on : (row : List Scan) (ms : ℕ) → OnFor t e c row ms → Timed row ms
  timed_on row ms (rose earlier held rise q p h) = timed_rose held earlier rise q p h
  timed_on row ms (stayed held p h) = timed_stayed held p h

  one_more : (s : Scan) (row : List Scan) (ms : ℕ) → t_of s ≡ true → OnFor t e c row ms → (n : ℕ) × OnFor t e c (s ∷ row) n
  one_more s row ms o (rose earlier held rise q p h) = (total_ms (s ∷ held), rose earlier (s ∷ held) rise q p (and_from (t_of s) (all_on held) o h))
  one_more s row ms o (stayed held p h) = (natural e + total_ms (s ∷ held), stayed (s ∷ held) p (and_from (t_of s) (all_on held) o h))

  on_for : (row : List Scan) → last_t row (t ∷ e ∷ c ∷ []) ≡ true → (n : ℕ) × OnFor t e c row n
  on_for [] h = (natural e + 0, stayed [] h refl)
  on_for (s ∷ earlier) h = by_last (last_t earlier (t ∷ e ∷ c ∷ [])) refl (on_for earlier)
    where
      by_last : (b : Bool) → last_t earlier (t ∷ e ∷ c ∷ []) ≡ b → (last_t earlier (t ∷ e ∷ c ∷ []) ≡ true → (n : ℕ) × OnFor t e c earlier n) → (n : ℕ) × OnFor t e c (s ∷ earlier) n
      by_last true p before = one_more s earlier (before p).0 h (before p).1
      by_last false p before = (0, rose earlier [] s p h refl)

  -- the delays by what they keep
  esv_now : (s : Scan) (earlier : List Scan) → output esv 0 s earlier (t ∷ e ∷ c ∷ []) ≡ bit (t_of s && leb (delay s.inputs) (natural (kept_e (s ∷ earlier))))
  unfolding esv_gives kept_e
  esv_now s earlier = ap (λ (cs : List ℤ). bit (t_of s && leb (delay s.inputs) (elapsed s.inputs cs s.ms))) (esv_cells earlier)

  moa_now : (s : Scan) (earlier : List Scan) → output moa 0 s earlier (t ∷ e ∷ c ∷ []) ≡ bit (t_of s && ltb (natural (kept_e (s ∷ earlier))) (delay s.inputs))
  unfolding moa_gives kept_e
  moa_now s earlier = ap (λ (cs : List ℤ). bit (t_of s && ltb (elapsed s.inputs cs s.ms) (delay s.inputs))) (moa_cells earlier)

  esv_on : (s : Scan) (earlier : List Scan) (ms : ℕ) → OnFor t e c (s ∷ earlier) ms → output esv 0 s earlier (t ∷ e ∷ c ∷ []) ≡ bit (leb (delay s.inputs) (min ms 2147483647))
  unfolding Timed
  esv_on s earlier ms o =
      let known = timed_on (s ∷ earlier) ms o in
      esv_now s earlier ∙ (λ i. bit (known.0 i && leb (delay s.inputs) (natural (known.1 i))))

  esv_off : (s : Scan) (earlier : List Scan) → t_of s ≡ false → output esv 0 s earlier (t ∷ e ∷ c ∷ []) ≡ pos 0
  esv_off s earlier p = esv_now s earlier ∙ (λ i. bit (p i && leb (delay s.inputs) (natural (kept_e (s ∷ earlier)))))

  moa_off : (s : Scan) (earlier : List Scan) → t_of s ≡ false → output moa 0 s earlier (t ∷ e ∷ c ∷ []) ≡ pos 0
  moa_off s earlier p = moa_now s earlier ∙ (λ i. bit (p i && ltb (natural (kept_e (s ∷ earlier))) (delay s.inputs)))

  moa_on : (s : Scan) (earlier : List Scan) → t_of s ≡ true → on (output moa 0 s earlier (t ∷ e ∷ c ∷ [])) ≡ not (on (output esv 0 s earlier (t ∷ e ∷ c ∷ [])))
  moa_on s earlier p =
      let d : ℕ = delay s.inputs in
      let n : ℕ = natural (kept_e (s ∷ earlier)) in
      ap on (moa_now s earlier ∙ (λ i. bit (p i && ltb n d)))
      ∙ on_bit (ltb n d)
      ∙ below_is n d
      ∙ ap not (sym (on_bit (leb d n)))
      ∙ ap (λ (z : ℤ). not (on z)) (sym (esv_now s earlier ∙ (λ i. bit (p i && leb d n))))

pub delays : DelaysHold
delays t e c s earlier =
    record { timed = on_for t e c (s ∷ earlier); esv_on = esv_on t e c s earlier; esv_off = esv_off t e c s earlier; moa_on = moa_on t e c s earlier; moa_off = moa_off t e c s earlier }
