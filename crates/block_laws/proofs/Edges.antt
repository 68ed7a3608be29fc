-- I+ over a row: its cell keeps the last T.
use Rattle.std.proofs.Common.{◌≡◌, ◌+◌, not, ◌&&◌, List, [], ◌∷◌, ℤ, refl, ap, ◌∙◌}
use Rattle.blocks.specs.Pins.{on, bit}
use Rattle.blocks.specs.RisingEdge.{rising_edge, edge_gives, edge_output}
use Rattle.block_laws.specs.Rows.{Scan, cells_after, output, t_of, last_t}
use Rattle.block_laws.specs.Rises.{one_if, PulsesHold}
use Rattle.block_laws.proofs.Bits.{on_bit}

module _ (a b c : ℤ) where
  kept : List Scan → ℤ
  kept [] = a
  kept (s ∷ earlier) = bit (t_of s)

  edge_cells_after : (row : List Scan) → cells_after rising_edge row (a ∷ b ∷ c ∷ []) ≡ kept row ∷ b ∷ c ∷ []
  unfolding edge_gives kept
  edge_cells_after [] = refl
  edge_cells_after (s ∷ earlier) = ap (λ (cs : List ℤ). (edge_gives s.inputs cs s.ms).cells) (edge_cells_after earlier)

  kept_last : (row : List Scan) → on (kept row) ≡ last_t row (a ∷ b ∷ c ∷ [])
  unfolding kept
  kept_last [] = refl
  kept_last (s ∷ earlier) = on_bit (t_of s)

  pulse_now : (s : Scan) (earlier : List Scan) → on (output rising_edge 0 s earlier (a ∷ b ∷ c ∷ [])) ≡ t_of s && not (last_t earlier (a ∷ b ∷ c ∷ []))
  unfolding edge_gives
  pulse_now s earlier =
      ap (λ (cs : List ℤ). on (edge_output s.inputs cs)) (edge_cells_after earlier)
      ∙ on_bit (t_of s && not (on (kept earlier)))
      ∙ ap (λ x. t_of s && not x) (kept_last earlier)

pub edges : PulsesHold
edges [] a b c = refl
edges (s ∷ earlier) a b c = λ i. one_if (pulse_now a b c s earlier i) + edges earlier a b c i
