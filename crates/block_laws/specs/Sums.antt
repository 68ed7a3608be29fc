-- Sums and scans that the rules are held to.
use Rattle.std.specs.Prelude.{◌≡◌, List, [], ◌∷◌, ℤ, pos, negsuc}
use Rattle.catalogue.specs.declared.Block.TheVariants.{Esv, Moa, Ctud, Muldi}
use Rattle.number.specs.Operations.{sum, product, negative, quotient}
use Rattle.block.specs.Meaning.{Meaning}
use Rattle.blocks.specs.Kinds.{meaning_of}
use Rattle.block_laws.specs.Rows.{Scan, output}

-- T 1, ZD 12, 5 ms
abbrev pub tick : Scan
tick = record { inputs = pos 1 ∷ pos 12 ∷ pos 0 ∷ pos 0 ∷ pos 0 ∷ []; ms = 5 }

-- three such scans of a block whose cells are new
abbrev pub three_ticks : Meaning → List ℤ
three_ticks m =
    let new : List ℤ = pos 0 ∷ pos 0 ∷ pos 0 ∷ [] in
    output m 0 tick [] new ∷ output m 0 tick (tick ∷ []) new ∷ output m 0 tick (tick ∷ tick ∷ []) new ∷ []

abbrev pub scaling : Scan
scaling = record { inputs = pos 300 ∷ pos 400 ∷ pos 7 ∷ pos 0 ∷ pos 0 ∷ []; ms = 0 }

abbrev pub counting_up : Scan
counting_up = record { inputs = pos 1 ∷ pos 0 ∷ pos 0 ∷ pos 0 ∷ pos 0 ∷ []; ms = 0 }

pub record SumsHold : Type 0 where
  pub the_largest_word : sum (pos 32767) (pos 1) ≡ pos 32767
  pub cut_towards_0 : quotient (negsuc 6) (pos 2) ≡ negsuc 2
  pub by_0 : quotient (pos 5) (pos 0) ≡ pos 32767
  pub minus_8000h : negative (negsuc 32767) ≡ pos 32767
  -- 2 + 3 * 4, from left to right
  pub left_to_right : product (sum (pos 2) (pos 3)) (pos 4) ≡ pos 20
  pub muldi : output (meaning_of Muldi) 0 scaling [] (pos 0 ∷ pos 0 ∷ pos 0 ∷ []) ≡ pos 17142
  pub esv : three_ticks (meaning_of Esv) ≡ pos 0 ∷ pos 0 ∷ pos 1 ∷ []
  pub moa : three_ticks (meaning_of Moa) ≡ pos 1 ∷ pos 1 ∷ pos 0 ∷ []
  pub ctud : output (meaning_of Ctud) 2 counting_up [] (pos 0 ∷ pos 0 ∷ pos 32767 ∷ []) ≡ pos 32767
