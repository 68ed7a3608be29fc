-- When an image passes: every question gets a yes.
use Rattle.std.specs.Prelude.{◌≡◌, ℕ, ◌≤◌, true, List, Some, Ok, Err, Result}
use Rattle.operand.specs.declared.edition.Edition.{Edition}
use Rattle.item.specs.declared.item.Item.{Item}
use Rattle.image.specs.Images.{cells_sum}
use Rattle.view.specs.Trailers.{has_trailer, edition_in, sizes_fit, item_part, constant_part, items_in, cells_in}
use Rattle.constants.specs.Lawful.{ConstantsLawful}
use Rattle.grammar.specs.Lists.{IsList}
use Rattle.questions.specs.Everywhere.{Each, Everywhere}
use Rattle.questions.specs.Known.{Known}
use Rattle.questions.specs.Brackets.{Shallow}
use Rattle.questions.specs.Sentences.{Typed}
use Rattle.questions.specs.Targets.{Written}
use Rattle.questions.specs.Calls.{Pinned}
use Rattle.questions.specs.Jumps.{Led}
use Rattle.checker.specs.declared.check.Passed.{Passed}
use Rattle.checker.specs.declared.refusal.CheckRefusal.{CheckRefusal}

pub record Passes (ws : List ℕ) : Type 0 where
  -- 1: there is a trailer, and it ends in AC31h
  pub trailer : has_trailer ws ≡ true
  -- 2: its edition is known
  pub edition : Edition
  pub has_edition : edition_in ws ≡ Some edition
  -- 3: its sizes agree, within the image and the limits
  pub sizes : sizes_fit ws ≡ true
  -- 4: the constants are lawful and rise
  pub constants : ConstantsLawful edition (constant_part ws)
  -- 5: the items are known
  pub items : List Item
  pub known : Known edition (item_part ws) items
  -- 6: they are a list
  pub is_list : IsList items
  -- 7: brackets are at most fifteen deep
  pub shallow : Shallow items
  -- 8: each sentence has one type
  pub typed : Everywhere Typed items
  -- 9: what is assigned may be written
  pub written : Each Written items
  -- 10: pins fit their blocks
  pub pinned : Everywhere Pinned items
  -- 11: each jump has its mark ahead
  pub led : Everywhere Led items
  -- 12: the trailer tells the sum of cells, and a memory has so many
  pub cells : cells_sum items ≡ cells_in ws
  pub few_cells : cells_in ws ≤ 1024

-- passed exactly when every question gets a yes
abbrev pub Judges : List ℕ → Result Passed CheckRefusal → Type 0
Judges ws (Ok p) = Passes ws × (p.items ≡ items_in ws) × (p.cells ≡ cells_in ws)
Judges ws (Err q) = Passes ws → ⊥
