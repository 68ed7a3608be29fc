-- The verdict on an image: the first question that gets a no, with its first place at fault; or that it passes.
use Rattle.std.specs.Prelude.{ℕ, Bool, true, false, ◌&&◌, List, [], ◌∷◌, ◌++◌, Some, None, Ok, Err, Option, Result, ◌==◌, nat_le}
use Rattle.operand.specs.declared.edition.Edition.{Edition}
use Rattle.told.specs.declared.Told.{Told}
use Rattle.view.specs.declared.Image.{Image}
use Rattle.view.specs.Trailers.{has_trailer, edition_in, known_edition, sizes_fit, item_part, constant_part, items_in, cells_in}
use Rattle.rule.specs.Automata.{Automaton, first_fault}
use Rattle.decode.specs.Words.{items_of}
use Rattle.constants.specs.Decoded.{constants_of}
use Rattle.constants.specs.Lawful.{constant_fault}
use Rattle.grammar.specs.Grammar.{grammar}
use Rattle.fitting.specs.Known.{knowns}
use Rattle.fitting.specs.Depth.{depths}
use Rattle.fitting.specs.Types.{types}
use Rattle.fitting.specs.Targets.{targets}
use Rattle.fitting.specs.Pins.{pins}
use Rattle.marks.specs.Jumps.{jump_fault}
use Rattle.marks.specs.Cells.{all_cells}
use Rattle.checker.specs.declared.check.Passed.{Passed}
use Rattle.checker.specs.declared.refusal.CheckRefusal.{CheckRefusal}
use Rattle.checker.specs.Refusals.{no_to, told_of}

-- a question has a number, and a no has a place
pub record Question (A : Type 0) : Type 0 where
  pub number : ℕ
  pub fault : A → Option ℕ

abbrev pub ask : {A : Type 0} → ℕ → (A → Option ℕ) → Question A
ask n f = record { number = n; fault = f }

-- a question without a place
abbrev pub unless : Bool → Option ℕ
unless true = None
unless false = Some 0

-- what a list's questions are put to
pub record Parts : Type 0 where
  pub edition : Edition
  pub items : List ℕ
  pub constants : List ℕ
  pub cells : ℕ

-- is there a trailer? is its edition known? do its sizes fit?
abbrev pub trailer_questions : List (Question (List ℕ))
trailer_questions =
    ask 1 (λ ws. unless (has_trailer ws))
    ∷ ask 2 (λ ws. unless (known_edition ws))
    ∷ ask 3 (λ ws. unless (sizes_fit ws))
    ∷ []

-- the first item that a rule refuses
abbrev pub refused_by : {S : Type 0} → Automaton S → Parts → Option ℕ
refused_by a p = first_fault a (items_of p.edition p.items)

-- constants and items: what has a listing
abbrev pub known_questions : List (Question Parts)
known_questions =
    ask 4 (λ p. constant_fault None (constants_of p.edition p.constants) 0)
    ∷ ask 5 (refused_by knowns)
    ∷ []

-- behind them grammar, depth, types, targets, pins, marks, cells
abbrev pub further_questions : List (Question Parts)
further_questions =
    ask 6 (refused_by grammar)
    ∷ ask 7 (refused_by depths)
    ∷ ask 8 (refused_by types)
    ∷ ask 9 (refused_by targets)
    ∷ ask 10 (refused_by pins)
    ∷ ask 11 (λ p. jump_fault p.edition p.items)
    ∷ ask 12 (λ p. unless (all_cells p.edition p.items == p.cells && nat_le p.cells 1024))
    ∷ []

abbrev pub list_questions : List (Question Parts)
list_questions = known_questions ++ further_questions

-- the first question in the list that gets a no
abbrev pub no_or : ℕ → Option ℕ → Option Told → Option Told
no_or n (Some p) rest = Some (no_to n p)
no_or n None rest = rest

abbrev pub first_no : {A : Type 0} → List (Question A) → A → Option Told
first_no [] a = None
first_no (q ∷ qs) a = no_or q.number (q.fault a) (first_no qs a)

pub data Verdict : Type 0 where
  passed : ℕ → ℕ → Verdict
  refused : Told → Verdict

abbrev pub parts_of : List ℕ → Edition → Parts
parts_of ws e = record { edition = e; items = item_part ws; constants = constant_part ws; cells = cells_in ws }

-- all have got a yes: the image passes with its N and H
abbrev pub unless_refused : Option Told → List ℕ → Verdict
unless_refused (Some t) ws = refused t
unless_refused None ws = passed (items_in ws) (cells_in ws)

-- the list's questions come when the trailer's have got a yes
abbrev pub list_no : Option Edition → List ℕ → Option Told
list_no None ws = None
list_no (Some e) ws = first_no list_questions (parts_of ws e)

abbrev pub then_no : Option Told → Option Told → Option Told
then_no (Some t) rest = Some t
then_no None rest = rest

unfoldable pub verdict_of : List ℕ → Verdict
verdict_of ws = unless_refused (then_no (first_no trailer_questions ws) (list_no (edition_in ws) ws)) ws

-- what the code has and answers, in these terms

abbrev pub seen : Image → Parts
seen v = record { edition = v.edition; items = v.items.now; constants = v.constants.now; cells = v.cells }

abbrev pub no_of : {A : Type 0} → Result A CheckRefusal → Option Told
no_of (Ok a) = None
no_of (Err q) = Some (told_of q)

abbrev pub answered : Result Passed CheckRefusal → Verdict
answered (Ok p) = passed p.items p.cells
answered (Err q) = refused (told_of q)
