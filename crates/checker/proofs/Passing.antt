-- An image passes exactly when every question gets a yes.
use Rattle.std.proofs.Common.{◌≡◌, ℕ, ◌+◌, ◌-◌, ◌*◌, ◌<◌, ◌≤◌, Bool, true, false, ◌&&◌, eqb, ltb, leb, List, [], ◌∷◌, length, get_or, take, drop, Some, None, Ok, Err, Option, Result, sym, refl, ap, ◌∙◌, subst, arith, length-take, get_or-drop, get_or-take}
use Rattle.std.proofs.lemmas.Bool.Decides.{nat_tests}
use Rattle.std.proofs.lemmas.List.{get_or_past}
use Rattle.operand.specs.declared.edition.Edition.{Edition}
use Rattle.item.specs.declared.item.Item.{Item}
use Rattle.told.specs.declared.Told.{Told}
use Rattle.view.specs.Trailers.{has_trailer, edition_in, known_edition, sizes_fit, back_in, items_in, constants_in, item_part, constant_part, cells_in}
use Rattle.constants.specs.Decoded.{constants_of}
use Rattle.constants.specs.Lawful.{ConstantsLawful, constant_fault}
use Rattle.constants.proofs.Judging as Constants
use Rattle.rule.specs.Automata.{Automaton, fault_from, fault_on, stepped, first_fault, known}
use Rattle.decode.specs.Words.{items_of}
use Rattle.grammar.specs.declared.automaton.Grammar.TheVariants.{Between, Done}
use Rattle.grammar.specs.Grammar.{grammar}
use Rattle.grammar.specs.Lists.{IsList, Judged}
use Rattle.grammar.proofs.Complete.{list_runs}
use Rattle.grammar.proofs.Viable.{judged}
use Rattle.fitting.specs.declared.known.Known.{Known as Nothing}
use Rattle.fitting.specs.Known.{knowns}
use Rattle.fitting.specs.Depth.{depths}
use Rattle.fitting.specs.Types.{types}
use Rattle.fitting.specs.Targets.{targets}
use Rattle.fitting.specs.Pins.{pins}
use Rattle.marks.specs.Cells.{all_cells}
use Rattle.questions.proofs.Known.{known_words, words_known}
use Rattle.questions.proofs.Runs.{reached_clear}
use Rattle.questions.proofs.Agreeing.{rules_agree}
use Rattle.questions.proofs.Jumps as Jumps
use Rattle.questions.proofs.Cells.{same_sum}
use Rattle.checker.specs.declared.check.Passed.{Passed}
use Rattle.checker.specs.declared.refusal.CheckRefusal.{CheckRefusal}
use Rattle.checker.specs.Verdict.{passed, unless, first_no, trailer_questions, list_questions, parts_of, then_no, list_no, unless_refused, verdict_of, answered}
use Rattle.checker.specs.Passes.{Passes, Judges}
use Rattle.checker.proofs.Clearing.{Clear, all_clear, each_clear, then_clear, unless_yes, not_refused}
use Rattle.checker.proofs.Deciding.{opened_verdict, item_length, constant_length}

-- question 5: where no item is unknown, all are known

some_step : (os : List (Option Item)) (s : Nothing) (p : ℕ) (x : Option Item) → fault_on p (λ t. fault_from knowns os t (p + 1)) (stepped knowns s x) ≡ None → (i : Item) × (x ≡ Some i) × (fault_from knowns os s (p + 1) ≡ None)
some_step os s p None h = cc
some_step os s p (Some i) h = (i, refl, h)

all_known : (os : List (Option Item)) (s : Nothing) (p : ℕ) → fault_from knowns os s p ≡ None → (xs : List Item) × (os ≡ known xs)
unfolding fault_from known
all_known [] s p h = ([], refl)
all_known (x ∷ os) s p h =
    let (i, e, k) = some_step os s p x h in
    let (xs, r) = all_known os s (p + 1) k in
    (i ∷ xs, (λ j. e j ∷ r j))

known_clear : (xs : List Item) (s : Nothing) (p : ℕ) → fault_from knowns (known xs) s p ≡ None
unfolding fault_from known
known_clear [] s p = refl
known_clear (x ∷ xs) s p = known_clear xs s (p + 1)

-- question 6

is_list : (xs : List Item) → first_fault grammar (known xs) ≡ None → IsList xs
is_list xs h = subst (Judged xs) h (judged xs)

list_clear : (xs : List Item) → IsList xs → first_fault grammar (known xs) ≡ None
list_clear xs l = reached_clear grammar xs Between Done 0 (list_runs xs l) refl

-- question 4

constants_clear : (e : Edition) (ws : List ℕ) → ConstantsLawful e ws → constant_fault None (constants_of e ws) 0 ≡ None
constants_clear e ws (cs, w, l) = subst (λ (us : List ℕ). constant_fault None (constants_of e us) 0 ≡ None) w (Constants.complete e cs None 0 l)

-- question 12

cells_told : (a h : ℕ) → eqb a h && leb h 1024 ≡ true → (a ≡ h) × (h ≤ 1024)
cells_told a h t = (grind (arith, nat_tests), grind (arith, nat_tests))

cells_clear : (a h : ℕ) → a ≡ h → h ≤ 1024 → eqb a h && leb h 1024 ≡ true
cells_clear a h e l = grind (arith, nat_tests)

-- words of a part have 16 bits as all have
part_fits : (ws : List ℕ) (n m : ℕ) → ((i : ℕ) → get_or ws i 0 < 65536) → (i : ℕ) → get_or (take n (drop m ws)) i 0 < 65536
part_fits ws n m f i = by (ltb i n) refl
  where
    by : (b : Bool) → ltb i n ≡ b → get_or (take n (drop m ws)) i 0 < 65536
    by true t =
        let l : i < n = grind (arith, nat_tests) in
        let same = get_or-take n (drop m ws) i 0 l ∙ get_or-drop m ws i 0 in
        let here = f (m + i) in
        omega arith
    by false t =
        let l : n ≤ i = grind (arith, nat_tests) in
        let short : length (take n (drop m ws)) ≤ i = simp length-take (omega arith) in
        let none = get_or_past (take n (drop m ws)) i 0 short in
        omega arith

-- what is found of the items that words stand for is found of the words
back : {S : Type 0} (e : Edition) (ws : List ℕ) (xs : List Item) → items_of e ws ≡ known xs → (a : Automaton S) → first_fault a (known xs) ≡ None → first_fault a (items_of e ws) ≡ None
back e ws xs k a h = ap (first_fault a) k ∙ h

unknown : (ws : List ℕ) → edition_in ws ≡ None → known_edition ws ≡ false
unknown ws h = grind (arith, nat_tests)

module _ (ws : List ℕ) (e : Edition) (trailer : has_trailer ws ≡ true) (edition : edition_in ws ≡ Some e) (sizes : sizes_fit ws ≡ true) where
  -- the items' words, and the items
  abbrev is : List ℕ
  is = item_part ws

  -- the questions put to a list of known items
  module _ (xs : List Item) (k : items_of e is ≡ known xs) where
    on : {S : Type 0} (a : Automaton S) → first_fault a (items_of e is) ≡ None → first_fault a (known xs) ≡ None
    on a h = sym (ap (first_fault a) k) ∙ h

    passes : ((i : ℕ) → get_or ws i 0 < 65536) → Clear list_questions (parts_of ws e) → Passes ws
    passes fits c =
        let l = is_list xs (on grammar c.1.1.0) in
        let agree = rules_agree xs l in
        let cells = cells_told (all_cells e is) (cells_in ws) (unless_yes (eqb (all_cells e is) (cells_in ws) && leb (cells_in ws) 1024) c.1.1.1.1.1.1.1.1.0) in
        record {
          trailer = trailer;
          edition = e;
          has_edition = edition;
          sizes = sizes;
          constants = Constants.judged e (constants_in ws) (constant_part ws) (constant_length ws sizes) (part_fits ws (3 * constants_in ws) (length ws - back_in ws + 2 * items_in ws) fits) None (sym c.0);
          items = xs;
          known = known_words e (items_in ws) is xs (item_length ws sizes) k;
          is_list = l;
          shallow = agree.0.0 (on depths c.1.1.1.0);
          typed = agree.1.0 (on types c.1.1.1.1.0);
          written = agree.2.0 (on targets c.1.1.1.1.1.0);
          pinned = agree.3.0 (on pins c.1.1.1.1.1.1.0);
          led = Jumps.sound e is xs k c.1.1.1.1.1.1.1.0;
          cells = sym (same_sum e is xs k) ∙ cells.0;
          few_cells = cells.1;
        }

  list_passes : ((i : ℕ) → get_or ws i 0 < 65536) → first_no list_questions (parts_of ws e) ≡ None → Passes ws
  list_passes fits h =
      let c = each_clear list_questions (parts_of ws e) h in
      let (xs, k) = all_known (items_of e is) knowns.start 0 c.1.0 in
      passes xs k fits c

module _ (ws : List ℕ) where
  in_edition : ((i : ℕ) → get_or ws i 0 < 65536) → has_trailer ws ≡ true → known_edition ws ≡ true → sizes_fit ws ≡ true → (o : Option Edition) → edition_in ws ≡ o → list_no o ws ≡ None → Passes ws
  in_edition fits t k s None e h = let u = unknown ws e in cc
  in_edition fits t k s (Some e) q h = list_passes ws e t q s fits h

  pub sound : ((i : ℕ) → get_or ws i 0 < 65536) → (n h : ℕ) → verdict_of ws ≡ passed n h → Passes ws
  unfolding verdict_of
  sound fits n h v =
      let none = not_refused (then_no (first_no trailer_questions ws) (list_no (edition_in ws) ws)) ws n h v in
      let (t, l) = then_clear (first_no trailer_questions ws) (list_no (edition_in ws) ws) none in
      let c = each_clear trailer_questions ws t in
      in_edition fits (unless_yes (has_trailer ws) c.0) (unless_yes (known_edition ws) c.1.0) (unless_yes (sizes_fit ws) c.1.1.0) (edition_in ws) refl l

  pub complete : Passes ws → verdict_of ws ≡ passed (items_in ws) (cells_in ws)
  complete p =
      let e = p.edition in
      let is = item_part ws in
      let xs = p.items in
      let k : items_of e is ≡ known xs = subst (λ (us : List ℕ). items_of e us ≡ known xs) p.known.0 (words_known e xs p.known.1) in
      let agree = rules_agree xs p.is_list in
      let cells = cells_clear (all_cells e is) (cells_in ws) (same_sum e is xs k ∙ p.cells) p.few_cells in
      let clear : Clear list_questions (parts_of ws e) = (
        constants_clear e (constant_part ws) p.constants,
        (
          back e is xs k knowns (known_clear xs knowns.start 0),
          (
            back e is xs k grammar (list_clear xs p.is_list),
            (
              back e is xs k depths (agree.0.1 p.shallow),
              (
                back e is xs k types (agree.1.1 p.typed),
                (
                  back e is xs k targets (agree.2.1 p.written),
                  (
                    back e is xs k pins (agree.3.1 p.pinned),
                    (
                      Jumps.complete e is xs k p.led,
                      (
                        ap unless cells,
                        tt,
                      ),
                    ),
                  ),
                ),
              ),
            ),
          ),
        ),
      ) in
      sym (opened_verdict ws e p.trailer p.has_edition p.sizes) ∙ ap (λ (o : Option Told). unless_refused o ws) (all_clear list_questions (parts_of ws e) clear)

-- the answer of the check in these words
pub judges : (ws : List ℕ) → ((i : ℕ) → get_or ws i 0 < 65536) → (r : Result Passed CheckRefusal) → answered r ≡ verdict_of ws → Judges ws r
judges ws fits (Ok p) h =
    let w = sound ws fits p.items p.cells (sym h) in
    let same : passed p.items p.cells ≡ passed (items_in ws) (cells_in ws) = h ∙ complete ws w in
    let n : p.items ≡ items_in ws = cc in
    let c : p.cells ≡ cells_in ws = cc in
    (w, n, c)
judges ws fits (Err q) h = λ w. let v = complete ws w in cc
