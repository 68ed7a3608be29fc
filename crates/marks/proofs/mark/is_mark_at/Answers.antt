use Rattle.std.proofs.Common.{◌≡◌, ◌+◌, ◌*◌, false, get_or, eqb, sym, refl, ◌∙◌, arith}
use Rattle.std.proofs.lemmas.Bool.Decides.{nat_tests}
use Rattle.marks.specs.Marks.{is_mark}
use Rattle.marks.proofs.Numbers.{unless, unmarked}
use Rattle.marks.proofs.mark.is_mark_at.Goals as goal

pub returns-else-items-place-eq-MARK : goal.returns-else-items-place-eq-MARK
returns-else-items-place-eq-MARK c =
    let ws = c.args.items.words.now in
    let other = c.if-items-place-eq-MARK.false in
    let no : eqb (get_or ws (2 * c.args.place) 0) 50 ≡ false = grind (arith, nat_tests) in
    no ∙ sym (unless (is_mark c.args.mark) false 50 refl (unmarked c.args.mark) c.args.items.edition _ (get_or ws (2 * c.args.place + 1) 0) other)
