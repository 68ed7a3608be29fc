use Rattle.std.proofs.Common.{◌≡◌, ◌+◌, ◌≤◌, length, sym, ap, ◌∙◌, subst, arith}
use Rattle.rule.specs.Automata.{first_fault}
use Rattle.decode.specs.Words.{items_of}
use Rattle.decode.proofs.Places.{items_length}
use Rattle.grammar.specs.declared.automaton.Grammar.TheVariants.{Between}
use Rattle.grammar.specs.Capped.{deepest}
use Rattle.grammar.specs.Grammar.{grammar, depth_of}
use Rattle.grammar.specs.Lists.{Judged}
use Rattle.grammar.proofs.Bounds.{grows}
use Rattle.grammar.proofs.Capping.{capped_same}
use Rattle.grammar.proofs.Viable.{judged}
use Rattle.grammar.proofs.question.list_fault.Goals as goal

pub returns : goal.returns
returns c =
    let items = items_of c.args.items.edition c.args.items.words.now in
    let many = items_length c.args.items.edition c.args.items.words.now in
    let few : 0 + length items ≤ deepest = omega arith in
    let same : c.find_fault.result ≡ first_fault grammar items = c.find_fault.ensures ∙ capped_same deepest depth_of grammar grows items Between 0 few in
    record { first = same; judged = λ xs e. subst (Judged xs) (sym (same ∙ ap (first_fault grammar) e)) (judged xs) }
