use Rattle.std.proofs.Common.{◌≡◌, ◌+◌, ◌/◌, false, ◌||◌, [], ◌∷◌, ◌++◌, length, sym, ap, ◌∙◌, arith, rules, length-append}
use Rattle.std.proofs.lemmas.List.{get_or-replicate}
use Rattle.decode.specs.Words.{items_from}
use Rattle.decode.proofs.Places.{item_here, items_end}
use Rattle.named.specs.Naming.{known_point}
use Rattle.named.specs.Sets.{is_point, names}
use Rattle.named.proofs.Flags.{names_none, names_more, has_all}
use Rattle.named.proofs.sets.set_of.Goals as goal

pub loop-item-init : goal.loop-item-init
loop-item-init c = record {
  long = search rules;
  within = omega arith;
  walk = search rules;
  set = λ p l. get_or-replicate 192 p false false l ∙ sym (names_none c.args.items.edition c.args.items.words.now c.args.side p);
}

pub loop-item-preserved : goal.loop-item-preserved
loop-item-preserved c =
    let e = c.args.items.edition in
    let ws = c.args.items.words.now in
    let n = length c.loop-item.yielded in
    let more : length (c.loop-item.yielded ++ c.in-Some.item ∷ []) ≡ n + 1 = length-append c.loop-item.yielded (c.in-Some.item ∷ []) in
    let here = item_here e ws n _ _ c.in-Some.item c.loop-item.invariant.walk c.in-Some.ensures.steps in
    let named = c.known_point.ensures ∙ ap known_point here.1 in
    record {
      long = search rules;
      within = omega arith;
      walk = here.2 ∙ ap (items_from e ws) (sym more);
      set = λ p l.
          c.mark.ensures p l
          ∙ ((λ i. c.loop-item.invariant.set p l i || is_point c.args.side p (named i))
          ∙ (sym (names_more e ws c.args.side p n) ∙ ap (names e ws c.args.side p) (sym more)));
    }

pub returns : goal.returns
returns c =
    let e = c.args.items.edition in
    let ws = c.args.items.words.now in
    let w = c.loop-item.invariant.within in
    let past = items_end e ws _ _ c.loop-item.invariant.walk c.in-None.ensures.steps.0 in
    let end : length c.loop-item.yielded ≡ length ws / 2 = omega arith in
    has_all e ws c.args.side (length ws / 2) c.loop-item.set c.loop-item.invariant.long (λ p l. c.loop-item.invariant.set p l ∙ ap (names e ws c.args.side p) end)
