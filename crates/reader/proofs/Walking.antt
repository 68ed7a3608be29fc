-- One token further in a text.
use Rattle.std.proofs.Common.{◌≡◌, ℕ, ◌+◌, ◌<◌, ◌≤◌, true, false, List, map, length, get_or, drop, Ok, Err, Option, Result, sym, ap, ◌∙◌, subst}
use Rattle.std.proofs.lemmas.List.{at_drop_more, at_drop_all}
use Rattle.std.proofs.lemmas.Bool.{cond-true, cond-false}
use Rattle.operand.specs.declared.edition.Edition.{Edition}
use Rattle.item.specs.declared.item.Item.{Item}
use Rattle.image.specs.declared.constant.Constant.{Constant}
use Rattle.token.specs.Reads.{meaning, seen_of}
use Rattle.token.specs.declared.token.Placed.{Placed}
use Rattle.follow.specs.declared.number.Misfit.{Misfit}
use Rattle.follow.specs.declared.state.Step.{Step}
use Rattle.follow.specs.Fits.{fitting}
use Rattle.follow.specs.Steps.{next_step, may_end}
use Rattle.reader.specs.declared.read.Program.{Program}
use Rattle.reader.specs.declared.read.ReadRefusal.{ReadRefusal}
use Rattle.reader.specs.declared.read.ReadRefusal.TheVariants.{Misplaced}
use Rattle.std.specs.Result.{IsErrAnd}
use Rattle.reader.specs.Reading.{Read, Outcome, Reads, list, misfit, items_after, constants_after, go_on, ended, read_on}
use Rattle.follow.proofs.Fitted.{fitted, unfitted}

abbrev next_of : Edition → Read → Placed → Option Step
next_of e r p = next_step e r.state (meaning p.token)

module _ (e : Edition) (end : ℕ) (ps : List Placed) (i : ℕ) (r : Read) (all : Outcome) (inv : read_on e end (map seen_of (drop i ps)) r ≡ all) where
  one_token : (d : Placed) → i < length ps → all ≡ go_on (next_of e r (get_or ps i d)) (get_or ps i d).place r (read_on e end (map seen_of (drop (i + 1) ps)))
  unfolding read_on
  one_token d l = sym inv ∙ at_drop_more (λ ts. read_on e end (map seen_of ts) r) ps i d l

  pub stopped : (d : Placed) (m : Misfit) → i < length ps → Err m ≡ fitting (get_or ps i d).place (next_of e r (get_or ps i d)) → all ≡ misfit m.place
  stopped d m l h =
      let u = unfitted (get_or ps i d).place (next_of e r (get_or ps i d)) m h in
      one_token d l ∙ ap (λ o. go_on o (get_or ps i d).place r (read_on e end (map seen_of (drop (i + 1) ps)))) u.0 ∙ ap misfit u.1

  pub went_on : (d : Placed) (st : Step) (is : List Item) (cs : List Constant) → i < length ps → Ok st ≡ fitting (get_or ps i d).place (next_of e r (get_or ps i d))
      → is ≡ items_after st.put r.items → cs ≡ constants_after st.put r.constants
      → read_on e end (map seen_of (drop (i + 1) ps)) (record { items = is; constants = cs; state = st.state }) ≡ all
  went_on d st is cs l h p q =
      let n = fitted (get_or ps i d).place (next_of e r (get_or ps i d)) st h in
      (λ j. read_on e end (map seen_of (drop (i + 1) ps)) (record { items = p j; constants = q j; state = st.state }))
      ∙ sym (one_token d l ∙ ap (λ o. go_on o (get_or ps i d).place r (read_on e end (map seen_of (drop (i + 1) ps)))) n)

  at_end : length ps ≤ i → all ≡ ended end r
  unfolding read_on
  at_end l = sym inv ∙ at_drop_all (λ ts. read_on e end (map seen_of ts) r) ps i l

  pub complete : length ps ≤ i → true ≡ may_end r.state.asks → all ≡ list r.items r.constants
  complete l h = at_end l ∙ cond-true _ _ _ (sym h)

  pub missing : length ps ≤ i → false ≡ may_end r.state.asks → all ≡ misfit end
  missing l h = at_end l ∙ cond-false _ _ _ (sym h)

-- what `?` makes of a token that does not fit
pub refused : (o : Outcome) (place : ℕ) (r : Result Program ReadRefusal) → o ≡ misfit place → IsErrAnd r (λ e. e ≡ Misplaced place) → Reads o r
refused o place (Ok p) h k = absurd k
refused o place (Err e) h k = subst (λ x. Reads o (Err x)) (sym k) h
